-- Records and marks of paths that a turn doesn't make are left alone by it.
use Rattle.std.proofs.Common.{◌≡◌, ◌⊎◌, inl, inr, Bool, true, false, List, [], ◌∷◌, map, refl, ap, sym, ◌∙◌, bytes_eq, true≢false}
use Rattle.std.specs.List.{list_any}
use Rattle.std.proofs.lemmas.Bool.{or_parts}
use Rattle.smk_safe.proofs.Running.{users_apart, record_marks, record_notes, mark_records, mark_notes}
use Rattle.smk_laws_job.proofs.Abandoning.{in_first}
use Rattle.smk_base.specs.Path.{own_folder, is_at_or_under, overlaps}
use Rattle.smk_base.specs.Place.{record_place, mark_place, note_place}
use Rattle.smk_base.proofs.Places.{place_itself}
use Rattle.smk_base.proofs.Under.{false_unless, never_both}
use Rattle.smk_base.proofs.Apart.{IsApart, record-record, record-note, mark-mark, mark-note, note-note}
use Rattle.smk_world.specs.World.{out_paths, is_named}
use Rattle.smk_world.specs.Trees.{Path, IsIn, Each, among}
use Rattle.smk_run.specs.Turns.{Turn}
use Rattle.smk_laws_plan.proofs.CurrentPaths.{among_in}
use Rattle.smk_safe.specs.Leaving.{owned}
use Rattle.smk_safe.specs.Running.{IsOrderly}
use Rattle.smk_safe.proofs.Sparing.{else_apart, IsOffTurn, off_overlap}
use Rattle.smk_laws_protocol.proofs.Basics.{none_of}

-- the turn makes the path
abbrev pub makes : Path → Turn → Bool
makes q t = among (out_paths t.job.recipe) q

named_differ : (q : Path) (ps : List Path) → is_named q ps ≡ false → Each (λ p. p ≡ q → ⊥) ps
named_differ q [] h = tt
named_differ q (p ∷ ps) h =
    let both = or_parts (bytes_eq q p) (is_named q ps) h in
    (λ e. true≢false (sym (place_itself p) ∙ ap (λ x. bytes_eq x p) e ∙ both.0), named_differ q ps both.1)

records_apart : (q : Path) (ps : List Path) → Each (λ p. p ≡ q → ⊥) ps → Each (λ m. IsApart m (record_place q)) (map record_place ps)
records_apart q [] h = tt
records_apart q (p ∷ ps) h = (record-record p q h.0, records_apart q ps h.1)

marks_apart : (q : Path) (ps : List Path) → Each (λ p. p ≡ q → ⊥) ps → Each (λ m. IsApart m (mark_place q)) (map mark_place ps)
marks_apart q [] h = tt
marks_apart q (p ∷ ps) h = (mark-mark p q h.0, marks_apart q ps h.1)

record_off : (q : Path) (t : Turn) → IsOrderly t → makes q t ≡ false → IsOffTurn true (record_place q) t
record_off q t orderly none =
    let outs = out_paths t.job.recipe in
    let differ = named_differ q outs none in record {
      users = else_apart true (owned t) (record_place q) (users_apart (record_place q) refl (owned t) orderly.users);
      records = else_apart true (map record_place outs) (record_place q) (records_apart q outs differ);
      marks = else_apart true (map mark_place outs) (record_place q) (record_marks q outs);
      notes = else_apart true (map note_place t.job.logs) (record_place q) (record_notes q t.job.logs);
    }

mark_off : (q : Path) (t : Turn) → IsOrderly t → makes q t ≡ false → IsOffTurn true (mark_place q) t
mark_off q t orderly none =
    let outs = out_paths t.job.recipe in
    let differ = named_differ q outs none in record {
      users = else_apart true (owned t) (mark_place q) (users_apart (mark_place q) refl (owned t) orderly.users);
      records = else_apart true (map record_place outs) (mark_place q) (mark_records q outs);
      marks = else_apart true (map mark_place outs) (mark_place q) (marks_apart q outs differ);
      notes = else_apart true (map note_place t.job.logs) (mark_place q) (mark_notes q t.job.logs);
    }

notes_differ : (q : Path) (ps : List Path) → Each (λ p. p ≡ q → ⊥) ps → Each (λ m. IsApart m (note_place q)) (map note_place ps)
notes_differ q [] h = tt
notes_differ q (p ∷ ps) h = (note-note p q h.0, notes_differ q ps h.1)

note_records : (q : Path) (ps : List Path) → Each (λ m. IsApart m (note_place q)) (map record_place ps)
note_records q [] = tt
note_records q (p ∷ ps) = (record-note p q, note_records q ps)

note_marks : (q : Path) (ps : List Path) → Each (λ m. IsApart m (note_place q)) (map mark_place ps)
note_marks q [] = tt
note_marks q (p ∷ ps) = (mark-note p q, note_marks q ps)

-- the turn logs to the path
abbrev pub logs_to : Path → Turn → Bool
logs_to q t = among t.job.logs q

note_off : (q : Path) (t : Turn) → IsOrderly t → logs_to q t ≡ false → IsOffTurn true (note_place q) t
note_off q t orderly none =
    let outs = out_paths t.job.recipe in record {
      users = else_apart true (owned t) (note_place q) (users_apart (note_place q) refl (owned t) orderly.users);
      records = else_apart true (map record_place outs) (note_place q) (note_records q outs);
      marks = else_apart true (map mark_place outs) (note_place q) (note_marks q outs);
      notes = else_apart true (map note_place t.job.logs) (note_place q) (notes_differ q t.job.logs (named_differ q t.job.logs none));
    }

-- none of the turns logs to the path
abbrev pub NoneLogs : Path → List Turn → Type 0
NoneLogs q ts = Each (λ t. logs_to q t ≡ false) ts

pub notes_off : (q : Path) (ts : List Turn) → Each IsOrderly ts → NoneLogs q ts → Each (IsOffTurn true (note_place q)) ts
notes_off q [] orderly none = tt
notes_off q (t ∷ ts) orderly none = (note_off q t orderly.0 none.0, notes_off q ts orderly.1 none.1)

-- some turn logs to the path, or none does
pub logged_or_none : (q : Path) (ts : List Turn) → ((t : Turn) × IsIn ts t × IsIn t.job.logs q) ⊎ NoneLogs q ts
logged_or_none q [] = inr tt
logged_or_none q (t ∷ ts) = go (logs_to q t) refl (logged_or_none q ts)
  where
    go : (b : Bool) → logs_to q t ≡ b → ((u : Turn) × IsIn ts u × IsIn u.job.logs q) ⊎ NoneLogs q ts → ((u : Turn) × IsIn (t ∷ ts) u × IsIn u.job.logs q) ⊎ NoneLogs q (t ∷ ts)
    go true e rest = inl (t, inl refl, among_in t.job.logs q e)
    go false e (inl (u, i, k)) = inl (u, inr i, k)
    go false e (inr none) = inr (e, none)

-- none of the turns makes the path
abbrev pub NoneMakes : Path → List Turn → Type 0
NoneMakes q ts = Each (λ t. makes q t ≡ false) ts

pub records_off : (q : Path) (ts : List Turn) → Each IsOrderly ts → NoneMakes q ts → Each (IsOffTurn true (record_place q)) ts
records_off q [] orderly none = tt
records_off q (t ∷ ts) orderly none = (record_off q t orderly.0 none.0, records_off q ts orderly.1 none.1)

pub marks_off : (q : Path) (ts : List Turn) → Each IsOrderly ts → NoneMakes q ts → Each (IsOffTurn true (mark_place q)) ts
marks_off q [] orderly none = tt
marks_off q (t ∷ ts) orderly none = (mark_off q t orderly.0 none.0, marks_off q ts orderly.1 none.1)

-- the turns make and log nothing that overlaps the path
abbrev pub AreClearOf : Path → List Turn → Type 0
AreClearOf p ts = Each (λ (t : Turn). list_any (overlaps p) (owned t) ≡ false) ts

pub users_off : (p q : Path) (ts : List Turn) → is_at_or_under p own_folder ≡ false → is_at_or_under q p ≡ true → AreClearOf p ts → Each (IsOffTurn true q) ts
users_off p q [] out at clear = tt
users_off p q (t ∷ ts) out at clear = (off_overlap t p q out clear.0 at, users_off p q ts out at clear.1)

-- what overlaps the path is none that they make
pub clear_none : (p f : Path) (ts : List Turn) → overlaps p f ≡ true → AreClearOf p ts → NoneMakes f ts
clear_none p f [] over clear = tt
clear_none p f (t ∷ ts) over clear = (
  false_unless (makes f t) (λ k. never_both (overlaps p f) over (none_of (overlaps p) (owned t) f clear.0 (in_first (out_paths t.job.recipe) t.job.logs f (among_in (out_paths t.job.recipe) f k)))),
  clear_none p f ts over clear.1,
)

-- some turn makes the path, or none does
pub made_or_none : (q : Path) (ts : List Turn) → ((t : Turn) × IsIn ts t × IsIn (out_paths t.job.recipe) q) ⊎ NoneMakes q ts
made_or_none q [] = inr tt
made_or_none q (t ∷ ts) = go (makes q t) refl (made_or_none q ts)
  where
    go : (b : Bool) → makes q t ≡ b → ((u : Turn) × IsIn ts u × IsIn (out_paths u.job.recipe) q) ⊎ NoneMakes q ts
        → ((u : Turn) × IsIn (t ∷ ts) u × IsIn (out_paths u.job.recipe) q) ⊎ NoneMakes q (t ∷ ts)
    go true e rest = inl (t, inl refl, among_in (out_paths t.job.recipe) q e)
    go false e (inl (u, i, k)) = inl (u, inr i, k)
    go false e (inr none) = inr (e, none)
