-- What was made stays, while later turns go on.
use Rattle.std.proofs.Common.{◌≡◌, inl, inr, true, false, ◌||◌, List, [], ◌∷◌, ◌++◌, refl, ap, sym, subst, ◌∙◌, None, IsTrue, true≢false}
use Rattle.std.specs.Prelude.{map}
use Rattle.std.specs.List.{list_any}
use Rattle.std.proofs.lemmas.Bool.{or_right, or_parts}
use Rattle.smk_base.specs.Path.{is_path, own_folder, is_under, is_at_or_under, overlaps}
use Rattle.smk_base.specs.Place.{record_place, mark_place, note_place}
use Rattle.smk_base.proofs.Places.{place_itself}
use Rattle.smk_base.proofs.Under.{or_cases}
use Rattle.smk_base.proofs.Apart.{IsApart, apart_flipped, path-own, path_outside, record-record, record-mark, record-note, mark-mark, mark-note}
use Rattle.smk_world.specs.declared.event.Event.{Event}
use Rattle.smk_world.specs.declared.recipe.Out.{Out}
use Rattle.smk_world.specs.World.{World, run, is_within, in_paths, out_paths, firm, firmly}
use Rattle.smk_world.specs.Calls.{HasOwners}
use Rattle.smk_world.specs.Runs.{Follows}
use Rattle.smk_world.specs.Trees.{Path, Act, Each, outs_of}
use Rattle.smk_world.proofs.Runs.{run_append}
use Rattle.smk_job.proofs.Outs.{paths_same}
use Rattle.smk_run.specs.Stamps.{Serials}
use Rattle.smk_run.specs.Turns.{Turn, IsTurn}
use Rattle.smk_safe.specs.Leaving.{owned, MayCome, AreInputsApart, IsFirm, IsRecorded, HasLeft}
use Rattle.smk_safe.specs.Running.{IsOrderly, LeavesAlone, AreArranged, IsMade, HasMade, DoneTurnsLeave}
use Rattle.smk_run.proofs.Calls.{each_first}
use Rattle.smk_safe.proofs.Sparing.{else_apart, IsOffTurn, turn_kept, turns_kept, off_overlap}
use Rattle.smk_safe.proofs.TreeMoves.{StaysUnder, stays_same, contents_moved, outputs_moved, IsMadeFirm, kind_firm}
use Rattle.smk_safe.proofs.Done.{follows_split, done_turn_leaves}

-- ## The engine's own files of paths that differ

differ_overlap : (p q : Path) → overlaps p q ≡ false → p ≡ q → ⊥
differ_overlap p q h e = true≢false (sym (ap (λ v. v || (is_under p p || is_under p p)) (place_itself p)) ∙ ap (overlaps p) e ∙ h)

pub users_apart : (x : Path) → is_at_or_under x own_folder ≡ true → (ps : List Path) → Each (λ p. IsTrue (is_path p)) ps → Each (λ p. IsApart p x) ps
users_apart x own [] h = tt
users_apart x own (p ∷ ps) h = (path-own p x h.0 own, users_apart x own ps h.1)

records_apart : (p : Path) (ps : List Path) → list_any (overlaps p) ps ≡ false → Each (λ m. IsApart m (record_place p)) (map record_place ps)
records_apart p [] h = tt
records_apart p (q ∷ ps) h = let both = or_parts (overlaps p q) (list_any (overlaps p) ps) h in (apart_flipped (record_place p) (record_place q) (record-record p q (differ_overlap p q both.0)), records_apart p ps both.1)

marks_apart : (p : Path) (ps : List Path) → list_any (overlaps p) ps ≡ false → Each (λ m. IsApart m (mark_place p)) (map mark_place ps)
marks_apart p [] h = tt
marks_apart p (q ∷ ps) h = let both = or_parts (overlaps p q) (list_any (overlaps p) ps) h in (apart_flipped (mark_place p) (mark_place q) (mark-mark p q (differ_overlap p q both.0)), marks_apart p ps both.1)

pub record_marks : (p : Path) (ps : List Path) → Each (λ m. IsApart m (record_place p)) (map mark_place ps)
record_marks p [] = tt
record_marks p (q ∷ ps) = (apart_flipped (record_place p) (mark_place q) (record-mark p q), record_marks p ps)

pub record_notes : (p : Path) (ps : List Path) → Each (λ m. IsApart m (record_place p)) (map note_place ps)
record_notes p [] = tt
record_notes p (q ∷ ps) = (apart_flipped (record_place p) (note_place q) (record-note p q), record_notes p ps)

pub mark_records : (p : Path) (ps : List Path) → Each (λ m. IsApart m (mark_place p)) (map record_place ps)
mark_records p [] = tt
mark_records p (q ∷ ps) = (record-mark q p, mark_records p ps)

pub mark_notes : (p : Path) (ps : List Path) → Each (λ m. IsApart m (mark_place p)) (map note_place ps)
mark_notes p [] = tt
mark_notes p (q ∷ ps) = (apart_flipped (mark_place p) (note_place q) (mark-note p q), mark_notes p ps)

none_first : (p : Path) (ps qs : List Path) → list_any (overlaps p) (ps ++ qs) ≡ false → list_any (overlaps p) ps ≡ false
none_first p [] qs h = refl
none_first p (x ∷ ps) qs h = let both = or_parts (overlaps p x) (list_any (overlaps p) (ps ++ qs)) h in ap (λ v. v || list_any (overlaps p) ps) both.0 ∙ none_first p ps qs both.1

record_off : (t : Turn) (p : Path) → IsOrderly t → list_any (overlaps p) (owned t) ≡ false → IsOffTurn true (record_place p) t
record_off t p orderly none =
    let outs = out_paths t.job.recipe in
    let none_of_outs = none_first p outs t.job.logs none in record {
      users = else_apart true (owned t) (record_place p) (users_apart (record_place p) refl (owned t) orderly.users);
      records = else_apart true (map record_place outs) (record_place p) (records_apart p outs none_of_outs);
      marks = else_apart true (map mark_place outs) (record_place p) (record_marks p outs);
      notes = else_apart true (map note_place t.job.logs) (record_place p) (record_notes p t.job.logs);
    }

mark_off : (t : Turn) (p : Path) → IsOrderly t → list_any (overlaps p) (owned t) ≡ false → IsOffTurn true (mark_place p) t
mark_off t p orderly none =
    let outs = out_paths t.job.recipe in
    let none_of_outs = none_first p outs t.job.logs none in record {
      users = else_apart true (owned t) (mark_place p) (users_apart (mark_place p) refl (owned t) orderly.users);
      records = else_apart true (map record_place outs) (mark_place p) (mark_records p outs);
      marks = else_apart true (map mark_place outs) (mark_place p) (marks_apart p outs none_of_outs);
      notes = else_apart true (map note_place t.job.logs) (mark_place p) (mark_notes p t.job.logs);
    }

-- ## Later turns

-- each of the later ones makes and logs nothing that overlaps the path
abbrev pub AreClear : Path → List Turn → Type 0
AreClear p ts = Each (λ (u : Turn). list_any (overlaps p) (owned u) ≡ false) ts

pub orderly_each : (ts : List Turn) → AreArranged ts → Each IsOrderly ts
orderly_each [] h = tt
orderly_each (t ∷ ts) h = (h.0, orderly_each ts h.3)

off_later : (p q : Path) → is_at_or_under p own_folder ≡ false → is_at_or_under q p ≡ true → (ts : List Turn) → AreClear p ts → Each (IsOffTurn true q) ts
off_later p q out at [] h = tt
off_later p q out at (u ∷ ts) h = (off_overlap u p q out h.0 at, off_later p q out at ts h.1)

record_later : (p : Path) (ts : List Turn) → Each IsOrderly ts → AreClear p ts → Each (IsOffTurn true (record_place p)) ts
record_later p [] orderly h = tt
record_later p (u ∷ ts) orderly h = (record_off u p orderly.0 h.0, record_later p ts orderly.1 h.1)

mark_later : (p : Path) (ts : List Turn) → Each IsOrderly ts → AreClear p ts → Each (IsOffTurn true (mark_place p)) ts
mark_later p [] orderly h = tt
mark_later p (u ∷ ts) orderly h = (mark_off u p orderly.0 h.0, mark_later p ts orderly.1 h.1)

-- The users' path is clear of all later turns.
pub record IsClearPath (ts : List Turn) (p : Path) : Type 0 where
  pub outside : is_at_or_under p own_folder ≡ false
  pub clear : AreClear p ts

clear_none : (ps : List Path) → Each (λ p. is_at_or_under p own_folder ≡ false) ps → Each (IsClearPath []) ps
clear_none [] h = tt
clear_none (p ∷ ps) h = (record { outside = h.0; clear = tt }, clear_none ps h.1)

clear_more : (u : Turn) (ts : List Turn) (ps : List Path) → Each (λ p. list_any (overlaps p) (owned u) ≡ false) ps → Each (IsClearPath ts) ps → Each (IsClearPath (u ∷ ts)) ps
clear_more u ts [] h k = tt
clear_more u ts (p ∷ ps) h k = (record { outside = k.0.outside; clear = (h.0, k.0.clear) }, clear_more u ts ps h.1 k.1)

inputs_outside : (t : Turn) (ps : List Path) → Each (λ p. (is_at_or_under p own_folder ≡ false) × (list_any (overlaps p) (owned t) ≡ false)) ps → Each (λ p. is_at_or_under p own_folder ≡ false) ps
inputs_outside t [] h = tt
inputs_outside t (p ∷ ps) h = (h.0.0, inputs_outside t ps h.1)

own_outside : (ps : List Path) → Each (λ p. IsTrue (is_path p)) ps → Each (λ p. is_at_or_under p own_folder ≡ false) ps
own_outside [] h = tt
own_outside (p ∷ ps) h = (path_outside p h.0, own_outside ps h.1)

inputs_clear : (t : Turn) (ts : List Turn) → Each (λ p. is_at_or_under p own_folder ≡ false) (in_paths t.job.recipe) → Each (LeavesAlone t) ts → Each (IsClearPath ts) (in_paths t.job.recipe)
inputs_clear t [] out h = clear_none (in_paths t.job.recipe) out
inputs_clear t (u ∷ ts) out h = clear_more u ts (in_paths t.job.recipe) h.0.inputs (inputs_clear t ts out h.1)

own_clear : (t : Turn) (ts : List Turn) → Each (λ p. is_at_or_under p own_folder ≡ false) (owned t) → Each (LeavesAlone t) ts → Each (IsClearPath ts) (owned t)
own_clear t [] out h = clear_none (owned t) out
own_clear t (u ∷ ts) out h = clear_more u ts (owned t) h.0.own (own_clear t ts out h.1)

-- ## What stays

-- the same stands at and under each of the paths
abbrev pub SameUnder : World → World → List Path → Type 0
SameUnder w v ps = Each (λ p. (q : Path) → is_at_or_under q p ≡ true → v.nodes q ≡ w.nodes q) ps

stays_each : (w v : World) (ps : List Path) → SameUnder w v ps → Each (StaysUnder w v) ps
stays_each w v [] h = tt
stays_each w v (p ∷ ps) h = ((λ q at. stays_same (w.nodes q) (v.nodes q) (h.0 q at)), stays_each w v ps h.1)

same_back : (w v : World) (ps : List Path) → SameUnder w v ps → SameUnder v w ps
same_back w v [] h = tt
same_back w v (p ∷ ps) h = ((λ q at. sym (h.0 q at)), same_back w v ps h.1)

same_then : (w u v : World) (ps : List Path) → SameUnder w u ps → SameUnder u v ps → SameUnder w v ps
same_then w u v [] h k = tt
same_then w u v (p ∷ ps) h k = ((λ q at. k.0 q at ∙ h.0 q at), same_then w u v ps h.1 k.1)

same_by : (w v : World) (ts : List Turn) (ps : List Path) → ((q : Path) → Each (IsOffTurn true q) ts → v.nodes q ≡ w.nodes q) → Each (IsClearPath ts) ps → SameUnder w v ps
same_by w v ts [] kept h = tt
same_by w v ts (p ∷ ps) kept h = ((λ q at. kept q (off_later p q h.0.outside at ts h.0.clear)), same_by w v ts ps kept h.1)

same_within : (w v : World) (ps : List Path) (q : Path) → SameUnder w v ps → is_within q ps ≡ true → v.nodes q ≡ w.nodes q
same_within w v [] q h within = absurd (true≢false (sym within))
same_within w v (p ∷ ps) q h within = elim (or_cases (is_at_or_under q p) (is_within q ps) within) [
  | inl at ↦ h.0 q at
  | inr later ↦ same_within w v ps q h.1 later
]

-- the records of these outputs stand still
records_stay : (t : Turn) (w v : World) (outs : List Out)
    → ((q : Path) → is_within q (map (λ (out : Out). out.path) outs) ≡ true → (v.nodes q ≡ w.nodes q) × IsFirm (w.nodes q))
    → Each (λ p. v.nodes (record_place p) ≡ w.nodes (record_place p)) (map (λ (out : Out). out.path) outs)
    → Each (IsRecorded t w) outs → Each (IsRecorded t v) outs
records_stay t w v [] same kept h = tt
records_stay t w v (out ∷ outs) same kept h =
    let rest = map (λ (o : Out). o.path) outs in
    let here : IsMadeFirm w.nodes v.nodes out.path =
    λ q at. let s = same q (ap (λ b. b || is_within q rest) at) in s.0 ∙ s.1.1 ∙ ap firm (sym s.1.1) in (
      record {
        members = h.0.members;
        kind = kind_firm w.nodes v.nodes out.path out.kind h.0.members here h.0.kind;
        time = h.0.time;
        read_only = h.0.read_only;
        stands = kept.0 ∙ h.0.stands;
      },
      records_stay t w v outs (λ q k. same q (or_right (is_at_or_under q out.path) (is_within q rest) k)) kept.1 h.1,
    )

own_records : (w v : World) (ts : List Turn) (ps : List Path) → Each IsOrderly ts → ((q : Path) → Each (IsOffTurn true q) ts → v.nodes q ≡ w.nodes q) → Each (IsClearPath ts) ps
    → Each (λ p. v.nodes (record_place p) ≡ w.nodes (record_place p)) ps
own_records w v ts [] orderly kept h = tt
own_records w v ts (p ∷ ps) orderly kept h = (kept (record_place p) (record_later p ts orderly h.0.clear), own_records w v ts ps orderly kept h.1)

own_marks : (w v : World) (ts : List Turn) (ps : List Path) → Each IsOrderly ts → ((q : Path) → Each (IsOffTurn true q) ts → v.nodes q ≡ w.nodes q) → Each (IsClearPath ts) ps
    → Each (λ p. w.nodes (mark_place p) ≡ firmly None) ps → Each (λ p. v.nodes (mark_place p) ≡ firmly None) ps
own_marks w v ts [] orderly kept h k = tt
own_marks w v ts (p ∷ ps) orderly kept h k = (kept (mark_place p) (mark_later p ts orderly h.0.clear) ∙ k.0, own_marks w v ts ps orderly kept h.1 k.1)

-- what a turn left is made still after later ones
left_made : (act : Act) (t : Turn) (ts : List Turn) (w w1 v : World) → IsOrderly t → AreInputsApart t → Each (LeavesAlone t) ts → Each IsOrderly ts
    → SameUnder w w1 (in_paths t.job.recipe) → ((q : Path) → Each (IsOffTurn true q) ts → v.nodes q ≡ w1.nodes q) → HasLeft act t w w1 → IsMade act v t
left_made act t ts w w1 v orderly apart alone later inputs kept left =
    let recipe = t.job.recipe in
    let outs = out_paths recipe in
    let ins_clear = inputs_clear t ts (inputs_outside t (in_paths recipe) apart) alone in
    let outs_clear = each_first (IsClearPath ts) outs t.job.logs (own_clear t ts (own_outside (owned t) orderly.users) alone) in
    let ins_same : SameUnder w v (in_paths recipe) = same_then w w1 v (in_paths recipe) inputs (same_by w1 v ts (in_paths recipe) kept ins_clear) in
    let outs_same : SameUnder w1 v outs = same_by w1 v ts outs kept outs_clear in
    let settled : (q : Path) → is_within q outs ≡ true → (v.nodes q ≡ w1.nodes q) × IsFirm (w1.nodes q) = λ q within. (same_within w1 v outs q outs_same within, left.settled q within) in
    let same_paths = paths_same recipe.outputs in
    record {
      given = λ trees contents.
          let now = left.given apart trees (contents_moved v w (in_paths recipe) trees (stays_each v w (in_paths recipe) (same_back w v (in_paths recipe) ins_same)) contents) in
          (now.0, outputs_moved w1 v outs (act recipe trees).outputs (stays_each w1 v outs outs_same) now.1);
      settled = λ q within. let s = settled q within in (s.1.0, s.0 ∙ s.1.1);
      recorded = records_stay t w1 v (outs_of recipe)
          (subst (λ ps. (q : Path) → is_within q ps ≡ true → (v.nodes q ≡ w1.nodes q) × IsFirm (w1.nodes q)) (sym same_paths) settled)
          (subst (λ ps. Each (λ p. v.nodes (record_place p) ≡ w1.nodes (record_place p)) ps) (sym same_paths) (own_records w1 v ts outs later kept outs_clear))
          left.recorded;
      unmarked = own_marks w1 v ts outs later kept outs_clear left.unmarked;
    }

inputs_kept : (made : Serials) (t : Turn) (w : World) (es : List Event) → w.children ≡ [] → IsTurn made t w es
    → (ps : List Path) → Each (λ p. (is_at_or_under p own_folder ≡ false) × (list_any (overlaps p) (owned t) ≡ false)) ps → SameUnder w (run w es) ps
inputs_kept made t w es none is [] h = tt
inputs_kept made t w es none is (p ∷ ps) h = ((λ q at. turn_kept true made t w es q none is (off_overlap t p q h.0.0 h.0.1 at)), inputs_kept made t w es none is ps h.1)

pub done_turns_leave : DoneTurnsLeave
done_turns_leave act made [] w es none owners arranged follows are done = record {
  none_runs = ap (λ l. (run w l).children) are ∙ none;
  owners = subst (λ l. HasOwners (run w l)) (sym are) owners;
  made = tt;
}
done_turns_leave act made (t ∷ ts) w es none owners arranged follows (first, more, e, is, next) done =
    let w1 = run w first in
    let v = run w1 more in
    let split = follows_split act w first more (subst (Follows act w) e follows) in
    let may : MayCome t w = record { none_runs = none; owners = owners; users = arranged.0.users; apart = arranged.0.apart } in
    let left : HasLeft act t w w1 = done_turn_leaves act made t w first may split.0 is done.0 in
    let rest : HasMade act ts v = done_turns_leave act made ts w1 more left.none_runs left.owners arranged.3 split.1 next done.1 in
    let end : run w es ≡ v = ap (run w) e ∙ run_append w first more in
    let here : IsMade act v t =
    left_made act t ts w w1 v arranged.0 arranged.1 arranged.2 (orderly_each ts arranged.3) (inputs_kept made t w first none is (in_paths t.job.recipe) arranged.1)
    (λ q off. turns_kept true made ts w1 more q left.none_runs next off) left in
    subst (HasMade act (t ∷ ts)) (sym end) (record { none_runs = rest.none_runs; owners = rest.owners; made = (here, rest.made) })
