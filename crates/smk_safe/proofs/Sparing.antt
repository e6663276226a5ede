-- The calls of a turn spare what isn't at, under or above the outputs and logs of its job.
use Rattle.std.proofs.Common.{◌≡◌, inl, inr, ℕ, Bool, true, false, ◌&&◌, ◌||◌, List, [], ◌∷◌, ◌++◌, refl, ap, sym, subst, ◌∙◌}
use Rattle.std.specs.Prelude.{map}
use Rattle.std.specs.List.{flat_map, list_any}
use Rattle.std.proofs.Math.Bool.{and-false}
use Rattle.std.proofs.lemmas.Bool.{or_parts, or_from}
use Rattle.smk_base.specs.Path.{own_folder, is_under, is_at_or_under, overlaps}
use Rattle.smk_base.specs.Place.{record_place, mark_place, note_place}
use Rattle.smk_base.proofs.Under.{never_both, false_unless, under_further, at_or_under_cases, overlaps_above_both, overlaps_over}
use Rattle.smk_base.proofs.Apart.{IsApart, apart_flipped, outside-own}
use Rattle.smk_world.specs.declared.event.Event.{Event}
use Rattle.smk_world.specs.declared.recipe.Recipe.{Recipe}
use Rattle.smk_world.specs.World.{World, run, is_within, is_above, out_paths, owned_paths}
use Rattle.smk_world.specs.Requests.{Request}
use Rattle.smk_world.specs.Requests.Request.{Settle, Start}
use Rattle.smk_world.specs.Trees.{Path, Each}
use Rattle.smk_store.specs.Steps.{places_of, make_each, remove_each, write_each, mark_requests, drop_requests, unmark_requests}
use Rattle.smk_job.specs.Jobs.{Underway, parents_each, clear_requests, begin_requests, put_all_requests, keep_requests, drop_all_requests, lose_requests, bytes_with}
use Rattle.smk_run.specs.Stamps.{Serials}
use Rattle.smk_run.specs.Turns.{Turn, IsTurn, AreTurns, as_underway}
use Rattle.smk_safe.specs.Leaving.{owned, TurnKeepsElse, TurnsKeepElse}
use Rattle.smk_safe.proofs.Keeping.{bothers, Keeps, Spares, AreAside, run_kept}
use Rattle.smk_run.proofs.Calls.{EachCall}
use Rattle.smk_run.proofs.Calls.{each_append, each_then, OfLooks, OfClosing}
use Rattle.smk_safe.proofs.Calls.{OfTurn, turn_each}

-- ## Lists of places

-- the places are the engine's own
abbrev pub AreOwn : List Path → Type 0
AreOwn ms = Each (λ m. is_at_or_under m own_folder ≡ true) ms

pub records_own : (ps : List Path) → AreOwn (map record_place ps)
records_own [] = tt
records_own (p ∷ ps) = (refl, records_own ps)

marks_own : (ps : List Path) → AreOwn (map mark_place ps)
marks_own [] = tt
marks_own (p ∷ ps) = (refl, marks_own ps)

notes_own : (ps : List Path) → AreOwn (map note_place ps)
notes_own [] = tt
notes_own (p ∷ ps) = (refl, notes_own ps)

-- ## A place outside of these places

-- Neither at nor under one of the places; where `exactly`, nor above one.
pub record IsElse (exactly : Bool) (places : List Path) (q : Path) : Type 0 where
  pub within : is_within q places ≡ false
  pub above : (exactly && is_above q places) ≡ false

and_or : (a b c : Bool) → (a && (b || c)) ≡ false → ((a && b) ≡ false) × ((a && c) ≡ false)
and_or true b c h = or_parts b c h
and_or false b c h = (refl, refl)

or_and : (a b c : Bool) → (a && b) ≡ false → (a && c) ≡ false → (a && (b || c)) ≡ false
or_and true b c h k = or_from b c h k
or_and false b c h k = refl

pub else_none : (exactly : Bool) (q : Path) → IsElse exactly [] q
else_none exactly q = record { within = refl; above = and-false exactly }

-- one place first, and the others
else_head : (exactly : Bool) (p : Path) (ps : List Path) (q : Path) → IsElse exactly (p ∷ ps) q → (is_at_or_under q p ≡ false) × ((exactly && is_under p q) ≡ false) × IsElse exactly ps q
else_head exactly p ps q h =
    let both = or_parts (is_at_or_under q p) (is_within q ps) h.within in
    let up = and_or exactly (is_under p q) (is_above q ps) h.above in
    (both.0, up.0, record { within = both.1; above = up.1 })

else_one : (exactly : Bool) (p : Path) (ps : List Path) (q : Path) → is_at_or_under q p ≡ false → (exactly && is_under p q) ≡ false → IsElse exactly ps q → IsElse exactly (p ∷ ps) q
else_one exactly p ps q at up more = record {
  within = or_from (is_at_or_under q p) (is_within q ps) at more.within;
  above = or_and exactly (is_under p q) (is_above q ps) up more.above;
}

pub else_first : (exactly : Bool) (ps qs : List Path) (q : Path) → IsElse exactly (ps ++ qs) q → IsElse exactly ps q
else_first exactly [] qs q h = else_none exactly q
else_first exactly (p ∷ ps) qs q h = let k = else_head exactly p (ps ++ qs) q h in else_one exactly p ps q k.0 k.1 (else_first exactly ps qs q k.2)

pub else_second : (exactly : Bool) (ps qs : List Path) (q : Path) → IsElse exactly (ps ++ qs) q → IsElse exactly qs q
else_second exactly [] qs q h = h
else_second exactly (p ∷ ps) qs q h = else_second exactly ps qs q (else_head exactly p (ps ++ qs) q h).2

pub else_both : (exactly : Bool) (ps qs : List Path) (q : Path) → IsElse exactly ps q → IsElse exactly qs q → IsElse exactly (ps ++ qs) q
else_both exactly [] qs q h k = k
else_both exactly (p ∷ ps) qs q h k = let both = else_head exactly p ps q h in else_one exactly p (ps ++ qs) q both.0 both.1 (else_both exactly ps qs q both.2 k)

-- what is apart from each of the places
pub else_apart : (exactly : Bool) (ms : List Path) (q : Path) → Each (λ m. IsApart m q) ms → IsElse exactly ms q
else_apart exactly [] q h = else_none exactly q
else_apart exactly (m ∷ ms) q h = else_one exactly m ms q h.0.at_or_over (ap (λ v. exactly && v) h.0.under ∙ and-false exactly) (else_apart exactly ms q h.1)

pub own_apart : (q : Path) → is_at_or_under q own_folder ≡ false → (ms : List Path) → AreOwn ms → Each (λ m. IsApart m q) ms
own_apart q out [] own = tt
own_apart q out (m ∷ ms) own = (apart_flipped q m (outside-own q m out own.0), own_apart q out ms own.1)

pub records_else : (exactly : Bool) (ps : List Path) (q : Path) → is_at_or_under q own_folder ≡ false → IsElse exactly (map record_place ps) q
records_else exactly ps q out = else_apart exactly (map record_place ps) q (own_apart q out (map record_place ps) (records_own ps))

pub marks_else : (exactly : Bool) (ps : List Path) (q : Path) → is_at_or_under q own_folder ≡ false → IsElse exactly (map mark_place ps) q
marks_else exactly ps q out = else_apart exactly (map mark_place ps) q (own_apart q out (map mark_place ps) (marks_own ps))

-- Elsewhere than at a job's outputs and logs, and the engine's own files of them.
pub record IsOff (exactly : Bool) (recipe : Recipe) (logs : List Path) (q : Path) : Type 0 where
  pub users : IsElse exactly (owned_paths recipe logs) q
  pub records : IsElse exactly (map record_place (out_paths recipe)) q
  pub marks : IsElse exactly (map mark_place (out_paths recipe)) q
  pub notes : IsElse exactly (map note_place logs) q

-- a place outside of the engine's folder
pub off_outside : (exactly : Bool) (recipe : Recipe) (logs : List Path) (q : Path) → is_at_or_under q own_folder ≡ false → IsElse exactly (owned_paths recipe logs) q → IsOff exactly recipe logs q
off_outside exactly recipe logs q out users = record {
  users = users;
  records = records_else exactly (out_paths recipe) q out;
  marks = marks_else exactly (out_paths recipe) q out;
  notes = else_apart exactly (map note_place logs) q (own_apart q out (map note_place logs) (notes_own logs));
}

-- ## Lists of calls

abbrev pub Spared : Bool → Path → List Request → Type 0
Spared exactly q rs = Each (Spares exactly q) rs

pub spared_settle : (exactly : Bool) (ps : List Path) (q : Path) → IsElse exactly ps q → bothers exactly (Settle ps) q ≡ false
spared_settle exactly ps q h = or_from (is_within q ps) (exactly && is_above q ps) h.within h.above

spared_remove : (exactly : Bool) (ps : List Path) (q : Path) → IsElse exactly ps q → Spared exactly q (remove_each ps)
spared_remove exactly [] q h = tt
spared_remove exactly (p ∷ ps) q h = let k = else_head exactly p ps q h in (k.0, spared_remove exactly ps q k.2)

spared_parents : (exactly : Bool) (ps : List Path) (q : Path) → IsElse exactly ps q → Spared exactly q (parents_each ps)
spared_parents exactly [] q h = tt
spared_parents exactly (p ∷ ps) q h = let k = else_head exactly p ps q h in (k.1, spared_parents exactly ps q k.2)

spared_make : (exactly : Bool) (ps : List Path) (q : Path) → IsElse exactly ps q → Spared exactly q (make_each ps)
spared_make exactly [] q h = tt
spared_make exactly (p ∷ ps) q h = let k = else_head exactly p ps q h in (k.1, ((or_parts _ (is_under q p) k.0).0, spared_make exactly ps q k.2))

pub spared_write : (exactly : Bool) (ps : List Path) (bytes : List (List ℕ)) (q : Path) → IsElse exactly ps q → Spared exactly q (write_each ps bytes)
spared_write exactly [] bytes q h = tt
spared_write exactly (p ∷ ps) [] q h = tt
spared_write exactly (p ∷ ps) (b ∷ bytes) q h = let k = else_head exactly p ps q h in (k.1, ((or_parts _ (is_under q p) k.0).0, spared_write exactly ps bytes q k.2))

pub spared_both : (exactly : Bool) (q : Path) (rs qs : List Request) → Spared exactly q rs → Spared exactly q qs → Spared exactly q (rs ++ qs)
spared_both exactly q rs qs h k = each_append (Spares exactly q) rs qs h k

pub spared_unmark : (exactly : Bool) (outs logs : List Path) (q : Path) → IsElse exactly (map mark_place outs) q → Spared exactly q (unmark_requests (places_of outs logs))
spared_unmark exactly outs logs q marks =
    spared_both exactly q (remove_each (map mark_place outs)) (Settle (map mark_place outs) ∷ []) (spared_remove exactly (map mark_place outs) q marks) (spared_settle exactly (map mark_place outs) q marks, tt)

pub spared_begin : (exactly : Bool) (recipe : Recipe) (logs : List Path) (command : List ℕ) (q : Path) → IsOff exactly recipe logs q → Spared exactly q (begin_requests recipe logs command)
spared_begin exactly recipe logs command q h =
    let outs = out_paths recipe in
    let marking = map mark_place outs ++ map note_place logs in
    let marked = else_both exactly (map mark_place outs) (map note_place logs) q h.marks h.notes in
    spared_both exactly q (mark_requests (places_of outs logs) ++ clear_requests outs (owned_paths recipe logs)) (Start recipe logs command ∷ [])
    (spared_both exactly q (mark_requests (places_of outs logs)) (clear_requests outs (owned_paths recipe logs))
    (spared_both exactly q (make_each marking) (Settle marking ∷ []) (spared_make exactly marking q marked) (spared_settle exactly marking q marked, tt))
    (spared_both exactly q (remove_each outs) (parents_each (owned_paths recipe logs)) (spared_remove exactly outs q (else_first exactly outs logs q h.users)) (spared_parents exactly (owned_paths recipe logs) q h.users)))
    (h.users.within, tt)

pub spared_put : (exactly : Bool) (outs : List Path) (bytes : List (List ℕ)) (q : Path) → IsElse exactly (map record_place outs) q → Spared exactly q (write_each (map record_place outs) bytes ++ Settle (map record_place outs) ∷ [])
spared_put exactly outs bytes q records =
    spared_both exactly q (write_each (map record_place outs) bytes) (Settle (map record_place outs) ∷ []) (spared_write exactly (map record_place outs) bytes q records) (spared_settle exactly (map record_place outs) q records, tt)

spared_keep : (exactly : Bool) (recipe : Recipe) (logs : List Path) (bytes : List (List ℕ)) (q : Path) → IsOff exactly recipe logs q → Spared exactly q (keep_requests (places_of (out_paths recipe) logs) bytes)
spared_keep exactly recipe logs bytes q h =
    let outs = out_paths recipe in
    spared_both exactly q (put_all_requests (places_of outs logs) bytes) (unmark_requests (places_of outs logs))
    (spared_settle exactly outs q (else_first exactly outs logs q h.users), spared_put exactly outs bytes q h.records)
    (spared_unmark exactly outs logs q h.marks)

spared_lose : (exactly : Bool) (recipe : Recipe) (logs : List Path) (q : Path) → IsOff exactly recipe logs q → Spared exactly q (lose_requests (places_of (out_paths recipe) logs))
spared_lose exactly recipe logs q h =
    let outs = out_paths recipe in
    let users = else_first exactly outs logs q h.users in
    spared_both exactly q (drop_all_requests (places_of outs logs)) (unmark_requests (places_of outs logs))
    (spared_both exactly q (remove_each outs) (drop_requests (places_of outs logs))
    (spared_remove exactly outs q users)
    (spared_both exactly q (remove_each (map record_place outs)) (Settle (outs ++ map record_place outs) ∷ [])
    (spared_remove exactly (map record_place outs) q h.records)
    (spared_settle exactly (outs ++ map record_place outs) q (else_both exactly outs (map record_place outs) q users h.records), tt)))
    (spared_unmark exactly outs logs q h.marks)

-- ## A turn

pub spared_looks : (exactly : Bool) (q : Path) → OfLooks (Spares exactly q)
spared_looks exactly q = record { look = λ p. refl; read = λ p limit. refl; listed = λ p. refl }

pub spared_closing : (exactly : Bool) (j : Underway) (q : Path) → IsOff exactly j.recipe j.logs q → OfClosing (Spares exactly q) j
spared_closing exactly j q h = record {
  looks = spared_looks exactly q;
  finish = λ members. spared_keep exactly j.recipe j.logs (bytes_with j (out_paths j.recipe) members) q h;
  abandon = spared_lose exactly j.recipe j.logs q h;
}

abbrev pub IsOffTurn : Bool → Path → Turn → Type 0
IsOffTurn exactly q t = IsOff exactly t.job.recipe t.job.logs q

pub spared_turn : (exactly : Bool) (t : Turn) (q : Path) → IsOffTurn exactly q t → OfTurn (Spares exactly q) t
spared_turn exactly t q h = record {
  looks = spared_looks exactly q;
  wait = refl;
  begin = spared_begin exactly t.job.recipe t.job.logs t.command q h;
  closing = λ number. spared_closing exactly (as_underway t number) q h;
}

idle_aside : (q : Path) (w : World) → w.children ≡ [] → AreAside q w.children
idle_aside q w none = subst (AreAside q) (sym none) tt

pub turn_kept : (exactly : Bool) (made : Serials) (t : Turn) (w : World) (es : List Event) (q : Path)
    → w.children ≡ [] → IsTurn made t w es → IsOffTurn exactly q t → Keeps exactly (w.nodes q) ((run w es).nodes q)
turn_kept exactly made t w es q none is h = run_kept exactly q w es (turn_each (Spares exactly q) made t w es (spared_turn exactly t q h) is) (idle_aside q w none)

pub turn_keeps_else : TurnKeepsElse
turn_keeps_else made t w es none is = record {
  elsewhere = λ q out within above. turn_kept true made t w es q none is (off_outside true t.job.recipe t.job.logs q out (record { within = within; above = above }));
  above = λ q n out within reads. turn_kept false made t w es q none is (off_outside false t.job.recipe t.job.logs q out (record { within = within; above = refl })) n reads;
}

-- ## Turns

turns_each : (exactly : Bool) (q : Path) (made : Serials) (ts : List Turn) (w : World) (es : List Event) → Each (IsOffTurn exactly q) ts → AreTurns made ts w es → EachCall (Spares exactly q) es
turns_each exactly q made [] w es off h = subst (EachCall (Spares exactly q)) (sym h) tt
turns_each exactly q made (t ∷ ts) w es off (first, more, e, is, next) =
    each_then (Spares exactly q) es first more e (turn_each (Spares exactly q) made t w first (spared_turn exactly t q off.0) is) (turns_each exactly q made ts (run w first) more off.1 next)

pub turns_kept : (exactly : Bool) (made : Serials) (ts : List Turn) (w : World) (es : List Event) (q : Path)
    → w.children ≡ [] → AreTurns made ts w es → Each (IsOffTurn exactly q) ts → Keeps exactly (w.nodes q) ((run w es).nodes q)
turns_kept exactly made ts w es q none are off = run_kept exactly q w es (turns_each exactly q made ts w es off are) (idle_aside q w none)

off_each : (exactly : Bool) (q : Path) (ts : List Turn) → is_at_or_under q own_folder ≡ false → IsElse exactly (flat_map owned ts) q → Each (IsOffTurn exactly q) ts
off_each exactly q [] out h = tt
off_each exactly q (t ∷ ts) out h = (
  off_outside exactly t.job.recipe t.job.logs q out (else_first exactly (owned t) (flat_map owned ts) q h),
  off_each exactly q ts out (else_second exactly (owned t) (flat_map owned ts) q h),
)

pub turns_keep_else : TurnsKeepElse
turns_keep_else made ts w es none are = record {
  elsewhere = λ q out within above. turns_kept true made ts w es q none are (off_each true q ts out (record { within = within; above = above }));
  above = λ q n out within reads. turns_kept false made ts w es q none are (off_each false q ts out (record { within = within; above = refl })) n reads;
}

-- ## What doesn't overlap

pub out_of_overlap : (p q : Path) (os : List Path) → is_at_or_under q p ≡ true → list_any (overlaps p) os ≡ false → is_within q os ≡ false
out_of_overlap p q [] at h = refl
out_of_overlap p q (o ∷ os) at h =
    let both = or_parts (overlaps p o) (list_any (overlaps p) os) h in
    or_from (is_at_or_under q o) (is_within q os) (false_unless (is_at_or_under q o) (λ k. never_both (overlaps p o) (overlaps_above_both q p o at k) both.0)) (out_of_overlap p q os at both.1)

under_at : (o q p : Path) → is_under o q ≡ true → is_at_or_under q p ≡ true → is_under o p ≡ true
under_at o q p under at = elim (at_or_under_cases q p at) [
  | inl e ↦ subst (λ x. is_under o x ≡ true) e under
  | inr u ↦ under_further o q p under u
]

pub not_above_overlap : (p q : Path) (os : List Path) → is_at_or_under q p ≡ true → list_any (overlaps p) os ≡ false → is_above q os ≡ false
not_above_overlap p q [] at h = refl
not_above_overlap p q (o ∷ os) at h =
    let both = or_parts (overlaps p o) (list_any (overlaps p) os) h in
    or_from (is_under o q) (is_above q os) (false_unless (is_under o q) (λ k. never_both (overlaps p o) (overlaps_over p o (under_at o q p k at)) both.0)) (not_above_overlap p q os at both.1)

pub at_outside : (p q : Path) → is_at_or_under p own_folder ≡ false → is_at_or_under q p ≡ true → is_at_or_under q own_folder ≡ false
at_outside p q out at = false_unless (is_at_or_under q own_folder) (λ own. never_both (is_at_or_under q p) at (outside-own p q out own).at_or_over)

-- what is at or under a user's path that overlaps nothing of the job
pub off_overlap : (t : Turn) (p q : Path) → is_at_or_under p own_folder ≡ false → list_any (overlaps p) (owned t) ≡ false → is_at_or_under q p ≡ true → IsOffTurn true q t
off_overlap t p q out none at =
    off_outside true t.job.recipe t.job.logs q (at_outside p q out at) (record { within = out_of_overlap p q (owned t) at none; above = not_above_overlap p q (owned t) at none })
