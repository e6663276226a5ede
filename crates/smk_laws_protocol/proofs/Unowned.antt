-- No child owns what a call of the protocol makes, removes or protects, nor what the children read.
use Rattle.std.proofs.Common.{◌≡◌, ◌⊎◌, ℕ, Bool, true, false, List, [], ◌∷◌, map, refl, sym, ap, subst, inl, inr, ◌∙◌}
use Rattle.std.specs.Prelude.{IsTrue, ◌||◌, Ok, Err}
use Rattle.std.specs.List.{list_any}
use Rattle.smk_base.specs.Path.{is_at_or_under, own_folder, overlaps}
use Rattle.smk_base.specs.Place.{mark_place, note_place, record_place}
use Rattle.smk_base.proofs.Under.{overlaps_above_both, at_itself}
use Rattle.smk_base.proofs.Apart as apart
use Rattle.smk_world.specs.declared.event.NodeState.TheVariants.{Owned}
use Rattle.smk_world.specs.declared.event.Call.{Call}
use Rattle.smk_world.specs.declared.event.Call.TheVariants.{Looked, ReadFile, ReadFolder, Written, Created, Removed, MadeParents, Settled, Protected, Started, Waited}
use Rattle.smk_world.specs.declared.event.Event.{Event}
use Rattle.smk_world.specs.World.{World, in_paths, is_within}
use Rattle.smk_world.specs.Calls.{any_overlap}
use Rattle.smk_world.specs.Trees.{Path, IsIn}
use Rattle.smk_store.specs.Images.{is_outside}
use Rattle.smk_store.specs.Soundness.{Outside}
use Rattle.smk_store.specs.Trust.{Versions}
use Rattle.smk_record.specs.declared.record.Record.{Record}
use Rattle.smk_laws_protocol.specs.Protocol.{OpenJob, Phase, Ended, Dropping, RunState, own, outputs, mark_places, record_places, eased, is_running, as_ok, IsFirst}
use Rattle.smk_laws_protocol.proofs.Rows.{IsFree, Moves, MakeFolders, Mark, AllMarked, MakeRoom, Start, Wait, AllMade, Write, AllWritten, Drop, AllDropped, Unmark, Closes, AllUnmarked, Step, Aside, Steady, Begin, Go, Close, Fail, FailWait}
use Rattle.smk_laws_protocol.proofs.Between.{Midway, Fits, AreApart, Pairwise}
use Rattle.smk_laws_protocol.proofs.Apart.{free_of, free_to}
use Rattle.smk_laws_protocol.proofs.Basics.{each_in, in_here, clash, none_of, none_by}
use Rattle.smk_laws_protocol.proofs.Calls.{in_map}
use Rattle.smk_laws_protocol.proofs.Guarded.{in_either}
use Rattle.smk_laws_protocol.proofs.Jobs.{apart_swap}
use Rattle.smk_laws_protocol.proofs.Keeping.{AsideAllows, aside_allows}
use Rattle.smk_laws_protocol.proofs.Stays.{in_left}
use Rattle.smk_laws_protocol.proofs.TextFacts.{text_laws, outside_own}

-- what the call changes by its name is no child's
abbrev pub Unowned : World → Call → Type 0
Unowned w (Created p r) = w.nodes p ≡ Owned → ⊥
Unowned w (Removed p r) = (q : Path) → is_at_or_under q p ≡ true → w.nodes q ≡ Owned → ⊥
Unowned w (Protected p r) = w.nodes p ≡ Owned → ⊥
Unowned w c = Unit {0}

as_before : (w : World) (c : Call) → Unowned w (as_ok c) → Unowned w c
as_before w (Looked p r) h = tt
as_before w (ReadFile p limit r) h = tt
as_before w (ReadFolder p r) h = tt
as_before w (Written p bytes r) h = tt
as_before w (Created p r) h = h
as_before w (Removed p r) h = h
as_before w (MadeParents p r) h = tt
as_before w (Settled ps r) h = tt
as_before w (Protected p r) h = h
as_before w (Started recipe logs command r) h = tt
as_before w (Waited r) h = tt

-- where one of the places lies at or above q
pub within_some : (q : Path) (ps : List Path) → is_within q ps ≡ true → (p : Path) × IsIn ps p × (is_at_or_under q p ≡ true)
within_some q [] h = clash false h refl
within_some q (p ∷ ps) h = go (is_at_or_under q p) refl h (within_some q ps)
  where
    go : (b : Bool) → is_at_or_under q p ≡ b → (b || is_within q ps) ≡ true → (is_within q ps ≡ true → (x : Path) × IsIn ps x × (is_at_or_under q x ≡ true)) → (x : Path) × IsIn (p ∷ ps) x × (is_at_or_under q x ≡ true)
    go true e k ih = (p, inl refl, e)
    go false e k ih = let r = ih k in (r.0, inr r.1, r.2)

-- two open jobs are one, or apart
pair_of : (o : Outside) (js : List OpenJob) (j k : OpenJob) → Pairwise o js → IsIn js j → IsIn js k → (k ≡ j) ⊎ AreApart o j k
pair_of o [] j k h a b = absurd a
pair_of o (x ∷ js) j k h (inl a) (inl b) = inl (b ∙ sym a)
pair_of o (x ∷ js) j k h (inl a) (inr b) = inr (subst (λ y. AreApart o y k) (sym a) (each_in (AreApart o x) js k h.0 b))
pair_of o (x ∷ js) j k h (inr a) (inl b) = inr (subst (λ y. AreApart o j y) (sym b) (apart_swap o text_laws.overlap x j (each_in (AreApart o x) js j h.0 a)))
pair_of o (x ∷ js) j k h (inr a) (inr b) = pair_of o js j k h.1 a b

mark_own : (j : OpenJob) (p : Path) → IsIn (mark_places j) p → is_at_or_under p own_folder ≡ true
mark_own j p i = go (in_either (map mark_place (outputs j)) (map note_place j.logs) p i)
  where
    go : IsIn (map mark_place (outputs j)) p ⊎ IsIn (map note_place j.logs) p → is_at_or_under p own_folder ≡ true
    go (inl k) = let x = in_map mark_place (outputs j) p k in subst (λ y. is_at_or_under y own_folder ≡ true) (sym x.2) refl
    go (inr k) = let x = in_map note_place j.logs p k in subst (λ y. is_at_or_under y own_folder ≡ true) (sym x.2) refl

module _ (o : Outside) (entry : World) (H : Versions) (s : RunState) (w : World) (m : Midway o entry H s w) where
  fits : (j : OpenJob) → IsIn s.jobs j → Fits o entry (eased s) s.top w j
  fits j i = each_in (Fits o entry (eased s) s.top w) s.jobs j m.fits i

  -- where the place overlaps nothing that a running job owns
  unowned : (p : Path) → ((k : OpenJob) → IsIn s.jobs k → is_running k.phase ≡ true → list_any (overlaps p) (own k) ≡ false) → (q : Path) → is_at_or_under q p ≡ true → w.nodes q ≡ Owned → ⊥
  unowned p free q under h =
      let k = m.owned q h in
      let x = within_some q (own k.0) k.3 in
      clash (overlaps p x.0) (overlaps_above_both q p x.0 under x.2) (none_of (overlaps p) (own k.0) x.0 (free k.0 k.1 k.2) x.1)

  -- the engine's own places
  own_unowned : (p : Path) → is_at_or_under p own_folder ≡ true → (q : Path) → is_at_or_under q p ≡ true → w.nodes q ≡ Owned → ⊥
  own_unowned p own_p =
      unowned p (λ k i r. none_by (overlaps p) (own k) (λ x j.
      (apart.outside-own x p (outside_own x (each_in (λ y. IsTrue (is_outside y)) (own k) x (fits k i).paths j)) own_p).overlapped))

  own_place : (p : Path) → is_at_or_under p own_folder ≡ true → w.nodes p ≡ Owned → ⊥
  own_place p own_p = own_unowned p own_p p (at_itself p)

  -- outputs of a job that doesn't run
  job_unowned : (j : OpenJob) → IsIn s.jobs j → is_running j.phase ≡ false → (p : Path) → IsIn (outputs j) p → (q : Path) → is_at_or_under q p ≡ true → w.nodes q ≡ Owned → ⊥
  job_unowned j i stopped p k =
      unowned p (λ x r runs. go x runs (pair_of o s.jobs j x m.apart i r))
    where
      go : (x : OpenJob) → is_running x.phase ≡ true → (x ≡ j) ⊎ AreApart o j x → list_any (overlaps p) (own x) ≡ false
      go x runs (inl e) = clash (is_running j.phase) (subst (λ (y : OpenJob). is_running y.phase ≡ true) e runs) stopped
      go x runs (inr a) = free_of (own j) (own x) p a.0.0 (in_left (outputs j) j.logs p k)

  -- what the child of an open job reads
  pub input_unowned : (j : OpenJob) → IsIn s.jobs j → (p : Path) → IsIn (in_paths j.recipe) p → (q : Path) → is_at_or_under q p ≡ true → w.nodes q ≡ Owned → ⊥
  input_unowned j i p k =
      unowned p (λ x r runs. go x (pair_of o s.jobs j x m.apart i r))
    where
      go : (x : OpenJob) → (x ≡ j) ⊎ AreApart o j x → list_any (overlaps p) (own x) ≡ false
      go x (inl e) = subst (λ (y : OpenJob). list_any (overlaps p) (own y) ≡ false) (sym e) (free_to text_laws.overlap (own j) (in_paths j.recipe) p (fits j i).from_inputs k)
      go x (inr a) = free_of (in_paths j.recipe) (own x) p a.0.2 k

  free_unowned : (p : Path) (r : Record) → IsFree o s w p r → (q : Path) → is_at_or_under q p ≡ true → w.nodes q ≡ Owned → ⊥
  free_unowned p r free = unowned p (λ k i runs. free_to text_laws.overlap (own k) (p ∷ []) p (each_in (λ k. any_overlap (own k) (p ∷ []) ≡ false) s.jobs k free.from_own i) (inl refl))

  aside_unowned : (c : Call) → AsideAllows o s w c → Unowned w c
  aside_unowned (Looked p r) a = tt
  aside_unowned (ReadFile p limit r) a = tt
  aside_unowned (ReadFolder p r) a = tt
  aside_unowned (Created p r) a = own_place p (subst (λ y. is_at_or_under y own_folder ≡ true) (sym a) refl)
  aside_unowned (MadeParents p r) a = tt
  aside_unowned (Removed p r) (inl a) = own_unowned p (subst (λ y. is_at_or_under y own_folder ≡ true) (sym a) refl)
  aside_unowned (Removed p r) (inr a) = free_unowned p a.0 a.1
  aside_unowned (Settled ps r) a = tt
  aside_unowned (Protected p r) a = free_unowned p a.0 a.1 p (at_itself p)
  aside_unowned (Written p bytes r) a = tt
  aside_unowned (Started recipe logs command r) a = tt
  aside_unowned (Waited r) a = tt

  first_unowned : (j : OpenJob) (c : Call) → IsFirst o c (mark_places j) → Unowned w c
  first_unowned j (Created p (Ok made)) is = own_place p (mark_own j p is)
  first_unowned j (Created p (Err x)) is = absurd is
  first_unowned j (MadeParents p r) is = tt
  first_unowned j (Looked p r) is = tt
  first_unowned j (ReadFile p limit r) is = tt
  first_unowned j (ReadFolder p r) is = tt
  first_unowned j (Removed p r) is = absurd is
  first_unowned j (Settled ps r) is = tt
  first_unowned j (Protected p r) is = absurd is
  first_unowned j (Written p bytes r) is = tt
  first_unowned j (Started recipe logs command r) is = tt
  first_unowned j (Waited r) is = tt

  moves_unowned : (j : OpenJob) (c : Call) (to : Phase) → IsIn s.jobs j → Moves o w j c to → Unowned w c
  moves_unowned j c to here (MakeFolders p where_) = tt
  moves_unowned j c to here (Mark p made h i) = own_place p (mark_own j p i)
  moves_unowned j c to here (AllMarked ps h standing all) = tt
  moves_unowned j c to here (MakeRoom p h i) = job_unowned j here (ap is_running h) p i
  moves_unowned j c to here (Start command n h) = tt
  moves_unowned j c to here (Wait n status h) = tt
  moves_unowned j c to here (AllMade ps h good all) = tt
  moves_unowned j c to here (Write p bytes h i reads) = tt
  moves_unowned j c to here (AllWritten ps h written all) = tt
  moves_unowned j c to here (Drop p h i) = at_place (in_either (outputs j) (record_places j) p i)
    where
      stopped : ((n : ℕ) × (j.phase ≡ Ended n)) ⊎ (j.phase ≡ Dropping) → is_running j.phase ≡ false
      stopped (inl (n, e)) = ap is_running e
      stopped (inr e) = ap is_running e

      at_place : IsIn (outputs j) p ⊎ IsIn (record_places j) p → (q : Path) → is_at_or_under q p ≡ true → w.nodes q ≡ Owned → ⊥
      at_place (inl k) = job_unowned j here (stopped h) p k
      at_place (inr k) = let x = in_map record_place (outputs j) p k in own_unowned p (subst (λ y. is_at_or_under y own_folder ≡ true) (sym x.2) refl)
  moves_unowned j c to here (AllDropped ps h absent all) = tt
  moves_unowned j c to here (Unmark p h i) = own_unowned (mark_place p) refl

  closes_unowned : (j : OpenJob) (c : Call) → Closes o w j c → Unowned w c
  closes_unowned j c (AllUnmarked ps h absent all) = tt

  pub step_unowned : (e : Event) (s' : RunState) → Step o s w e s' → Unowned w e.call
  step_unowned e s' (Aside _ nf b) = aside_unowned e.call (aside_allows o s w e.call b)
  step_unowned e s' (Steady _ ps nf none settles all) = subst (Unowned w) (sym settles) tt
  step_unowned e s' (Begin _ j top nf steady may serial h first) = first_unowned j e.call first
  step_unowned e s' (Go _ js ks j phase jobs may moves) = moves_unowned j e.call phase (subst (λ xs. IsIn xs j) (sym jobs) (in_here js ks j)) moves
  step_unowned e s' (Close _ js ks j jobs nf h) = closes_unowned j e.call h
  step_unowned e s' (Fail _ s2 f step) = as_before w e.call (step_unowned (record e { call = as_ok e.call }) s2 step)
  step_unowned e s' (FailWait _ x h) = subst (Unowned w) (sym h) tt
