-- How jobs stand that are given anew.
use Rattle.std.proofs.Common.{◌≡◌, ℕ, ◌+◌, ◌<◌, ◌≤◌, ◌≢◌, ◌⊎◌, List, Some, length, set, replicate, sym, ap, ◌∙◌, subst, inl, inr, arith, length-set}
use Rattle.std.specs.List.{slice_get}
use Rattle.std.proofs.lemmas.Bool.{cases_eq}
use Rattle.std.proofs.lemmas.List.{length-replicate}
use Rattle.std.proofs.lemmas.Option.{same_Some, slice_get_within}
use Rattle.smk_core.specs.declared.phase.Phase.{Phase}
use Rattle.smk_core.specs.declared.phase.Phase.TheVariants.{Waiting}
use Rattle.smk_pick.specs.declared.room.Ask.{Ask}
use Rattle.smk_core.specs.Replans.{AreNumbers, IsCarried, Moves}
use Rattle.smk_core.proofs.Gets.{get_set_same, get_set_other, get_some, get_replicate}

-- so far as the first jobs go
pub record IsCarrying (moved : List ℕ) (count : ℕ) (phases : List Phase) (i : ℕ) (made : List Phase) : Type 0 where
  pub as_many : length made ≡ count
  pub carried : (k n : ℕ) → k < i → slice_get moved k ≡ Some n → slice_get made n ≡ slice_get phases k
  pub fresh : (n : ℕ) → n < count → ((k : ℕ) → k < i → slice_get moved k ≢ Some n) → slice_get made n ≡ Some Waiting

pub none_carried : (moved : List ℕ) (count : ℕ) (phases : List Phase) → IsCarrying moved count phases 0 (replicate count Waiting)
none_carried moved count phases = record {
  as_many = length-replicate count Waiting;
  carried = λ k n lt e. absurd (omega arith);
  fresh = λ n lt other. get_replicate count n Waiting lt;
}

module _ (moved : List ℕ) (count : ℕ) (phases : List Phase) (i m : ℕ) (p : Phase) (made : List Phase) (numbers : AreNumbers count moved) (h : IsCarrying moved count phases i made) (at : slice_get moved i ≡ Some m) (was : slice_get phases i ≡ Some p) where
  inside : m < length made
  inside = subst (λ (n : ℕ). m < n) (sym h.as_many) (numbers.below i m at)

  carried_by : (k n : ℕ) → k < i + 1 → slice_get moved k ≡ Some n → (n ≡ m) ⊎ (n ≢ m) → slice_get (set made m p) n ≡ slice_get phases k
  carried_by k n lt e (inl same) =
      let here : k ≡ i = numbers.apart k i m (e ∙ ap Some same) at in
      ap (slice_get (set made m p)) same ∙ get_set_same made m p inside ∙ sym was ∙ ap (slice_get phases) (sym here)
  carried_by k n lt e (inr ne) =
      let not_i : k ≢ i = λ d. ne (same_Some n m (sym e ∙ ap (slice_get moved) d ∙ at)) in
      get_set_other made m n p ne ∙ h.carried k n (before k i lt not_i) e
    where
      before : (k i : ℕ) → k < i + 1 → k ≢ i → k < i
      before k i lt ne = omega arith

  pub one_carried : IsCarrying moved count phases (i + 1) (set made m p)
  one_carried = record {
    as_many = length-set made m p ∙ h.as_many;
    carried = λ k n lt e. carried_by k n lt e (cases_eq n m);
    fresh = λ n lt other.
        get_set_other made m n p (λ e. other i (omega arith) (at ∙ ap Some (sym e)))
        ∙ h.fresh n lt (λ k less. other k (omega arith));
  }

pub all_carried : (moved : List ℕ) (count : ℕ) (phases : List Phase) (i : ℕ) (made : List Phase) → length moved ≤ i → IsCarrying moved count phases i made → IsCarried moved count phases made
all_carried moved count phases i made all h = record {
  as_many = h.as_many;
  carried = λ k n e. h.carried k n (let lt : k < length moved = slice_get_within moved k n e in omega arith) e;
  fresh = λ n lt other. h.fresh n lt (λ k less. other k);
}

-- new numbers are numbers of the new jobs
pub moved_numbers : (moved : List ℕ) (old new : List Ask) → Moves moved old new → AreNumbers (length new) moved
moved_numbers moved old new moves = record {
  below = λ i n e.
      let inside : i < length moved = slice_get_within moved i n e in
      let many : length moved ≡ length old = moves.as_many in
      let a : (a : Ask) × (slice_get old i ≡ Some a) = get_some old i (omega arith) in
      slice_get_within new n a.0 (moves.same i n a.0 e a.1);
  apart = moves.apart;
}
