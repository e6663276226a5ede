-- What is found current after a run, by its turns.
use native.Mathlib.Omega.{arith}
use Rattle.std.proofs.Common.{◌≡◌, ◌⊎◌, ◌<◌, ◌≤◌, ◌+◌, ◌-◌, ℕ, zero, suc, Bool, true, false, not, List, [], ◌∷◌, length, inl, inr, refl, sym, ap, subst, ◌∙◌, Option, Some, None, slice_get, nat_lt, true≢false}
use Rattle.std.specs.Prelude.{get_or}
use Rattle.std.proofs.lemmas.Bool.{lt-ltb, le-ltb, cases_lt}
use Rattle.smk_flow.specs.Flows.{Flow}
use Rattle.smk_plan.specs.declared.duty.Duty.{Duty}
use Rattle.smk_plan.specs.declared.duty.Duty.TheVariants.{Rest, Restore, Run}
use Rattle.smk_run.specs.declared.tally.Tally.{Tally}
use Rattle.smk_run.specs.Duties.{Due}
use Rattle.smk_run.specs.Turns.{Turn}
use Rattle.smk_run.specs.Runs.{AreInOrder, IsTally}
use Rattle.smk_plan_duties.specs.Needs.{Needs, Says}
use Rattle.smk_make.specs.After.{is_due_one, due_before, turn_at, is_turn_done, IsFailed, NeedsFailed, AreCurrent, IsDueAfter, IsDueNumber, IsFailedNumber, AreSpoilt, IsAfter}
use Rattle.smk_make.proofs.Counting.{count, counted, below_done, past_done, undone_is_last}
use Rattle.smk_make.proofs.Dues.{one_due}

-- a job that had its turn is done where so many come before it
done_by_count : (cores : ℕ) (dues : List Due) (turns : List Turn) → AreInOrder cores dues turns → (n : ℕ) → nat_lt n (count turns) ≡ is_turn_done (slice_get turns n)
done_by_count cores dues turns order n = by_cases (cases_lt n (count turns))
  where
    by_cases : (n < count turns) ⊎ (count turns ≤ n) → nat_lt n (count turns) ≡ is_turn_done (slice_get turns n)
    by_cases (inl lt) = lt-ltb n (count turns) lt ∙ sym (below_done cores dues turns order n lt)
    by_cases (inr le) = le-ltb n (count turns) le ∙ sym (past_done cores dues turns order n le)

there : (turns : List Turn) (n : ℕ) → n < length turns → (t : Turn) × (slice_get turns n ≡ Some t)
there [] n lt = absurd (omega (arith, lt))
there (t ∷ ts) zero lt = (t, refl)
there (t ∷ ts) (suc n) lt = there ts n (omega (arith, lt))

within : (turns : List Turn) (n : ℕ) (t : Turn) → slice_get turns n ≡ Some t → n < length turns
within [] n t e = absurd (none_some e)
  where
    none_some : None ≡ Some t → ⊥
    none_some x = cc
within (u ∷ ts) zero t e = omega arith
within (u ∷ ts) (suc n) t e = let lt : n < length ts = within ts n t e in omega (arith, lt)

module _ (flow : Flow) (cores : ℕ) (dues : List Due) (befores : List (List ℕ)) (duties : List Duty) (turns : List Turn) (tally : Tally) (order : AreInOrder cores dues turns) (is : IsTally flow dues turns tally) where
  done_is : tally.done ≡ count turns
  done_is = is.done ∙ sym (counted turns)

  -- the job that failed is the one whose turn came after those that are done
  failed_after : (k : ℕ) → IsFailed duties turns k → IsDueAfter duties tally.done k
  failed_after k h = record {
    due = h.due;
    before = undone_is_last cores dues turns order (due_before duties k) h.turn h.had h.failed ∙ sym done_is;
  }

  none_failed : tally.failed ≡ 0 → (k : ℕ) → IsFailed duties turns k → ⊥
  none_failed zero_failed k h =
      let lt : due_before duties k < length turns = within turns (due_before duties k) h.turn h.had in
      let at = (failed_after k h).before in
      let sum = is.failed in
      let all = is.started in
      omega (arith, lt, at, sum, all, zero_failed)

  is_failed : (tally.failed ≡ 0 → ⊥) → (k : ℕ) → IsDueAfter duties tally.done k → IsFailed duties turns k
  is_failed some k h =
      let sum = is.failed in
      let all = is.started in
      let lt : tally.done < length turns = omega_lt sum all in
      let t = there turns tally.done lt in
      record {
        due = h.due;
        turn = t.0;
        had = subst (λ n. slice_get turns n ≡ Some t.0) (sym h.before) t.1;
        failed = sym (ap is_turn_done t.1) ∙ past_done cores dues turns order tally.done (subst (λ n. n ≤ tally.done) done_is (omega arith));
      }
    where
      positive : (n : ℕ) → (n ≡ 0 → ⊥) → 1 ≤ n
      positive zero never = absurd (never refl)
      positive (suc n) never = omega arith

      omega_lt : tally.done + tally.failed ≡ tally.started → tally.started ≡ length turns → tally.done < length turns
      omega_lt sum all = let one = positive tally.failed some in omega (arith, sum, all, one)

  -- a job is spoilt where it needs the one that failed
  spoilt_says : (number : Option ℕ) (found : List Bool) (n : ℕ) → IsFailedNumber duties tally number → AreSpoilt befores number found → n < length befores → Says (NeedsFailed befores duties turns n) (get_or found n false)
  spoilt_says number found n h spoilt lt = go number refl spoilt
    where
      none_needed : (tally.failed ≡ 0) ⊎ ((k : ℕ) → IsDueAfter duties tally.done k → ⊥) → NeedsFailed befores duties turns n → ⊥
      none_needed (inl e) needs = none_failed e needs.0 needs.1
      none_needed (inr never) needs = never needs.0 (failed_after needs.0 needs.1)

      decide : (m : ℕ) → (m ≡ 0) ⊎ (m ≡ 0 → ⊥)
      decide zero = inl refl
      decide (suc m) = inr (λ e. omega (arith, e))

      why : number ≡ None → (tally.failed ≡ 0) ⊎ (tally.failed ≡ 0 → ⊥) → (tally.failed ≡ 0) ⊎ ((k : ℕ) → IsDueAfter duties tally.done k → ⊥)
      why e (inl zero_failed) = inl zero_failed
      why e (inr some) = inr (subst (IsDueNumber duties tally.done) e (h.some some))

      some_none : (k : ℕ) → Some k ≡ None → ⊥
      some_none k e = cc

      due_of : (k : ℕ) → number ≡ Some k → (tally.failed ≡ 0) ⊎ (tally.failed ≡ 0 → ⊥) → (tally.failed ≡ 0 → ⊥) × IsDueAfter duties tally.done k
      due_of k e (inl zero_failed) = absurd (some_none k (sym e ∙ h.none zero_failed))
      due_of k e (inr some) = (some, subst (IsDueNumber duties tally.done) e (h.some some))

      go : (o : Option ℕ) → number ≡ o → AreSpoilt befores o found → Says (NeedsFailed befores duties turns n) (get_or found n false)
      go None e spoilt = record {
        only_so = λ yes. absurd (true≢false (sym yes ∙ ap (λ xs. get_or xs n false) spoilt));
        if_so = λ needs. absurd (none_needed (why e (decide tally.failed)) needs);
      }
      go (Some k) e spoilt =
          let due = due_of k e (decide tally.failed) in
          let says = spoilt.right n lt in
          record {
            only_so = λ yes. (k, is_failed due.0 k due.1, says.only_so yes);
            if_so = λ needs. says.if_so (subst (λ j. Needs befores j n) (one_due duties tally.done needs.0 k (failed_after needs.0 needs.1) due.1) needs.2);
          }

  unless : (P : Type 0) (b : Bool) → Says P b → Says (¬ P) (not b)
  unless P true h = record { only_so = λ e. absurd (true≢false (sym e)); if_so = λ never. absurd (never (h.only_so refl)) }
  unless P false h = record { only_so = λ e p. true≢false (sym (h.if_so p)); if_so = λ never. refl }

  -- there is more to be done where fewer turns come before than jobs are done
  more_left : (a b : ℕ) → nat_lt 0 (b - a) ≡ nat_lt a b
  more_left a b = go (cases_lt a b)
    where
      go : (a < b) ⊎ (b ≤ a) → nat_lt 0 (b - a) ≡ nat_lt a b
      go (inl lt) = lt-ltb 0 (b - a) (omega (arith, lt)) ∙ sym (lt-ltb a b lt)
      go (inr le) = le-ltb 0 (b - a) (omega (arith, le)) ∙ sym (le-ltb a b le)

  pub are_current : (after : List Bool) → length duties ≡ length befores → IsAfter duties befores tally after → AreCurrent befores duties turns after
  are_current after same h = record {
    each = h.by_spoilt.each;
    due = λ n due. by_duty n (slice_get duties n) refl due;
    rests = λ n lt rests. by_rest n lt (slice_get duties n) refl rests;
  }
    where
      by_count : (n : ℕ) → nat_lt 0 (tally.done - due_before duties n) ≡ is_turn_done (turn_at duties turns n)
      by_count n = more_left (due_before duties n) tally.done ∙ ap (nat_lt (due_before duties n)) done_is ∙ done_by_count cores dues turns order (due_before duties n)

      by_duty : (n : ℕ) (o : Option Duty) → slice_get duties n ≡ o → is_due_one o ≡ true → get_or after n false ≡ is_turn_done (turn_at duties turns n)
      by_duty n None e due = absurd (true≢false (sym due))
      by_duty n (Some (Rest made)) e due = absurd (true≢false (sym due))
      by_duty n (Some (Restore made)) e due = h.by_spoilt.right n (Restore made) e ∙ by_count n
      by_duty n (Some Run) e due = h.by_spoilt.right n Run e ∙ by_count n

      missing : (ds : List Duty) (k : ℕ) → k < length ds → slice_get ds k ≡ None → ⊥
      missing [] k lt e = omega (arith, lt)
      missing (d ∷ ds) zero lt e = some_none e
        where
          some_none : Some d ≡ None → ⊥
          some_none z = cc
      missing (d ∷ ds) (suc k) lt e = missing ds k (omega (arith, lt)) e

      by_rest : (n : ℕ) → n < length duties → (o : Option Duty) → slice_get duties n ≡ o → is_due_one o ≡ false → Says (¬ NeedsFailed befores duties turns n) (get_or after n false)
      by_rest n lt None e rests = absurd (missing duties n lt e)
      by_rest n lt (Some (Rest made)) e rests =
          subst (Says (¬ NeedsFailed befores duties turns n)) (sym (h.by_spoilt.right n (Rest made) e))
          (unless (NeedsFailed befores duties turns n) (get_or h.spoilt n false) (spoilt_says h.failed h.spoilt n h.is_failed h.are_spoilt (subst (λ m. n < m) same lt)))
      by_rest n lt (Some (Restore made)) e rests = absurd (true≢false rests)
      by_rest n lt (Some Run) e rests = absurd (true≢false rests)
