-- Steps of the loop of a run.
use Rattle.std.proofs.Common.{◌≡◌, ◌⊎◌, inl, inr, ◌<◌, ◌≤◌, ◌+◌, ℕ, Bool, true, false, ◌||◌, not, List, length, arith, refl, sym, ap, subst, ◌∙◌, Option, Some, None, true≢false}
use Rattle.std.specs.Prelude.{is_none}
use Rattle.std.specs.List.{list_all}
use Rattle.std.proofs.lemmas.Option.{none-some, same_Some}
use Rattle.smk_world.specs.Devices.{Device, Sunk}
use Rattle.smk_world.specs.Trees.{Act}
use Rattle.smk_flow.specs.Flows.{Flow}
use Rattle.smk_pick.specs.declared.settings.Settings.{Settings}
use Rattle.smk_report.specs.declared.fault.Fault.TheVariants as fault
use Rattle.smk_run.specs.declared.tally.Tally.{Tally}
use Rattle.smk_plan_live.specs.Lives.{IsLive}
use Rattle.smk_drive_step.specs.declared.children.Child.{Child}
use Rattle.smk_drive_step.specs.Crews.{IsPutFor, or_later}
use Rattle.smk_laws_turns.specs.Hubs.{Parts}
use Rattle.smk_laws_turns.specs.Turning.{faulted}
use Rattle.smk_drive_hub.specs.Turned.{HasTurned, IsBarelyMore, IsTakenFrom}
use Rattle.smk_laws_begins.specs.Gone.{HasGone}
use Rattle.smk_laws_begins.specs.Standing.{IsHalted, IsOver, IsReady, taken}
use Rattle.smk_laws_begins.specs.Stepping.{HasStepped, IsFor, IsWithin, is_unwaited}
use Rattle.smk_laws_begins.specs.Whole.{IsThrough}
use Rattle.smk_laws_begins.proofs.Going.{goes_further, goes_nowhere, goes_once}
use Rattle.smk_laws_begins.proofs.Nexts.{over_has_none_left}
use Rattle.smk_laws_begins.proofs.Standing.{one_less_taken, one_more_taken}

-- ## Counts

one_more : (n : ℕ) → n ≤ n + 1
one_more n = omega arith

pub same_counts : (t u : Tally) → u ≡ t → IsBarelyMore t u
same_counts t u same =
    subst (IsBarelyMore t) (sym same) (record { started = one_more t.started; done = one_more t.done; failed = one_more t.failed })

pub counts_from : (t u v : Tally) → u ≡ t → IsBarelyMore u v → IsBarelyMore t v
counts_from t u v same more = subst (λ x. IsBarelyMore x v) same more

-- a child was taken from its place, be the numbers of others new or not
pub taken_less : (c : Child) (were are : List (Option Child)) → IsTakenFrom c were are → taken were ≡ taken are + 1
taken_less c were are from = one_less_taken c were from.left from.put ∙ ap (λ gs. length gs + 1) (sym from.goings)

-- within a limit, and one more
pub within_more : (n : ℕ) (h k : Parts) → IsWithin n h → IsBarelyMore h.tally k.tally → taken k.places ≤ taken h.places + 1 → IsWithin (n + 1) k
within_more n h k within more places =
    record {
      started = step h.tally.started k.tally.started within.started more.started;
      done = step h.tally.done k.tally.done within.done more.done;
      failed = step h.tally.failed k.tally.failed within.failed more.failed;
      places = step (taken h.places) (taken k.places) within.places places;
    }
  where
    step : (x y : ℕ) → x ≤ n → y ≤ x + 1 → y ≤ n + 1
    step x y le more = omega (arith, le, more)

pub below_limit : (x n limit : ℕ) → x ≤ n → n < limit → x < limit
below_limit x n limit le lt = omega (arith, le, lt)

pub within_for : (n : ℕ) (h : Parts) → IsWithin n h → IsFor (n + n) h
within_for n h within =
    record {
      done = both h.tally.done (taken h.places) within.done within.places;
      failed = both h.tally.failed (taken h.places) within.failed within.places;
    }
  where
    both : (x y : ℕ) → x ≤ n → y ≤ n → x + y ≤ n + n
    both x y le more = omega (arith, le, more)

pub for_less : (limit : ℕ) (h k : Parts) → IsFor limit h → IsBarelyMore h.tally k.tally → taken h.places ≡ taken k.places + 1 → IsFor limit k
for_less limit h k within more less =
    record {
      done = step h.tally.done k.tally.done within.done more.done;
      failed = step h.tally.failed k.tally.failed within.failed more.failed;
    }
  where
    step : (x y : ℕ) → x + taken h.places ≤ limit → y ≤ x + 1 → y + taken k.places ≤ limit
    step x y le up = omega (arith, le, up, less)

pub for_below : (limit : ℕ) (x places top : ℕ) → x + places ≤ limit → limit < top → x < top
for_below limit x places top le lt = omega (arith, le, lt)

-- ## Over

module _ (act : Act) (flow : Flow) (settings : Settings) (h k : Parts) (a b : Device) (p q : Sunk) where
  -- once a wait has failed
  pub unwaited_is_through : IsReady flow settings h a → HasGone act flow settings h k true a b p q → IsThrough flow settings k true b
  unwaited_is_through ready gone =
      let steady = gone.steady ready.steady in
      let failed = gone.fails refl in
      record {
        idle = λ e. absurd (true≢false e);
        none_left = λ none. absurd (steady.halt.some (gone.waits ∙ after h.halt.only_waits gone.failure failed) none);
      }
    where
      after : (x y : Bool) → y ≡ true → (x || y) ≡ true
      after true y e = refl
      after false y e = e

  -- a child was waited for, or the wait failed
  pub waited_step :
      (waited : Bool) →
      IsReady flow settings h a →
      HasTurned act flow settings h k (not waited) a b p q →
      (waited ≡ true → (c : Child) × IsTakenFrom c h.places k.places) →
      (over : Option Bool) → (waited ≡ true → over ≡ None) → (waited ≡ false → over ≡ Some false) → HasStepped act flow settings h k over a b p q
  waited_step true ready turned less over on off =
      subst (λ o. HasStepped act flow settings h k o a b p q) (sym (on refl))
      (record {
        gone = goes_once act flow settings h k false a b p q turned;
        counts = turned.counts;
        places = λ e. (let c = less refl in fewer (taken_less c.0 h.places k.places c.1));
        through = λ waited e. absurd (none-some waited e);
      })
    where
      fewer : taken h.places ≡ taken k.places + 1 → taken k.places ≤ taken h.places + 1
      fewer less = omega (arith, less)
  waited_step false ready turned less over on off =
      let gone : HasGone act flow settings h k true a b p q = goes_once act flow settings h k true a b p q turned in
      subst (λ o. HasStepped act flow settings h k o a b p q) (sym (off refl))
      (record {
        gone = gone;
        counts = turned.counts;
        places = λ e. absurd (none-some false (sym e));
        through = λ waited e. subst (λ w. IsThrough flow settings k (not w) b) (same_Some false waited e) (unwaited_is_through ready gone);
      })

  -- a job was begun, or not
  pub started_step :
      HasTurned act flow settings h k false a b p q →
      (k.places ≡ h.places) ⊎ ((c : Child) × IsPutFor None (Some c) h.places k.places) → HasStepped act flow settings h k None a b p q
  started_step turned placed =
      record {
        gone = goes_once act flow settings h k false a b p q turned;
        counts = turned.counts;
        places = λ e. more placed;
        through = λ waited e. absurd (none-some waited e);
      }
    where
      same : taken k.places ≡ taken h.places → taken k.places ≤ taken h.places + 1
      same e = omega (arith, e)

      grown : taken k.places ≡ taken h.places + 1 → taken k.places ≤ taken h.places + 1
      grown e = omega (arith, e)

      more : (k.places ≡ h.places) ⊎ ((c : Child) × IsPutFor None (Some c) h.places k.places) → taken k.places ≤ taken h.places + 1
      more (inl e) = same (ap taken e)
      more (inr (c, put)) = grown (one_more_taken c h.places k.places put)

  -- outputs were spent, and nothing else was done
  pub swept_step :
      HasTurned act flow settings h k false a b p q → k.tally ≡ h.tally → k.places ≡ h.places → HasStepped act flow settings h k None a b p q
  swept_step turned tally places = started_step turned (inl places)

  -- what was done before a step
  pub step_after :
      (m : Parts) (c : Device) (r : Sunk) (over : Option Bool) →
      HasGone act flow settings h k false a b p q →
      k.tally ≡ h.tally → k.places ≡ h.places → HasStepped act flow settings k m over b c q r → HasStepped act flow settings h m over a c p r
  step_after m c r over gone tally places step =
      record {
        gone = goes_further act flow settings h k m false (is_unwaited over) a b c p q r gone step.gone;
        counts = counts_from h.tally k.tally m.tally tally step.counts;
        places = λ e. subst (λ ps. taken m.places ≤ taken ps + 1) places (step.places e);
        through = step.through;
      }

-- all is done
pub over_step :
    (act : Act) (flow : Flow) (settings : Settings) (h : Parts) (a : Device) (p : Sunk) →
    IsLive h.live → list_all is_none h.places ≡ true → IsOver settings h → HasStepped act flow settings h h (Some true) a a p p
over_step act flow settings h a p live free over =
    record {
      gone = goes_nowhere act flow settings h a p live;
      counts = same_counts h.tally h.tally refl;
      places = λ e. one_more (taken h.places);
      through = λ waited e.
          subst (λ w. IsThrough flow settings h (not w) a) (same_Some true waited e)
          (record { idle = λ f. free; none_left = λ none w is. over_has_none_left flow settings h w over });
    }

-- ## Want of memory

-- where it is wanting, a fault has come
pub held_is_over : (settings : Settings) (h : Parts) → IsOver settings (faulted fault.OutOfMemory h)
held_is_over settings h = IsHalted (λ none. none-some (or_later h.halt.fault fault.OutOfMemory) (sym none))

-- all children were waited for after that
pub held_is_through : (flow : Flow) (settings : Settings) (h : Parts) (d : Device) → list_all is_none h.places ≡ true → IsThrough flow settings (faulted fault.OutOfMemory h) false d
held_is_through flow settings h d free =
    record { idle = λ e. free; none_left = λ none. absurd (none-some (or_later h.halt.fault fault.OutOfMemory) (sym none)) }
