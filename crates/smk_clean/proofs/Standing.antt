-- A refusal stands.
use Rattle.std.proofs.Common.{◌≡◌, ◌⊎◌, inl, inr, ℕ, Bool, true, false, List, [], refl, ap, sym, subst, ◌∙◌, Option, Some, Result, Err, true≢false}
use Rattle.std.specs.Prelude.{IsSome, is_err}
use Rattle.smk_base.specs.Place.{lock_place}
use Rattle.smk_world.specs.declared.event.NodeState.{NodeState}
use Rattle.smk_world.specs.World.{World, IsFormed, reading}
use Rattle.smk_world.specs.Devices.{Device, Sunk, HasActed, HasEnded, HasLooked}
use Rattle.smk_world.specs.Trees.{Path, Act}
use Rattle.smk_world.proofs.Devices.{looks_nodes}
use Rattle.smk_record.specs.declared.record.Record.{Record}
use Rattle.smk_store.specs.Images.{seen}
use Rattle.smk_store.specs.Soundness.{Outside}
use Rattle.smk_plan.specs.States.{nothing_done}
use Rattle.smk_words_reading.specs.declared.asked.RunWords.{RunWords}
use Rattle.smk_report.specs.declared.fault.Fault.{Fault}
use Rattle.smk_report.specs.declared.fault.Fault.TheVariants as fault
use Rattle.smk_cli_entry.specs.declared.asking.Asked.{Asked}
use Rattle.smk_cli_entry.specs.Faults.{is_device}
use Rattle.smk_plan_preview.specs.declared.previewing.Previewed.{Previewed}
use Rattle.smk_plan_preview.specs.Previewing.{plan_of, rules_for}
use Rattle.smk_cli_calls.specs.OneByOne.{is_one_by_one}
use Rattle.smk_cli_calls.specs.Serving.{IsRefusedPlan, IsWant, Went, Refused, Stopped, WasDriven, Worked, Drove, settings_of}
use Rattle.smk_cli_calls.proofs.OneByOne.{none_grow}
use Rattle.smk_cli_calls.specs.Ends.{fault_of}
use Rattle.smk_cli_calls.specs.Lines.{IsOutcome}
use Rattle.smk_cli_calls.specs.Locking.{IsClosed, LockGoes, LockStays, Stood, Taken, Unmade, Untaken, with_release}
use Rattle.smk_cli_calls.specs.Whole.{AsksFor, HasRun, Heeded, IsRefusal, OfWorkflow, OfPlan, IsToServe, Unasked, Unheeded}
use Rattle.smk_laws_refusing.specs.Heeding.{IsSameButLock}
use Rattle.smk_laws_refusing.proofs.Heeding.{refusals_heed_no_lock, same_back}
use Rattle.smk_laws_refusing.specs.Leaving.{LeavesAllBut}
use Rattle.smk_clean.specs.Standing.{IsFollowed, IsLockedOut, IsSameFault, HasLeftAll, HasStood, OneByOne, OnlyLocked, OnlyLooked, OnlyOpened, Told}
use Rattle.smk_clean.specs.Standing.{RefusalStands, PlanRefusalStands, lock_of}
use Rattle.smk_clean.proofs.Locked.{locked_same, refused_before, served_before}
use Rattle.smk_clean.proofs.AtLock.{at_lock, looks_only, only_both, releasing_only, taking_only}
use Rattle.smk_clean.proofs.Asking.{asked_same, asked_unrefused}
use Rattle.smk_clean.proofs.Chained.{one_refusal, unrefused}
use Rattle.smk_clean.proofs.Undriven.{closed_left, driven_left, failed_still, told_before}

or_else : {A B C : Type 0} → (B → C) → A ⊎ B → A ⊎ C
or_else f (inl a) = inl a
or_else f (inr b) = inr (f b)

-- the fault that is told is that of the answer, or want of memory
stood :
    (act : Act) (words : RunWords) (w : World) (Why : Fault → Type 0) (answer : Result (Unit {0}) Fault) (told : Option Fault) (old new : Device) (p q : Sunk)
    (g : Fault) →
    IsOutcome (fault_of answer) told → answer ≡ Err g → IsWant g ⊎ IsLockedOut words w g ⊎ Why g → HasLeftAll act words w old new p q →
    HasStood act words w Why told old new p q
stood act words w Why answer told old new p q g (inl e) is why left = record { fault = g; told_is = e ∙ ap fault_of is; why = why; left = left }
stood act words w Why answer told old new p q g (inr e) is why left = record { fault = fault.OutOfMemory; told_is = e.1; why = inl (inr refl); left = left }

-- ## Looks under the lock

-- after looks under the lock nothing is changed but the lock, and the answer is that fault
closed_only :
    (act : Act) (answer ran : Result (Unit {0}) Fault) (g : Fault) (old locked left new : Device) → ran ≡ Err g →
    HasActed act (LeavesAllBut at_lock) old locked false → (bad : Bool) → HasLooked act locked left bad →
    IsClosed act ran answer locked left new → (answer ≡ Err g) × ((failed : Bool) × HasActed act (LeavesAllBut at_lock) old new failed)
closed_only act answer ran g old locked left new is first bad looked (LockStays rose same unchanged) =
    (same ∙ is, (bad, subst (λ d. HasActed act (LeavesAllBut at_lock) old d bad) (sym unchanged) (only_both first (looks_only looked))))
closed_only act answer ran g old locked left new is first true looked (LockGoes r never none goes same) = absurd (never (looked.acted.cause.rose refl))
closed_only act answer ran g old locked left new is first false looked (LockGoes r never none goes same) =
    (same ∙ (ap (with_release r) is ∙ failed_still r g), (is_err r, only_both (only_both first (looks_only looked)) (releasing_only goes)))

-- ## Calls

module _ (act : Act) (read : List ℕ → Option Record) (words : RunWords) (w : World) (formed : IsFormed w) where
  abbrev outside : Outside
  outside = record { read = read; act = act }

  -- what is refused isn't what is to be run
  not_to_serve : (f : Fault) (asked : Asked) (told : Previewed) → is_one_by_one asked.flow words ≡ true → IsRefusal read words w w f → IsToServe read words w w asked told → ⊥
  not_to_serve f asked told one (OfWorkflow fails) serve = asked_unrefused words w.nodes f asked fails serve.is_asked
  not_to_serve f asked told one (OfPlan other is refused) serve =
      let same : other ≡ asked = asked_same words w.nodes other asked is serve.is_asked in
      unrefused outside w formed (rules_for read asked.flow (settings_of asked words)) (none_grow asked.flow words one) [] [] f (plan_of told)
      (subst (λ a. IsRefusedPlan read a words w f) same refused) serve.plan.last refl serve.plan.unrefused

  -- what is refused of what is asked is its plan
  plan_refused : (f : Fault) (asked : Asked) → AsksFor words w asked → IsRefusal read words w w f → IsRefusedPlan read asked words w f
  plan_refused f asked is (OfWorkflow fails) = absurd (asked_unrefused words w.nodes f asked fails is)
  plan_refused f asked is (OfPlan other also refused) =
      subst (λ a. IsRefusedPlan read a words w f) (asked_same words w.nodes other asked also is) refused

  -- a refusal of a plan is the only one
  only_one :
      (f g : Fault) (asked : Asked) →
      AsksFor words w asked → IsRefusedPlan read asked words w f → IsRefusal read words w w g → IsSameFault f g
  only_one f g asked is refused refusal =
      one_refusal outside w formed (rules_for read asked.flow (settings_of asked words)) [] [] f g refused
      (plan_refused g asked is refusal) refl

  module _ (f : Fault) (refusal : IsRefusal read words w w f) (Why : Fault → Type 0) (why : (g : Fault) → IsRefusal read words w w g → Why g)
      (answer : Result (Unit {0}) Fault) (told : Option Fault) (outcome : IsOutcome (fault_of answer) told) (old new : Device)
      (followed : IsFollowed read words w old new) (p q : Sunk) where
    abbrev Stands : Type 0
    Stands = HasStood act words w Why told old new p q

    stands_with : (g : Fault) → answer ≡ Err g → IsWant g ⊎ IsLockedOut words w g ⊎ Why g → HasLeftAll act words w old new p q → Stands
    stands_with g is because left = stood act words w Why answer told old new p q g outcome is because left

    -- the fault of a driven run
    why_left : (asked : Asked) (g : Fault) → AsksFor words w asked → IsWant g ⊎ IsRefusedPlan read asked words w g → IsWant g ⊎ IsLockedOut words w g ⊎ Why g
    why_left asked g is (inl want) = inl want
    why_left asked g is (inr refused) = inr (inr (why g (OfPlan asked is refused)))

    driven_stands :
        (asked : Asked) → words.nolock ≡ true → is_one_by_one asked.flow words ≡ false → AsksFor words w asked → IsFollowed read words w old new →
        WasDriven act words answer asked old new p q → Stands
    driven_stands asked free apart is (OneByOne by_turns) was = absurd (true≢false (sym (by_turns asked is) ∙ apart))
    driven_stands asked free apart is (Told reads at end) was =
        let k = driven_left act read words asked w reads f (plan_refused f asked is refusal) answer old new p q at end was in
        stands_with k.fault k.ran_is (why_left asked k.fault is k.why)
        (OnlyOpened k.failed (asked, is, apart) (subst (λ b. HasEnded act (LeavesAllBut (lock_of b)) old new k.failed) (sym free) k.left) k.unput)

    -- ### Under the lock

    module _ (heeds : words.nolock ≡ false) (u : World) (locked : Device) (at_u : locked.world ≡ Some u) (same : IsSameButLock (seen read w) (seen read u))
        (first : HasActed act (LeavesAllBut at_lock) old locked false) (ran : Result (Unit {0}) Fault) (left : Device)
        (closed : IsClosed act ran answer locked left new) where
      locked_driven :
          (asked : Asked) → is_one_by_one asked.flow words ≡ false → AsksFor words w asked → IsFollowed read words w old new →
          WasDriven act words ran asked locked left p q → Stands
      locked_driven asked apart is (OneByOne by_turns) was = absurd (true≢false (sym (by_turns asked is) ∙ apart))
      locked_driven asked apart is (Told reads at end) was =
          let heeds_none = refusals_heed_no_lock (rules_for read asked.flow (settings_of asked words)) nothing_done [] in
          let refused = heeds_none f (seen read w) (seen read u) same (plan_refused f asked is refusal) in
          let k = driven_left act read words asked u reads f refused ran locked left p q at_u (told_before act answer ran locked left new closed end) was in
          let c = closed_left act answer ran k.fault old locked left new k.ran_is first k.failed k.left closed in
          let before : IsWant k.fault ⊎ IsRefusedPlan read asked words w k.fault =
          or_else (heeds_none k.fault (seen read u) (seen read w) (same_back (seen read w) (seen read u) same)) k.why in
          stands_with k.fault c.0 (why_left asked k.fault is before)
          (OnlyOpened c.1.0 (asked, is, apart) (subst (λ b. HasEnded act (LeavesAllBut (lock_of b)) old new c.1.0) (sym heeds) c.1.1) k.unput)

      locked_stands : Went act words ran (IsRefusal read words w u) (AsksFor words w) (IsToServe read words w u) locked left p q → Stands
      locked_stands (Refused g is refuses looked) =
          let c = closed_only act answer ran g old locked left new is first (is_device g) looked.looked closed in
          stands_with g c.0 (inr (inr (why g (refused_before read words w u g same refuses)))) (OnlyLocked c.1.0 heeds c.1.1 looked.unput)
      locked_stands (Stopped g is want looked) =
          let c = closed_only act answer ran g old locked left new is first (is_device g) looked.looked closed in
          stands_with g c.0 (inl want) (OnlyLocked c.1.0 heeds c.1.1 looked.unput)
      locked_stands (Worked asked previewed one serve worked) =
          absurd (not_to_serve f asked previewed one refusal (served_before read words w u asked previewed same serve))
      locked_stands (Drove asked apart asks drove) = locked_driven asked apart asks followed drove

    stands : HasRun act read words w answer old new p q → Stands
    stands (Unheeded free (Refused g is refuses looked)) = stands_with g is (inr (inr (why g refuses))) (OnlyLooked (is_device g) looked)
    stands (Unheeded free (Stopped g is want looked)) = stands_with g is (inl want) (OnlyLooked (is_device g) looked)
    stands (Unheeded free (Worked asked previewed one serve worked)) = absurd (not_to_serve f asked previewed one refusal serve)
    stands (Unheeded free (Drove asked apart asks drove)) = driven_stands asked free apart asks followed drove
    stands (Unasked g heeds is (inl want) looked) = stands_with g is (inl want) (OnlyLooked (is_device g) looked)
    stands (Unasked g heeds is (inr fails) looked) = stands_with g is (inr (inr (why g (OfWorkflow fails)))) (OnlyLooked (is_device g) looked)
    stands (Heeded v looked heeds after at_v looking (Unmade is unchanged unput)) =
        stands_with fault.OutOfMemory is (inl (inr refl))
        (OnlyLooked false (record { looked = subst (λ d. HasLooked act old d false) (sym unchanged) looking; unput = unput }))
    stands (Heeded v looked heeds after at_v looking (Stood is there tried unput)) =
        let nodes = looks_nodes false w after.looks after.only_looks in
        let reads : reading (v.nodes lock_place) ≡ reading (w.nodes lock_place) = ap (λ (x : World). reading (x.nodes lock_place)) after.is
        ∙ ap (λ (n : Path → NodeState). reading (n lock_place)) nodes in
        stands_with fault.Locked is (inr (inl (refl, heeds, subst IsSome reads there)))
        (OnlyLocked false heeds (only_both (looks_only looking) (taking_only tried)) unput)
    stands (Heeded v looked heeds after at_v looking (Untaken e is tried unput)) =
        stands_with fault.Device is (inl (inl refl)) (OnlyLocked true heeds (only_both (looks_only looking) (taking_only tried)) unput)
    stands (Heeded v looked heeds after at_v looking (Taken u locked once at_u taken ran)) =
        locked_stands heeds u locked at_u (locked_same act read w v u formed after once)
        (only_both (looks_only looking) (taking_only taken)) ran.ran ran.left ran.closed ran.went

pub refusal_stands : RefusalStands
refusal_stands act read words f w told old new p q formed refusal followed served =
    stands act read words w formed f refusal (IsRefusal read words w w) (λ g h. h) served.answer told served.told_is old new followed p q served.serves

pub plan_refusal_stands : PlanRefusalStands
plan_refusal_stands act read words asked f w told old new p q formed is refused followed served =
    stands act read words w formed f (OfPlan asked is refused) (IsSameFault f) (λ g h. only_one act read words w formed f g asked is refused h)
    served.answer told served.told_is old new followed p q served.serves
