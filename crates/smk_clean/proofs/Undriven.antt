-- A run that is driven and whose plan is refused.
use Rattle.std.proofs.Common.{◌≡◌, ◌⊎◌, inl, inr, ℕ, Bool, true, false, List, [], refl, ap, sym, subst, ◌∙◌, Option, Some, None, Result, Ok, Err, true≢false}
use Rattle.std.specs.Prelude.{IsSome, is_err}
use Rattle.std.proofs.lemmas.Option.{same_Some}
use Rattle.smk_world.specs.declared.event.Failed.{Failed}
use Rattle.smk_world.specs.World.{World, run}
use Rattle.smk_world.specs.Devices.{AreLooks, Device, HasActed, HasEnded, Sunk}
use Rattle.smk_world.specs.Trees.{Act}
use Rattle.smk_world.proofs.Devices.{ended_acted, ended_then}
use Rattle.smk_record.specs.Spelling.{ReadsRecords}
use Rattle.smk_record.specs.declared.record.Record.{Record}
use Rattle.smk_store.specs.Images.{Image, seen}
use Rattle.smk_plan.specs.States.{nothing_done}
use Rattle.smk_report.specs.declared.fault.Fault.{Fault}
use Rattle.smk_report.specs.declared.fault.Fault.TheVariants as fault
use Rattle.smk_run.proofs.Ends.{acted_ended}
use Rattle.smk_drive.specs.Moments.{Rules}
use Rattle.smk_drive.specs.Refusals.{ChainRefuses}
use Rattle.smk_drive_course.specs.declared.ending.End.{End}
use Rattle.smk_plan_preview.specs.Previewing.{rules_for}
use Rattle.smk_plan_preview.proofs.LookedAt.{looks_leave as looks_same, seen_moved}
use Rattle.smk_laws_refusing.specs.Leaving.{HasOnlyOpened, IsUnput, LeavesAllBut}
use Rattle.smk_laws_refusing.proofs.Leaving.{refused_at_entry_leaves_all}
use Rattle.smk_laws_refusing.proofs.LeftAlone.{leaves_then, looks_leave}
use Rattle.smk_words_reading.specs.declared.asked.RunWords.{RunWords}
use Rattle.smk_cli_entry.specs.declared.asking.Asked.{Asked}
use Rattle.smk_cli_calls.specs.Locking.{IsClosed, LockGoes, LockStays, with_release}
use Rattle.smk_cli_calls.specs.Serving.{IsRefusedPlan, IsWant, WasDriven, answer_of, settings_of}
use Rattle.smk_cli_calls.proofs.Driving.{rules_are}
use Rattle.smk_clean.proofs.AtLock.{at_lock, only_ended, releasing_only}

pub told_now : (world : Option World) → IsSome world → (v : World) × (world ≡ Some v)
told_now None told = absurd (true≢false (sym told))
told_now (Some v) told = (v, refl)

module _ (act : Act) (read : List ℕ → Option Record) (words : RunWords) (asked : Asked) (u : World) where
  -- It ends with what is refused of the plan, or a fault of the device or of memory; all is left as it stands, and nothing is put.
  pub record IsLeft (ran : Result (Unit {0}) Fault) (old new : Device) (p q : Sunk) : Type 0 where
    pub fault : Fault
    pub ran_is : ran ≡ Err fault
    pub why : IsWant fault ⊎ IsRefusedPlan read asked words u fault
    pub failed : Bool
    pub left : HasEnded act (LeavesAllBut []) old new failed
    pub unput : IsUnput p q

  abbrev rules : Rules
  rules = rules_for read asked.flow (settings_of asked words)

  -- the run's answer is that of the call, unless memory was wanting
  of_answer :
      (ran : Result (Unit {0}) Fault) (g : Fault) (old new : Device) (p q : Sunk) →
      (ran ≡ Err g) ⊎ (ran ≡ Err fault.OutOfMemory) →
      IsWant g ⊎ IsRefusedPlan read asked words u g →
      (failed : Bool) → HasEnded act (LeavesAllBut []) old new failed → IsUnput p q → IsLeft ran old new p q
  of_answer ran g old new p q (inl is) why failed left unput =
      record { fault = g; ran_is = is; why = why; failed = failed; left = left; unput = unput }
  of_answer ran g old new p q (inr is) why failed left unput =
      record { fault = fault.OutOfMemory; ran_is = is; why = inl (inr refl); failed = failed; left = left; unput = unput }

  because :
      (i : Image) (g : Fault) →
      i ≡ seen read u →
      ChainRefuses rules i nothing_done [] g ⊎ ((g ≡ fault.Device) ⊎ (g ≡ fault.OutOfMemory)) → IsWant g ⊎ IsRefusedPlan read asked words u g
  because i g same (inl refuses) = inr (subst (λ (j : Image). ChainRefuses rules j nothing_done [] g) same refuses)
  because i g same (inr want) = inl want

  module _ (reads : ReadsRecords read) (f : Fault) (refused : IsRefusedPlan read asked words u f) where
    pub driven_left :
        (ran : Result (Unit {0}) Fault) (old new : Device) (p q : Sunk) →
        old.world ≡ Some u → IsSome new.world → WasDriven act words ran asked old new p q → IsLeft ran old new p q
    driven_left ran old new p q at told was =
        let end = told_now new.world told in
        let drove = was.drove rules (rules_are read reads asked.flow (settings_of asked words)) in
        let d = drove.ran.did end.0 end.1 in
        let e = was.looking.acted.did d.0 d.1 in
        let from : e.0 ≡ u = same_Some e.0 u (sym e.1 ∙ at) in
        let same : seen read d.0 ≡ seen read u =
        ap (seen read) e.2.3 ∙ (seen_moved read e.0 (run e.0 e.2.0) (looks_same act false e.0 e.2.0 e.2.1 e.2.2) ∙ ap (seen read) from) in
        let there = subst (λ (i : Image). ChainRefuses rules i nothing_done [] f) (sym same) refused in
        let r = refused_at_entry_leaves_all act rules was.driven d.0 end.0 f was.looked new p q d.1 end.1 there drove in
        let left =
        acted_ended act (λ w es. AreLooks false es) (λ w es. HasOnlyOpened rules w es × LeavesAllBut [] w es) (LeavesAllBut []) old was.looked new r.failure
        (λ w es fs follows looks follows2 two. leaves_then [] w es fs (looks_leave [] false w es looks) two.1) was.looking.acted r.left in
        of_answer ran r.answer old new p q (answers_so was.driven ran r.answer r.answered was.answers) (because (seen read d.0) r.answer same r.why) r.failure
        left r.unput
      where
        answers_so :
            (driven : Result End Fault) (ran : Result (Unit {0}) Fault) (g : Fault) →
            driven ≡ Err g → (ran ≡ answer_of driven) ⊎ (ran ≡ Err fault.OutOfMemory) → (ran ≡ Err g) ⊎ (ran ≡ Err fault.OutOfMemory)
        answers_so driven ran g is (inl same) = inl (same ∙ ap answer_of is)
        answers_so driven ran g is (inr memory) = inr memory

-- ## Under the lock

pub failed_still : (r : Result (Unit {0}) Failed) (g : Fault) → with_release r (Err g) ≡ Err g
failed_still (Ok u) g = refl
failed_still (Err e) g = refl

-- the folder was told still before the lock was released
pub told_before :
    (act : Act) (answer ran : Result (Unit {0}) Fault) (locked left new : Device) →
    IsClosed act ran answer locked left new → IsSome new.world → IsSome left.world
told_before act answer ran locked left new (LockStays rose same unchanged) told = subst (λ (d : Device). IsSome d.world) unchanged told
told_before act answer ran locked left new (LockGoes r never none goes same) told =
    let v = told_now new.world told in
    let d = goes.did v.0 v.1 in
    subst IsSome (sym d.1) refl

pub closed_left :
    (act : Act) (answer ran : Result (Unit {0}) Fault) (g : Fault) (old locked left new : Device) →
    ran ≡ Err g →
    HasActed act (LeavesAllBut at_lock) old locked false →
    (failed : Bool) →
    HasEnded act (LeavesAllBut []) locked left failed →
    IsClosed act ran answer locked left new → (answer ≡ Err g) × ((bad : Bool) × HasEnded act (LeavesAllBut at_lock) old new bad)
closed_left act answer ran g old locked left new is first failed drove (LockStays rose same unchanged) =
    (same ∙ is, (failed, subst (λ d. HasEnded act (LeavesAllBut at_lock) old d failed) (sym unchanged) (only_ended first drove)))
closed_left act answer ran g old locked left new is first true drove (LockGoes r never none goes same) = absurd (never (drove.cause.rose refl))
closed_left act answer ran g old locked left new is first false drove (LockGoes r never none goes same) = (
  same ∙ (ap (with_release r) is ∙ failed_still r g),
  (
    is_err r,
    ended_then act (LeavesAllBut at_lock) (LeavesAllBut at_lock) (LeavesAllBut at_lock) old left new (is_err r)
        (λ w es fs follows one follows2 two. leaves_then at_lock w es fs one two) (only_ended first drove)
        (ended_acted (drove.idle refl) (releasing_only goes)),
  ),
)
