-- A run by whose first plan each job is Clean starts nothing.
use Rattle.std.proofs.Common.{◌≡◌, List, [], refl, sym, subst, ◌∙◌, Option, Some, None, Result, true≢false}
use Rattle.std.specs.Prelude.{IsSome}
use Rattle.std.proofs.lemmas.Option.{same_Some}
use Rattle.smk_world.specs.declared.event.Event.{Event}
use Rattle.smk_world.specs.World.{World, IsFormed, run}
use Rattle.smk_world.specs.Runs.{Did, Follows}
use Rattle.smk_world.specs.Trees.{Act}
use Rattle.smk_world.proofs.Names.{formed_run}
use Rattle.smk_plan.specs.States.{Plan, nothing_done}
use Rattle.smk_laws_plan.proofs.PlanOne.{one_last_plan}
use Rattle.smk_laws_history.proofs.CurrentComplete.{seen_is_complete}
use Rattle.smk_run.proofs.Calls.{EachCall}
use Rattle.smk_drive.specs.Moments.{Rules, seen}
use Rattle.smk_drive_course.specs.declared.ending.End.{End}
use Rattle.smk_report.specs.declared.fault.Fault.{Fault}
use Rattle.smk_drive_course.specs.Stands.{IsPlanned, first_stand}
use Rattle.smk_drive_course.specs.Steps.{Deed}
use Rattle.smk_drive_course.specs.Driven.{IsRun}
use Rattle.smk_laws_moments.proofs.ChildrenOf.{opening_quiet}
use Rattle.smk_laws_moments.proofs.QuietCalls.{IsQuiet, calls_more}
use Rattle.smk_laws_turns.proofs.FolderClosing.{follows_split}
use Rattle.smk_clean.specs.NothingStarts.{AllAreClean, DrivenStartsNone, IsFirstPlan, StartsNone}
use Rattle.smk_clean.proofs.UnstartedEvents.{quiet_none}
use Rattle.smk_clean.proofs.Idle.{IsIdle, answer_idle, steps_quiet}

told_now : (world : Option World) → IsSome world → (v : World) × (world ≡ Some v)
told_now None told = absurd (true≢false (sym told))
told_now (Some v) told = (v, refl)

module _ (rules : Rules) (w : World) (plan : Plan) (formed : IsFormed w) (last : IsFirstPlan rules w plan) (clean : AllAreClean plan) where
  -- what it begins with
  first_idle : (now : Option Plan) → IsPlanned rules (first_stand now) w → IsIdle (first_stand now)
  first_idle now planned = record { runs = refl; begun = refl; clean = λ p is. at p is }
    where
      at : (p : Plan) → now ≡ Some p → AllAreClean p
      at p is =
          subst AllAreClean
          (one_last_plan rules.flow (seen rules w) rules.settings nothing_done [] plan p (seen_is_complete rules.read w formed) last
          (subst (λ o. IsPlanned rules (first_stand o) w) is planned)) clean

  run_quiet :
      (act : Act) (told : Option End) (result : Result End Fault) (deeds : List Deed) (es : List Event) →
      Follows act w es → IsRun rules told result deeds w es → StartsNone w es × (deeds ≡ [])
  run_quiet act told result deeds es follows r =
      let parts = follows_split act w r.opening r.rest (subst (Follows act w) r.events follows) in
      let start = answer_idle rules w r.opened (first_stand r.plan) r.start w [] r.goes_by (first_idle r.plan r.planned) in
      let later =
      steps_quiet rules w act r.start r.last (run w r.opening) r.opening r.rest deeds start (formed_run w r.opening formed) parts.1 r.steps in
      let quiet : EachCall IsQuiet es =
      subst (EachCall IsQuiet) (sym r.events) (calls_more r.opening r.rest (opening_quiet rules w r.opened r.opening r.opens) later.0) in
      (quiet_none w es quiet, later.1)

pub driven_starts_none : DrivenStartsNone
driven_starts_none act rules result w plan old new out_old out_new at formed last clean drove =
    record {
      failure = drove.failure;
      ran = record { did = did; stays = drove.ran.stays; cause = drove.ran.cause; idle = drove.ran.idle };
      untold = λ told.
          let v = told_now new.world told in
          let d = drove.ran.did v.0 v.1 in
          (quiet d.0 d.2.0 d.1 d.2.1 d.2.2).1;
    }
  where
    quiet :
        (u : World) (es : List Event) →
        old.world ≡ Some u → Follows act u es → IsRun rules drove.told result drove.deeds u es → StartsNone u es × (drove.deeds ≡ [])
    quiet u es told follows r =
        let same : w ≡ u = same_Some w u (sym at ∙ told) in
        run_quiet rules u plan (subst IsFormed same formed) (subst (λ x. IsFirstPlan rules x plan) same last) clean act drove.told result drove.deeds es
        follows r

    did : Did act old.world new.world StartsNone
    did v end =
        let d = drove.ran.did v end in
        (d.0, d.1, (d.2.0, d.2.1, (quiet d.0 d.2.0 d.1 d.2.1 d.2.2).0, d.2.3))
