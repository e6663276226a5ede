use Rattle.std.proofs.Common.{◌≢◌, subst, Result}
use Rattle.std.specs.Prelude.{IfErr}
use Rattle.smk_plan.specs.declared.fault.PlanFault.{PlanFault}
use Rattle.smk_plan.specs.declared.fault.PlanFault.TheVariants as refused
use Rattle.smk_plan_live.specs.Lives.{IsRefusedNow}
use Rattle.smk_laws_turns.proofs.Answering.{answer_refused}
use Rattle.smk_drive_hub.proofs.Checked.{checked_quiet}
use Rattle.smk_drive_hub.proofs.learning.answer_of.Goals as goal

pub returns-in-Ok-clause-quiet : goal.returns-in-Ok-clause-quiet
returns-in-Ok-clause-quiet c = checked_quiet c.args.flow.now c.args.settings.now c.args.live.now c.check_plan.result c.check_plan.ensures.err

pub returns-in-Err-clause-answer : goal.returns-in-Err-clause-answer
returns-in-Err-clause-answer c = λ base told refusals.
    answer_refused c.args.flow.now c.args.settings.now base c.args.live.now c.in-Err.refusal c.of_plan.result c.of_plan.ensures.is
    (subst (λ (t : Result (Unit {0}) PlanFault). IfErr t (λ refusal. refusal ≢ refused.OutOfMemory → IsRefusedNow c.args.settings.now base refusal)) c.in-Err.is refusals)
