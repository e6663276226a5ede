use Rattle.std.proofs.Common.{◌≢◌, subst, Result}
use Rattle.std.specs.Prelude.{IfErr, OnOk}
use Rattle.smk_plan.specs.declared.fault.PlanFault.{PlanFault}
use Rattle.smk_plan.specs.declared.fault.PlanFault.TheVariants as refused
use Rattle.smk_plan_live.specs.Lives.{IsRefusedNow}
use Rattle.smk_laws_turns.specs.Resting.{IsTold}
use Rattle.smk_laws_turns.proofs.Answering.{answer_refused}
use Rattle.smk_drive_hub.proofs.Checked.{reply_checked}
use Rattle.smk_drive_hub.proofs.learning.reply_of.Goals as goal

pub returns-in-Ok-clause-reply : goal.returns-in-Ok-clause-reply
returns-in-Ok-clause-reply c = λ base told refusals.
    reply_checked c.args.flow.now c.args.settings.now base c.args.live.now c.check_texts.result c.check_texts.ensures.commands c.check_texts.ensures.err
    (subst (λ (t : Result (Unit {0}) PlanFault). OnOk t (IsTold c.args.settings.now base c.args.live.now)) c.in-Ok.is told)

pub returns-in-Err-clause-reply : goal.returns-in-Err-clause-reply
returns-in-Err-clause-reply c = λ base told refusals.
    answer_refused c.args.flow.now c.args.settings.now base c.args.live.now c.in-Err.refusal c.of_plan.result c.of_plan.ensures.is
    (subst (λ (t : Result (Unit {0}) PlanFault). IfErr t (λ refusal. refusal ≢ refused.OutOfMemory → IsRefusedNow c.args.settings.now base refusal)) c.in-Err.is refusals)
