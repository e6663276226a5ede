-- Workflows no output of which is temporary.
use Rattle.std.specs.Prelude.{◌≡◌, Bool, true, false, List, []}
use Rattle.std.specs.List.{list_any}
use Rattle.smk_world.specs.Trees.{Each}
use Rattle.smk_flow.specs.declared.job.Job.{Job}
use Rattle.smk_flow.specs.declared.rule.RulePart.{RulePart}
use Rattle.smk_flow.specs.declared.rule.OutPart.{OutPart}
use Rattle.smk_flow.specs.declared.rule.FlaggedText.{FlaggedText}
use Rattle.smk_flow.specs.Flows.{Flow, is_temp}
use Rattle.smk_store.specs.Images.{Image}
use Rattle.smk_pick.specs.declared.settings.Settings.{Settings}
use Rattle.smk_plan.specs.States.{IsPlan, Plan, Progress}
use Rattle.smk_laws_plan.specs.Current.{IsComplete}
use Rattle.smk_words_reading.specs.declared.asked.RunWords.{RunWords}
use Rattle.smk_cli_calls.specs.OneByOne.{is_one_by_one}

-- the output is temporary
abbrev pub is_for_now : FlaggedText → Bool
is_for_now out = list_any is_temp out.flags

-- so is one of the item, of the rule's, and of all rules'
abbrev pub item_has_temps : OutPart → Bool
item_has_temps item = list_any is_for_now item.outs

abbrev pub part_has_temps : RulePart → Bool
part_has_temps part = list_any item_has_temps part.outputs

abbrev pub has_temps : List RulePart → Bool
has_temps parts = list_any part_has_temps parts

-- No job of a plan of a workflow of which no output is temporary makes something temporary;
abbrev pub PlansHaveNoTemps : Type 0
PlansHaveNoTemps =
    (flow : Flow) (image : Image) (settings : Settings) (progress : Progress) (plan : Plan) →
    IsComplete image →
    has_temps flow.rules ≡ false → IsPlan flow image settings progress plan → Each (λ (j : Job). j.temps ≡ []) plan.jobs

-- and each workflow whose jobs are made one after another is such a one.
abbrev pub OneByOneHasNoTemps : Type 0
OneByOneHasNoTemps = (flow : Flow) (words : RunWords) → is_one_by_one flow words ≡ true → has_temps flow.rules ≡ false
