-- Which runs make their jobs one after another, each by the plan that was made at the start.
use Rattle.std.specs.Prelude.{◌≡◌, Bool, true, false, ◌&&◌, ◌||◌, is_some, not, nat_eq, List}
use Rattle.std.specs.List.{list_any}
use Rattle.smk_flow.specs.declared.rule.RulePart.{RulePart}
use Rattle.smk_flow.specs.declared.rule.InPart.{InPart}
use Rattle.smk_flow.specs.declared.rule.OutPart.{OutPart}
use Rattle.smk_flow.specs.declared.rule.FlaggedText.{FlaggedText}
use Rattle.smk_flow.specs.declared.rule.Flag.{Flag}
use Rattle.smk_flow.specs.declared.rule.Flag.TheVariants.{Temp, Protected, Folder}
use Rattle.smk_flow.specs.Flows.{Flow, is_directory}
use Rattle.smk_pick.specs.declared.settings.Force.{Force}
use Rattle.smk_pick.specs.declared.settings.Force.TheVariants.{No, Targets, All}
use Rattle.smk_words_reading.specs.declared.asked.RunWords.{RunWords}

-- ## The words

abbrev pub forces_none : Force → Bool
forces_none No = true
forces_none Targets = false
forces_none All = false

-- they ask for one core, where the first job that fails ends the run and no job is forced
abbrev pub asks_one_by_one : RunWords → Bool
asks_one_by_one words = nat_eq words.cores 1 && (not words.keep_going && forces_none words.force)

-- ## The workflow

-- what has this flag is removed once nothing needs it, or made read-only
abbrev pub is_mark : Flag → Bool
is_mark Temp = true
is_mark Protected = true
is_mark Folder = false

-- the output is temporary or protected
abbrev pub is_marked : FlaggedText → Bool
is_marked out = list_any is_mark out.flags

-- so is one of the item, of the rule's, and of all rules'
abbrev pub item_has_marks : OutPart → Bool
item_has_marks item = list_any is_marked item.outs

abbrev pub part_has_marks : RulePart → Bool
part_has_marks part = list_any item_has_marks part.outputs

abbrev pub has_marks : List RulePart → Bool
has_marks parts = list_any part_has_marks parts

-- a rule has a priority, so that its jobs begin before others that are ready
abbrev pub is_preferred : RulePart → Bool
is_preferred part = not (nat_eq part.priority 0)

abbrev pub has_priorities : List RulePart → Bool
has_priorities parts = list_any is_preferred parts

-- the output is a directory
abbrev pub is_folder : FlaggedText → Bool
is_folder out = list_any is_directory out.flags

abbrev pub item_has_folders : OutPart → Bool
item_has_folders item = list_any is_folder item.outs

-- what the item wants is gathered from a checkpoint
abbrev pub is_gathering : InPart → Bool
is_gathering item = is_some item.gather

-- the rule is a checkpoint, makes a directory, or gathers
abbrev pub may_grow : RulePart → Bool
may_grow part = part.checkpoint || (list_any item_has_folders part.outputs || list_any is_gathering part.inputs)

-- one of these rules is so, and a plan may grow as it is carried out
abbrev pub grows : List RulePart → Bool
grows parts = list_any may_grow parts

-- no rule of the workflow is so
abbrev pub IsPlainFlow : Flow → Type 0
IsPlainFlow flow = grows flow.rules ≡ false

-- ## The run

-- Jobs are made one after another, in the order of the plan, where the words ask for that, and no output of the workflow is temporary or protected, no rule has
-- a priority, and no plan may grow. Every other run is driven: its jobs are begun side by side, by plans that are kept as it goes on.
abbrev pub is_one_by_one : Flow → RunWords → Bool
is_one_by_one flow words = asks_one_by_one words && (not (has_marks flow.rules) && (not (has_priorities flow.rules) && not (grows flow.rules)))
