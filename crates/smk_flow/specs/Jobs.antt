-- The recipe and the job of a rule and a binding, once its items of inputs are given.
use Rattle.std.specs.Prelude.{Bool, List, [], ◌∷◌, ◌++◌, map, filter, Option, Some, None, if◌then◌else◌}
use Rattle.std.specs.List.{list_any}
use Rattle.smk_base.specs.declared.tree.Pair.{Pair}
use Rattle.smk_base.specs.Path.{is_path}
use Rattle.smk_world.specs.declared.recipe.Values.{Values}
use Rattle.smk_world.specs.declared.recipe.Item.{Item}
use Rattle.smk_world.specs.declared.recipe.Out.{Out}
use Rattle.smk_world.specs.declared.recipe.OutItem.{OutItem}
use Rattle.smk_world.specs.declared.recipe.Kind.{Kind}
use Rattle.smk_world.specs.declared.recipe.Kind.TheVariants as kind
use Rattle.smk_world.specs.declared.recipe.Recipe.{Recipe}
use Rattle.smk_world.specs.Trees.{Path}
use Rattle.smk_pattern.specs.Shapes.{Text}
use Rattle.smk_pattern.specs.Reading.{fill, fill_words, or_empty, by_name}
use Rattle.smk_flow.specs.declared.rule.InPart.{InPart}
use Rattle.smk_flow.specs.declared.rule.OutPart.{OutPart}
use Rattle.smk_flow.specs.declared.rule.FlaggedText.{FlaggedText}
use Rattle.smk_flow.specs.declared.rule.Flag.{Flag}
use Rattle.smk_flow.specs.declared.rule.Flag.TheVariants.{Temp, Protected, Folder}
use Rattle.smk_flow.specs.declared.rule.GatherPart.{GatherPart}
use Rattle.smk_flow.specs.declared.fault.JobFault.{JobFault}
use Rattle.smk_flow.specs.declared.job.Job.{Job}
use Rattle.smk_flow.specs.Flows.{Flow, Candidate, outs, makes_folder, is_temp, is_protected, outputs, logs, gathers, first_wants}

-- ## Parts of a rule, filled by a binding

abbrev pub kind_of : FlaggedText → Kind
kind_of out = if makes_folder out then kind.Folder else kind.Plain

abbrev pub filled_out : List Pair → FlaggedText → Out
filled_out binding out = record { path = fill binding out.text; kind = kind_of out }

abbrev pub filled_outs : List Pair → OutPart → OutItem
filled_outs binding item = record { name = item.name; outs = map (filled_out binding) item.outs }

abbrev pub filled_param : List Pair → Values → Values
filled_param binding param = record { name = param.name; values = map (fill_words binding) param.values }

abbrev pub filled_word : List Pair → Pair → Pair
filled_word binding word = record { name = word.name; value = fill_words binding word.value }

abbrev pub is_flagged : Flag → FlaggedText → Bool
is_flagged Temp out = list_any is_temp out.flags
is_flagged Protected out = list_any is_protected out.flags
is_flagged Folder out = makes_folder out

-- those of these outputs that have the flag
abbrev pub flagged : List Pair → Flag → List FlaggedText → List Path
flagged binding flag outs = map (λ (o : FlaggedText). fill binding o.text) (filter (is_flagged flag) outs)

-- ## The job

abbrev pub recipe_with : Candidate → List Item → Recipe
recipe_with c items =
    record {
      template = or_empty c.part.command;
      wildcards = by_name c.binding;
      params = map (filled_param c.binding) c.part.params;
      inputs = items;
      outputs = map (filled_outs c.binding) c.part.outputs;
    }

abbrev pub job_with : Flow → Candidate → List Item → Job
job_with flow c items =
    record {
      rule = c.rule;
      recipe = recipe_with c items;
      gathers = gathers flow c;
      logs = logs flow c;
      threads = c.part.threads;
      amounts = c.part.amounts;
      words = map (filled_word c.binding) c.part.words;
      priority = c.part.priority;
      temps = flagged c.binding Temp (outs c.part);
      guards = flagged c.binding Protected (outs c.part);
    }

-- ## Before it is known what is gathered

abbrev pub unless_gathered : List Path → Option GatherPart → List Path
unless_gathered paths None = paths
unless_gathered paths (Some g) = []

-- an item with the texts that are written out, filled; empty where it gathers
abbrev pub declared_item : List Pair → InPart → Item
declared_item binding item = record { name = item.name; paths = unless_gathered (map (fill binding) item.texts) item.gather }

-- the job with the inputs that are written out in the rule
abbrev pub declared_job : Flow → Candidate → Job
declared_job flow c = job_with flow c (map (declared_item c.binding) c.part.inputs)

-- ## Paths

-- what must be paths, in the order in which it is looked at: outputs, logs, inputs that are written out, gathered directories
abbrev pub path_texts : Flow → Candidate → List Text
path_texts flow c = outputs flow c ++ (logs flow c ++ first_wants flow c)

-- the fault of texts of which the first that isn't a path is told
abbrev pub path_fault : List Text → Option JobFault
path_fault [] = None
path_fault (t ∷ ts) = if is_path t then path_fault ts else Some (JobFault.NotPath t)
