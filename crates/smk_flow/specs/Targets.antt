-- The paths that words stand for as targets.
use Rattle.std.specs.Prelude.{Bool, true, false, ◌&&◌, ◌||◌, not, List, [], ◌∷◌, ◌++◌, map, filter, Option, Some, None, option_map, option_to_list, is_none, if◌then◌else◌}
use Rattle.std.specs.List.{find, flat_map}
use Rattle.smk_base.specs.Path.{is_path}
use Rattle.smk_world.specs.Trees.{Path, first}
use Rattle.smk_pattern.specs.Shapes.{Text}
use Rattle.smk_pattern.specs.Reading.{fill}
use Rattle.smk_flow.specs.declared.rule.RulePart.{RulePart}
use Rattle.smk_flow.specs.declared.rule.InPart.{InPart}
use Rattle.smk_flow.specs.declared.rule.FlaggedText.{FlaggedText}
use Rattle.smk_flow.specs.Flows.{Flow, outs, rule_named}
use Rattle.smk_flow.specs.Checks.{wildcards}

-- ## A rule

abbrev pub is_empty : {A : Type 0} → List A → Bool
is_empty [] = true
is_empty (x ∷ xs) = false

-- a rule without wildcards that makes something, or has nothing to do
abbrev pub is_target : RulePart → Bool
is_target part = is_empty (wildcards part) && (not (is_empty (outs part)) || is_none part.command)

-- the inputs that are written out, of a rule without wildcards
abbrev pub plain_inputs : RulePart → List Path
plain_inputs part = flat_map (λ (i : InPart). map (fill []) i.texts) part.inputs

-- such a rule stands for its outputs, or where it has none, for its inputs
abbrev pub stands_for : RulePart → List FlaggedText → List Path
stands_for part [] = plain_inputs part
stands_for part (o ∷ outs) = map (λ (f : FlaggedText). fill [] f.text) (o ∷ outs)

-- ## A word

abbrev pub paths_as : Text → Option RulePart → Option (List Path)
paths_as word None = if is_path word then Some (word ∷ []) else None
paths_as word (Some part) = if is_target part then Some (stands_for part (outs part)) else None

-- the paths of a rule's name or of a path; nothing where the word is no target
abbrev pub paths_of : Flow → Text → Option (List Path)
paths_of flow word = paths_as word (rule_named flow word)

abbrev pub or_none : Option (List Path) → List Path
or_none None = []
or_none (Some paths) = paths

-- ## Words

-- the first rule that is marked as the default target, or else the first rule
abbrev pub default_rule : List RulePart → Option RulePart
default_rule rules = first (filter (λ (r : RulePart). r.default_target) rules ++ rules)

-- the words that count: without any, the name of the default rule, where there is a rule
abbrev pub words_of : Flow → List Text → List Text
words_of flow [] = option_to_list (option_map (λ (r : RulePart). r.name) (default_rule flow.rules))
words_of flow (word ∷ words) = word ∷ words

abbrev pub all_paths : Flow → List Text → List Path
all_paths flow words = flat_map (λ word. or_none (paths_of flow word)) words

-- the first of these words that is no target
abbrev pub first_bad : Flow → List Text → Option Text
first_bad flow words = find (λ word. is_none (paths_of flow word)) words
