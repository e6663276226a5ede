-- Jobs and targets, computed.
use Rattle.std.specs.Prelude.{◌≡◌, List, [], ◌∷◌, codes, Some, None, refl, true}
use Rattle.smk_base.specs.declared.tree.Pair.{Pair}
use Rattle.smk_pattern.specs.Shapes.{Text}
use Rattle.smk_pattern.specs.Reading.{fill_words, by_name}
use Rattle.smk_flow.specs.declared.rule.RulePart.{RulePart}
use Rattle.smk_flow.specs.declared.fault.JobFault.{JobFault}
use Rattle.smk_flow.specs.Flows.{Candidate, number_of, folders_of, gathers}
use Rattle.smk_flow.specs.Jobs.{path_texts, path_fault}
use Rattle.smk_flow.specs.Targets.{paths_of, words_of, all_paths, first_bad}
use Rattle.smk_flow.proofs.Examples.{aggregate, copying, cat, copy, clusters, unordered, input, flow_of}

-- ## Jobs

abbrev aggregating : Text → Candidate
aggregating sample = record { rule = 2; part = aggregate; binding = record { name = codes "sample"; value = sample } ∷ [] }

pub number : number_of clusters (codes "aggregate") ≡ Some 2
number = refl

pub no_number : number_of clusters (codes "x") ≡ None
no_number = refl

pub gathered_from : folders_of (gathers clusters (aggregating (codes "a"))) ≡ codes "clustering/a" ∷ []
gathered_from = refl

pub all_texts : path_texts clusters (aggregating (codes "a")) ≡ codes "aggregated/a.txt" ∷ codes "clustering/a" ∷ []
all_texts = refl

-- the output is looked at before the directory
pub output_first : path_fault (path_texts clusters (aggregating (codes "../a"))) ≡ Some (JobFault.NotPath (codes "aggregated/../a.txt"))
output_first = refl

abbrev two_names : List Pair
two_names = record { name = codes "b"; value = codes "2" } ∷ record { name = codes "a"; value = codes "1" } ∷ []

pub names_filled : fill_words two_names (codes "{a}{{b}}{c}{b ") ≡ codes "1{2}{b "
names_filled = refl

pub names_rise : by_name two_names ≡ record { name = codes "a"; value = codes "1" } ∷ record { name = codes "b"; value = codes "2" } ∷ []
names_rise = refl

-- ## Targets

pub rule_is_target : paths_of copy (codes "copy") ≡ Some (codes "out.txt" ∷ [])
rule_is_target = refl

pub path_is_target : paths_of copy (codes "a/b") ≡ Some (codes "a/b" ∷ [])
path_is_target = refl

pub wildcards_are_none : paths_of unordered (codes "paired") ≡ None
wildcards_are_none = refl

abbrev all_of : RulePart
all_of = record (copying cat) { name = codes "all"; inputs = input (codes "x") ∷ input (codes "y") ∷ []; outputs = []; command = None }

pub inputs_of_rule : all_paths (flow_of (all_of ∷ [])) (codes "all" ∷ codes "z" ∷ []) ≡ codes "x" ∷ codes "y" ∷ codes "z" ∷ []
inputs_of_rule = refl

pub nothing_made : first_bad (flow_of (record all_of { command = Some cat } ∷ [])) (codes "x" ∷ codes "all" ∷ codes "../x" ∷ []) ≡ Some (codes "all")
nothing_made = refl

pub first_by_default : words_of (flow_of (copying cat ∷ all_of ∷ [])) [] ≡ codes "copy" ∷ []
first_by_default = refl

pub marked_by_default : words_of (flow_of (copying cat ∷ record all_of { default_target = true } ∷ [])) [] ≡ codes "all" ∷ []
marked_by_default = refl

pub no_rule : words_of (flow_of []) [] ≡ []
no_rule = refl
