use Rattle.std.proofs.Common.{◌≡◌, ◌++◌, take}
use Rattle.std.specs.List.{flat_map}
use Rattle.smk_pattern.specs.Searching.{now_of}
use Rattle.smk_flow.specs.Checks.{words_unknown}
use Rattle.smk_flow_build.proofs.unknown.add_unknown_values.Given as goal

abbrev pub invariant-loop-value : goal.invariant-loop-value
invariant-loop-value l =
    now_of l.found.items ≡ now_of l.initial.found.items ++ flat_map (words_unknown (now_of l.known)) (take l.value-index l.values)
