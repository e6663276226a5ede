use Rattle.std.proofs.Common.{◌≡◌, ◌++◌, take}
use Rattle.std.specs.List.{flat_map}
use Rattle.smk_pattern.specs.Searching.{now_of}
use Rattle.smk_flow.specs.Checks.{input_unknown}
use Rattle.smk_flow_build.proofs.unknown.add_unknown_inputs.Given as goal

abbrev pub invariant-loop-item : goal.invariant-loop-item
invariant-loop-item l =
    now_of l.found.items ≡ now_of l.initial.found.items ++ flat_map (input_unknown (now_of l.known)) (take l.item-index l.inputs)
