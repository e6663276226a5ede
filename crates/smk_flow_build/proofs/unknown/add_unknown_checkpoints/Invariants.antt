use Rattle.std.proofs.Common.{◌≡◌, ◌++◌, take}
use Rattle.std.specs.List.{flat_map}
use Rattle.smk_pattern.specs.Searching.{now_of}
use Rattle.smk_flow.specs.declared.rule.InPart.{InPart}
use Rattle.smk_flow.specs.Named.{rule_at}
use Rattle.smk_flow.specs.Checks.{checkpoint_unknown, or_nothing}
use Rattle.smk_flow_build.proofs.unknown.add_unknown_checkpoints.Given as goal

abbrev pub invariant-loop-item : goal.invariant-loop-item
invariant-loop-item l =
    now_of l.found.items
    ≡ now_of l.initial.found.items
    ++ flat_map (checkpoint_unknown (rule_at l.above) (now_of l.known)) (flat_map (λ (i : InPart). or_nothing i.gather) (take l.item-index l.part.inputs))
