use Rattle.std.proofs.Common.{◌≡◌, ◌++◌, map, take}
use Rattle.std.specs.List.{flat_map}
use Rattle.smk_pattern.specs.Reading.{fill}
use Rattle.smk_flow.specs.declared.rule.InPart.{InPart}
use Rattle.smk_choose_wants.specs.Wants.{want_of}
use Rattle.smk_choose_wants.proofs.wants.add_inputs.Given as goal

abbrev pub invariant-loop-input : goal.invariant-loop-input
invariant-loop-input l = l.found ≡ l.initial.found ++ map want_of (flat_map (λ (i : InPart). map (fill l.binding) i.texts) (take l.input-index l.inputs))
