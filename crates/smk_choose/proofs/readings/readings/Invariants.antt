use Rattle.std.proofs.Common.{◌≡◌, map, take}
use Rattle.smk_choose.specs.Readings.{reading_of}
use Rattle.smk_choose.proofs.readings.readings.Given as goal

abbrev pub invariant-loop-rule : goal.invariant-loop-rule
invariant-loop-rule l = l.made.items ≡ map (reading_of l.flow) (take l.rule-index l.flow.rules)
