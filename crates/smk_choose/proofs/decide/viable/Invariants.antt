use Rattle.std.proofs.Common.{◌≡◌, take}
use Rattle.smk_choose.specs.Decided.{is_deep_enough, viable_in}
use Rattle.smk_choose.proofs.decide.viable.Given as goal

abbrev pub invariant-loop-way : goal.invariant-loop-way
invariant-loop-way l = l.found.items ≡ viable_in (is_deep_enough l.heights) (take l.way-index l.ways)
