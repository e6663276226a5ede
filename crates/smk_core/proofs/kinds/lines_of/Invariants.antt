use Rattle.std.proofs.Common.{◌≡◌, map, take}
use Rattle.smk_core.proofs.Placing.{empty_line}
use Rattle.smk_core.proofs.kinds.lines_of.Given as goal

abbrev pub invariant-loop-kind : goal.invariant-loop-kind
invariant-loop-kind l = l.lines.items ≡ map empty_line (take l.kind-index l.kinds)
