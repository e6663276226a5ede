use Rattle.std.proofs.Common.{◌≡◌, ◌++◌, map, take}
use Rattle.smk_chain_derive.specs.Clashes.{output_of}
use Rattle.smk_chain_derive.proofs.spot.push_outs.Given as goal

abbrev pub invariant-loop-out : goal.invariant-loop-out
invariant-loop-out l = l.found ≡ l.initial.found ++ map output_of (take l.out-index l.outs)
