use Rattle.std.proofs.Common.{◌≡◌, drop}
use Rattle.smk_chain_walk.specs.Stepping.{over_in, outs_in}
use Rattle.smk_chain_walk.proofs.stepping.folder_over.Given as goal

abbrev pub invariant-loop-item : goal.invariant-loop-item
invariant-loop-item l = over_in (outs_in l.items) l.path ≡ over_in (outs_in (drop l.item-index l.items)) l.path
