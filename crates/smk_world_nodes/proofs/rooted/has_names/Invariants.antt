use Rattle.std.proofs.Common.{◌≡◌, drop}
use Rattle.smk_world.specs.Folders.{has_names}
use Rattle.smk_world_nodes.proofs.Stood.{names_from}
use Rattle.smk_world_nodes.proofs.rooted.has_names.Given as goal

abbrev pub invariant-loop-b : goal.invariant-loop-b
invariant-loop-b l = has_names l.p ≡ names_from l.begins (drop l.b-index l.p)
