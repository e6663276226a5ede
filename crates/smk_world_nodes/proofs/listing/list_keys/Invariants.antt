use Rattle.std.proofs.Common.{◌≡◌, map, take, string_bytes}
use Rattle.smk_world_nodes.specs.Nodes.{names_of, strange_of}
use Rattle.smk_world_nodes.proofs.listing.list_keys.Given as goal

abbrev pub invariant-loop-key : goal.invariant-loop-key
invariant-loop-key l = (l.names ≡ names_of l.nodes l.p (map string_bytes (take l.key-index l.keys))) × (l.strange ≡ strange_of l.p (map string_bytes (take l.key-index l.keys)))
