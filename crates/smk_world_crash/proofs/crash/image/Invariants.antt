use Rattle.std.proofs.Common.{◌≡◌, ℕ, List, take, None}
use Rattle.std.specs.Prelude.{if◌then◌else◌}
use Rattle.smk_world.specs.World.{is_named, firmly}
use Rattle.smk_world_nodes.specs.Nodes.{node_at}
use Rattle.smk_world_crash.specs.Crash.{left_at, state_by}
use Rattle.smk_world_crash.proofs.crash.image.Given as goal

abbrev pub invariant-loop-name : goal.invariant-loop-name
invariant-loop-name l = (q : List ℕ) → node_at l.nodes q ≡ (if is_named q (take l.name-index l.names) then left_at l.choice (is_named q l.owned) (state_by q (firmly None) l.steps l.reaches) else None)
