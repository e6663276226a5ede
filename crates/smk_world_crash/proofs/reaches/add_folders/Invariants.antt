use Rattle.std.proofs.Common.{◌≡◌, ◌||◌, ℕ, List}
use Rattle.smk_world.specs.World.{is_named}
use Rattle.smk_world_nodes.proofs.Above.{is_short_above}
use Rattle.smk_world_crash.proofs.reaches.add_folders.Given as goal

abbrev pub invariant-loop-i : goal.invariant-loop-i
invariant-loop-i l = (q : List ℕ) → is_named q l.names ≡ (is_named q l.fn.names || is_short_above l.text l.i q)
