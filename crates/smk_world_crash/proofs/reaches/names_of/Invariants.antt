use Rattle.std.proofs.Common.{◌≡◌, ◌||◌, ℕ, List, take}
use Rattle.smk_world.specs.World.{is_named}
use Rattle.smk_world_crash.specs.Crash.{all_names}
use Rattle.smk_world_crash.proofs.reaches.names_of.Given as goal

abbrev pub invariant-loop-step : goal.invariant-loop-step
invariant-loop-step l = (q : List ℕ) → is_named q l.names ≡ (is_named q l.places || is_named q (all_names (take l.step-index l.steps)))
