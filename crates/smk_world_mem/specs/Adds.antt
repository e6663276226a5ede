-- What a call adds to the workspace.
use Rattle.std.specs.Prelude.{◌≡◌, List, [], ◌∷◌, ◌++◌}
use Rattle.smk_world.specs.declared.event.Call.{Call}
use Rattle.smk_world.specs.declared.event.Change.{Change}
use Rattle.smk_world.specs.World.{World, after}
use Rattle.smk_world.specs.Calls.{Lets}
use Rattle.smk_world_nodes.specs.Steps.{AgreesWith}
use Rattle.smk_world_mem.specs.Act.{mem_act}
use Rattle.smk_world_nodes.specs.declared.nodes.Nodes.{Nodes}
use Rattle.smk_world_nodes.specs.declared.step.Step.{Step}
use Rattle.smk_world_nodes.specs.declared.step.Step.TheVariants.{Happened}

-- One event is added, which a world in P allows, and the nodes follow it.
pub record AddsIf (P : World → Type 0) (call : Call) (old new : Nodes) (steps more : List Step) : Type 0 where
  pub left : List Change
  pub steps_are : more ≡ steps ++ Happened (record { call = call; left = left }) ∷ []
  pub lets : (w : World) → AgreesWith old w → P w → Lets mem_act w call left
  pub nodes_are : (w : World) → AgreesWith old w → P w → AgreesWith new (after w (record { call = call; left = left }))

-- One event is added, which the world allows, and the nodes follow it.
pub record Adds (call : Call) (old new : Nodes) (steps more : List Step) : Type 0 where
  pub left : List Change
  pub steps_are : more ≡ steps ++ Happened (record { call = call; left = left }) ∷ []
  pub lets : (w : World) → AgreesWith old w → Lets mem_act w call left
  pub nodes_are : (w : World) → AgreesWith old w → AgreesWith new (after w (record { call = call; left = left }))
