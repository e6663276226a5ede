-- What a workspace tells.
use Rattle.std.specs.Prelude.{◌≡◌, ℕ, List, [], Option, Some, None}
use Rattle.smk_world.specs.declared.event.Node.{Node}
use Rattle.smk_world.specs.declared.event.Node.TheVariants.{Regular, Directory}
use Rattle.smk_world.specs.World.{World, numbers}
use Rattle.smk_world_nodes.specs.Steps.{told_world, step_world, replay, empty_world}
use Rattle.smk_world_nodes.specs.declared.step.Step.{Step}
use Rattle.smk_world_mem.specs.declared.work.MemWork.{MemWork}
use Rattle.smk_world_mem.specs.declared.work.Setup.{Setup}

-- its world, where that is told
abbrev pub world_in : MemWork → Option World
world_in work = told_world work.told work.steps

-- how often its device has failed
abbrev pub faults_in : MemWork → ℕ
faults_in work = work.faults

-- how its calls and children are to go
abbrev pub setup_in : MemWork → Setup
setup_in work = record { failing = work.failing; stop_after = work.stop_after; order = work.order; killed = work.killed }

-- the numbers of the children that its steps left running
abbrev pub running_in : MemWork → List ℕ
running_in work = numbers (replay empty_world work.steps).children

-- the world is told, and no child runs in it
abbrev pub IsAtRest : Option World → Type 0
IsAtRest told = (w : World) × (told ≡ Some w) × (w.children ≡ [])

-- the world was told before, and this is where the step leads from it
abbrev pub IsStepFrom : Option World → Step → World → Type 0
IsStepFrom old step now = (w : World) × (old ≡ Some w) × (now ≡ step_world w step)

abbrev pub file_bytes : Option Node → Option (List ℕ)
file_bytes None = None
file_bytes (Some (Regular bytes time read_only)) = Some bytes
file_bytes (Some Directory) = None
