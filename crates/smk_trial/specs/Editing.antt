-- The edit of one source.
use Rattle.std.specs.Prelude.{◌≡◌, ℕ, suc, ◌%◌, false, List, [], ◌∷◌, ◌++◌, map, codes, max, Option, Some}
use Rattle.std.specs.List.{fold}
use Rattle.smk_world.specs.declared.event.Change.{Change}
use Rattle.smk_world.specs.declared.event.Node.{Node}
use Rattle.smk_world.specs.declared.event.Node.TheVariants.{Regular, Directory}
use Rattle.smk_world.specs.World.{World}
use Rattle.smk_world_nodes.specs.Steps.{replay, step_world, empty_world}
use Rattle.smk_world_nodes.specs.declared.step.Step.{Step}
use Rattle.smk_world_nodes.specs.declared.step.Step.TheVariants.{Happened, Put, Gone}
use Rattle.smk_gen.specs.Files.{Text, source_path}

-- ## The latest time

abbrev pub time_of : Node → ℕ
time_of (Regular bytes time read_only) = time
time_of Directory = 0

abbrev pub time_left : Change → ℕ
time_left c = time_of c.node

abbrev pub latest_of : List Change → ℕ
latest_of left = fold max 0 (map time_left left)

abbrev pub latest_at : Step → ℕ
latest_at (Happened e) = latest_of e.left
latest_at (Put p n) = time_of n
latest_at (Gone p) = 0

-- the latest time of the files that the steps put or left
abbrev pub latest_in : List Step → ℕ
latest_in steps = fold max 0 (map latest_at steps)

-- ## The edit

-- the number of the source that is edited
abbrev pub edited_number : ℕ → ℕ → ℕ
edited_number seed size = suc (seed % size)

-- what it holds then
abbrev pub edited_text : Text
edited_text = codes "edited" ++ 10 ∷ []

-- The time is one more than the latest of a file, by steps that led to this world.
pub record IsNextTime (w : World) (time : ℕ) : Type 0 where
  pub steps : List Step
  pub led : w ≡ replay empty_world steps
  pub next : time ≡ suc (latest_in steps)

-- In the world that was told the source is put anew, with another text, at the next time.
pub record IsEdited (seed size : ℕ) (told : Option World) (now : World) : Type 0 where
  pub time : ℕ
  pub was : World
  pub told_is : told ≡ Some was
  pub is_next : IsNextTime was time
  pub edit : now ≡ step_world was (Put (source_path (edited_number seed size)) (Regular edited_text time false))
