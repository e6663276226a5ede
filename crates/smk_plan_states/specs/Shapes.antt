-- What is looked at of jobs and of the paths that they want: values that only proofs see.
use Rattle.std.specs.Prelude.{ℕ, Bool, List, Option}
use Rattle.smk_world.specs.Trees.{Path}

-- A directory output, and whether it is whole.
pub record Directory : Type 0 where
  pub path : Path
  pub whole : Bool

-- What is looked at of a job.
pub record Parts : Type 0 where
  pub inputs : List Path
  -- the directories that it gathers from
  pub gathers : List Path
  pub outputs : List Path
  -- the outputs flagged `temp`
  pub temps : List Path
  -- the outputs that aren't whole
  pub gone : List Path
  pub directories : List Directory

-- The job that makes a path, none for a source; whether the path is whole; and the directory output over it.
pub record Site : Type 0 where
  pub job : Option ℕ
  pub whole : Bool
  pub over : Option Directory

-- What is told of paths.
pub record Paths : Type 0 where
  -- by whom a path is made
  pub sites : Path → Option Site
  -- the directories that jobs await, or of which a target is a member
  pub awaited : Path → Bool
  pub targets : Path → Bool
  -- the inputs of jobs
  pub read : Path → Bool
  -- the directories whose files are known
  pub listed : Path → Bool

-- An awaited directory, and whether it is ready.
pub record Wait : Type 0 where
  pub path : Path
  pub ready : Bool
