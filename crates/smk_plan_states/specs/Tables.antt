-- The table of states of some jobs and targets.
use Rattle.std.specs.Prelude.{◌≡◌, Bool, List, map, bytes_eq}
use Rattle.smk_world.specs.Trees.{Path}
use Rattle.smk_chain.specs.declared.jobs.Jobs.{Jobs}
use Rattle.smk_chain.specs.Derive.{distinct}
use Rattle.smk_plan_states.specs.declared.lines.Awaited.{Awaited}
use Rattle.smk_plan_states.specs.declared.table.Table.{Table}
use Rattle.smk_plan_states.specs.Served.{AreServed}
use Rattle.smk_plan_states.specs.Judged.{Judging}
use Rattle.smk_plan_states.specs.Lines.{line_of, origin_of, target_of, all_spots}
use Rattle.smk_plan_states.specs.Stays.{AreWatched}

abbrev pub same_path : Awaited → Awaited → Bool
same_path a b = bytes_eq a.path b.path

-- The table is that of these jobs and targets.
pub record IsTableOf (jobs : Jobs) (asked : List Path) (table : Table) : Type 0 where
  -- a line for each job
  pub lines : table.lines ≡ map (line_of jobs asked) jobs.jobs
  -- an origin for each maker
  pub origins : table.origins ≡ map (origin_of jobs.jobs) jobs.makers
  pub targets : table.targets ≡ map (target_of jobs) asked
  -- each once, in the order in which they are awaited
  pub awaited : table.awaited ≡ distinct same_path (all_spots jobs asked)
  -- and for each job those that read or gather from what it makes
  pub watched : AreWatched table.lines table.origins table.watchers.items

-- The table is that of the jobs where they are judged, and of the targets that are asked for.
pub record IsTableAt (at : Judging) (jobs : Jobs) (table : Table) : Type 0 where
  pub told : IsTableOf jobs at.settings.targets table
  pub served : AreServed jobs at.settings.targets
