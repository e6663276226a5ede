-- A moment of a plan: what is told of jobs by numbers, and the states that they have by the table.
use Rattle.std.specs.Prelude.{◌≡◌, Bool, List, [], map}
use Rattle.smk_chain.specs.declared.jobs.Jobs.{Jobs}
use Rattle.smk_trigger.specs.declared.reason.State.{State}
use Rattle.smk_plan.specs.States.{is_read_now}
use Rattle.smk_plan_states.specs.declared.lines.Line.{Line}
use Rattle.smk_plan_states.specs.declared.lines.Origin.{Origin}
use Rattle.smk_plan_states.specs.declared.rows.Rows.{Rows}
use Rattle.smk_plan_states.specs.Lines.{line_of, origin_of}
use Rattle.smk_plan_states.specs.Served.{AreServed}
use Rattle.smk_plan_states.specs.Judged.{Judging, AreStates, with_states}
use Rattle.smk_plan_states.specs.Rows.{AreRowsAt}

-- These are the lines and origins of the jobs, the rows tell of them where they are judged, the flags tell whether a child reads what they made, and these are
-- their states by the table.
pub record IsMoment (at : Judging) (jobs : Jobs) (states : List State) (lines : List Line) (origins : List Origin) (rows : Rows) (used : List Bool) : Type 0 where
  pub served : AreServed jobs at.settings.targets
  pub solved : AreStates at jobs states
  pub each_line : lines ≡ map (line_of jobs at.settings.targets) jobs.jobs
  pub each_origin : origins ≡ map (origin_of jobs.jobs) jobs.makers
  pub told : AreRowsAt at jobs rows
  pub read : used ≡ map (is_read_now at.image at.settings at.progress (with_states jobs [])) jobs.jobs
