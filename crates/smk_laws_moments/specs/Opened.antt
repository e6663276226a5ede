-- A stand of a run and the state of the protocol: which jobs are open, with what they were begun.
use Rattle.std.specs.Prelude.{◌≡◌, ◌≢◌, ◌⊎◌, ◌+◌, ◌<◌, ◌^◌, ℕ, true, List, [], ◌∷◌, map, filter, length, Some, None}
use Rattle.std.specs.List.{flat_map}
use Rattle.smk_world.specs.World.{World, out_paths}
use Rattle.smk_world.specs.Trees.{Path, IsIn, Each}
use Rattle.smk_record.specs.declared.record.Record.{Record}
use Rattle.smk_record.specs.declared.record.Stamp.{Stamp}
use Rattle.smk_store.specs.Images.{Image, core_at}
use Rattle.smk_flow.specs.declared.job.Job.{Job}
use Rattle.smk_trigger.specs.declared.reason.State.{State}
use Rattle.smk_trigger.specs.JobStates.{is_restore}
use Rattle.smk_plan.specs.States.{Plan, none_or_one}
use Rattle.smk_chain.specs.Derive.{listing}
use Rattle.smk_plan.specs.States as plans
use Rattle.smk_job.specs.Jobs.{Underway, too_long}
use Rattle.smk_run.specs.Runs.{AreWritable}
use Rattle.smk_laws_protocol.specs.Protocol.{OpenJob, RunState, Phase, Marking, Running, Ended}
use Rattle.smk_drive.specs.Moments.{Rules, Begun, greatest, draws, seen}
use Rattle.smk_drive_course.specs.Stands.{Stand, lists}

-- ## Jobs

-- a job with these stamps and this serial, in a phase of the protocol; where it is restored it has found these records
abbrev pub opened : Underway → List (Path × Record) → Phase → OpenJob
opened going kept phase =
    record { recipe = going.recipe; logs = going.logs; stamps = going.stamps; serial = going.made; kept = kept; phase = phase }

-- the same as it begins
abbrev pub beginning : Job → ℕ → List Stamp → List (Path × Record) → OpenJob
beginning j made stamps kept = record { recipe = j.recipe; logs = j.logs; stamps = stamps; serial = made; kept = kept; phase = Marking }

-- the record of the output, but for its members, where one stands
abbrev pub found_at : Image → Path → List (Path × Record)
found_at image p = map (λ (r : Record). (p, r)) (none_or_one (core_at image p))

-- what a job that begins in this state finds of records that it keeps: those of its outputs, where it is restored
abbrev pub found_by : Image → Job × State → List (Path × Record)
found_by image e = flat_map (λ (s : State). flat_map (found_at image) (out_paths e.0.recipe)) (filter is_restore (e.1 ∷ []))

-- ## Children that run

-- A child that runs is one of a job that has begun, with the stamps and the serial of that job, and it is open in the protocol; its records can be
-- written.
pub record IsOpen (s : Stand) (jobs : List OpenJob) (going : Underway) : Type 0 where
  pub begun : Begun
  pub has_begun : IsIn s.begun begun
  pub unended : begun.ended ≡ None
  pub recipe : begun.job.recipe ≡ going.recipe
  pub logs : begun.job.logs ≡ going.logs
  pub serial : begun.serial ≡ going.made
  pub stamps : begun.stamps ≡ map Some going.stamps
  pub kept : List (Path × Record)
  pub is_open : IsIn jobs (opened going kept (Running going.number))
  -- it has kept records just where it is restored
  pub restored : is_restore begun.state ≡ true → kept ≢ []
  pub drawn : (is_restore begun.state ≡ true → ⊥) → kept ≡ []
  pub makes : out_paths going.recipe ≢ []
  pub fits : going.made < 2 ^ 64
  pub writable : AreWritable going.made going.recipe going.stamps
  pub short : too_long going.made going.recipe going.stamps ≡ None

-- An open job is that of a child of the stand; or its child has ended, and it was left: there was no memory to close it, or a call had failed before.
pub data IsOf (s : Stand) : OpenJob → Type 0 where
  Runs : (going : Underway) (kept : List (Path × Record)) → IsIn s.runs going → IsOf s (opened going kept (Running going.number))
  IsLeft : (going : Underway) (kept : List (Path × Record)) (status : ℕ) → s.halted ≢ None → IsOf s (opened going kept (Ended status))

-- ## Stands

-- The state of the protocol at a stand of a run from this entry: its open jobs are those whose children run, and those that were left open. As long as
-- no fault has come, serials were drawn from the greatest one of the entry on, and what was found of earlier runs is firm. A call has failed just where the run
-- waits for children alone, which is a fault.
pub record IsStateOf (rules : Rules) (entry : World) (s : Stand) (state : RunState) : Type 0 where
  pub running : Each (IsOpen s state.jobs) s.runs
  pub jobs : Each (IsOf s) state.jobs
  pub top : s.halted ≡ None → state.top ≡ greatest rules (seen rules entry) + length (filter (draws rules) s.begun)
  pub steady : s.halted ≡ None → state.steady ≡ true
  pub faulted : state.faulted ≡ s.broken
  pub halted : s.broken ≡ true → s.halted ≢ None

-- Each job whose child runs is a job of the plan in force, and each directory that it gathers from and that a job makes has a listing by then.
pub record IsPlannedStill (s : Stand) (plan : Plan) (going : Underway) : Type 0 where
  pub job : Job
  pub planned : IsIn plan.jobs job
  pub recipe : job.recipe ≡ going.recipe
  pub logs : job.logs ≡ going.logs
  pub begun : Begun
  pub has_begun : IsIn s.begun begun
  pub is_job : begun.job ≡ job
  pub listed : Each (λ d. (plans.maker_of plan d ≡ None) ⊎ (listing plan.lists d ≢ None)) (plans.gathers_from job)

-- each job whose child runs is so planned, where a plan is in force
abbrev pub AreStillPlanned : Stand → Type 0
AreStillPlanned s = (plan : Plan) → s.plan ≡ Some plan → Each (IsPlannedStill s plan) s.runs
