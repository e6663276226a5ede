-- What is to be done with each job of a plan.
use Rattle.std.specs.Prelude.{◌≡◌, ◌<◌, ◌≤◌, ℕ, Bool, true, false, not, List, bytes_eq, Option, Some, None, slice_get}
use Rattle.std.specs.List.{find, AllZip}
use Rattle.std.specs.Option.{option_and_then}
use Rattle.smk_world.specs.World.{in_paths}
use Rattle.smk_world.specs.Trees.{Path, Each}
use Rattle.smk_flow.specs.declared.job.Job.{Job}
use Rattle.smk_chain.specs.declared.jobs.Maker.{Maker}
use Rattle.smk_chain.specs.declared.jobs.Jobs.{Jobs}
use Rattle.smk_trigger.specs.declared.reason.State.{State}
use Rattle.smk_trigger.specs.JobStates.{is_to_run}
use Rattle.smk_plan.specs.declared.duty.Duty.{Duty}
use Rattle.smk_plan.specs.declared.duty.Duty.TheVariants.{Rest, Restore, Run}

-- the number of the job that makes the path; none for a source
abbrev pub maker_in : List Maker → Path → Option ℕ
maker_in makers p = option_and_then (λ (m : Maker). m.job) (find (λ (m : Maker). bytes_eq m.path p) makers)

-- what is done with the job that makes the path; none for a source
abbrev pub duty_for : List Maker → List Duty → Path → Option Duty
duty_for makers duties p = option_and_then (slice_get duties) (maker_in makers p)

-- ## Duties of states

-- nothing is done with it
abbrev pub rests : Duty → Bool
rests (Rest made) = true
rests (Restore made) = false
rests Run = false

-- The jobs that rest are those that are neither Dirty nor a Restore.
abbrev pub AreFor : List State → List Duty → Type 0
AreFor states duties = AllZip (λ state duty. rests duty ≡ not (is_to_run state)) states duties

-- ## Duties that can be done

-- it is below the first serial that is drawn, where there is one
abbrev pub IsOld : Option ℕ → ℕ → Type 0
IsOld None made = Unit {0}
IsOld (Some first) made = made < first

-- the serial of what is made so isn't drawn in the run, and is below this one; a source has none
abbrev pub IsKeptBelow : ℕ → Option Duty → Type 0
IsKeptBelow made None = Unit {0}
IsKeptBelow made (Some (Rest kept)) = kept < made
IsKeptBelow made (Some (Restore kept)) = kept < made
IsKeptBelow made (Some Run) = ⊥

-- This can be done with the job, where that is done with those that make its inputs. A serial that is kept is an old one; and one with which a job is
-- run again is above those of what the job reads.
abbrev pub IsServable : Option ℕ → (Path → Option Duty) → Job → Duty → Type 0
IsServable first duty job (Rest made) = IsOld first made
IsServable first duty job (Restore made) = (1 ≤ made) × IsOld first made × Each (λ p. IsKeptBelow made (duty p)) (in_paths job.recipe)
IsServable first duty job Run = Unit {0}

-- There is a duty for each job, and it can be done.
pub record AreServable (first : Option ℕ) (jobs : Jobs) (duties : List Duty) : Type 0 where
  pub each : AllZip (IsServable first (duty_for jobs.makers duties)) jobs.jobs duties
