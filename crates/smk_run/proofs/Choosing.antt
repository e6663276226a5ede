-- The commands of the jobs that are due, by the states of all jobs.
use Rattle.std.proofs.Common.{◌≡◌, ℕ, suc, false, not, List, [], ◌∷◌, refl, sym, Option, Some, None, true≢false}
use Rattle.std.specs.List.{zip}
use Rattle.smk_flow.specs.declared.job.Job.{Job}
use Rattle.smk_flow.specs.Flows.{Flow}
use Rattle.smk_trigger.specs.declared.reason.State.{State}
use Rattle.smk_trigger.specs.declared.reason.State.TheVariants.{Open, Dirty, Restore as ToRestore, Clean}
use Rattle.smk_trigger.specs.JobStates.{is_to_run}
use Rattle.smk_report.specs.declared.fault.Fault.{Fault}
use Rattle.smk_format.specs.Refused.{job_fault, state_fault, or_later, command_fault}
use Rattle.smk_plan.specs.declared.duty.Duty.{Duty}
use Rattle.smk_plan.specs.declared.duty.Duty.TheVariants.{Rest, Restore, Run}
use Rattle.smk_plan.specs.Duties.{AreFor}
use Rattle.smk_run.specs.Duties.{due_from, due, serial_of}
use Rattle.smk_run.specs.Runs.{AreGood}

both_none : (a b : Option Fault) → or_later a b ≡ None → (a ≡ None) × (b ≡ None)
both_none None b h = (refl, h)
both_none (Some f) b h = cc

-- a job that is to run has a good command
pub good_one : (flow : Flow) (cores : ℕ) (job : Job) (state : State) → false ≡ not (is_to_run state) → state_fault flow cores job state ≡ None → job_fault flow cores job ≡ None
good_one flow cores job Open h k = absurd (true≢false (sym h))
good_one flow cores job (Dirty reasons) h k = k
good_one flow cores job ToRestore h k = k
good_one flow cores job Clean h k = absurd (true≢false (sym h))

good_from : (flow : Flow) (cores : ℕ) (serial : ℕ → Option ℕ) (n : ℕ) (jobs : List Job) (states : List State) (duties : List Duty)
    → command_fault flow cores (zip jobs states) ≡ None → AreFor states duties → AreGood flow cores (due_from serial n duties jobs)
good_from flow cores serial n jobs [] [] none h = tt
good_from flow cores serial n jobs [] (d ∷ duties) none h = absurd h
good_from flow cores serial n jobs (s ∷ states) [] none h = absurd h
good_from flow cores serial n [] (s ∷ states) (d ∷ duties) none h = tt
good_from flow cores serial n (job ∷ jobs) (s ∷ states) (Rest made ∷ duties) none h =
    good_from flow cores serial (suc n) jobs states duties (both_none (state_fault flow cores job s) (command_fault flow cores (zip jobs states)) none).1 h.1
good_from flow cores serial n (job ∷ jobs) (s ∷ states) (Restore made ∷ duties) none h =
    let both = both_none (state_fault flow cores job s) (command_fault flow cores (zip jobs states)) none in
    (good_one flow cores job s h.0 both.0, good_from flow cores serial (suc n) jobs states duties both.1 h.1)
good_from flow cores serial n (job ∷ jobs) (s ∷ states) (Run ∷ duties) none h =
    let both = both_none (state_fault flow cores job s) (command_fault flow cores (zip jobs states)) none in
    (good_one flow cores job s h.0 both.0, good_from flow cores serial (suc n) jobs states duties both.1 h.1)

pub all_good : (flow : Flow) (cores : ℕ) (first : Option ℕ) (jobs : List Job) (states : List State) (duties : List Duty)
    → command_fault flow cores (zip jobs states) ≡ None → AreFor states duties → AreGood flow cores (due first duties jobs)
all_good flow cores first jobs states duties none h = good_from flow cores (serial_of first duties) 0 jobs states duties none h
