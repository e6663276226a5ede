-- The commands of jobs that have their turns have no fault, where those of the plan have none.
use Rattle.std.proofs.Common.{◌≡◌, ℕ, suc, List, [], ◌∷◌, length, refl, ap, Option, Some, None, sym}
use Rattle.std.specs.Prelude.{zip}
use Rattle.std.proofs.lemmas.Option.{none-some}
use Rattle.smk_run.proofs.Choosing.{good_one}
use Rattle.smk_flow.specs.declared.job.Job.{Job}
use Rattle.smk_flow.specs.Flows.{Flow}
use Rattle.smk_trigger.specs.declared.reason.State.{State}
use Rattle.smk_trigger.specs.declared.reason.State.TheVariants.{Restore}
use Rattle.smk_report.specs.declared.fault.Fault.{Fault}
use Rattle.smk_format.specs.Refused.{state_fault, or_later, command_fault}
use Rattle.smk_plan.specs.declared.duty.Duty.{Duty}
use Rattle.smk_plan.specs.declared.duty.Duty.TheVariants as duty
use Rattle.smk_run.specs.Duties.{due_from}
use Rattle.smk_plan.specs.Duties.{AreFor}
use Rattle.smk_run.specs.Runs.{AreGood}

none_first : (a b : Option Fault) → or_later a b ≡ None → a ≡ None
none_first None b e = refl
none_first (Some f) b e = absurd (none-some f (sym e))

none_later : (a b : Option Fault) → or_later a b ≡ None → b ≡ None
none_later None b e = e
none_later (Some f) b e = absurd (none-some f (sym e))

good_from : (flow : Flow) (cores : ℕ) (serial : ℕ → Option ℕ) (n : ℕ) (states : List State) (duties : List Duty) (jobs : List Job) → AreFor states duties → command_fault flow cores (zip jobs states) ≡ None
    → AreGood flow cores (due_from serial n duties jobs)
good_from flow cores serial n [] [] jobs for none = tt
good_from flow cores serial n [] (d ∷ duties) jobs for none = absurd for
good_from flow cores serial n (s ∷ states) [] jobs for none = absurd for
good_from flow cores serial n (s ∷ states) (d ∷ duties) [] for none = tt
good_from flow cores serial n (s ∷ states) (duty.Rest made ∷ duties) (job ∷ jobs) for none =
    good_from flow cores serial (suc n) states duties jobs for.1 (none_later (state_fault flow cores job s) (command_fault flow cores (zip jobs states)) none)
good_from flow cores serial n (s ∷ states) (duty.Restore made ∷ duties) (job ∷ jobs) for none = (
  good_one flow cores job s for.0 (none_first (state_fault flow cores job s) (command_fault flow cores (zip jobs states)) none),
  good_from flow cores serial (suc n) states duties jobs for.1 (none_later (state_fault flow cores job s) (command_fault flow cores (zip jobs states)) none),
)
good_from flow cores serial n (s ∷ states) (duty.Run ∷ duties) (job ∷ jobs) for none = (
  good_one flow cores job s for.0 (none_first (state_fault flow cores job s) (command_fault flow cores (zip jobs states)) none),
  good_from flow cores serial (suc n) states duties jobs for.1 (none_later (state_fault flow cores job s) (command_fault flow cores (zip jobs states)) none),
)

pub good_dues : (flow : Flow) (cores : ℕ) (serial : ℕ → Option ℕ) (states : List State) (duties : List Duty) (jobs : List Job) → AreFor states duties → command_fault flow cores (zip jobs states) ≡ None
    → AreGood flow cores (due_from serial 0 duties jobs)
good_dues flow cores serial states duties jobs for none = good_from flow cores serial 0 states duties jobs for none

-- there is a duty for each state
pub same_length : (states : List State) (duties : List Duty) → AreFor states duties → length duties ≡ length states
same_length [] [] for = refl
same_length [] (d ∷ duties) for = absurd for
same_length (s ∷ states) [] for = absurd for
same_length (s ∷ states) (d ∷ duties) for = ap suc (same_length states duties for.1)
