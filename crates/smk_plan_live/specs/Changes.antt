-- What a plan that is kept is as it begins, once a job has begun, once it was closed, and once new jobs have come.
use Rattle.std.specs.Prelude.{◌≡◌, ℕ, List, map, Some, None}
use Rattle.std.specs.List.{slice_get}
use Rattle.std.specs.Option.{option_or}
use Rattle.smk_world.specs.Trees.{Path}
use Rattle.smk_flow.specs.declared.job.Job.{Job}
use Rattle.smk_store.specs.declared.store.Entry.{Entry}
use Rattle.smk_store.specs.Stores.{Known}
use Rattle.smk_chain.specs.declared.jobs.Jobs.{Jobs}
use Rattle.smk_trigger.specs.declared.reason.State.{State}
use Rattle.smk_pick.specs.declared.settings.Settings.{Settings}
use Rattle.smk_plan.specs.declared.fault.PlanFault.{PlanFault}
use Rattle.smk_plan.specs.declared.seen.Sight.{Sight}
use Rattle.smk_plan.specs.Sights.{sight_at}
use Rattle.smk_plan_live.specs.declared.base.Base.{Base}
use Rattle.smk_plan_live.specs.Live.{LivePlan}
use Rattle.smk_plan_live.specs.declared.phase.Phase.TheVariants.{Waiting, Closed}
use Rattle.smk_plan_live.specs.Now.{seen_before}
use Rattle.smk_plan_live.specs.Carried.{advanced, begun, spent, phase_from, began_from, entries_from, sights_from, with_seen}
use Rattle.smk_plan_live.specs.Lives.{IsRefusedNow, IsSound}

-- ## None has begun

-- These are the jobs, none of which has begun; all is known by the store, and was seen as this tells.
pub record IsFirst (jobs : Jobs) (store : List Known) (seen : List Sight) (b : Base) : Type 0 where
  pub now : b.jobs ≡ jobs
  pub stored : b.store ≡ store
  pub saw : (q : Path) → seen_before b q ≡ sight_at seen q
  pub entries : b.entries ≡ map (λ (j : Job). None) jobs.jobs
  pub sights : b.sights ≡ map (λ (j : Job). None) jobs.jobs
  pub phases : b.phases ≡ map (λ (j : Job). Waiting) jobs.jobs
  pub began : b.began ≡ map (λ (j : Job). None) jobs.jobs

-- ## A job begins or is closed, an output is removed

-- The job, whose number is n, has begun with the state that it had: its outputs are marked, and nothing stands at them. Nothing else has changed.
pub record HasBegun (n : ℕ) (old new : LivePlan) : Type 0 where
  pub settings : new.settings ≡ old.settings
  pub state : State
  pub had : slice_get old.plan.states n ≡ Some state
  pub job : Job
  pub is : slice_get old.base.jobs.jobs n ≡ Some job
  pub base : new.base ≡ begun n state job old.base

-- The job of the number n would begin, with the state that it has, and that plan is refused.
abbrev pub IsRefusedBegun : ℕ → LivePlan → PlanFault → Type 0
IsRefusedBegun n old fault =
    (state : State) → slice_get old.plan.states n ≡ Some state →
    (j : Job) → slice_get old.base.jobs.jobs n ≡ Some j → IsRefusedNow old.settings (begun n state j old.base) fault

-- The job, whose number is n, was closed with these entries and sights; nothing else has changed.
pub record HasClosed (n : ℕ) (entries : List Entry) (sights : List Sight) (old new : LivePlan) : Type 0 where
  pub settings : new.settings ≡ old.settings
  pub base : new.base ≡ advanced n Closed None (map Some entries) (map Some sights) old.base

-- The output was removed: nothing stands there; nothing else has changed.
pub record HasSpent (gone : Path) (old new : LivePlan) : Type 0 where
  pub settings : new.settings ≡ old.settings
  pub base : new.base ≡ spent gone old.base

-- ## New jobs come

-- These are the jobs now; those that were there before, by their first outputs, have come as far as they had, run as they did, and have what was known of their
-- outputs and was seen at them. All else is known by the store, and was seen as it was before, but for what is fresh.
pub record IsGrown (jobs : Jobs) (store : List Known) (fresh : List Sight) (old new : Base) : Type 0 where
  pub now : new.jobs ≡ jobs
  pub stored : new.store ≡ store
  pub phases : new.phases ≡ map (phase_from old) jobs.jobs
  pub began : new.began ≡ map (began_from old) jobs.jobs
  pub entries : new.entries ≡ map (entries_from old) jobs.jobs
  pub sights : new.sights ≡ map (sights_from old) jobs.jobs
  pub seen : (q : Path) → seen_before new q ≡ option_or (sight_at fresh q) (seen_before old q)

-- The same, once what was seen when the plan began is put in.
abbrev pub IsGrownBut : Jobs → List Known → List Sight → Base → Base → Type 0
IsGrownBut jobs store fresh old new = IsGrown jobs store fresh old (with_seen old.seen new)

-- The jobs are these now; nothing else has changed.
pub record HasGrown (jobs : Jobs) (store : List Known) (fresh : List Sight) (old new : LivePlan) : Type 0 where
  pub settings : new.settings ≡ old.settings
  pub base : IsGrown jobs store fresh old.base new.base

-- so it would be, and that plan is refused
pub record IsRefusedGrown (settings : Settings) (jobs : Jobs) (store : List Known) (fresh : List Sight) (old : Base) (fault : PlanFault) : Type 0 where
  pub base : Base
  pub sound : IsSound base
  pub grown : IsGrown jobs store fresh old base
  pub refused : IsRefusedNow settings base fault
