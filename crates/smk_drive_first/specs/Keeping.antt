-- The plans of a chain, each kept as it is made.
use Rattle.std.specs.Prelude.{◌≡◌, ℕ, true, List, [], Option, Result, Ok, Err, IfOk}
use Rattle.smk_record.specs.declared.record.Record.{Record}
use Rattle.smk_flow.specs.Flows.{Flow}
use Rattle.smk_store.specs.Images.{Image}
use Rattle.smk_chain.specs.declared.jobs.Jobs.{Jobs}
use Rattle.smk_chain.specs.Derive.{Listings}
use Rattle.smk_pick.specs.declared.settings.Settings.{Settings}
use Rattle.smk_plan.specs.declared.plan.Plan.{Plan as Told}
use Rattle.smk_plan.specs.States.{Plan, nothing_done}
use Rattle.smk_report.specs.declared.fault.Fault.{Fault}
use Rattle.smk_drive.specs.Refusals.{ChainRefuses}
use Rattle.smk_plan_preview.specs.Faults.{is_told}
use Rattle.smk_plan_preview.specs.Previewing.{rules_for}
use Rattle.smk_plan_preview.specs.Rounds.{IsRound, IsLast}
use Rattle.smk_plan_preview.specs.Steps.{Plans}
use Rattle.smk_plan_live.specs.Live.{LivePlan}
use Rattle.smk_plan_live.specs.Lives.{IsLive, IsAgreed, progress_of}

-- the plan that is kept
abbrev pub plan_in : LivePlan → Plan
plan_in p = record { lists = p.base.jobs.lists; jobs = p.base.jobs.jobs; states = p.plan.states }

abbrev pub as_told : Result LivePlan Fault → Result Told Fault
as_told (Ok p) = Ok p.plan
as_told (Err f) = Err f

-- The plan is kept by these settings, and none of its jobs has begun.
pub record IsFresh (settings : Settings) (p : LivePlan) : Type 0 where
  pub live : IsLive p
  pub settings_are : p.settings ≡ settings
  pub progress : progress_of p.base ≡ nothing_done

-- The plan of the jobs agrees with the image; or that is refused of it, but for commands.
pub record HasBegun (flow : Flow) (image : Image) (settings : Settings) (jobs : Jobs) (r : Result LivePlan Fault) : Type 0 where
  pub agrees : IfOk r (λ p. IsAgreed image settings p.base)
  pub plans : Plans flow image settings jobs (as_told r)

module _ (read : List ℕ → Option Record) (flow : Flow) (settings : Settings) (image : Image) where
  -- nothing is refused of the plan; or it is the first refusal of the chain from these listings
  abbrev pub HasRound : Listings → Result LivePlan Fault → Type 0
  HasRound L (Ok p) = IsRound read flow settings image (record { jobs = p.base.jobs; plan = p.plan })
  HasRound L (Err f) = is_told f ≡ true → ChainRefuses (rules_for read flow settings) image nothing_done L f

  -- it is the last plan of the chain that begins with no listings; or the first refusal of that chain
  abbrev pub HasChain : Result LivePlan Fault → Type 0
  HasChain (Ok p) = IsLast read flow settings image (record { jobs = p.base.jobs; plan = p.plan })
  HasChain (Err f) = is_told f ≡ true → ChainRefuses (rules_for read flow settings) image nothing_done [] f

  -- The plan of these listings, of which nothing is refused, agrees with the image; or it is the first refusal of the chain from them.
  pub record HasKept (L : Listings) (r : Result LivePlan Fault) : Type 0 where
    pub agrees : IfOk r (λ p. IsAgreed image settings p.base)
    pub round : HasRound L r

  -- nothing is refused of the chain from these listings
  abbrev pub NoneRefused : Listings → Type 0
  NoneRefused L = (f : Fault) → ¬ ChainRefuses (rules_for read flow settings) image nothing_done L f

  -- The last plan of the chain that begins with no listings, of which nothing is refused, agrees with the image; or it is the first refusal of that chain.
  pub record HasKeptLast (r : Result LivePlan Fault) : Type 0 where
    pub agrees : IfOk r (λ p. IsAgreed image settings p.base)
    pub chain : HasChain r
    pub unrefused : IfOk r (λ p. NoneRefused [])
