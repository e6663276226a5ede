-- One plan of a chain, as it is made from what was loaded, derived and seen.
use Rattle.std.specs.Prelude.{◌≡◌, ◌<◌, ℕ, true, List, [], map, Option, Result, Ok, Err}
use Rattle.smk_world.specs.Trees.{Path}
use Rattle.smk_flow.specs.Flows.{Flow}
use Rattle.smk_choose.specs.declared.sources.Sources.{Sources as Told}
use Rattle.smk_choose.specs.Told.{told_by}
use Rattle.smk_record.specs.declared.record.Record.{Record}
use Rattle.smk_store.specs.Images.{Image}
use Rattle.smk_chain.specs.declared.jobs.Jobs.{Jobs}
use Rattle.smk_chain.specs.Derive.{Listings, Refusal, Derived, Refused, sources_of, jobs, job_refusals, outcome, derivation}
use Rattle.smk_chain_sight.specs.Sight.{SameOnReach, IsSmall, IsLarge}
use Rattle.smk_pick.specs.declared.settings.Settings.{Settings}
use Rattle.smk_plan.specs.States.{Plan, IsPlan, LastPlan, nothing_done, is_current, new_listings}
use Rattle.smk_report.specs.declared.fault.Fault.{Fault}
use Rattle.smk_report.specs.declared.fault.Fault.TheVariants as fault
use Rattle.smk_drive.specs.Refusals.{IsFault, refused_of, ChainRefuses}
use Rattle.smk_plan_facts.specs.Facts.{AreMade, TellSources}
use Rattle.smk_plan_states.specs.Served.{AreServed}
use Rattle.smk_plan_table.specs.Plans.{TellTargets}
use Rattle.smk_plan_preview.specs.declared.rounds.Round.{Round}
use Rattle.smk_plan_preview.specs.Faults.{is_told}
use Rattle.smk_plan_preview.specs.Previewing.{rules_for}

module _ (flow : Flow) (targets : List Path) (L : Listings) (image : Image) where
  -- ## Sources

  -- There are too many paths to look at.
  pub record HasTooMany (f : Fault) : Type 0 where
    pub count : ℕ
    pub is : f ≡ fault.TooManyPaths count
    pub found : 100000 < count
    pub many : IsLarge flow (sources_of image) L targets

  -- What is told of sources is so wherever it matters, and leads to the derivation by the folder.
  pub record IsSighted (sources : Told) : Type 0 where
    pub few : IsSmall flow (sources_of image) L targets
    pub reached : SameOnReach flow (sources_of image) L targets (told_by sources)
    pub same : outcome (job_refusals flow (told_by sources) image L targets) (jobs flow (told_by sources) L targets)
        ≡ outcome (job_refusals flow (sources_of image) image L targets) (jobs flow (sources_of image) L targets)

  abbrev pub Sights : Result Told Fault → Type 0
  Sights (Ok sources) = IsSighted sources
  Sights (Err f) = is_told f ≡ true → HasTooMany f

  -- ## Jobs

  -- The jobs are those of the derivation, and what is told of makers and sources is so.
  pub record AreReady (made : Jobs) : Type 0 where
    pub derived : derivation flow image L targets ≡ Derived made.jobs
    pub served : AreServed made targets
    pub built : AreMade made
    pub read : TellSources image made
    pub asked : TellTargets image made targets

  -- the derivation is refused, with this fault
  pub record IsRefusedFirst (f : Fault) : Type 0 where
    pub refusal : Refusal
    pub first : derivation flow image L targets ≡ Refused refusal
    pub is : IsFault flow refusal f

  abbrev pub Derives : Result Jobs Fault → Type 0
  Derives (Ok made) = AreReady made
  Derives (Err f) = is_told f ≡ true → IsRefusedFirst f

-- ## Rounds

-- the plan of a round
abbrev pub plan_in : Round → Plan
plan_in r = record { lists = r.jobs.lists; jobs = r.jobs.jobs; states = r.plan.states }

module _ (read : List ℕ → Option Record) (flow : Flow) (settings : Settings) (image : Image) where
  -- The plan is one of the chain; these targets are current and these listings become known by it, and nothing is refused of it.
  pub record IsRound (r : Round) : Type 0 where
    pub plan : IsPlan flow image settings nothing_done (plan_in r)
    pub current : r.plan.current ≡ map (is_current image settings nothing_done (plan_in r)) settings.targets
    pub known : r.plan.known ≡ new_listings image settings nothing_done (plan_in r)
    pub unrefused : refused_of (rules_for read flow settings) image nothing_done (plan_in r) ≡ []
    pub served : AreServed r.jobs settings.targets

  -- the plan of these listings, or the first refusal of the chain from them
  abbrev pub HasRound : Listings → Result Round Fault → Type 0
  HasRound L (Ok r) = IsRound r
  HasRound L (Err f) = is_told f ≡ true → ChainRefuses (rules_for read flow settings) image nothing_done L f

  -- where the chain from these listings leads, that from none leads too
  pub record Leads (L : Listings) : Type 0 where
    pub last : (p : Plan) → LastPlan flow image settings nothing_done L p → LastPlan flow image settings nothing_done [] p
    pub refused : (f : Fault) → ChainRefuses (rules_for read flow settings) image nothing_done L f → ChainRefuses (rules_for read flow settings) image nothing_done [] f

  -- the last plan of the chain that begins with no listings
  pub record IsLast (r : Round) : Type 0 where
    pub last : LastPlan flow image settings nothing_done [] (plan_in r)
    pub current : r.plan.current ≡ map (is_current image settings nothing_done (plan_in r)) settings.targets
    pub unrefused : refused_of (rules_for read flow settings) image nothing_done (plan_in r) ≡ []
    pub served : AreServed r.jobs settings.targets

  -- it, or the first refusal of the chain
  abbrev pub HasChain : Result Round Fault → Type 0
  HasChain (Ok r) = IsLast r
  HasChain (Err f) = is_told f ≡ true → ChainRefuses (rules_for read flow settings) image nothing_done [] f
