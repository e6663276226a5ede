-- Where a run stands while its plan grows at a rest, and where that leads.
use Rattle.std.specs.Prelude.{◌≡◌, ◌≢◌, ◌⊎◌, Bool, true, false, List, [], map, Some, None, IsTrue}
use Rattle.smk_world.specs.declared.event.Event.{Event}
use Rattle.smk_world.specs.Calls.{HasOwners}
use Rattle.smk_world.specs.Devices.{AreLooks}
use Rattle.smk_world.specs.Runs.{Follows}
use Rattle.smk_world.specs.Trees.{Act, IsIn, Path, among}
use Rattle.smk_world.specs.World.{World, run}
use Rattle.smk_flow.specs.Flows.{Flow}
use Rattle.smk_store.specs.Images.{is_source}
use Rattle.smk_chain.specs.Derive.{Derived, derivation}
use Rattle.smk_pick.specs.declared.settings.Settings.{Settings}
use Rattle.smk_plan_facts.specs.Facts.{told_sources}
use Rattle.smk_plan_live.specs.Lives.{IsAgreed, IsLive, progress_of}
use Rattle.smk_report.specs.declared.fault.Fault.{Fault}
use Rattle.smk_report.specs.declared.fault.Fault.TheVariants as fault
use Rattle.smk_drive.specs.Moments.{Begun, Rules, is_rest, seen}
use Rattle.smk_drive.specs.Moments as moments
use Rattle.smk_drive.specs.Refusals.{ChainRefuses, ComesTo}
use Rattle.smk_drive_pick.specs.Picking.{AreAlike}
use Rattle.smk_drive_step.specs.Crews.{goings, halted_by}
use Rattle.smk_drive_course.specs.Stands.{GoesBy, IsClear, IsReplanned, Stand, lists}
use Rattle.smk_drive_first.specs.Opening.{AreRules}
use Rattle.smk_laws_turns.specs.Resting.{IsSameRun, refused_command}
use Rattle.smk_laws_moments.specs.Staying.{IsListed}
use Rattle.smk_laws_turns.specs.Hubs.{AreChildrenOf, AreRunning, IsCrew, IsHome, IsOurs, Parts, asks_in, child_of, plan_of}
use Rattle.smk_laws_turns.specs.GrowingRounds.{HasGrownOn, IsGrownBy}

-- A stand has come about in this world, where no fault came: all is at rest. What is kept agrees with the folder and has come as far; and its plan is one to which
-- the chain comes from the listings of the plan before. What none of its jobs makes are sources that the run found; each job that has begun is one of the plan, and
-- listed; and each child is that of a job that runs by the plan.
pub record IsOnward (rules : Rules) (entry w : World) (u : Stand) (h : Parts) : Type 0 where
  pub live : IsLive h.live
  pub settings : h.live.settings ≡ rules.settings
  pub derived : derivation rules.flow (seen rules entry) h.live.base.jobs.lists rules.settings.targets ≡ Derived h.live.base.jobs.jobs
  pub home : IsHome entry w
  pub owners : HasOwners w
  pub ours : IsOurs rules entry h.live.base.jobs.jobs w
  pub sourced : (p : Path) → among (told_sources h.live.base.jobs.makers) p ≡ true → is_source (seen rules entry) p ≡ true
  pub planned : (b : Begun) → IsIn u.begun b → IsIn h.live.base.jobs.jobs b.job
  pub listed : (b : Begun) → IsIn u.begun b → IsListed (seen rules entry) h.live.base.jobs.lists b.job
  pub crew : IsCrew h.places u.runs
  pub children : w.children ≡ map child_of u.runs
  pub theirs : AreChildrenOf h.live.base.jobs.jobs u.begun h.places
  pub running : AreRunning h.live h.places
  pub unhalted : u.halted ≡ None
  pub at_rest : IsTrue (is_rest w u.begun)
  pub agrees : IsAgreed (seen rules w) rules.settings h.live.base
  pub progressed : AreAlike (moments.progress_of w u.begun) (progress_of h.live.base)
  pub comes : ComesTo rules (seen rules w) (moments.progress_of w u.begun) (lists u) h.live.base.jobs.lists

-- So it is after one more round, where nothing is refused of the commands of the plan before.
abbrev pub RoundGoesOn : Type 0
RoundGoesOn =
    (flow : Flow) (settings : Settings) (rules : Rules) (entry w : World) (u : Stand) (h k : Parts) →
    AreRules flow settings rules →
    IsOnward rules entry w u h →
    refused_command flow settings h.live ≡ None → h.live.plan.known ≢ [] → IsGrownBy flow settings w h k → IsOnward rules entry w u k

-- The run goes by the plan that has come, or by what was refused of its chain, or memory is wanting.
pub record HasGrownBy (rules : Rules) (entry w : World) (u : Stand) (events : List Event) (k : Parts) : Type 0 where
  pub next : Stand
  pub to : Stand
  pub replanned : IsReplanned rules u w next
  pub goes_by : GoesBy rules entry next w events to
  pub same : IsSameRun u to
  pub halted : to.halted ≡ k.halt.fault
  pub plan : k.halt.fault ≡ None → to.plan ≡ Some (plan_of k.live)
  pub clear : k.halt.fault ≡ None → IsClear rules to w events
  pub known : k.halt.fault ≡ None → k.live.plan.known ≡ []
  pub refused :
      (f : Fault) →
      k.halt.fault ≡ Some f → (f ≡ fault.OutOfMemory) ⊎ ChainRefuses rules (seen rules w) (moments.progress_of w u.begun) (lists u) f

-- The plan of a run has grown, in whatever rounds: what is kept then stands so, too, and beside it just the plan, the numbers of its children and the fault have
-- changed; and the run goes by it, or a look has failed.
pub record HasGrownTo (rules : Rules) (entry w : World) (u : Stand) (events : List Event) (h k : Parts) (looks : List Event) : Type 0 where
  -- a look has failed
  pub failed : Bool
  pub looked : AreLooks failed looks
  pub onward : IsOnward rules entry (run w looks) u k
  pub others : k ≡ record h { live = k.live; places = k.places; halt = k.halt }
  pub goings : goings k.places ≡ goings h.places
  pub asks : asks_in k.places ≡ asks_in h.places
  pub broken : failed ≡ true → k.halt ≡ halted_by fault.Device h.halt
  pub waits : failed ≡ false → k.halt.only_waits ≡ h.halt.only_waits
  pub gone : failed ≡ false → HasGrownBy rules entry (run w looks) u events k

abbrev pub GrowthGoesOn : Type 0
GrowthGoesOn =
    (act : Act) (flow : Flow) (settings : Settings) (rules : Rules) (entry w : World) (u : Stand) (events : List Event) (h k : Parts) (looks : List Event) →
    AreRules flow settings rules →
    IsOnward rules entry w u h →
    h.halt.fault ≡ None → HasGrownOn flow settings w h k looks → Follows act w looks → HasGrownTo rules entry w u events h k looks
