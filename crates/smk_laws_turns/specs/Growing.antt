-- How the kept plan grows: directories have become known, and the jobs are derived anew with their listings, beside the children that run.
use Rattle.std.specs.Prelude.{◌≡◌, ◌++◌, ◌||◌, not, zip, is_some, ℕ, Bool, true, List, Option}
use Rattle.std.specs.List.{list_all}
use Rattle.smk_world.specs.declared.recipe.Out.{Out}
use Rattle.smk_world.specs.declared.recipe.OutItem.{OutItem}
use Rattle.smk_world.specs.Trees.{Path, among}
use Rattle.smk_world.specs.World.{World}
use Rattle.smk_record.specs.declared.record.Record.{Record}
use Rattle.smk_flow.specs.declared.job.Job.{Job}
use Rattle.smk_flow.specs.Flows.{Flow}
use Rattle.smk_store.specs.Images.{is_source, seen}
use Rattle.smk_store.specs.Loading.{IsStoreOf, store_folder}
use Rattle.smk_store.specs.Stores.{Known, entry_of}
use Rattle.smk_store.specs.Unowned.{IsUnownedUnder}
use Rattle.smk_chain.specs.declared.jobs.Jobs.{Jobs}
use Rattle.smk_chain.specs.Derive.{Listings}
use Rattle.smk_chain_sight.specs.Disk.{IsOwnedCovered}
use Rattle.smk_trigger.specs.declared.reason.State.{State}
use Rattle.smk_trigger.specs.JobStates.{is_restore}
use Rattle.smk_pick.specs.declared.settings.Settings.{Settings}
use Rattle.smk_plan.specs.declared.seen.Sight.{Sight}
use Rattle.smk_plan.specs.States.{test_some}
use Rattle.smk_plan_facts.specs.Facts.{told_sources}
use Rattle.smk_plan_look.specs.Seeing.{AreSeenUnowned, AreSummedUnowned}
use Rattle.smk_plan_preview.specs.Rounds.{AreReady, HasTooMany, IsRefusedFirst}
use Rattle.smk_plan_live.specs.declared.base.Base.{Base}
use Rattle.smk_plan_live.specs.Live.{LivePlan}
use Rattle.smk_plan_live.specs.Now.{known_now}
use Rattle.smk_report.specs.declared.fault.Fault.{Fault}

-- The store can be loaded beside the children that run, and whatever else they own is covered in it.
pub record IsBeside (read : List ℕ → Option Record) (w : World) : Type 0 where
  pub own : IsUnownedUnder w.nodes store_folder
  pub covered : (store : List Known) → IsStoreOf (seen read w) store → IsOwnedCovered w store

-- the listings of the kept plan, and those that have become known besides
abbrev pub lists_now : LivePlan → Listings
lists_now live = live.base.jobs.lists ++ live.plan.known

-- something is known of each output of the item
abbrev pub is_known_in : List Known → Out → Bool
is_known_in known out = is_some (entry_of known out.path)

abbrev pub are_known_in : List Known → OutItem → Bool
are_known_in known item = list_all (is_known_in known) item.outs

-- the job doesn't run as a Restore, or something is known of each of its outputs
abbrev pub is_held : List Known → Job × Option State → Bool
is_held known (j, began) = not (test_some is_restore began) || list_all (are_known_in known) j.recipe.outputs

-- so it is of each job of the kept plan
abbrev pub are_held : Base → Bool
are_held b = list_all (is_held (known_now b)) (zip b.jobs.jobs b.began)

module _ (read : List ℕ → Option Record) (flow : Flow) (settings : Settings) (w : World) (live : LivePlan) where
  -- What the plan is to grow by: the jobs that are derived with the listings of now, of which it is told what no job makes, all of them sources; the store; and what
  -- was seen at outputs and sources that no child owns, with the SHA-256 that records need.
  pub record IsMoreOf (jobs : Jobs) (store : List Known) (fresh : List Sight) : Type 0 where
    pub lists : jobs.lists ≡ lists_now live
    pub stored : IsStoreOf (seen read w) store
    pub ready : AreReady flow settings.targets jobs.lists (seen read w) jobs
    pub sourced : (p : Path) → among (told_sources jobs.makers) p ≡ true → is_source (seen read w) p ≡ true
    pub held : are_held live.base ≡ true
    pub saw : AreSeenUnowned w (seen read w) jobs fresh
    pub summed : AreSummedUnowned w (seen read w) jobs fresh

  -- The derivation with the listings of now is refused, with this fault.
  pub data IsMoreRefusal (f : Fault) : Type 0 where
    TooMany : HasTooMany flow settings.targets (lists_now live) (seen read w) f → IsMoreRefusal f
    Refuses : IsRefusedFirst flow settings.targets (lists_now live) (seen read w) f → IsMoreRefusal f
