-- What a plan is to grow by, with some listings.
use Rattle.std.specs.Prelude.{◌≡◌, ◌⊎◌, ℕ, true, List, Option, Result, Ok, Err}
use Rattle.smk_world.specs.Trees.{Path, among}
use Rattle.smk_world.specs.World.{World}
use Rattle.smk_record.specs.declared.record.Record.{Record}
use Rattle.smk_flow.specs.Flows.{Flow}
use Rattle.smk_store.specs.Images.{is_source, seen}
use Rattle.smk_store.specs.Loading.{IsStoreOf}
use Rattle.smk_chain.specs.Derive.{Listings}
use Rattle.smk_pick.specs.declared.settings.Settings.{Settings}
use Rattle.smk_plan_facts.specs.Facts.{told_sources}
use Rattle.smk_plan_look.specs.Seeing.{AreSeenUnowned, AreSummedUnowned}
use Rattle.smk_plan_preview.specs.Faults.{is_told}
use Rattle.smk_plan_preview.specs.Rounds.{AreReady, HasTooMany, IsRefusedFirst}
use Rattle.smk_plan_live.specs.Live.{LivePlan}
use Rattle.smk_report.specs.declared.fault.Fault.{Fault}
use Rattle.smk_laws_turns.specs.Growing.{IsMoreOf, IsMoreRefusal}
use Rattle.smk_drive_more.specs.declared.looking.More.{More}

module _ (read : List ℕ → Option Record) (flow : Flow) (settings : Settings) (w : World) where
  -- The jobs are those that are derived with their listings, and what none of them makes are sources; the store is the folder's; and of their outputs and sources that is seen which no child owns.
  pub record IsFoundBy (m : More) : Type 0 where
    pub stored : IsStoreOf (seen read w) m.store
    pub ready : AreReady flow settings.targets m.jobs.lists (seen read w) m.jobs
    pub sourced : (p : Path) → among (told_sources m.jobs.makers) p ≡ true → is_source (seen read w) p ≡ true
    pub saw : AreSeenUnowned w (seen read w) m.jobs m.seen
    pub summed : AreSummedUnowned w (seen read w) m.jobs m.seen

  -- the derivation with these listings is refused, with this fault
  abbrev pub IsRefusedWith : Listings → Fault → Type 0
  IsRefusedWith L f = HasTooMany flow settings.targets L (seen read w) f ⊎ IsRefusedFirst flow settings.targets L (seen read w) f

  -- so it was found with these listings, or is refused
  abbrev pub HasFound : Listings → Result More Fault → Type 0
  HasFound L (Ok m) = IsFoundBy m
  HasFound L (Err f) = is_told f ≡ true → IsRefusedWith L f

  -- what the kept plan is to grow by, or how that is refused
  abbrev pub HasMore : LivePlan → Result More Fault → Type 0
  HasMore live (Ok m) = IsMoreOf read flow settings w live m.jobs m.store m.seen
  HasMore live (Err f) = is_told f ≡ true → IsMoreRefusal read flow settings w live f
