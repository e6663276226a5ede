-- Where a run stands once it has opened.
use Rattle.std.specs.Prelude.{◌≡◌, true, List, [], Some, Ok}
use Rattle.smk_world.specs.declared.event.Event.{Event}
use Rattle.smk_world.specs.Folders.{IsTree}
use Rattle.smk_world.specs.Runs.{Follows}
use Rattle.smk_world.specs.Trees.{Act, Path, among}
use Rattle.smk_world.specs.World.{World, IsFormed, run}
use Rattle.smk_flow.specs.Flows.{Flow}
use Rattle.smk_store.specs.Images.{is_source}
use Rattle.smk_pick.specs.declared.settings.Settings.{Settings}
use Rattle.smk_plan_facts.specs.Facts.{told_sources}
use Rattle.smk_plan_live.specs.Live.{LivePlan}
use Rattle.smk_drive.specs.Moments.{Rules, seen}
use Rattle.smk_drive_course.specs.Stands.{first_stand}
use Rattle.smk_drive_course.specs.Driven.{IsOpening}
use Rattle.smk_drive_first.specs.declared.opening.Opened.{Opened}
use Rattle.smk_drive_first.specs.Opening.{AreRules, IsOpened}
use Rattle.smk_laws_turns.specs.Hubs.{IsAt, Parts, plan_of}
use Rattle.smk_drive_hub.specs.Keeping.{IsAtStart}

-- what none of the plan's jobs makes are sources in that world
abbrev pub AreSourcesAt : Rules → World → LivePlan → Type 0
AreSourcesAt rules w live = (p : Path) → among (told_sources live.base.jobs.makers) p ≡ true → is_source (seen rules w) p ≡ true

-- A run that has opened, from a folder in which no child runs, stands where its course begins.
abbrev pub OpenedIsAt : Type 0
OpenedIsAt =
    (act : Act) (flow : Flow) (settings : Settings) (rules : Rules) (entry : World) (opening : List Event) (o : Opened) (h : Parts) →
    IsFormed entry →
    IsTree entry →
    entry.children ≡ [] →
    AreRules flow settings rules →
    IsOpening rules entry (Ok tt) opening →
    Follows act entry opening →
    IsOpened rules entry o →
    AreSourcesAt rules entry o.live →
    IsAtStart settings o.live o.next h → IsAt rules entry h (first_stand (Some (plan_of o.live))) (run entry opening) opening []
