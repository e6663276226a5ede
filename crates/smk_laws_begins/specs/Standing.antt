-- Where a run stands between its turns, and which turn may come next.
use Rattle.std.specs.Prelude.{◌≡◌, ◌≢◌, ◌<◌, ◌+◌, ℕ, Bool, true, false, ◌||◌, List, [], length, is_none, nat_eq, Option, Some, None, Ok}
use Rattle.std.specs.List.{list_all}
use Rattle.smk_world.specs.World.{World}
use Rattle.smk_world.specs.Devices.{Device, IsSoundDevice, Sunk, WhereTold}
use Rattle.smk_world.specs.Trees.{Act}
use Rattle.smk_flow.specs.Flows.{Flow}
use Rattle.smk_pick.specs.declared.settings.Settings.{Settings}
use Rattle.smk_plan.specs.declared.wholes.Wholes.{Wholes}
use Rattle.smk_plan_live.specs.Lives.{AreWhole, IsLive}
use Rattle.smk_drive_pick.specs.Picking.{IsNextIn}
use Rattle.smk_drive_step.specs.declared.children.Child.{Child}
use Rattle.smk_drive_step.specs.Crews.{IsPutFor, goings}
use Rattle.smk_drive_course.specs.Stands.{NoneLeft}
use Rattle.smk_drive_course.specs.Steps.{MaySpend}
use Rattle.smk_laws_turns.specs.Hubs.{Parts}
use Rattle.smk_drive_hub.specs.Turned.{AreSeated, IsSteady, Somewhere, WhereUnhalted}
use Rattle.smk_laws_begins.specs.Opened.{OpenedIsAt}
use Rattle.smk_laws_begins.specs.Gone.{HasGone}
use Rattle.smk_laws_begins.specs.Whole.{HasBegunRun}

-- ## Between turns

-- A turn may come: the run stands somewhere, where a world is told; and what it keeps is sound.
pub record IsReady (flow : Flow) (settings : Settings) (h : Parts) (d : Device) : Type 0 where
  pub somewhere : WhereTold d (Somewhere flow settings h)
  pub live : IsLive h.live
  pub steady : IsSteady flow settings h
  pub seated : AreSeated h.places d.running

-- It may as a run begins, and after any turns.
abbrev pub ReadyAtStart : Type 0
ReadyAtStart =
    (act : Act) (flow : Flow) (settings : Settings) (h : Parts) (a b : Device) →
    OpenedIsAt → IsSoundDevice a → a.running ≡ [] → HasBegunRun act flow settings (Ok h) a b → IsReady flow settings h b

abbrev pub ReadyOn : Type 0
ReadyOn =
    (act : Act) (flow : Flow) (settings : Settings) (h k : Parts) (unwaited : Bool) (a b : Device) (p q : Sunk) →
    IsReady flow settings h a → HasGone act flow settings h k unwaited a b p q → IsReady flow settings k b

-- ## What comes next

-- jobs begin as far as no fault has come: none has failed, or the run is to go on
abbrev pub may_go_on : Settings → Parts → Bool
may_go_on settings h = nat_eq h.tally.failed 0 || settings.keep_going

-- no job may begin by the plan that is kept, in the room that is left
pub record HasNoNext (h : Parts) : Type 0 where
  pub wholes : Wholes
  pub whole : AreWhole h.live.base wholes
  pub next : IsNextIn h.live wholes h.room None

-- No job begins now: a fault has come; or a job has failed, and the run isn't to go on; or none may.
pub data IsOver (settings : Settings) (h : Parts) : Type 0 where
  IsHalted : h.halt.fault ≢ None → IsOver settings h
  IsStopped : may_go_on settings h ≡ false → IsOver settings h
  IsIdle : HasNoNext h → IsOver settings h

-- Then nothing that may start is left.
abbrev pub OverHasNoneLeft : Type 0
OverHasNoneLeft =
    (flow : Flow) (settings : Settings) (h : Parts) (w : World) → IsOver settings h → WhereUnhalted NoneLeft flow settings h w

-- And outputs may be spent, unless a job has failed and the run isn't to go on; as they may once a job was started.
abbrev pub OverMaySpend : Type 0
OverMaySpend =
    (flow : Flow) (settings : Settings) (h : Parts) (w : World) →
    IsOver settings h → may_go_on settings h ≡ true → WhereUnhalted MaySpend flow settings h w

abbrev pub StartedMaySpend : Type 0
StartedMaySpend = (flow : Flow) (settings : Settings) (h : Parts) (w : World) → 0 < h.tally.started → WhereUnhalted MaySpend flow settings h w

-- ## Places

-- how many places are taken
abbrev pub taken : List (Option Child) → ℕ
taken places = length (goings places)

-- it is one more where a child was put, and one less where one was taken away; and none just where all are free
abbrev pub OneMoreTaken : Type 0
OneMoreTaken = (c : Child) (were are : List (Option Child)) → IsPutFor None (Some c) were are → taken are ≡ taken were + 1

abbrev pub OneLessTaken : Type 0
OneLessTaken = (c : Child) (were are : List (Option Child)) → IsPutFor (Some c) None were are → taken were ≡ taken are + 1

abbrev pub SomeTaken : Type 0
SomeTaken = (places : List (Option Child)) → list_all is_none places ≡ false → 0 < taken places
