-- How a run goes on, by one step after another.
use Rattle.std.specs.Prelude.{List, [], ◌++◌}
use Rattle.smk_world.specs.declared.event.Event.{Event}
use Rattle.smk_world.specs.World.{World, run}
use Rattle.smk_drive.specs.Moments.{Rules}
use Rattle.smk_drive_course.specs.Stands.{Stand}
use Rattle.smk_drive_course.specs.Steps.{Deed}
use Rattle.smk_drive_course.specs.Breaks.{Steps}
use Rattle.smk_laws_turns.specs.Hubs.{IsAt, Parts}
use Rattle.smk_laws_turns.specs.Turning.{HasLed}

-- Steps were taken, which did this, and the run stands where they lead, with what it keeps now.
pub record HasGoneTo (rules : Rules) (entry : World) (now : Parts) (s : Stand) (w : World) (before es : List Event) (deeds more : List Deed) : Type 0 where
  pub stand : Stand
  pub steps : Steps rules entry s w before es more stand
  pub at : IsAt rules entry now stand (run w es) (before ++ es) (deeds ++ more)

-- A run that does nothing stands where it stood.
abbrev pub RestsThere : Type 0
RestsThere =
    (rules : Rules) (entry : World) (h : Parts) (s : Stand) (w : World) (before : List Event) (deeds : List Deed) →
    IsAt rules entry h s w before deeds → HasGoneTo rules entry h s w before [] deeds []

-- One step, and then others.
abbrev pub GoesOnFrom : Type 0
GoesOnFrom =
    (rules : Rules) (entry : World) (h k : Parts) (s : Stand) (w : World) (before es fs : List Event) (deeds more later : List Deed) →
    (led : HasLed rules entry h s w before es deeds more) →
    HasGoneTo rules entry k led.stand (run w es) (before ++ es) fs (deeds ++ more) later →
    HasGoneTo rules entry k s w before (es ++ fs) deeds (more ++ later)
