-- What is known of outputs until their jobs begin.
use Rattle.std.specs.Prelude.{◌≡◌, Bool, false, List}
use Rattle.std.specs.List.{list_any}
use Rattle.smk_world.specs.declared.event.Event.{Event}
use Rattle.smk_world.specs.Runs.{Follows}
use Rattle.smk_world.specs.World.{World, IsFormed, out_paths}
use Rattle.smk_world.specs.Trees.{Path, Act, among}
use Rattle.smk_drive.specs.Moments.{Begun, EachMoment, Rules, seen}
use Rattle.smk_drive_course.specs.Lawful.{IsLawfulEvent}
use Rattle.smk_drive_course.specs.Moments.{AtEachEvent}

-- one of these jobs makes the path as an output
abbrev pub is_output_of : List Begun → Path → Bool
is_output_of bs o = list_any (λ (b : Begun). among (out_paths b.job.recipe) o) bs

-- Along a lawful log the record and the mark of a path are as they were at the entry, as long as no job that makes it has begun.
abbrev pub UnbegunStay : Type 0
UnbegunStay =
    (act : Act) (rules : Rules) (entry : World) (log : List Event) →
    IsFormed entry →
    Follows act entry log →
    AtEachEvent rules entry log (IsLawfulEvent rules entry) →
    EachMoment rules entry log (λ m. (o : Path) →
    is_output_of m.begun o ≡ false →
    ((seen rules m.world).kept o ≡ (seen rules entry).kept o) × ((seen rules m.world).marked o ≡ (seen rules entry).marked o))
