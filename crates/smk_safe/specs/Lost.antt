-- What is left of a job that failed: nothing.
use Rattle.std.specs.Prelude.{◌≡◌, true, false, List, None}
use Rattle.smk_base.specs.Path.{is_at_or_under}
use Rattle.smk_base.specs.Place.{record_place, mark_place}
use Rattle.smk_world.specs.declared.event.Event.{Event}
use Rattle.smk_world.specs.World.{World, run, firmly, out_paths}
use Rattle.smk_world.specs.Runs.{Follows}
use Rattle.smk_world.specs.Trees.{Path, Act, Each}
use Rattle.smk_run.specs.Stamps.{Serials}
use Rattle.smk_run.specs.Turns.{Turn, IsTurn, is_closed, is_done}
use Rattle.smk_safe.specs.Leaving.{MayCome}

-- Nothing is at the output or under it, and neither its record nor its mark stands; and a crash brings nothing of it back.
pub record IsLost (v : World) (p : Path) : Type 0 where
  pub output : (q : Path) → is_at_or_under q p ≡ true → v.nodes q ≡ firmly None
  pub record_gone : v.nodes (record_place p) ≡ firmly None
  pub mark_gone : v.nodes (mark_place p) ≡ firmly None

-- Where a job was closed that isn't done, each of its outputs is lost.
abbrev pub FailedTurnLeaves : Type 0
FailedTurnLeaves =
    (act : Act) (made : Serials) (t : Turn) (w : World) (es : List Event) →
    MayCome t w →
    Follows act w es →
    IsTurn made t w es → is_closed t.course ≡ true → is_done t.course ≡ false → Each (IsLost (run w es)) (out_paths t.job.recipe)
