-- What the calls of one job leave as it was.
use Rattle.std.specs.Prelude.{◌≡◌, false, List, [], ◌∷◌}
use Rattle.smk_base.specs.Path.{overlaps}
use Rattle.smk_world.specs.declared.event.Event.{Event}
use Rattle.smk_world.specs.Trees.{Each, Path}
use Rattle.smk_world.specs.World.{World, after, run}
use Rattle.smk_flow.specs.declared.job.Job.{Job}
use Rattle.smk_laws_moments.specs.Owning.{IsOwnCall, sites}
use Rattle.smk_laws_turns.specs.Places.{IsSameUnder}

-- each of these calls is one with which the job begins, ends or is closed, or changes nothing
abbrev pub AreOwnCalls : Job → World → List Event → Type 0
AreOwnCalls j w [] = Unit {0}
AreOwnCalls j w (e ∷ es) = IsOwnCall j w e.call × AreOwnCalls j (after w e) es

-- The calls of one job leave what stands at a path and under it, where no place and no log of the job is the path, or lies under or above it.
abbrev pub OwnCallsLeave : Type 0
OwnCallsLeave =
    (j : Job) (w : World) (es : List Event) (p : Path) →
    AreOwnCalls j w es → Each (λ s. overlaps s p ≡ false) (sites j) → IsSameUnder w (run w es) p
