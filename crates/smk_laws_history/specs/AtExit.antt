-- The law of current targets in the words of a run.
use Rattle.std.specs.Prelude.{◌≡◌, List, Some, IsTrue, Contains, is_none}
use Rattle.smk_world.specs.declared.event.Event.{Event}
use Rattle.smk_world.specs.World.{World}
use Rattle.smk_world.specs.Trees.{Path, Act}
use Rattle.smk_store.specs.Trust.{Versions, SumsDiffer}
use Rattle.smk_store.specs.Soundness.{SoundWorld}
use Rattle.smk_chain.specs.Mean.{setting_of}
use Rattle.smk_plan.specs.States.{Plan, is_current}
use Rattle.smk_report.specs.declared.fault.Fault.{Fault}
use Rattle.smk_drive.specs.Moments.{Rules, Moment, IsMoment, is_rest, seen, progress_of}
use Rattle.smk_drive.specs.Refusals.{PlansRefuse}
use Rattle.smk_laws_plan.specs.Current.{IsClean, GathersRight}

-- At a rest of a run, in a world that is sound for versions of which no two different contents have the same SHA-256, where no plan in force is refused and the listings of earlier plans are right where they count:
-- a target that is current by the plan in force holds its clean value.
abbrev pub CurrentAtExitIsClean : Type 0
CurrentAtExitIsClean =
    (act : Act) (rules : Rules) (entry : World) (log : List Event) (m : Moment) (H : Versions) (plan : Plan) →
    IsMoment rules entry log m →
    IsTrue (is_rest m.world m.begun) →
    m.plan ≡ Some plan →
    SoundWorld (record { read = rules.read; act = act }) m.world H →
    SumsDiffer H →
    ((f : Fault) → ¬ PlansRefuse rules m f) →
    GathersRight
    (setting_of rules.flow act (λ j. is_none (rules.missing j)) (seen rules m.world)) (seen rules m.world) rules.settings
    (progress_of m.world m.begun) plan m.from →
    (p : Path) →
    Contains rules.settings.targets p →
    IsTrue (is_current (seen rules m.world) rules.settings (progress_of m.world m.begun) plan p) →
    IsClean (setting_of rules.flow act (λ j. is_none (rules.missing j)) (seen rules m.world)) (seen rules m.world) p
