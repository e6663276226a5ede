-- A job is started on an output that has a mark: no such input is safe.
use Rattle.std.proofs.Common.{◌≡◌, ℕ, true, false, List, [], ◌∷◌, ◌++◌, codes, Some, refl, sym, subst, inl, inr, true≢false}
use Rattle.smk_base.specs.Place.{mark_place, record_place}
use Rattle.smk_world.specs.declared.event.Node.TheVariants.{Regular}
use Rattle.smk_world.specs.declared.event.Event.{Event}
use Rattle.smk_world.specs.World.{World, Nodes, IsFormed, world_of, in_paths}
use Rattle.smk_world.specs.Trees.{Path, Each}
use Rattle.smk_drive.specs.Moments.{Rules, Moment, Begun, seen}
use Rattle.smk_drive.specs.Lawful.{IsSafeInput}
use Rattle.smk_flow.proofs.Examples.{temporary_with, cat}
use Rattle.smk_plan.proofs.Plans.{u_and_v, temporary_jobs, temporary_records}
use Rattle.smk_drive.proofs.Turns.{reader}
use Rattle.smk_drive_course.specs.Lawful.{Lawful}
use Rattle.smk_drive_rows.proofs.Truth.{only}
use Rattle.smk_drive_rows.proofs.Logs.{IsSettled, last, last_is}
use Rattle.smk_drive_rows.proofs.Events.{formed_of, rules_by, marking, start, of_job}

abbrev t : Path
t = codes "t"

-- a crash has left the mark of `t`, though its record stands
abbrev nodes : Nodes
nodes =
    (mark_place t, Regular [] 2 false)
    ∷ (record_place t, Regular t 2 false)
    ∷ (codes "s", Regular (codes "q") 1 false)
    ∷ (t, Regular (codes "q") 2 false)
    ∷ []

abbrev entry : World
entry = world_of nodes

formed : IsFormed entry
formed = formed_of nodes refl

abbrev rules : Rules
rules = rules_by (temporary_with cat) (record u_and_v { rerun_incomplete = true }) (reader temporary_records)

abbrev begun : List Event
begun = marking (codes "u")

settled : IsSettled rules entry begun
settled = record { start = refl; rests = (refl, tt) }

abbrev there : Moment
there = last rules entry begun

some_path : (p q : Path) → Some p ≡ Some q → p ≡ q
some_path p q h = cc

unsafe : IsSafeInput rules there t → ⊥
unsafe (inl source) = true≢false (sym source)
unsafe (inr product) =
    true≢false (subst (λ p. (seen rules there.world).marked p ≡ false) (sym (some_path t product.speaker product.speaks)) product.unmarked)

pub starts_on_marked : (status : ℕ) → Lawful rules entry (begun ++ of_job temporary_jobs 1 (λ j. start 1 j ∷ [])) status → ⊥
starts_on_marked status l =
    let s = (l.each begun _ [] there refl (last_is rules entry formed begun settled)).starts in
    unsafe (subst (λ (b : Begun). Each (IsSafeInput rules there) (in_paths b.job.recipe)) (only _ s.0 s.1) s.5.inputs).0
