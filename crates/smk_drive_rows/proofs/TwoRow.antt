-- Two rules make a path, and neither is preferred: the run is refused, and a run that takes the first of them isn't lawful.
use Rattle.std.proofs.Common.{ℕ, false, List, [], ◌∷◌, codes, drop, refl, sym, true≢false}
use Rattle.smk_base.specs.Place.{mark_place}
use Rattle.smk_world.specs.declared.event.Node.TheVariants.{Regular}
use Rattle.smk_world.specs.declared.event.Event.{Event}
use Rattle.smk_world.specs.World.{World, Nodes, IsFormed, world_of}
use Rattle.smk_world.specs.Trees.{Path}
use Rattle.smk_report.specs.declared.fault.Fault.{Fault}
use Rattle.smk_report.specs.declared.fault.Fault.TheVariants as fault
use Rattle.smk_drive.specs.Moments.{Rules, Moment}
use Rattle.smk_drive.specs.Refusals.{DerivationRefuses}
use Rattle.smk_flow.proofs.Examples.{unordered}
use Rattle.smk_plan.proofs.Plans.{with_targets}
use Rattle.smk_drive.proofs.Turns.{reader}
use Rattle.smk_drive_course.specs.Lawful.{Lawful}
use Rattle.smk_drive_course.specs.Refusals.{RunRefuses, PlansAreRefused}
use Rattle.smk_drive_rows.proofs.Logs.{IsSettled, first_moment, first_is}
use Rattle.smk_drive_rows.proofs.Unrefused.{none_before}
use Rattle.smk_drive_rows.proofs.Events.{formed_of, rules_by, marking}

abbrev bam : Path
bam = codes "m/a.bam"

abbrev nodes : Nodes
nodes = (codes "r/a_1.fq", Regular (codes "x\n") 1 false) ∷ (codes "r/a_2.fq", Regular (codes "y\n") 1 false) ∷ []

abbrev pub entry : World
entry = world_of nodes

formed : IsFormed entry
formed = formed_of nodes refl

abbrev pub rules : Rules
rules = rules_by unordered (with_targets (bam ∷ [])) (reader [])

settled : IsSettled rules entry []
settled = record { start = tt; rests = tt }

abbrev at_entry : Moment
at_entry = first_moment rules entry

-- ## What is refused

abbrev refusal : Fault
refusal = fault.Ambiguous bam (codes "paired") (codes "single")

pub is_refused : (log : List Event) → RunRefuses rules entry log refusal
is_refused log =
    record {
      events = [];
      rest = log;
      split = refl;
      moment = at_entry;
      is_moment = first_is rules entry formed settled.start;
      none_before = none_before rules entry formed [] settled refl;
      refuses = PlansAreRefused refusal refl (DerivationRefuses [] _ refusal refl refl);
    }

-- ## A wrong run

-- the first of the two is taken: its job is in no plan
abbrev taking : List Event
taking = drop 1 (marking bam)

pub takes_first : (status : ℕ) → Lawful rules entry taking status → ⊥
takes_first status l = true≢false (sym ((l.each [] _ _ at_entry refl (first_is rules entry formed settled.start)).changes (mark_place bam) refl))
