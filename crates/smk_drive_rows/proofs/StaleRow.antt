-- The sample of a checkpoint was edited after a whole run, whose record tells its time alone: the checkpoint is Dirty, and what gathers from it Open.
-- No job begins on the listing of the run before.
use Rattle.std.proofs.Common.{◌≡◌, ℕ, Bool, true, false, List, [], ◌∷◌, map, codes, drop, Option, Some, None, refl, sym, ap, true≢false}
use Rattle.smk_base.specs.Place.{mark_place, record_place}
use Rattle.smk_world.specs.declared.event.Node.TheVariants.{Regular, Directory}
use Rattle.smk_world.specs.declared.event.Event.{Event}
use Rattle.smk_world.specs.World.{World, Nodes, IsFormed, world_of}
use Rattle.smk_world.specs.Trees.{Path}
use Rattle.smk_flow.specs.declared.job.Job.{Job}
use Rattle.smk_record.specs.declared.record.Stamp.TheVariants.{Time}
use Rattle.smk_trigger.specs.declared.reason.State.{State}
use Rattle.smk_trigger.specs.JobStates.{is_dirty, is_open}
use Rattle.smk_flow.proofs.Examples.{clusters}
use Rattle.smk_plan.proofs.Plans.{aggregated as its_targets}
use Rattle.smk_drive.proofs.Turns.{reader}
use Rattle.smk_drive.specs.Moments.{Moment, Rules, staged_now}
use Rattle.smk_plan.specs.States.{job_path}
use Rattle.smk_drive_course.specs.Lawful.{Lawful}
use Rattle.smk_drive_rows.proofs.Logs.{IsSettled, first_moment, first_is}
use Rattle.smk_drive_rows.proofs.Events.{formed_of, marking, rules_by}
use Rattle.smk_drive_rows.proofs.GrowRow.{folder, records}

abbrev post : Path
post = codes "post/a/1.txt"

abbrev aggregated : Path
aggregated = codes "aggregated/a.txt"

-- as the run left the folder; the sample is a later one
abbrev pub nodes : Nodes
nodes =
    (record_place aggregated, Regular aggregated 9 false)
    ∷ (record_place folder, Regular folder 9 false)
    ∷ (record_place post, Regular post 9 false)
    ∷ (aggregated, Regular (codes "x\n") 9 false)
    ∷ (folder, Directory)
    ∷ (codes "clustering/a/1.txt", Regular (codes "x\n") 9 false)
    ∷ (post, Regular (codes "x\n") 9 false)
    ∷ (codes "samples/a.txt", Regular (codes "y\n") 10 false)
    ∷ []

abbrev pub entry : World
entry = world_of nodes

formed : IsFormed entry
formed = formed_of nodes refl

abbrev rules : Rules
rules = rules_by clusters its_targets (reader (records (Time 1)))

settled : IsSettled rules entry []
settled = record { start = refl; rests = tt }

abbrev at_entry : Moment
at_entry = first_moment rules entry

-- ## The plan

abbrev named : Job × State → Path × Bool × Bool
named e = (job_path e.0, is_dirty e.1, is_open e.1)

pub its_plan : map named (staged_now at_entry.plan) ≡ (folder, true, false) ∷ (aggregated, false, true) ∷ []
its_plan = refl

-- ## Wrong runs

-- a job begins that only the old listing calls for
abbrev on_listing : List Event
on_listing = drop 1 (marking post)

pub begins_on_listing : (status : ℕ) → Lawful rules entry on_listing status → ⊥
begins_on_listing status l = true≢false (sym ((l.each [] _ _ at_entry refl (first_is rules entry formed settled.start)).changes (mark_place post) refl))

-- what gathers begins, on what was gathered before
abbrev is_open_one : Option (Job × State) → Bool
is_open_one None = false
is_open_one (Some e) = is_open e.1

pub begins_open : (status : ℕ) → Lawful rules entry (drop 1 (marking aggregated)) status → ⊥
begins_open status l =
    true≢false (sym (ap is_open_one ((l.each [] _ _ at_entry refl (first_is rules entry formed settled.start)).begins.1.0 refl).first))
