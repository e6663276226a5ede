-- The log of a run that copies a file: its moments, its serial and stamps, and what each event may change.
use Rattle.std.specs.Prelude.{◌≡◌, Bool, true, false, List, [], ◌∷◌, ◌++◌, map, codes, if◌then◌else◌, Some, Ok, refl, ◌&&◌, length}
use Rattle.std.specs.List.{list_all}
use Rattle.smk_base.specs.Place.{mark_place, record_place, lock_place}
use Rattle.smk_world.specs.declared.event.Node.TheVariants.{Regular}
use Rattle.smk_world.specs.declared.event.Event.{Event}
use Rattle.smk_world.specs.declared.event.Child.{Child}
use Rattle.smk_world.specs.declared.event.Call.TheVariants.{Created, Removed, MadeParents, Settled}
use Rattle.smk_world.specs.World.{World, world_of}
use Rattle.smk_world.specs.Trees.{Path}
use Rattle.smk_flow.specs.declared.job.Job.{Job}
use Rattle.smk_record.specs.declared.record.Stamp.TheVariants.{Sum}
use Rattle.smk_store.specs.Trust.{sum_of}
use Rattle.smk_drive.specs.Moments.{Rules, Moment, Begun, is_changed}
use Rattle.smk_drive.specs.Lawful.{is_allowed, may_start}
use Rattle.smk_flow.proofs.Examples.{copy}
use Rattle.smk_chain.proofs.Folders.{jobs_in}
use Rattle.smk_plan.proofs.Plans.{out_txt, copy_records, before_copy}
use Rattle.smk_drive.proofs.Turns.{rules_with, start, step, goes, event, put, beginning, ending, finishing}

abbrev entry : World
entry = world_of ((codes "in.txt", Regular (codes "hello\n") 1000 false) ∷ [])

abbrev rules : Rules
rules = record (rules_with copy out_txt copy_records) { nolock = false }

abbrev the_job : List Job
the_job = jobs_in copy before_copy [] (codes "out.txt" ∷ [])

abbrev each_job : (Job → List Event) → List Job → List Event
each_job events [] = []
each_job events (j ∷ js) = events j ++ each_job events js

abbrev first_moment : Moment
first_moment = start rules entry

abbrev locking : List Event
locking = event (MadeParents lock_place (Ok tt)) [] ∷ event (Created lock_place (Ok true)) (put lock_place [] ∷ []) ∷ event (Settled (lock_place ∷ []) (Ok tt)) [] ∷ []

abbrev begun : Moment
begun = (goes rules entry first_moment (locking ++ each_job (beginning 1) the_job)).0

pub one_may_start : length (may_start rules first_moment) ≡ 1
one_may_start = refl

pub draws_one : map (λ (b : Begun). b.serial) begun.begun ≡ 1 ∷ []
draws_one = refl

pub has_stamps : map (λ (b : Begun). b.stamps) begun.begun ≡ (Some (Sum 1000 (sum_of (codes "hello\n"))) ∷ []) ∷ []
has_stamps = refl

-- what each event changes among these places it may change
abbrev places_looked_at : List Path
places_looked_at =
    codes "in.txt"
    ∷ codes "out.txt"
    ∷ mark_place (codes "out.txt")
    ∷ record_place (codes "out.txt")
    ∷ lock_place
    ∷ codes ".snakemake"
    ∷ codes ".snakemake/smk"
    ∷ codes ".snakemake/smk/marks"
    ∷ []

abbrev may_change : Moment → Event → Path → Bool
may_change m e q = if is_changed m.world e q then is_allowed rules entry m e q else true

abbrev all_may : Moment → List Event → Bool
all_may m [] = true
all_may m (e ∷ es) = list_all (may_change m e) places_looked_at && all_may (step rules entry m e) es

pub allowed_beginning : all_may first_moment (locking ++ each_job (beginning 1) the_job) ≡ true
allowed_beginning = refl

abbrev end_of_children : List Child → List Event
end_of_children [] = []
end_of_children (c ∷ cs) = ending rules begun.world c ++ end_of_children cs

pub allowed_end : all_may begun (end_of_children begun.world.children ++ each_job finishing the_job) ≡ true
allowed_end = refl

-- a source may not be taken away
pub no_such_removal : may_change first_moment (event (Removed (codes "in.txt") (Ok tt)) []) (codes "in.txt") ≡ false
no_such_removal = refl
