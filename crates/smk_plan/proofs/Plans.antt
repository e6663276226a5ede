-- Plans of small folders: states that the table gives, begun from Clean.
use Rattle.std.specs.Prelude.{ℕ, zero, suc, false, List, [], ◌∷◌, map, codes}
use Rattle.smk_world.specs.Trees.{Path}
use Rattle.smk_flow.specs.declared.job.Job.{Job}
use Rattle.smk_flow.specs.Flows.{Flow}
use Rattle.smk_record.specs.declared.record.Stamp.TheVariants.{Time, Made}
use Rattle.smk_record.specs.declared.record.Member.{Member}
use Rattle.smk_record.specs.declared.record.Record.{Record}
use Rattle.smk_store.specs.Images.{Image}
use Rattle.smk_chain.specs.Derive.{Listings}
use Rattle.smk_trigger.specs.declared.reason.State.TheVariants.{Clean}
use Rattle.smk_pick.specs.declared.settings.Force.TheVariants.{No}
use Rattle.smk_pick.specs.declared.settings.Settings.{Settings}
use Rattle.smk_plan.specs.States.{Plan, Progress, nothing_done, state_of}
use Rattle.smk_flow.proofs.Examples.{copy, clusters, cat, temporary_with}
use Rattle.smk_chain.proofs.Folders.{file, folder, fresh, image_with, recorded, jobs_in}

abbrev pub with_targets : List Path → Settings
with_targets targets =
    record { targets = targets; cores = 1; bounds = []; keep_going = false; rerun_incomplete = false; force = No }

-- the states that the table gives of states, n times
abbrev pub settle : Image → Settings → Progress → ℕ → Plan → Plan
settle image settings progress zero plan = plan
settle image settings progress (suc n) plan =
    let before = settle image settings progress n plan in
    record before { states = map (state_of image settings progress before) before.jobs }

abbrev pub from_jobs : Listings → List Job → Plan
from_jobs L js = record { lists = L; jobs = js; states = map (λ j. Clean) js }

abbrev pub plan_with : Flow → Image → Settings → Listings → Plan
plan_with flow image settings L = settle image settings nothing_done 4 (from_jobs L (jobs_in flow image L settings.targets))

-- ## A copied file

abbrev pub out_txt : Settings
out_txt = with_targets (codes "out.txt" ∷ [])

abbrev pub before_copy : Image
before_copy = fresh (file (codes "in.txt") 1000 (codes "hello\n") ∷ [])

abbrev pub copy_records : List Record
copy_records = recorded (jobs_in copy before_copy [] (codes "out.txt" ∷ [])) ((1, Time 1000 ∷ [], []) ∷ [])

-- the source has this time now
abbrev pub after_copy : ℕ → Image
after_copy time =
    image_with (file (codes "in.txt") time (codes "hello\n") ∷ file (codes "out.txt") 1001 (codes "hello\n") ∷ []) copy_records []

-- ## A checkpoint

abbrev pub aggregated : Settings
aggregated = with_targets (codes "aggregated/a.txt" ∷ [])

abbrev pub one_sample : Image
one_sample = fresh (file (codes "samples/a.txt") 1 (codes "x\ny\nz\n") ∷ [])

abbrev pub three_known : Listings
three_known = record { folder = codes "clustering/a"; files = codes "1.txt" ∷ codes "2.txt" ∷ codes "3.txt" ∷ [] } ∷ []

abbrev pub a_member : Path → Member
a_member name = record { folder = false; name = name }

abbrev pub cluster_jobs : List Job
cluster_jobs = jobs_in clusters one_sample three_known (codes "aggregated/a.txt" ∷ [])

abbrev pub cluster_records : List Record
cluster_records =
    recorded cluster_jobs
    ((1, Time 1 ∷ [], map a_member (codes "1.txt" ∷ codes "2.txt" ∷ codes "3.txt" ∷ []))
    ∷ (2, Made 1 ∷ [], [])
    ∷ (3, Made 1 ∷ [], [])
    ∷ (4, Made 1 ∷ [], [])
    ∷ (5, Made 2 ∷ Made 3 ∷ Made 4 ∷ [], [])
    ∷ [])

-- after a whole run
abbrev pub all_clustered : Image
all_clustered =
    image_with
    (file (codes "aggregated/a.txt") 9 (codes "x\ny\nz\n")
    ∷ folder (codes "clustering/a")
    ∷ file (codes "clustering/a/1.txt") 2 (codes "x\n")
    ∷ file (codes "clustering/a/2.txt") 2 (codes "y\n")
    ∷ file (codes "clustering/a/3.txt") 2 (codes "z\n")
    ∷ file (codes "post/a/1.txt") 3 (codes "x\n")
    ∷ file (codes "post/a/2.txt") 4 (codes "y\n")
    ∷ file (codes "post/a/3.txt") 5 (codes "z\n")
    ∷ file (codes "samples/a.txt") 1 (codes "x\ny\nz\n")
    ∷ [])
    cluster_records []

-- the same, with a member taken away
abbrev pub member_gone : Image
member_gone =
    image_with
    (file (codes "aggregated/a.txt") 9 (codes "x\ny\nz\n")
    ∷ folder (codes "clustering/a")
    ∷ file (codes "clustering/a/1.txt") 2 (codes "x\n")
    ∷ file (codes "clustering/a/3.txt") 2 (codes "z\n")
    ∷ file (codes "post/a/1.txt") 3 (codes "x\n")
    ∷ file (codes "post/a/2.txt") 4 (codes "y\n")
    ∷ file (codes "post/a/3.txt") 5 (codes "z\n")
    ∷ file (codes "samples/a.txt") 1 (codes "x\ny\nz\n")
    ∷ [])
    cluster_records []

-- ## A temporary file

abbrev pub u_and_v : Settings
u_and_v = with_targets (codes "u" ∷ codes "v" ∷ [])

abbrev pub temporary_jobs : List Job
temporary_jobs = jobs_in (temporary_with cat) (fresh (file (codes "s") 1 (codes "q") ∷ [])) [] (codes "u" ∷ codes "v" ∷ [])

abbrev pub temporary_records : List Record
temporary_records = recorded temporary_jobs ((1, Time 1 ∷ [], []) ∷ (2, Made 1 ∷ [], []) ∷ (3, Made 1 ∷ [], []) ∷ [])

-- all is made, and the temporary file still stands
abbrev pub all_made : Image
all_made =
    image_with
    (file (codes "s") 1 (codes "q") ∷ file (codes "t") 2 (codes "q") ∷ file (codes "u") 3 (codes "q") ∷ file (codes "v") 4 (codes "q") ∷ [])
    temporary_records []

-- and it is gone
abbrev pub temporary_gone : Image
temporary_gone =
    image_with (file (codes "s") 1 (codes "q") ∷ file (codes "u") 3 (codes "q") ∷ file (codes "v") 4 (codes "q") ∷ []) temporary_records []
