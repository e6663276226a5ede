-- States, reasons and chains of plans, computed.
use Rattle.std.specs.Prelude.{◌≡◌, ◌≢◌, true, false, List, [], ◌∷◌, map, filter, codes, refl}
use Rattle.std.proofs.Common.{arith}
use Rattle.std.specs.List.{flat_map}
use Rattle.smk_world.specs.Trees.{Path}
use Rattle.smk_flow.specs.declared.job.Job.{Job}
use Rattle.smk_flow.specs.Flows.{Flow}
use Rattle.smk_record.specs.declared.record.Stamp.TheVariants.{Time}
use Rattle.smk_store.specs.Images.{Image}
use Rattle.smk_trigger.specs.declared.reason.Reason.TheVariants.{New, Marked, Code, Params, Inputs, Updated, Forced}
use Rattle.smk_trigger.specs.declared.reason.State.{State}
use Rattle.smk_trigger.specs.declared.reason.State.TheVariants.{Open, Dirty, Restore, Clean}
use Rattle.smk_pick.specs.declared.settings.Force.TheVariants.{Targets}
use Rattle.smk_plan.specs.States.{Plan, LastPlan, Last, Then, Progress, nothing_done, job_path, new_listings, is_current, is_spent, staged}
use Rattle.smk_flow.proofs.Examples.{copy, copy_with, copying, cp, cat, clusters, temporary_with, rule, input, output, flow_of}
use Rattle.smk_chain.proofs.Folders.{file, fresh, image_with, recorded, jobs_in}
use Rattle.smk_plan.proofs.Plans.{with_targets, settle, from_jobs, plan_with, out_txt, before_copy, copy_records, after_copy, aggregated, one_sample, three_known, all_clustered, member_gone, u_and_v, temporary_jobs, all_made, temporary_gone}

-- ## A copied file

pub first_run : (plan_with copy before_copy out_txt []).states ≡ Dirty (New ∷ []) ∷ []
first_run = refl

pub second_run : (plan_with copy (after_copy 1000) out_txt []).states ≡ Clean ∷ []
second_run = refl

pub edited : (plan_with copy (after_copy 2000) out_txt []).states ≡ Dirty (Updated (codes "in.txt") ∷ []) ∷ []
edited = refl

pub changed_command : (plan_with (copy_with cp) (after_copy 1000) out_txt []).states ≡ Dirty (Code ∷ []) ∷ []
changed_command = refl

abbrev with_param : Flow
with_param = flow_of (record (copying cat) { params = record { name = codes "k"; values = codes "1" ∷ [] } ∷ [] } ∷ [])

pub added_param : (plan_with with_param (after_copy 1000) out_txt []).states ≡ Dirty (Params ∷ []) ∷ []
added_param = refl

-- the record is settled, and the mark still stands
abbrev marked_copy : Image
marked_copy =
    image_with (file (codes "in.txt") 1000 (codes "hello\n") ∷ file (codes "out.txt") 1001 (codes "hello\n") ∷ []) copy_records (codes "out.txt" ∷ [])

pub marked : (plan_with copy marked_copy out_txt []).states ≡ Dirty (Marked ∷ []) ∷ []
marked = refl

pub forced : (plan_with copy (after_copy 1000) (record out_txt { force = Targets }) []).states ≡ Dirty (Forced ∷ []) ∷ []
forced = refl

-- a target is gone, and nothing else differs: it is made again with its serial
pub gone : (plan_with copy (image_with (file (codes "in.txt") 1000 (codes "hello\n") ∷ []) copy_records []) out_txt []).states ≡ Restore ∷ []
gone = refl

abbrev two_inputs : Path → Path → Flow
two_inputs a b = flow_of (rule false (codes "join") (input a ∷ input b ∷ []) (output [] (codes "o")) cat ∷ [])

abbrev two_files : Image
two_files = fresh (file (codes "a") 1 [] ∷ file (codes "b") 1 [] ∷ [])

abbrev joined : Image
joined =
    image_with (file (codes "a") 1 [] ∷ file (codes "b") 1 [] ∷ file (codes "o") 2 [] ∷ [])
    (recorded (jobs_in (two_inputs (codes "a") (codes "b")) two_files [] (codes "o" ∷ [])) ((1, Time 1 ∷ Time 1 ∷ [], []) ∷ [])) []

pub other_order : (plan_with (two_inputs (codes "b") (codes "a")) joined (with_targets (codes "o" ∷ [])) []).states ≡ Dirty (Inputs ∷ []) ∷ []
other_order = refl

-- ## A temporary file

pub in_order : map job_path temporary_jobs ≡ codes "t" ∷ codes "u" ∷ codes "v" ∷ []
in_order = refl

abbrev spent_in : Image → List Path
spent_in image =
    let plan = plan_with (temporary_with cat) image u_and_v [] in
    flat_map (λ (e : Job × State). filter (λ p. is_spent image u_and_v nothing_done plan e p) e.0.temps) (staged plan)

-- once its users are done it is spent
pub spent : spent_in all_made ≡ codes "t" ∷ []
spent = refl

-- it isn't made again where it is gone
pub still_clean : (plan_with (temporary_with cat) temporary_gone u_and_v []).states ≡ Clean ∷ Clean ∷ Clean ∷ []
still_clean = refl

-- but where a job that is to run wants it
pub restored : (plan_with (temporary_with cp) temporary_gone u_and_v []).states ≡ Restore ∷ Clean ∷ Dirty (Code ∷ []) ∷ []
restored = refl

-- while a child reads a file that is gone, its job counts as Clean
abbrev reading : Progress
reading = record { begun = codes "u" ∷ []; running = (codes "u", Dirty (Code ∷ [])) ∷ [] }

abbrev t_gone : Image
t_gone = image_with (file (codes "s") 1 (codes "q") ∷ []) (recorded temporary_jobs ((1, Time 1 ∷ [], []) ∷ [])) []

pub counts_as_clean :
    (settle t_gone u_and_v reading 4 (from_jobs [] temporary_jobs)).states ≡ Clean ∷ Dirty (Code ∷ []) ∷ Dirty (New ∷ []) ∷ []
counts_as_clean = refl

-- and without that child it is a Restore
pub restored_else : (settle t_gone u_and_v nothing_done 4 (from_jobs [] temporary_jobs)).states ≡ Restore ∷ Dirty (New ∷ []) ∷ Dirty (New ∷ []) ∷ []
restored_else = refl

-- ## A checkpoint

pub not_yet_known : (plan_with clusters one_sample aggregated []).states ≡ Dirty (New ∷ []) ∷ Open ∷ []
not_yet_known = refl

abbrev first_plan : Plan
first_plan = plan_with clusters all_clustered aggregated []

abbrev last_plan : Plan
last_plan = plan_with clusters all_clustered aggregated three_known

-- the first plan of a chain learns what is in the directory
pub learns : new_listings all_clustered aggregated nothing_done first_plan ≡ three_known
learns = refl

pub learns_something : new_listings all_clustered aggregated nothing_done first_plan ≢ []
learns_something h = grind arith

pub all_clean : last_plan.states ≡ Clean ∷ Clean ∷ Clean ∷ Clean ∷ Clean ∷ []
all_clean = refl

pub chain : LastPlan clusters all_clustered aggregated nothing_done [] last_plan
chain =
    Then first_plan last_plan (record { derived = refl; states = refl }) learns_something
    (Last last_plan (record { derived = refl; states = refl }) refl)

pub target_current : is_current all_clustered aggregated nothing_done last_plan (codes "aggregated/a.txt") ≡ true
target_current = refl

-- a directory that isn't whole is made again, and its users wait
pub directory_restored : (plan_with clusters member_gone aggregated []).states ≡ Restore ∷ Open ∷ []
directory_restored = refl
