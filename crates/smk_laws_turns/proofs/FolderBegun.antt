-- The folder once the job that is to begin has begun.
use Rattle.std.proofs.Common.{◌≡◌, ℕ, Bool, true, false, List, [], ◌∷◌, ◌++◌, None, refl, sym, ap, subst, ◌∙◌}
use Rattle.std.proofs.lemmas.Option.{same_Some}
use Rattle.smk_base.specs.Place.{mark_place}
use Rattle.smk_world.specs.declared.event.Event.{Event}
use Rattle.smk_world.specs.declared.event.NodeState.{NodeState}
use Rattle.smk_world.specs.Runs.{Follows}
use Rattle.smk_world.specs.Trees.{Act, Each, IsIn, Path, is_path_text}
use Rattle.smk_world.specs.World.{World, after, out_paths, reading, run}
use Rattle.smk_world.proofs.Names.{formed_run}
use Rattle.smk_flow.specs.declared.job.Job.{Job}
use Rattle.smk_record.specs.declared.record.Stamp.{Stamp}
use Rattle.smk_record.specs.Records.{is_valid, record_of}
use Rattle.smk_store.specs.Images.{Image, image_by}
use Rattle.smk_chain.specs.declared.jobs.Jobs.{Jobs}
use Rattle.smk_trigger.specs.declared.reason.State.{State}
use Rattle.smk_plan.specs.States.{Plan}
use Rattle.smk_laws_job.specs.Laws.{HasOwnFolder}
use Rattle.smk_laws_job.proofs.Readable.{outputs_paths}
use Rattle.smk_laws_plan.proofs.CurrentLists.{all_in, zip_first}
use Rattle.smk_laws_protocol.proofs.Basics.{each_in, each_of}
use Rattle.smk_run.proofs.Calls.{each_append}
use Rattle.smk_run.specs.Runs.{AreWritable}
use Rattle.smk_pick.specs.Rooms.{threads_in}
use Rattle.smk_drive.specs.Moments.{Rules, is_gone, seen}
use Rattle.smk_drive_course.specs.Stands.{Stand}
use Rattle.smk_drive_course.specs.Steps.{Deed, IsToBegin}
use Rattle.smk_laws_moments.proofs.ChildrenOf.{run_more}
use Rattle.smk_laws_moments.proofs.LooksLike.{IsLike, like_looks}
use Rattle.smk_laws_turns.proofs.BeginningOf.{starting}
use Rattle.smk_laws_turns.specs.Agreeing.{IsBegunOutput}
use Rattle.smk_laws_turns.specs.Changing.{DiffersAt}
use Rattle.smk_laws_turns.specs.Hubs.{IsAt, Parts, plan_of}
use Rattle.smk_laws_turns.specs.Begun.{BeginDiffers, IsBegunFor, JobsAreOfEntry}
use Rattle.smk_laws_turns.proofs.BegunFor.{begun_for}
use Rattle.smk_laws_turns.proofs.Children.{ours_stay, own_folder_is_free}
use Rattle.smk_laws_turns.proofs.JobPaths.{owned}

pub jobs_are_of_entry : JobsAreOfEntry
jobs_are_of_entry rules entry h s w before deeds at = record { formed = at.home.found; derived = at.derived; sourced = at.sourced }

-- ## The texts of a record

-- the outputs of a job whose records can be written are texts
pub outs_are_texts : (j : Job) (made : ℕ) (stamps : List Stamp) → AreWritable made j.recipe stamps → Each (λ p. is_path_text p ≡ true) (out_paths j.recipe)
outs_are_texts j made stamps writable =
    each_of (λ p. is_path_text p ≡ true) (out_paths j.recipe)
    (λ p i. all_in is_path_text (out_paths j.recipe) p
    (outputs_paths (record_of p made j.recipe stamps [])
    (each_in (λ q. is_valid (record_of q made j.recipe stamps []) ≡ true) (out_paths j.recipe) p writable.valid i)) i)

-- ## Once sources were read

follows_first : (act : Act) (w : World) (es fs : List Event) → Follows act w (es ++ fs) → Follows act w es × Follows act (run w es) fs
follows_first act w [] fs follows = (tt, follows)
follows_first act w (e ∷ es) fs follows = let rest = follows_first act (after w e) es fs follows.1 in ((follows.0, rest.0), rest.1)

unbroken_by : (b : Bool) → (b ≡ true → ⊥) → b ≡ false
unbroken_by true never = absurd (never refl)
unbroken_by false never = refl

-- what has begun since the folder was only looked at
moved : (rules : Rules) (entry w u v : World) (jobs : Jobs) (j : Job) → IsLike w u → IsBegunFor rules entry jobs u v j → IsBegunFor rules entry jobs w v j
moved rules entry w u v jobs j same is =
    let seen_same : seen rules u ≡ seen rules w = λ i. image_by rules.read (sym same.0 i) (λ q. reading (sym same.1 i q)) in
    record {
      member = is.member;
      differs = subst (λ (x : Image). DiffersAt x (seen rules v) jobs rules.settings.targets (out_paths j.recipe)) seen_same is.differs;
      outputs = λ q i. subst (λ (x : Image). IsBegunOutput x (seen rules v) q) seen_same (is.outputs q i);
      logged = is.logged;
      ours = is.ours;
      still_gone = λ q out h. is.still_gone q out (ap (λ (nodes : Path → NodeState). is_gone (nodes (mark_place q))) (sym same.1) ∙ h);
    }

module _
    (rules : Rules) (entry : World) (h : Parts) (s : Stand) (w : World) (before : List Event) (deeds : List Deed) (at : IsAt rules entry h s w before deeds)
  where
    abbrev jobs : Jobs
    jobs = h.live.base.jobs

    -- the job that is next is one of the plan
    pub next_is_member : (e : Job × State) (made : ℕ) (stamps : List Stamp) → IsToBegin rules entry s w before e made stamps → IsIn jobs.jobs e.0
    next_is_member e made stamps is =
        let start = starting rules s w before e is.next.first in
        let kept = at.kept is.next.clear.unhalted in
        let same : start.plan ≡ plan_of h.live = same_Some start.plan (plan_of h.live) (sym start.in_force ∙ kept.plan) in
        subst (λ (p : Plan). IsIn p.jobs e.0) same (zip_first start.plan.jobs start.plan.states e.0 e.1 start.is_staged)

    -- no call of the device has failed where a job is next
    pub unbroken_now : s.halted ≡ None → s.broken ≡ false
    unbroken_now unhalted = unbroken_by s.broken (λ t. at.faulted t unhalted)

pub begin_differs : BeginDiffers
begin_differs act rules entry h s w before deeds e made stamps es reads beginning at owners is events looks done follows =
    let two = follows_first act w reads beginning (subst (λ xs. Follows act w xs) events follows) in
    let same = like_looks act false w reads looks two.0 in
    let ij = next_is_member rules entry h s w before deeds at e made stamps is in
    let ours = at.ours (unbroken_now rules entry h s w before deeds at is.next.clear.unhalted) in
    let free : HasOwnFolder (run w reads) =
    λ q inside owned_there. own_folder_is_free rules entry h s w before deeds at owners q inside
    (ap (λ (nodes : Path → NodeState). nodes q) same.1 ∙ owned_there)
    in
    let texts : Each (λ p. is_path_text p ≡ true) (owned e.0) =
    each_append (λ p. is_path_text p ≡ true) (out_paths e.0.recipe) e.0.logs (outs_are_texts e.0 made stamps is.writable) is.logged
    in
    let begun =
    begun_for act rules entry h.live.base.jobs e.0 (rules.command e.0 (threads_in rules.settings.cores e.0.threads)) (run w reads) beginning
    (jobs_are_of_entry rules entry h s w before deeds at) ij (formed_run w reads at.home.formed)
    (ours_stay rules entry w (run w reads) h.live.base.jobs.jobs same ours) free texts two.1 done
    in
    subst (λ (v : World). IsBegunFor rules entry h.live.base.jobs w v e.0) (sym (ap (run w) events ∙ run_more w reads beginning))
    (moved rules entry w (run w reads) (run (run w reads) beginning) h.live.base.jobs e.0 same begun)
