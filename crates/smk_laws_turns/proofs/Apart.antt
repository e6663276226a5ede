-- What the jobs of a run make and log lies apart: of two jobs, of sources, and by itself.
use Rattle.std.proofs.Common.{◌≡◌, true, false, List, [], ap, sym, ◌∙◌}
use Rattle.std.specs.Prelude.{bytes_eq, is_some}
use Rattle.std.proofs.lemmas.Option.{same_Some}
use Rattle.smk_base.specs.Path.{is_path, overlaps}
use Rattle.smk_base.proofs.Places.{place_itself, same_place}
use Rattle.smk_base.proofs.Under.{false_unless, or_first}
use Rattle.smk_world.specs.declared.event.Event.{Event}
use Rattle.smk_world.specs.Calls.{any_overlap, are_apart}
use Rattle.smk_world.specs.Trees.{IsIn, Path, among, folder_over}
use Rattle.smk_world.specs.World.{World, in_paths, out_paths}
use Rattle.smk_flow.specs.declared.job.Job.{Job}
use Rattle.smk_store.specs.Images.{is_source}
use Rattle.smk_plan.specs.States.{job_path, makes}
use Rattle.smk_drive.specs.Moments.{Rules, seen}
use Rattle.smk_drive_course.specs.Stands.{Stand}
use Rattle.smk_drive_course.specs.Steps.{Deed}
use Rattle.smk_laws_protocol.proofs.Basics.{none_of}
use Rattle.smk_laws_plan.proofs.CurrentApart.{maker_found}
use Rattle.smk_laws_plan.proofs.CurrentPaths.{in_among}
use Rattle.smk_laws_plan.proofs.PlanOne.{derived_apart}
use Rattle.smk_laws_moments.proofs.Spots.{has_output, no_source, owned, owned_between}
use Rattle.smk_laws_moments.proofs.Spots as spots
use Rattle.smk_laws_turns.specs.Hubs.{IsAt, Parts}
use Rattle.smk_laws_turns.proofs.Staff.{complete_entry}
use Rattle.smk_laws_turns.proofs.Users as users

module _
    (rules : Rules) (entry : World) (h : Parts) (s : Stand) (w : World) (before : List Event) (deeds : List Deed)
    (at : IsAt rules entry h s w before deeds) where
  abbrev jobs : List Job
  jobs = h.live.base.jobs.jobs

  -- what one of them makes or logs overlaps nothing that another one makes or logs
  pub jobs_apart : (j k : Job) → IsIn jobs j → IsIn jobs k → ¬ (job_path j ≡ job_path k) → any_overlap (owned j) (owned k) ≡ false
  jobs_apart j k ij ik other =
      owned_between rules.flow (seen rules entry) h.live.base.jobs.lists rules.settings.targets jobs (complete_entry rules entry h s w before deeds at) at.derived
      (λ x. bytes_eq (job_path j) (job_path x)) j k ij ik (place_itself (job_path j))
      (false_unless (bytes_eq (job_path j) (job_path k)) (λ e. other (same_place (job_path j) (job_path k) e)))

  -- an output is that of one job
  pub one_job : (j k : Job) (p : Path) → IsIn jobs j → IsIn jobs k → IsIn (out_paths j.recipe) p → IsIn (out_paths k.recipe) p → j ≡ k
  one_job j k p ij ik jp kp =
      let apart = derived_apart rules.flow (seen rules entry) h.live.base.jobs.lists rules.settings.targets jobs
      (complete_entry rules entry h s w before deeds at) at.derived in
      let nothing : Job → Unit {0} = λ x. tt in
      let found = same_Some (j, nothing j) (k, nothing k) (sym (maker_found nothing jobs j p apart ij (made j jp)) ∙ maker_found nothing jobs k p apart ik (made k kp)) in
      ap (λ (x : Job × Unit {0}). x.0) found
    where
      made : (x : Job) → IsIn (out_paths x.recipe) p → makes x p ≡ true
      made x i = or_first (among (out_paths x.recipe) p) (is_some (folder_over x.recipe p)) (in_among (out_paths x.recipe) p i)

  -- what a job makes and logs is apart by itself
  pub own_apart : (j : Job) → IsIn jobs j → are_apart (owned j) ≡ true
  own_apart j ij =
      spots.own_apart rules.flow (seen rules entry) h.live.base.jobs.lists rules.settings.targets jobs (complete_entry rules entry h s w before deeds at) at.derived j ij

  -- no source that the run found overlaps it
  pub apart_from_source : (j : Job) (q x : Path) → IsIn jobs j → is_source (seen rules entry) q ≡ true → IsIn (owned j) x → overlaps q x ≡ false
  apart_from_source j q x ij source ix =
      none_of (overlaps q) (owned j) x
      (no_source rules.flow (seen rules entry) h.live.base.jobs.lists rules.settings.targets jobs (complete_entry rules entry h s w before deeds at) at.derived
      j q ij source) ix

  -- a job has an output
  pub makes_some : (j : Job) → IsIn jobs j → ¬ (out_paths j.recipe ≡ [])
  makes_some j ij =
      has_output rules.flow (seen rules entry) h.live.base.jobs.lists rules.settings.targets jobs (complete_entry rules entry h s w before deeds at) at.derived j ij

  -- what it makes, logs and reads are users' paths
  pub owned_is_path : (j : Job) (x : Path) → IsIn jobs j → IsIn (owned j) x → is_path x ≡ true
  owned_is_path j x ij ix =
      users.owned_is_path rules.flow (seen rules entry) h.live.base.jobs.lists rules.settings.targets jobs (complete_entry rules entry h s w before deeds at)
      at.derived j x ij ix

  pub input_is_path : (j : Job) (q : Path) → IsIn jobs j → IsIn (in_paths j.recipe) q → is_path q ≡ true
  input_is_path j q ij iq =
      users.input_is_path rules.flow (seen rules entry) h.live.base.jobs.lists rules.settings.targets jobs (complete_entry rules entry h s w before deeds at)
      at.derived j q ij iq
