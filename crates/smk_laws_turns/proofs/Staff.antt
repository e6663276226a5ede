-- The children that run are those of jobs of the plan that have begun.
use Rattle.std.proofs.Common.{◌≡◌, ◌⊎◌, inl, inr, true, List, [], ◌∷◌, refl, ap, sym, subst, ◌∙◌, Option, Some, None}
use Rattle.std.specs.Prelude.{bytes_eq}
use lib.Pointwise.{pointwise}
use Rattle.smk_base.specs.Path.{is_path}
use Rattle.smk_base.proofs.Places.{place_itself}
use Rattle.smk_base.proofs.Under.{both_true}
use Rattle.smk_world.specs.declared.event.Child.{Child as WorldChild}
use Rattle.smk_world.specs.declared.event.Event.{Event}
use Rattle.smk_world.specs.declared.recipe.Recipe.{Recipe}
use Rattle.smk_world.specs.Calls.{used_now}
use Rattle.smk_world.specs.Trees.{Each, IsIn, Path}
use Rattle.smk_world.specs.World.{World, in_paths, out_paths, owned_paths}
use Rattle.smk_flow.specs.declared.job.Job.{Job}
use Rattle.smk_job.specs.Jobs.{Underway}
use Rattle.smk_drive.specs.Moments.{Begun, Rules, is_child_of, runs, seen}
use Rattle.smk_drive_step.specs.declared.children.Child.{Child}
use Rattle.smk_drive_step.specs.Crews.{going_in, goings}
use Rattle.smk_drive_course.specs.Stands.{Stand}
use Rattle.smk_drive_course.specs.Steps.{Deed}
use Rattle.smk_laws_protocol.proofs.Basics.{any_by, each_of}
use Rattle.smk_laws_plan.specs.Current.{IsComplete}
use Rattle.smk_laws_plan.proofs.CurrentLists.{flat_in, get_in, in_either, map_in}
use Rattle.smk_laws_history.proofs.CurrentComplete.{seen_is_complete}
use Rattle.smk_laws_moments.proofs.Spots.{owned}
use Rattle.smk_laws_turns.specs.Hubs.{IsAt, Parts, child_of}
use Rattle.smk_laws_turns.proofs.Overlaps.{used_by, used_in}
use Rattle.smk_laws_turns.proofs.Users.{input_is_path, owned_is_path}

-- ## Lists

paths_same : (ps : List Path) → pointwise bytes_eq ps ps ≡ true
paths_same [] = refl
paths_same (p ∷ ps) = both_true (bytes_eq p p) (pointwise bytes_eq ps ps) (place_itself p) (paths_same ps)

-- a child in a place
pub seated : (places : List (Option Child)) (g : Underway) → IsIn (goings places) g → (c : Child) × IsIn places (Some c) × (g ≡ c.going)
seated places g i = let o = flat_in going_in places g i in go o.0 o.1 o.2
  where
    go : (o : Option Child) → IsIn places o → IsIn (going_in o) g → (c : Child) × IsIn places (Some c) × (g ≡ c.going)
    go None io k = absurd k
    go (Some c) io (inl e) = (c, io, e)
    go (Some c) io (inr k) = absurd k

-- ## Children

-- The child is that of this job of the plan, which has begun.
pub record IsChildOfJob (jobs : List Job) (begun : List Begun) (recipe : Recipe) (logs : List Path) : Type 0 where
  pub job : Job
  pub of_plan : IsIn jobs job
  pub same_recipe : job.recipe ≡ recipe
  pub same_logs : job.logs ≡ logs
  pub as_begun : Begun
  pub has_begun : IsIn begun as_begun
  pub is_job : as_begun.job ≡ job

module _
    (rules : Rules) (entry : World) (h : Parts) (s : Stand) (w : World) (before : List Event) (deeds : List Deed)
    (at : IsAt rules entry h s w before deeds) where
  abbrev jobs : List Job
  jobs = h.live.base.jobs.jobs

  pub complete_entry : IsComplete (seen rules entry)
  complete_entry = seen_is_complete rules.read entry at.home.found

  pub job_of : (g : Underway) → IsIn s.runs g → IsChildOfJob jobs s.begun g.recipe g.logs
  job_of g i =
      let c = seated h.places g (at.crew.placed g i) in
      let of = at.theirs c.0 c.1 in
      record {
        job = of.job;
        of_plan = get_in jobs c.0.job of.job of.is;
        same_recipe = of.recipe ∙ sym (ap (λ (x : Underway). x.recipe) c.2);
        same_logs = of.logs ∙ sym (ap (λ (x : Underway). x.logs) c.2);
        as_begun = of.as_begun;
        has_begun = of.has_begun;
        is_job = of.is_job;
      }

  -- a child of the folder is one of these
  pub child_runs : (c : WorldChild) → IsIn w.children c → (g : Underway) × IsIn s.runs g × (c ≡ child_of g)
  child_runs c i = map_in child_of s.runs c (subst (λ cs. IsIn cs c) at.children i)

  pub job_of_child : (c : WorldChild) → IsIn w.children c → IsChildOfJob jobs s.begun c.recipe c.logs
  job_of_child c i =
      let g = child_runs c i in
      subst (λ (x : WorldChild). IsChildOfJob jobs s.begun x.recipe x.logs) (sym g.2) (job_of g.0 g.1)

  -- what they use are users' paths
  pub used_path : (c : WorldChild) (q : Path) → IsIn w.children c → IsIn (used_by c) q → is_path q ≡ true
  used_path c q i iq = go (job_of_child c i) (in_either q (in_paths c.recipe) (owned_paths c.recipe c.logs) iq)
    where
      go : IsChildOfJob jobs s.begun c.recipe c.logs → IsIn (in_paths c.recipe) q ⊎ IsIn (owned_paths c.recipe c.logs) q → is_path q ≡ true
      go of (inl k) =
          input_is_path rules.flow (seen rules entry) h.live.base.jobs.lists rules.settings.targets jobs complete_entry at.derived of.job q of.of_plan
          (subst (λ r. IsIn (in_paths r) q) (sym of.same_recipe) k)
      go of (inr k) =
          let owns : owned of.job ≡ owned_paths c.recipe c.logs = λ i. owned_paths (of.same_recipe i) (of.same_logs i) in
          owned_is_path rules.flow (seen rules entry) h.live.base.jobs.lists rules.settings.targets jobs complete_entry at.derived of.job q of.of_plan
          (subst (λ ps. IsIn ps q) (sym owns) k)

  -- also while only some of them run
  pub use_users : (cs : List WorldChild) → ((c : WorldChild) → IsIn cs c → IsIn w.children c) → Each (λ p. is_path p ≡ true) (used_now cs)
  use_users cs of = each_of (λ p. is_path p ≡ true) (used_now cs) (λ p i. let c = used_in cs p i in used_path c.0 p (of c.0 c.1) c.2)

-- the child of such a job runs
pub runs_now : (w : World) (c : WorldChild) (j : Job) → IsIn w.children c → j.recipe ≡ c.recipe → runs w j ≡ true
runs_now w c j i same =
    any_by (is_child_of j) w.children c i (subst (λ r. pointwise bytes_eq (out_paths r) (out_paths j.recipe) ≡ true) same (paths_same (out_paths j.recipe)))
