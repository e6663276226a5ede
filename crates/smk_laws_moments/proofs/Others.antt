-- Jobs whose children run, by the plan in force: they are told as running, and aren't Clean.
use Rattle.std.proofs.Common.{◌≡◌, inl, inr, ℕ, Bool, true, false, ◌&&◌, not, List, [], ◌∷◌, filter, find, refl, ap, sym, subst, ◌∙◌, Option, Some, None, true≢false}
use Rattle.std.specs.Prelude.{bytes_eq, is_some, option_map}
use Rattle.std.specs.List.{list_any}
use lib.Pointwise.{pointwise}
use Rattle.smk_base.proofs.Places.{place_itself, same_place}
use Rattle.smk_base.proofs.Under.{both_true, never_both}
use Rattle.smk_world.specs.World.{World, in_paths, out_paths}
use Rattle.smk_world.specs.Trees.{Path, IsIn, Each, among}
use Rattle.smk_flow.specs.declared.job.Job.{Job}
use Rattle.smk_store.specs.Images.{Image}
use Rattle.smk_store.specs.Soundness.{Outside}
use Rattle.smk_trigger.specs.declared.reason.State.{State}
use Rattle.smk_trigger.specs.declared.reason.State.TheVariants.{Open, Dirty, Restore, Clean}
use Rattle.smk_trigger.specs.JobStates.{is_clean}
use Rattle.smk_pick.specs.declared.settings.Settings.{Settings}
use Rattle.smk_plan.specs.States.{Plan, Progress, is_read_now, job_path, kept_state, makes, unless_clean, while_running}
use Rattle.smk_laws_protocol.specs.Protocol.{OpenJob, Running}
use Rattle.smk_laws_protocol.specs.Midway.{AllStrangers, AreStrangers, InPhase, IsOfJob}
use Rattle.smk_laws_protocol.proofs.Basics.{any_by, each_in, none_of}
use Rattle.smk_laws_plan.proofs.CurrentLists.{find_some, in_filter, in_map}
use Rattle.smk_laws_plan.proofs.CurrentPaths.{in_among}
use Rattle.smk_drive.specs.Moments.{Begun, is_child_of, progress_of, runs}

-- ## A child of an open job

paths_same : (ps : List Path) → pointwise bytes_eq ps ps ≡ true
paths_same [] = refl
paths_same (p ∷ ps) = both_true (bytes_eq p p) (pointwise bytes_eq ps ps) (place_itself p) (paths_same ps)

-- no two open jobs have the same child
one_child : (js : List OpenJob) (j k : OpenJob) (n : ℕ) → AllStrangers js → IsIn js j → IsIn js k → j.phase ≡ Running n → k.phase ≡ Running n → j ≡ k
one_child [] j k n h i l a b = absurd i
one_child (x ∷ js) j k n h (inl e) (inl d) a b = e ∙ sym d
one_child (x ∷ js) j k n h (inl e) (inr l) a b = absurd ((each_in (AreStrangers x) js k h.0 l).3 n (ap (λ (z : OpenJob). z.phase) (sym e) ∙ a) b)
one_child (x ∷ js) j k n h (inr i) (inl d) a b = absurd ((each_in (AreStrangers x) js j h.0 i).3 n (ap (λ (z : OpenJob). z.phase) (sym d) ∙ b) a)
one_child (x ∷ js) j k n h (inr i) (inr l) a b = one_child js j k n h.1 i l a b

-- the child of an open job runs
pub child_runs :
    (o : Outside) (w : World) (js : List OpenJob) (j : OpenJob) (k : Job) (n : ℕ) → Each (InPhase o w) js → AllStrangers js → Each (IsOfJob js) w.children →
    IsIn js j → j.phase ≡ Running n → k.recipe ≡ j.recipe → runs w k ≡ true
child_runs o w js j k n phases apart children i running same =
    let c = (each_in (InPhase o w) js j phases i).child n running in
    let of = each_in (IsOfJob js) w.children c.0 children c.1 in
    let is = one_child js of.0 j n apart of.1 i (of.2 ∙ ap Running c.2) running in
    any_by (is_child_of k) w.children c.0 c.1
    (subst (λ r. pointwise bytes_eq (out_paths r) (out_paths k.recipe) ≡ true)
    (same ∙ sym (ap (λ (z : OpenJob). z.recipe) is) ∙ sym of.3) (paths_same (out_paths k.recipe)))

-- ## What the plan says of it

some_mapped : {A B : Type 0} (f : A → B) (o : Option A) (x : A) → o ≡ Some x → is_some (option_map f o) ≡ true
some_mapped f None x e = cc
some_mapped f (Some y) x e = refl

module _ (image : Image) (settings : Settings) (plan : Plan) (w : World) (begun : List Begun) where
  abbrev progress : Progress
  progress = progress_of w begun

  -- a job that has begun and whose child runs is told as running
  pub is_kept : (b : Begun) → IsIn begun b → runs w b.job ≡ true → is_some (kept_state image settings progress plan b.job) ≡ true
  is_kept b i running =
      let e : Path × State = (job_path b.job, b.state) in
      let there =
      in_map (λ (x : Begun). (job_path x.job, x.state)) (filter (λ (x : Begun). runs w x.job) begun) b
      (in_filter (λ (x : Begun). runs w x.job) begun b i running) in
      let found = find_some (λ (x : Path × State). bytes_eq x.0 (job_path b.job)) progress.running e there (place_itself (job_path b.job)) in
      some_mapped (λ (x : Path × State). x.1) (find (λ (x : Path × State). bytes_eq x.0 (job_path b.job)) progress.running) found.0 found.1

  pub has_begun : (b : Begun) → IsIn begun b → among progress.begun (job_path b.job) ≡ true
  has_begun b i = in_among progress.begun (job_path b.job) (in_map (λ (x : Begun). job_path x.job) begun b i)

unless_unclean : (s : State) → is_clean (unless_clean s) ≡ false
unless_unclean Open = refl
unless_unclean (Dirty rs) = refl
unless_unclean Restore = refl
unless_unclean Clean = refl

-- what runs isn't Clean
pub kept_unclean : (o : Option State) (s : State) → is_some o ≡ true → is_clean (while_running o s) ≡ false
kept_unclean None s h = absurd (true≢false (sym h))
kept_unclean (Some (Dirty rs)) s h = refl
kept_unclean (Some Open) s h = unless_unclean s
kept_unclean (Some Restore) s h = unless_unclean s
kept_unclean (Some Clean) s h = unless_unclean s

-- what a running job reads no other makes, where no child reads what that one makes
pub read_by_none :
    (image : Image) (settings : Settings) (progress : Progress) (plan : Plan) (j k : Job) (q : Path) →
    is_read_now image settings progress plan j ≡ false → IsIn plan.jobs k → is_some (kept_state image settings progress plan k) ≡ true →
    bytes_eq (job_path j) (job_path k) ≡ false → IsIn (in_paths k.recipe) q → makes j q ≡ false
read_by_none image settings progress plan j k q unread ik kept differ iq =
    none_of (makes j) (in_paths k.recipe) q
    (rest (is_some (kept_state image settings progress plan k)) (bytes_eq (job_path j) (job_path k)) (list_any (makes j) (in_paths k.recipe)) kept differ
    (none_of (λ x. is_some (kept_state image settings progress plan x)
    && (not (bytes_eq (job_path j) (job_path x)) && list_any (makes j) (in_paths x.recipe))) plan.jobs k unread ik)) iq
  where
    rest : (a b c : Bool) → a ≡ true → b ≡ false → (a && (not b && c)) ≡ false → c ≡ false
    rest true true c x y h = absurd (true≢false y)
    rest true false c x y h = h
    rest false b c x y h = absurd (true≢false (sym x))

-- a job that hasn't begun is named otherwise than one that has
pub named_apart : (ps : List Path) (p q : Path) → among ps p ≡ false → among ps q ≡ true → bytes_eq p q ≡ false
named_apart ps p q never once = go (bytes_eq p q) refl
  where
    go : (b : Bool) → bytes_eq p q ≡ b → b ≡ false
    go true e = absurd (never_both (among ps p) (subst (λ x. among ps x ≡ true) (sym (same_place p q e)) once) never)
    go false e = refl
