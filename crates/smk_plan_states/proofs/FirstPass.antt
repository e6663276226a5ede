-- The first pass, job by job.
use Rattle.std.proofs.Common.{◌≡◌, ℕ, zero, suc, length, get_or, arith, Bool, not, cond, ◌&&◌, List, [], ◌∷◌, ◌++◌, map, filter, refl, sym, ap, subst, inl, ◌∙◌, Option}
use Rattle.std.specs.Prelude.{bytes_eq}
use Rattle.smk_world.specs.World.{in_paths, out_paths}
use Rattle.smk_world.specs.Trees.{Path}
use Rattle.smk_flow.specs.declared.job.Job.{Job}
use Rattle.smk_store.specs.Images.{Image}
use Rattle.smk_store.specs.Trust.{is_marked_but, stamp_now_but}
use Rattle.smk_chain.specs.declared.jobs.Jobs.{Jobs}
use Rattle.smk_chain.specs.Derive.{distinct}
use Rattle.smk_trigger.specs.declared.reason.Reason.{Reason}
use Rattle.smk_trigger.specs.declared.reason.Reason.TheVariants.{Upstream, Forced}
use Rattle.smk_trigger.specs.declared.reason.State.{State}
use Rattle.smk_trigger.specs.declared.reason.State.TheVariants.{Open}
use Rattle.smk_trigger.specs.JobStates.{is_dirty}
use Rattle.smk_trigger.specs.Reasons.{own_reasons, when}
use Rattle.smk_pick.specs.declared.settings.Settings.{Settings}
use Rattle.smk_plan.specs.States.{Progress, by_reasons, made_by, is_forced, is_restored, kept_state}
use Rattle.smk_plan_states.specs.Shapes.{Parts, Paths}
use Rattle.smk_plan_states.specs.Judged.{Judging, with_states}
use Rattle.smk_plan_states.specs.Parts.{parts_of}
use Rattle.smk_plan_states.specs.Paths.{site_at}
use Rattle.smk_plan_states.specs.Passes.{opens, is_dirty_told, is_kept_told}
use Rattle.smk_plan_states.specs.InUse.{is_in_use_told}
use Rattle.smk_plan_states.specs.First.{first_state, first_by_table, first_told, IsSolved}
use Rattle.smk_laws_plan.proofs.CurrentLists.{In, in_right, distinct_in}
use Rattle.smk_laws_plan.proofs.CurrentApart.{JobsApart, own_apart}
use Rattle.smk_laws_plan.proofs.PlanStates.{filter_same}
use Rattle.smk_plan_states.proofs.Apart.{jobs_apart_from}
use Rattle.smk_plan_states.proofs.Told.{opens_is, kept_is, dirty_same}
use Rattle.smk_plan_states.proofs.ReadOthers.{read_is}

-- the reasons of a job that concern it alone
abbrev pub own_of : Image → Settings → Progress → Jobs → Job → List Reason
own_of image settings progress jobs j =
    own_reasons j.recipe (map image.kept (out_paths j.recipe)) (map (is_marked_but image (is_restored image settings progress (with_states jobs []))) (out_paths j.recipe))
    (map (λ q. (q, stamp_now_but image (is_restored image settings progress (with_states jobs [])) q)) (in_paths j.recipe))

-- ## Lists

pub at_split : {A B : Type 0} (f : A → B) (before : List A) (x : A) (after : List A) (n : ℕ) (d : B) → n ≡ length before → get_or (map f (before ++ x ∷ after)) n d ≡ f x
at_split f [] x after zero d e = refl
at_split f [] x after (suc n) d e = absurd (omega arith)
at_split f (b ∷ before) x after zero d e = absurd (omega arith)
at_split f (b ∷ before) x after (suc n) d e = at_split f before x after n d (omega arith)

-- ## One job

module _
    (at : Judging) (jobs : Jobs) (ss : List State) (paths : Paths) (parts : List Parts) (used : Path → Bool) (h : IsSolved at jobs ss paths parts used) where
  abbrev pub apart : JobsApart jobs.jobs
  apart = jobs_apart_from jobs.jobs h.served.apart

  abbrev pub early : Job → State
  early = first_state at.image at.settings at.progress (with_states jobs ss)

  abbrev kept_by : Job → Option State
  kept_by = kept_state at.image at.settings at.progress (with_states jobs [])

  pub first_here :
      (before : List Job) (k : Job) (after : List Job) (states : List State) (part : Parts) (told : Bool) →
      jobs.jobs ≡ before ++ k ∷ after → states ≡ map early before → part ≡ parts_of at.image k → told ≡ is_forced at.image at.settings at.progress (with_states jobs []) k →
      first_told states (λ q. paths.sites q) (λ q. paths.listed q)
      (is_kept_told (λ q. paths.targets q) (λ q. paths.awaited q) (λ q. paths.read q) part && not (is_in_use_told used part)) part (own_of at.image at.settings at.progress jobs k) told
      ≡ first_by_table at.image at.settings at.progress (with_states jobs ss) k
  first_here before k after states part told is made split forced =
      let here : In k jobs.jobs = subst (In k) (sym is) (in_right k before (k ∷ after) (inl refl)) in
      let listed = λ (q : Path). paths.listed q in
      let opened =
      (λ i. opens (made i) (λ q. h.paths.sites q i) listed (split i))
      ∙ opens_is at.image at.settings at.progress jobs ss h.solved apart at.settings.targets refl h.served.targets h.served.reads before after k is listed h.paths.listed in
      let dirty =
      (λ i. filter (is_dirty_told (made i) (λ q. h.paths.sites q i)) (distinct bytes_eq (split i).inputs))
      ∙ filter_same (is_dirty_told (map early before) (site_at at.image jobs)) (made_by (with_states jobs ss) is_dirty) (distinct bytes_eq (in_paths k.recipe))
      (λ q i. dirty_same at.image at.settings at.progress jobs ss h.solved apart at.settings.targets refl h.served.targets h.served.reads before after k is q (distinct_in bytes_eq (in_paths k.recipe) q i)) in
      let kept =
      ap (is_kept_told (λ q. paths.targets q) (λ q. paths.awaited q) (λ q. paths.read q)) split
      ∙ kept_is at.image at.settings at.progress jobs ss h.solved apart at.settings.targets refl h.served.targets h.served.reads
      (λ q. paths.targets q) (λ q. paths.awaited q) (λ q. paths.read q) h.paths.targets h.paths.awaited h.paths.read k (own_apart jobs.jobs k apart here) in
      let used_is = ap (is_in_use_told used) split ∙ read_is at.image at.settings at.progress jobs ss at.settings.targets h.served.apart h.served.reads used h.in_use k here in
      λ i. cond (opened i) Open (by_reasons (own_of at.image at.settings at.progress jobs k ++ (map Upstream (dirty i) ++ when (forced i) Forced)) (kept i && not (used_is i)))
