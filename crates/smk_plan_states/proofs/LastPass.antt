-- The second pass, job by job.
use Rattle.std.proofs.Common.{◌≡◌, ℕ, zero, suc, ◌+◌, ◌<◌, length, arith, Bool, true, false, not, ◌&&◌, ◌||◌, List, [], ◌∷◌, ◌++◌, filter, find, zip, refl, sym, ap, subst, inl, inr, ◌∙◌, Option, Some, None, append_assoc, length-append}
use Rattle.std.specs.List.{list_any}
use Rattle.std.specs.Option.{option_and_then}
use Rattle.std.proofs.lemmas.List.Folds.{list_any-append}
use Rattle.smk_world.specs.declared.recipe.Out.{Out}
use Rattle.smk_world.specs.World.{in_paths, out_paths}
use Rattle.smk_world.specs.Trees.{Path, Each, among, outs_of}
use Rattle.smk_flow.specs.declared.job.Job.{Job}
use Rattle.smk_store.specs.Images.{is_whole}
use Rattle.smk_chain.specs.declared.jobs.Jobs.{Jobs}
use Rattle.smk_trigger.specs.declared.reason.State.{State}
use Rattle.smk_trigger.specs.JobStates.{is_to_run}
use Rattle.smk_plan.specs.States.{makes, gathers_from}
use Rattle.smk_plan.specs.Sights.{job_at}
use Rattle.smk_plan_states.specs.Shapes.{Parts, Paths}
use Rattle.smk_plan_states.specs.Served.{IsBelow, ReadEarlier}
use Rattle.smk_plan_states.specs.Judged.{Judging}
use Rattle.smk_plan_states.specs.Parts.{gone_outputs, parts_of}
use Rattle.smk_plan_states.specs.InUse.{is_in_use_told}
use Rattle.smk_plan_states.specs.First.{unless_needed, IsSolved}
use Rattle.smk_laws_plan.proofs.CurrentLists.{In, in_left, in_right, map_in, filter_in, none_some, or_first, some_inj}
use Rattle.smk_laws_plan.proofs.CurrentPaths.{among_in, in_among}
use Rattle.smk_laws_plan.proofs.CurrentApart.{JobsApart, own_apart}
use Rattle.smk_laws_plan.proofs.CurrentChosen.{path_in}
use Rattle.smk_laws_plan.proofs.PlanStates.{any_same, any_zip}
use Rattle.smk_laws_plan.proofs.PlanOne.{twice}
use Rattle.smk_plan_states.proofs.Tests.{any_never}
use Rattle.smk_plan_states.proofs.Apart.{each_in, jobs_apart_from}
use Rattle.smk_plan_states.proofs.Meaning.{final, first, needs, final_from}
use Rattle.smk_plan_states.proofs.Told.{IsReadOf, told_below}
use Rattle.smk_plan_states.proofs.ReadOthers.{found_one, read_is}

-- ## Lists

pub job_in_front : (before rest : List Job) (n : ℕ) (k : Job) → n < length before → job_at (before ++ rest) n ≡ Some k → In k before
job_in_front [] rest n k lt e = absurd (omega arith)
job_in_front (b ∷ before) rest zero k lt e = inl (sym (some_inj b k e))
job_in_front (b ∷ before) rest (suc n) k lt e = inr (job_in_front before rest n k (omega arith) e)

-- what the jobs of the front read is told to be made by jobs below
read_front :
    (J : Jobs) (n : ℕ) (front rest : List Job) (j : Job) → ReadEarlier J n (front ++ rest) → In j front →
    (m : ℕ) × (m < n + length front) × Each (IsReadOf J m) (in_paths j.recipe ++ gathers_from j)
read_front J n [] rest j h i = absurd i
read_front J n (k ∷ front) rest j h (inl e) = (n, omega arith, subst (λ (x : Job). Each (IsReadOf J n) (in_paths x.recipe ++ gathers_from x)) (sym e) h.0)
read_front J n (k ∷ front) rest j h (inr i) = let r = read_front J (suc n) front rest j h.1 i in let lt = r.1 in (r.0, omega arith, r.2)

module _
    (at : Judging) (jobs : Jobs) (ss : List State) (paths : Paths) (parts : List Parts) (used : Path → Bool) (h : IsSolved at jobs ss paths parts used) where
  abbrev apart : JobsApart jobs.jobs
  apart = jobs_apart_from jobs.jobs h.served.apart

  abbrev late : Job → State
  late = final at.image at.settings at.progress jobs ss

  abbrev early : Job → State
  early = first at.image at.settings at.progress jobs ss

  module _ (before : List Job) (k : Job) (after : List Job) (all : jobs.jobs ≡ before ++ k ∷ after) where
    here : In k jobs.jobs
    here = subst (In k) (sym all) (in_right k before (k ∷ after) (inl refl))

    -- no job up to this one reads what it makes
    unread : (j : Job) (p : Path) → In j (before ++ k ∷ []) → In p (out_paths k.recipe) → In p (in_paths j.recipe) → ⊥
    unread j p i o r = by t.0.job (sym t.1.maker ∙ made) t.2
      where
        m : (m : ℕ) × (m < 0 + length (before ++ k ∷ [])) × Each (IsReadOf jobs m) (in_paths j.recipe ++ gathers_from j)
        m = read_front jobs 0 (before ++ k ∷ []) after j (subst (ReadEarlier jobs 0) (all ∙ sym (append_assoc before (k ∷ []) after)) h.served.reads) i

        t : (s : Rattle.smk_plan_states.specs.Shapes.Site) × Rattle.smk_plan_states.proofs.Told.IsTold at.image jobs p s × IsBelow m.0 s.job
        t =
            told_below at.image jobs m.0 p
            (each_in (IsReadOf jobs m.0) (in_paths j.recipe ++ gathers_from j) p m.2 (in_left p (in_paths j.recipe) (gathers_from j) r))

        own : makes k p ≡ true
        own = or_first (among (out_paths k.recipe) p) _ (in_among (out_paths k.recipe) p o)

        made : find (λ j. makes j p) jobs.jobs ≡ Some k
        made = found_one jobs.jobs k p apart here own

        by : (number : Option ℕ) → option_and_then (job_at jobs.jobs) number ≡ Some k → IsBelow m.0 number → ⊥
        by None e b = none_some None k refl e
        by (Some n) e b =
            let lt = m.1 in
            twice before k after p (subst JobsApart all apart)
            (job_in_front before (k ∷ after) n k (omega (arith, length-append before (k ∷ []))) (ap (λ js. job_at js n) (sym all) ∙ e)) o

    -- what is needed of its outputs is needed by the jobs after it
    pub needed_after : (p : Path) → In p (out_paths k.recipe) → needs at.image at.settings at.progress jobs ss p ≡ list_any (λ (j : Job). among (in_paths j.recipe) p && is_to_run (late j)) after
    needed_after p o =
        ap (λ (xs : List State). list_any (λ (e : Job × State). among (in_paths e.0.recipe) p && is_to_run e.1) (zip jobs.jobs xs)) h.solved
        ∙ any_zip late (λ (e : Job × State). among (in_paths e.0.recipe) p && is_to_run e.1) jobs.jobs
        ∙ ap (list_any test) (all ∙ sym (append_assoc before (k ∷ []) after))
        ∙ list_any-append test (before ++ k ∷ []) after
        ∙ ap (λ b. b || list_any test after) (any_same test (λ j. false) (before ++ k ∷ []) none ∙ any_never (before ++ k ∷ []))
      where
        test : Job → Bool
        test j = among (in_paths j.recipe) p && is_to_run (late j)

        none : (j : Job) → In j (before ++ k ∷ []) → test j ≡ false
        none j i = go (among (in_paths j.recipe) p) refl
          where
            go : (b : Bool) → among (in_paths j.recipe) p ≡ b → (b && is_to_run (late j)) ≡ false
            go false e = refl
            go true e = absurd (unread j p i o (among_in (in_paths j.recipe) p e))

    pub last_here :
        (needed : Path → Bool) → ((q : Path) → needed q ≡ list_any (λ (j : Job). among (in_paths j.recipe) q && is_to_run (late j)) after) →
        unless_needed (list_any needed (gone_outputs at.image k) && not (is_in_use_told used (parts_of at.image k))) (early k) ≡ late k
    last_here needed is =
        final_from at.image at.settings at.progress jobs ss k (list_any needed (gone_outputs at.image k)) (is_in_use_told used (parts_of at.image k)) (own_apart jobs.jobs k apart here)
        (any_same needed (needs at.image at.settings at.progress jobs ss) (gone_outputs at.image k) (λ p i. is p ∙ sym (needed_after p (output p i))))
        (read_is at.image at.settings at.progress jobs ss at.settings.targets h.served.apart h.served.reads used h.in_use k here)
      where
        output : (p : Path) → In p (gone_outputs at.image k) → In p (out_paths k.recipe)
        output p i =
            let o = map_in (λ (o : Out). o.path) (filter (λ (o : Out). not (is_whole at.image o.path o.kind)) (outs_of k.recipe)) p i in
            subst (λ x. In x (out_paths k.recipe)) (sym o.2) (path_in k.recipe o.0 (filter_in (λ (o : Out). not (is_whole at.image o.path o.kind)) (outs_of k.recipe) o.0 o.1).0)
