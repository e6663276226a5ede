-- There are states that meet the table, since what a job reads is made by jobs before it.
use Rattle.std.proofs.Common.{◌≡◌, ◌⊎◌, ℕ, length, arith, true, false, List, [], ◌∷◌, ◌++◌, map, find, refl, sym, ap, subst, inl, inr, ◌∙◌, Option, Some, None, append_assoc}
use Rattle.std.specs.Option.{option_and_then}
use Rattle.smk_world.specs.World.{in_paths}
use Rattle.smk_world.specs.Trees.{Path}
use Rattle.smk_flow.specs.declared.job.Job.{Job}
use Rattle.smk_store.specs.Images.{Image}
use Rattle.smk_chain.specs.declared.jobs.Jobs.{Jobs}
use Rattle.smk_trigger.specs.declared.reason.State.{State}
use Rattle.smk_pick.specs.declared.settings.Settings.{Settings}
use Rattle.smk_plan.specs.States.{Progress, HasStates, makes, gathers_from, state_of}
use Rattle.smk_plan.specs.Sights.{job_at}
use Rattle.smk_plan_states.specs.Served.{AreServed, IsBelow, ReadEarlier}
use Rattle.smk_plan_states.specs.Judged.{with_states}
use Rattle.smk_laws_plan.proofs.CurrentLists.{In, in_left, in_right, in_either, find_in, none_some}
use Rattle.smk_laws_plan.proofs.CurrentRecipes.{map_same}
use Rattle.smk_laws_plan.proofs.PlanOrder.{Reads, InOrder}
use Rattle.smk_laws_plan.proofs.PlanOne.{solution}
use Rattle.smk_plan_states.proofs.Apart.{each_in, jobs_apart_from}
use Rattle.smk_plan_states.proofs.Told.{IsReadOf, IsTold, read_there, told_below}
use Rattle.smk_plan_states.proofs.ReadOthers.{find_none}
use Rattle.smk_plan_states.proofs.LastPass.{job_in_front}

module _ (image : Image) (J : Jobs) (asked : List Path) (served : AreServed J asked) where
  order_from : (front rest seen : List Job) → J.jobs ≡ front ++ rest → ((x : Job) → In x front → In x seen) → InOrder J.jobs seen rest
  order_from front [] seen all within = tt
  order_from front (k ∷ rest) seen all within =
      (served_here, order_from (front ++ k ∷ []) rest (k ∷ seen) (all ∙ sym (append_assoc front (k ∷ []) rest)) grown)
    where
      grown : (x : Job) → In x (front ++ k ∷ []) → In x (k ∷ seen)
      grown x i = go (in_either x front (k ∷ []) i)
        where
          go : In x front ⊎ In x (k ∷ []) → In x (k ∷ seen)
          go (inl l) = inr (within x l)
          go (inr (inl e)) = inl e
          go (inr (inr l)) = absurd l

      served_here : (q : Path) → Reads k q → ((j : Job) → In j J.jobs → makes j q ≡ false) ⊎ ((j : Job) × In j seen × (makes j q ≡ true))
      served_here q r = go (find (λ j. makes j q) J.jobs) refl
        where
          read : Reads k q → In q (in_paths k.recipe ++ gathers_from k)
          read (inl i) = in_left q (in_paths k.recipe) (gathers_from k) i
          read (inr i) = in_right q (in_paths k.recipe) (gathers_from k) i

          n : ℕ
          n = length front

          t : (s : Rattle.smk_plan_states.specs.Shapes.Site) × IsTold image J q s × IsBelow (length front) s.job
          t =
              told_below image J (length front) q
              (each_in (IsReadOf J (length front)) (in_paths k.recipe ++ gathers_from k) q
              (read_there J 0 front k rest (subst (ReadEarlier J 0) all served.reads) (length front) (omega arith)) (read r))

          early : (j : Job) (number : Option ℕ) → option_and_then (job_at J.jobs) number ≡ Some j → IsBelow (length front) number → In j front
          early j None e b = absurd (none_some None j refl e)
          early j (Some m) e b = job_in_front front (k ∷ rest) m j b (ap (λ js. job_at js m) (sym all) ∙ e)

          go : (o : Option Job) → find (λ j. makes j q) J.jobs ≡ o → ((j : Job) → In j J.jobs → makes j q ≡ false) ⊎ ((j : Job) × In j seen × (makes j q ≡ true))
          go None e = inl (λ j i. find_none (λ j. makes j q) J.jobs j e i)
          go (Some j) e = inr (j, within j (early j t.0.job (sym t.1.maker ∙ e) t.2), (find_in (λ j. makes j q) J.jobs j e).1)

  -- states that meet the table
  pub solved : (settings : Settings) (progress : Progress) → (ss : List State) × HasStates image settings progress (with_states J ss)
  solved settings progress =
      let s = solution image settings progress J.lists J.jobs (jobs_apart_from J.jobs served.apart) (order_from [] J.jobs [] refl (λ x i. i)) in
      (map s.0 J.jobs, map_same s.0 (state_of image settings progress (with_states J (map s.0 J.jobs))) J.jobs s.1)
