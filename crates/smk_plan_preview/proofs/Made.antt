-- The job of a number that is told makes the path.
use Rattle.std.proofs.Common.{◌≡◌, inl, inr, ℕ, suc, Bool, true, false, cond, List, [], ◌∷◌, map, flat_map, Option, Some, None, refl, sym, ap, ◌∙◌, bytes_eq}
use Rattle.std.specs.Prelude.{if◌then◌else◌, option_map}
use Rattle.std.specs.List.{find}
use Rattle.smk_laws_plan.proofs.PlanOne.{job_makes}
use Rattle.smk_base.proofs.Places.{place_itself, same_place}
use Rattle.smk_world.specs.Trees.{Path, Each}
use Rattle.smk_flow.specs.declared.job.Job.{Job}
use Rattle.smk_flow.specs.Flows.{Candidate, Flow}
use Rattle.smk_choose.specs.Choose.{Choice, Source, Make, Nothing, Ambiguous, Sources, choose, maker}
use Rattle.smk_choose.specs.Told.{making}
use Rattle.smk_chain.specs.declared.jobs.Maker.{Maker}
use Rattle.smk_chain.specs.Derive.{Listings, chosen, distinct, job, jobs, same_candidate, walk}
use Rattle.smk_chain_walk.specs.Links.{AreOnce, maker_told, number_for}
use Rattle.smk_chain_walk.specs.Numbers.{is_job, number_in, place_of}
use Rattle.smk_plan.specs.States.{makes}
use Rattle.smk_plan.specs.Sights.{job_at}
use Rattle.smk_laws_plan.proofs.CurrentLists.{In, distinct_in, flat_in}
use Rattle.smk_laws_plan.proofs.CurrentWalked.{chosen_same, walked_chosen}
use Rattle.smk_plan_facts.specs.Facts.{IsMade}
use Rattle.smk_plan_facts.proofs.Tests.{each_of, none_some, some_same}
use Rattle.smk_plan_preview.specs.Links.{LinkedAreMade}

-- ## The job of a number

module _ (flow : Flow) (L : Listings) where
  -- the candidate that is found at a place
  record IsAt (cs : List Candidate) (c : Candidate) (n : ℕ) : Type 0 where
    at : Candidate
    one : In at cs
    same : same_candidate at c ≡ true
    there : job_at (map (job flow L) cs) n ≡ Some (job flow L at)

  number_of : (o : Option ℕ) (n : ℕ) → option_map suc o ≡ Some n → (k : ℕ) × (o ≡ Some k) × (suc k ≡ n)
  number_of None n e = absurd (none_some n e)
  number_of (Some k) n e = (k, refl, some_same (suc k) n e)

  found_at : (cs : List Candidate) (c : Candidate) (n : ℕ) → place_of cs (making c) ≡ Some n → IsAt cs c n
  found_at [] c n e = absurd (none_some n e)
  found_at (d ∷ cs) c n e = go (is_job (making c) d) refl e (found_at cs c)
    where
      go : (b : Bool) → is_job (making c) d ≡ b → (if b then Some 0 else option_map suc (place_of cs (making c))) ≡ Some n → ((k : ℕ) → place_of cs (making c) ≡ Some k → IsAt cs c k) → IsAt (d ∷ cs) c n
      go true is k more = record { at = d; one = inl refl; same = is; there = ap (job_at (map (job flow L) (d ∷ cs))) (sym (some_same 0 n k)) }
      go false is k more =
          let r = number_of (place_of cs (making c)) n k in
          let a = more r.0 r.1 in
          record { at = a.at; one = inr a.one; same = a.same; there = ap (job_at (map (job flow L) (d ∷ cs))) (sym r.2) ∙ a.there }

module _ (flow : Flow) (sources : Sources) (L : Listings) (targets : List Path) where
  abbrev all : List Candidate
  all = flat_map (walk flow sources L 200) targets

  -- the job of the number that is told for a path makes it
  number_makes : (q : Path) (n : ℕ) (j : Job) → number_for flow sources L (chosen flow sources L targets) q ≡ Some n → job_at (jobs flow sources L targets) n ≡ Some j → makes j q ≡ true
  number_makes q n j e at = go (choose flow sources q) refl e
    where
      cs : List Candidate
      cs = chosen flow sources L targets

      make : (c : Candidate) → choose flow sources q ≡ Make c → IsAt flow L (distinct same_candidate all) c n → makes j q ≡ true
      make c is a =
          let t = flat_in (walk flow sources L 200) targets a.at (distinct_in same_candidate all a.at a.one) in
          let p = walked_chosen flow sources L 200 t.0 a.at t.2 in
          let same = chosen_same flow sources L p.0 q a.at c p.1 is a.same in
          ap (λ (k : Job). makes k q) (some_same j (job flow L a.at) (sym at ∙ a.there) ∙ ap (job flow L) same) ∙ job_makes flow sources L q c is

      go : (o : Choice) → choose flow sources q ≡ o → number_in (chosen flow sources L targets) (maker o) ≡ Some n → makes j q ≡ true
      go Source is k = absurd (none_some n k)
      go (Nothing lack) is k = absurd (none_some n k)
      go (Ambiguous a b) is k = absurd (none_some n k)
      go (Make c) is k = make c is (found_at flow L (chosen flow sources L targets) c n k)

-- ## Makers

told_behind : (m : Maker) (makers : List Maker) → maker_told makers m.path ≡ None → (x : Maker) → maker_told makers x.path ≡ Some x.job → maker_told (m ∷ makers) x.path ≡ Some x.job
told_behind m makers none x told = go (bytes_eq m.path x.path) refl
  where
    go : (b : Bool) → bytes_eq m.path x.path ≡ b → option_map (λ (y : Maker). y.job) (cond b (Some m) (find (λ (y : Maker). bytes_eq y.path x.path) makers)) ≡ Some x.job
    go true same = absurd (none_some {A = Option ℕ} x.job (sym none ∙ ap (maker_told makers) (same_place m.path x.path same) ∙ told))
    go false same = told

told_each : (makers : List Maker) → AreOnce makers → Each (λ (m : Maker). maker_told makers m.path ≡ Some m.job) makers
told_each [] once = tt
told_each (m ∷ makers) once = (
  ap (λ b. option_map (λ (y : Maker). y.job) (cond b (Some m) (find (λ (y : Maker). bytes_eq y.path m.path) makers))) (place_itself m.path),
  each_of (λ (x : Maker). maker_told makers x.path ≡ Some x.job) (λ (x : Maker). maker_told (m ∷ makers) x.path ≡ Some x.job) (told_behind m makers once.0) makers (told_each makers once.1),
)

pub linked_made : LinkedAreMade
linked_made flow sources L targets made are links =
    each_of (λ (m : Maker). maker_told made.makers m.path ≡ Some m.job) (IsMade made.jobs)
    (λ m told n j number there. number_makes flow sources L targets m.path n j (sym (links.right m.path m.job told) ∙ number) (sym (ap (λ (js : List Job). job_at js n) are) ∙ there))
    made.makers (told_each made.makers links.once)
