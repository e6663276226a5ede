-- The jobs of targets can be run.
use Rattle.std.proofs.Common.{◌≡◌, ℕ, suc, ◌<◌, true, List, [], ◌∷◌, ◌++◌, map, Option, Some, None, option_map, Result, Ok, Err, IfOk, refl, sym, ap₂, subst, bytes_eq}
use Rattle.std.specs.List.{find, flat_map, filter_map, AllByRecursion}
use Rattle.std.specs.Option.{option_and_then}
use Rattle.smk_base.specs.declared.tree.Pair.{Pair}
use Rattle.smk_world.specs.declared.recipe.Out.{Out}
use Rattle.smk_world.specs.declared.recipe.OutItem.{OutItem}
use Rattle.smk_world.specs.World.{owned_paths}
use Rattle.smk_world.specs.Calls.{are_apart}
use Rattle.smk_world.specs.Trees.{Path, Each}
use Rattle.smk_flow.specs.declared.rule.OutPart.{OutPart}
use Rattle.smk_flow.specs.declared.job.Job.{Job}
use Rattle.smk_flow.specs.Flows.{Flow, Candidate}
use Rattle.smk_flow.specs.Jobs.{filled_out, filled_outs}
use Rattle.smk_choose.specs.Choose.{Sources}
use Rattle.smk_store.specs.Stores.{Known as Stored}
use Rattle.smk_chain.specs.declared.jobs.Jobs.{Jobs}
use Rattle.smk_chain.specs.declared.jobs.Maker.{Maker}
use Rattle.smk_chain.specs.Derive.{Listings, wants, recipe, job, jobs, chosen, spots}
use Rattle.smk_chain.proofs.Inputs.{inputs_each}
use Rattle.smk_chain_derive.specs.Clashes.{clashes_in}
use Rattle.smk_chain_walk.specs.Links.{maker_told, AreLower, number_for, befores_of, AreLinked}
use Rattle.smk_chain_walk.proofs.Depths.{all_map, front_nil, back_nil}
use Rattle.smk_plan.specs.Duties.{maker_in}
use Rattle.smk_plan.specs.Runnable.{IsEarlier, IsRunnable, AreRunnableFrom, AreRunnable}
use Rattle.smk_chain_derive.proofs.Lists.{OnSome, of_found, of_distinct, map_nil}
use Rattle.smk_chain_derive.proofs.Spaced.{jobs_apart}
use Rattle.smk_chain_derive.proofs.Ordered.{by_name_rising}
use Rattle.smk_chain_derive.proofs.Chosen.{IsBound, all_bound}

-- without an output path there is no output
no_outs : (binding : List Pair) (items : List OutPart) → flat_map (λ (item : OutItem). map (λ (out : Out). out.path) item.outs) (map (filled_outs binding) items) ≡ [] → flat_map (λ (o : OutPart). o.outs) items ≡ []
no_outs binding [] e = refl
no_outs binding (i ∷ items) e =
    let rest = flat_map (λ (item : OutItem). map (λ (out : Out). out.path) item.outs) (map (filled_outs binding) items) in
    let here = map (λ (out : Out). out.path) (map (filled_out binding) i.outs) in
    ap₂ ◌++◌ (map_nil (filled_out binding) i.outs (map_nil (λ (out : Out). out.path) (map (filled_out binding) i.outs) (front_nil here rest e))) (no_outs binding items (back_nil here rest e))

earlier_some : (n : ℕ) (o : Option ℕ) → OnSome (λ k. k < n) o → IsEarlier n o
earlier_some n None h = tt
earlier_some n (Some k) h = h

earlier_told : (n : ℕ) (o : Option Maker) (number : Option ℕ) → ((told : Option ℕ) → option_map (λ (m : Maker). m.job) o ≡ Some told → told ≡ number) → IsEarlier n number → IsEarlier n (option_and_then (λ (m : Maker). m.job) o)
earlier_told n None number right h = tt
earlier_told n (Some m) number right h = subst (IsEarlier n) (sym (right m.job refl)) h

module _ (flow : Flow) (sources : Sources) (L : Listings) (makers : List Maker) (all : List Candidate) (right : (q : Path) (number : Option ℕ) → maker_told makers q ≡ Some number → number ≡ number_for flow sources L all q) where
  one_runnable : (n : ℕ) (c : Candidate) → IsBound c → AllByRecursion (λ k. k < n) (befores_of flow sources L all c) → are_apart (owned_paths (recipe flow L c) (job flow L c).logs) ≡ true →
      IsRunnable (maker_in makers) n (job flow L c)
  one_runnable n c bound lower apart =
      record {
        makes = λ e. bound.1 (no_outs c.binding c.part.outputs e);
        apart = apart;
        wildcards = by_name_rising c.binding bound.0;
        earlier =
            inputs_each flow L c (λ q. IsEarlier n (maker_in makers q))
            (all_map (λ q. OnSome (λ k. k < n) (number_for flow sources L all q)) (λ q. IsEarlier n (maker_in makers q))
            (λ q h. earlier_told n (find (λ (m : Maker). bytes_eq m.path q) makers) (number_for flow sources L all q) (right q) (earlier_some n (number_for flow sources L all q) h))
            (wants flow L c)
            (of_found (λ k. k < n) (number_for flow sources L all) (wants flow L c) (of_distinct (λ k. k < n) (filter_map (number_for flow sources L all) (wants flow L c)) lower)));
      }

  all_runnable : (n : ℕ) (cs : List Candidate) → AllByRecursion IsBound cs → AreLower n (map (befores_of flow sources L all) cs) → Each (λ (j : Job). are_apart (owned_paths j.recipe j.logs) ≡ true) (map (job flow L) cs) →
      AreRunnableFrom (maker_in makers) n (map (job flow L) cs)
  all_runnable n [] bound lower apart = tt
  all_runnable n (c ∷ cs) bound lower apart = (one_runnable n c bound.0 lower.0 apart.0, all_runnable (suc n) cs bound.1 lower.1 apart.1)

-- The jobs of targets can be run where they are linked and no two of their outputs and logs clash.
pub linked_runnable : (flow : Flow) (sources : Sources) (L : Listings) (targets : List Path) (store : List Stored) (made : Jobs) →
    made.jobs ≡ jobs flow sources L targets → AreLinked flow sources L targets made → clashes_in store [] (flat_map spots made.jobs) ≡ [] → AreRunnable made
linked_runnable flow sources L targets store made is links clear =
    subst (AreRunnableFrom (maker_in made.makers) 0) (sym is)
    (all_runnable flow sources L made.makers (chosen flow sources L targets) links.right 0 (chosen flow sources L targets) (all_bound flow sources L targets)
    (subst (AreLower 0) links.befores links.lower)
    (jobs_apart store (jobs flow sources L targets) (subst (λ (js : List Job). clashes_in store [] (flat_map spots js) ≡ []) is clear)))

-- the same of an answer
pub all_ready : (flow : Flow) (sources : Sources) (L : Listings) (targets : List Path) (store : List Stored) {E : Type 0} (result : Result Jobs E) →
    IfOk result (λ made. made.jobs ≡ jobs flow sources L targets) → IfOk result (AreLinked flow sources L targets) → IfOk result (λ made. clashes_in store [] (flat_map spots made.jobs) ≡ []) →
    IfOk result AreRunnable
all_ready flow sources L targets store (Ok made) is links clear = linked_runnable flow sources L targets store made is links clear
all_ready flow sources L targets store (Err e) is links clear = tt
