-- Of each job that listings derive: it is named by an output, its outputs are paths, and what it guards is an output.
use Rattle.std.proofs.Common.{◌≡◌, true, ◌&&◌, not, List, [], ◌∷◌, ◌++◌, filter, flat_map, refl, sym, ap, subst, ◌∙◌, inl}
use Rattle.smk_base.specs.Path.{is_path}
use Rattle.smk_world.specs.World.{out_paths}
use Rattle.smk_world.specs.Trees.{Each, Path, first}
use Rattle.smk_pattern.specs.Reading.{fill, or_empty}
use Rattle.smk_flow.specs.declared.job.Job.{Job}
use Rattle.smk_flow.specs.declared.rule.Flag.TheVariants.{Protected}
use Rattle.smk_flow.specs.declared.rule.FlaggedText.{FlaggedText}
use Rattle.smk_flow.specs.Flows.{Candidate, Flow, logs, outputs, outs}
use Rattle.smk_flow.specs.Jobs.{flagged, is_flagged}
use Rattle.smk_choose.specs.Choose.{Make, Sources, choose}
use Rattle.smk_chain.specs.Derive.{Listings, distinct, job, jobs, same_candidate, walk}
use Rattle.smk_plan.specs.States.{job_path}
use Rattle.smk_laws_plan.proofs.CurrentLists.{In, all_in, and_left, distinct_in, filter_in, flat_in, in_left, in_map, map_in}
use Rattle.smk_laws_plan.proofs.CurrentApart.{makes_above}
use Rattle.smk_laws_plan.proofs.CurrentChosen.{chosen_candidate}
use Rattle.smk_laws_plan.proofs.CurrentWalked.{walked_chosen}
use Rattle.smk_laws_plan.proofs.PlanOne.{job_makes}
use Rattle.smk_laws_protocol.proofs.Basics.{each_of}
use Rattle.smk_cli_target.proofs.PlanPlaces.{items_filled}

first_in : (ps : List Path) (o : Path) → In o ps → In (or_empty (first ps)) ps
first_in [] o i = absurd i
first_in (p ∷ ps) o i = inl refl

module _ (flow : Flow) (sources : Sources) (L : Listings) (targets : List Path) (k : Job) (ik : In k (jobs flow sources L targets)) where
  -- its candidate, which is chosen for a path
  record IsOfCandidate : Type 0 where
    candidate : Candidate
    is_job : k ≡ job flow L candidate
    path : Path
    chosen : choose flow sources path ≡ Make candidate

  of_candidate : IsOfCandidate
  of_candidate =
      let walked = flat_map (walk flow sources L 200) targets in
      let c = map_in (job flow L) (distinct same_candidate walked) k ik in
      let t = flat_in (walk flow sources L 200) targets c.0 (distinct_in same_candidate walked c.0 c.1) in
      let q = walked_chosen flow sources L 200 t.0 c.0 t.2 in record { candidate = c.0; is_job = c.2; path = q.0; chosen = q.1 }

  abbrev c : Candidate
  c = of_candidate.candidate

  outs_are : out_paths k.recipe ≡ outputs flow c
  outs_are = ap (λ (x : Job). out_paths x.recipe) of_candidate.is_job ∙ items_filled c.binding c.part.outputs

  pub is_named_so : In (job_path k) (out_paths k.recipe)
  is_named_so =
      let o = makes_above (job flow L c) of_candidate.path (job_makes flow sources L of_candidate.path c of_candidate.chosen) in
      first_in (out_paths k.recipe) o.0 (subst (λ (x : Job). In o.0 (out_paths x.recipe)) (sym of_candidate.is_job) o.1)

  pub outs_are_paths : Each (λ p. is_path p ≡ true) (out_paths k.recipe)
  outs_are_paths = each_of (λ p. is_path p ≡ true) (out_paths k.recipe) one
    where
      one : (p : Path) → In p (out_paths k.recipe) → is_path p ≡ true
      one p i =
          and_left (is_path p) (not (sources.holds p))
          (all_in (λ q. is_path q && not (sources.holds q)) (outputs flow c ++ logs flow c) p (chosen_candidate flow sources of_candidate.path c of_candidate.chosen).1
          (in_left p (outputs flow c) (logs flow c) (subst (λ ps. In p ps) outs_are i)))

  pub guards_are_outs : (p : Path) → In p k.guards → In p (out_paths k.recipe)
  guards_are_outs p i =
      let text = λ (o : FlaggedText). fill c.binding o.text in
      let guards : In p (flagged c.binding Protected (outs c.part)) = subst (λ (x : Job). In p x.guards) of_candidate.is_job i in
      let o = map_in text (filter (is_flagged Protected) (outs c.part)) p guards in
      subst (λ ps. In p ps) (sym outs_are)
      (subst (λ q. In q (outputs flow c)) (sym o.2) (in_map text (outs c.part) o.0 (filter_in (is_flagged Protected) (outs c.part) o.0 o.1).0))
