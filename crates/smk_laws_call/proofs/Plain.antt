-- Jobs of a plain workflow make plain files and gather nothing.
use Rattle.std.proofs.Common.{◌≡◌, false, [], flat_map, sym, subst, ◌∙◌, true≢false}
use Rattle.std.specs.List.{list_any}
use Rattle.smk_world.specs.declared.recipe.Kind.TheVariants.{Plain}
use Rattle.smk_world.specs.declared.recipe.Out.{Out}
use Rattle.smk_world.specs.Trees.{Path, Each, IsIn, outs_of}
use Rattle.smk_flow.specs.declared.job.Job.{Job}
use Rattle.smk_flow.specs.Flows.{Flow, Candidate, gathers}
use Rattle.smk_choose.specs.Choose.{Sources, choose, Make}
use Rattle.smk_chain.specs.Derive.{distinct, job, jobs, refusals, same_candidate, sources_of, walk}
use Rattle.smk_plan.specs.States.{IsPlan}
use Rattle.smk_laws_plan.proofs.CurrentChosen.{origin}
use Rattle.smk_laws_history.proofs.CurrentLaw.{last_is}
use Rattle.smk_laws_plan.proofs.CurrentLists.{distinct_in, flat_in, map_in}
use Rattle.smk_laws_plan.proofs.CurrentReach.{outcome_derived}
use Rattle.smk_laws_plan.proofs.CurrentWalked.{walked_chosen}
use Rattle.smk_cli_calls.specs.OneByOne.{is_gathering, item_has_folders}
use Rattle.smk_cli_calls.proofs.Plain.{each_from, numbered_in, none_is, plain_part, plain_outs, no_gathers}
use Rattle.smk_laws_call.specs.Plain.{PlainFlowsGatherAlone, PlainFlowsPlanPlainly}

-- ## Plans

part_of : (flow : Flow) (sources : Sources) (p : Path) (c : Candidate) → choose flow sources p ≡ Make c → IsIn flow.rules c.part
part_of flow sources p c e = numbered_in flow.rules 0 c.rule c.part (origin flow p c sources e).listed

pub plain_flows_plan_plainly : PlainFlowsPlanPlainly
plain_flows_plan_plainly flow image settings progress L plan plain last =
    record {
      gathers_none = each_from (λ (j : Job). j.gathers ≡ []) plan.jobs (λ j i.
          let c = candidate j i in
          subst (λ (x : Job). x.gathers ≡ []) (sym c.1) (no_gathers flow (c.0).part.limits (c.0).binding 0 (c.0).part.inputs (items c.0 c.2).1));
      plain = each_from (λ (j : Job). Each (λ (out : Out). out.kind ≡ Plain) (outs_of j.recipe)) plan.jobs (λ j i.
          let c = candidate j i in
          subst (λ (x : Job). Each (λ (out : Out). out.kind ≡ Plain) (outs_of x.recipe)) (sym c.1) (plain_outs flow plan.lists c.0 (items c.0 c.2).0));
    }
  where
    is : IsPlan flow image settings progress plan
    is = last_is flow image settings progress L plan last

    jobs_are : jobs flow (sources_of image) plan.lists settings.targets ≡ plan.jobs
    jobs_are =
        (outcome_derived (refusals flow (sources_of image) image plan.lists settings.targets) (jobs flow (sources_of image) plan.lists settings.targets) plan.jobs
        is.derived).1

    candidate : (j : Job) → IsIn plan.jobs j → (c : Candidate) × (j ≡ job flow plan.lists c) × ((p : Path) × (choose flow (sources_of image) p ≡ Make c))
    candidate j i =
        let all = flat_map (walk flow (sources_of image) plan.lists 200) settings.targets in
        let c = map_in (job flow plan.lists) (distinct same_candidate all) j (subst (λ js. IsIn js j) (sym jobs_are) i) in
        let t = flat_in (walk flow (sources_of image) plan.lists 200) settings.targets c.0 (distinct_in same_candidate all c.0 c.1) in
        (c.0, c.2, walked_chosen flow (sources_of image) plan.lists 200 t.0 c.0 t.2)

    items : (c : Candidate) → ((p : Path) × (choose flow (sources_of image) p ≡ Make c)) → (list_any item_has_folders c.part.outputs ≡ false) × (list_any is_gathering c.part.inputs ≡ false)
    items c made = plain_part flow.rules c.part plain (part_of flow (sources_of image) made.0 c made.1)

-- ## Flows

pub plain_flows_gather_alone : PlainFlowsGatherAlone
plain_flows_gather_alone flow plain part i p k gathers =
    absurd (true≢false (sym gathers ∙ none_is is_gathering part.inputs i (plain_part flow.rules part plain p).1 k))
