-- Jobs of a plain workflow make plain files and gather nothing.
use Rattle.std.proofs.Common.{◌≡◌, [], ap, sym, subst, ◌∙◌, flat_map}
use Rattle.smk_world.specs.declared.recipe.Kind.TheVariants.{Plain}
use Rattle.smk_world.specs.declared.recipe.Out.{Out}
use Rattle.smk_world.specs.Trees.{Path, Each, IsIn, outs_of}
use Rattle.smk_flow.specs.declared.job.Job.{Job}
use Rattle.smk_flow.specs.Flows.{Flow, Candidate, gathers}
use Rattle.smk_choose.specs.Choose.{Sources, choose, Make}
use Rattle.smk_chain.specs.Derive.{Listings, distinct, job, recipe, same_candidate, sources_of, walk}
use Rattle.smk_laws_plan.proofs.CurrentChosen.{origin}
use Rattle.smk_store.specs.Images.{Image}
use Rattle.smk_pick.specs.declared.settings.Settings.{Settings}
use Rattle.smk_plan.specs.States.{Plan, IsPlan, Progress}
use Rattle.smk_laws_plan.specs.Current.{IsComplete}
use Rattle.smk_laws_plan.proofs.CurrentLists.{distinct_in, flat_in, map_in}
use Rattle.smk_laws_plan.proofs.CurrentWalked.{walked_chosen}
use Rattle.smk_laws_plan.proofs.PlanOne.{derived}
use Rattle.smk_cli_calls.specs.OneByOne.{IsPlainFlow}
use Rattle.smk_cli_calls.proofs.Plain.{each_from, no_gathers, numbered_in, plain_outs, plain_part}
use Rattle.smk_safe.specs.Planned.{IsPlain}

-- ## Chosen jobs

-- the job makes plain files, and gathers nothing
pub record IsPlainly (flow : Flow) (L : Listings) (c : Candidate) : Type 0 where
  pub plain : Each (λ (out : Out). out.kind ≡ Plain) (outs_of (recipe flow L c))
  pub gathers_none : gathers flow c ≡ []

pub chosen_plainly : (flow : Flow) (L : Listings) (sources : Sources) (p : Path) (c : Candidate) → IsPlainFlow flow → choose flow sources p ≡ Make c → IsPlainly flow L c
chosen_plainly flow L sources p c plain e =
    let items = plain_part flow.rules c.part plain (numbered_in flow.rules 0 c.rule c.part (origin flow p c sources e).listed) in
    record { plain = plain_outs flow L c items.0; gathers_none = no_gathers flow c.part.limits c.binding 0 c.part.inputs items.1 }

-- so the jobs of a plan do
pub planned_plain : (flow : Flow) (image : Image) (settings : Settings) (progress : Progress) (plan : Plan) → IsComplete image → IsPlainFlow flow → IsPlan flow image settings progress plan → Each IsPlain plan.jobs
planned_plain flow image settings progress plan complete plain is_plan = each_from IsPlain plan.jobs one
  where
    one : (j : Job) → IsIn plan.jobs j → IsPlain j
    one j i =
        let L = plan.lists in
        let all = flat_map (walk flow (sources_of image) L 200) settings.targets in
        let is = derived flow image L settings.targets plan.jobs complete is_plan.derived in
        let m = map_in (job flow L) (distinct same_candidate all) j (subst (λ js. IsIn js j) (sym is.1) i) in
        let u = flat_in (walk flow (sources_of image) L 200) settings.targets m.0 (distinct_in same_candidate all m.0 m.1) in
        let p = walked_chosen flow (sources_of image) L 200 u.0 m.0 u.2 in
        let plainly = chosen_plainly flow L (sources_of image) p.0 m.0 plain p.1 in
        record {
          gathers_none = ap (λ (x : Job). x.gathers) m.2 ∙ plainly.gathers_none;
          plain = subst (λ (x : Job). Each (λ (out : Out). out.kind ≡ Plain) (outs_of x.recipe)) (sym m.2) plainly.plain;
        }
