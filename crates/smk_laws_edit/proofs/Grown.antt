-- With more listings a job of a plan goes on, with all the inputs that it had.
use Rattle.std.proofs.Common.{◌≡◌, List, ◌++◌, filter_map, flat_map, refl, sym, ap, subst, Option, Some, None, option_map}
use Rattle.smk_world.specs.Trees.{Path}
use Rattle.smk_world.specs.World.{in_paths, out_paths}
use Rattle.smk_world.specs.declared.recipe.Item.{Item}
use Rattle.smk_pattern.specs.Bound.{binding_of}
use Rattle.smk_pattern.specs.Reading.{fill}
use Rattle.smk_pattern.specs.Shapes.{Text}
use Rattle.smk_flow.specs.Flows.{Candidate, Flow, folder_from}
use Rattle.smk_flow.specs.declared.job.Job.{Job}
use Rattle.smk_flow.specs.declared.rule.GatherPart.{GatherPart}
use Rattle.smk_flow.specs.declared.rule.InPart.{InPart}
use Rattle.smk_store.specs.Images.{Image}
use Rattle.smk_chain.specs.Derive.{Derived, Listings, derivation, distinct, gathered, item_paths, items, job, listing, or_none, recipe, same_candidate, sources_of, walk}
use Rattle.smk_pick.specs.declared.settings.Settings.{Settings}
use Rattle.smk_plan.specs.States.{IsPlan, Plan, Progress, gathers_from}
use Rattle.smk_laws_plan.specs.Current.{IsComplete}
use Rattle.smk_laws_plan.proofs.CurrentApart.{makes_above}
use Rattle.smk_laws_plan.proofs.CurrentLists.{In, distinct_in, flat_in, in_flat, in_map, map_in}
use Rattle.smk_laws_plan.proofs.CurrentWalked.{walked_chosen, walked_job}
use Rattle.smk_laws_plan.proofs.PlanOne.{derived, job_makes}
use Rattle.smk_laws_plan.proofs.PlanOrder.{Within}
use Rattle.smk_laws_history.proofs.MoreListings.{listing_still, walk_more}

module _ (flow : Flow) (L M : Listings) (c : Candidate) where
  abbrev fitting : GatherPart → Option (List Path) → List Text
  fitting g o = filter_map (λ file. option_map (λ b. fill (b ++ c.binding) g.wanted) (binding_of c.part.limits g.listed file)) (or_none o)

  gathered_more : (f : Path) (g : GatherPart) → Within (gathered L c f g) (gathered (L ++ M) c f g)
  gathered_more f g x h = go (listing L f) refl h
    where
      go : (o : Option (List Path)) → listing L f ≡ o → In x (fitting g o) → In x (gathered (L ++ M) c f g)
      go None e k = absurd k
      go (Some files) e k = subst (λ o. In x (fitting g o)) (sym (listing_still L M f files e)) k

  paths_more : (texts : List Text) (o : Option GatherPart) → Within (item_paths flow L c texts o) (item_paths flow (L ++ M) c texts o)
  paths_more texts None x h = h
  paths_more texts (Some g) x h = gathered_more (folder_from flow c.binding g.checkpoint) g x h

  abbrev later_item : InPart → Item
  later_item i = record { name = i.name; paths = item_paths flow (L ++ M) c i.texts i.gather }

  inputs_more : Within (in_paths (recipe flow L c)) (in_paths (recipe flow (L ++ M) c))
  inputs_more q h =
      let r = flat_in (λ (i : Item). i.paths) (items flow L c) q h in
      let s = map_in _ c.part.inputs r.0 r.1 in
      in_flat (λ (i : Item). i.paths) (items flow (L ++ M) c) (later_item s.0) q (in_map later_item c.part.inputs s.0 s.1)
      (paths_more s.0.texts s.0.gather q (subst (λ (i : Item). In q i.paths) s.2 r.2))

-- the job goes on as this one
pub record GoesOn (later : List Job) (j : Job) : Type 0 where
  pub job : Job
  pub is_there : In job later
  pub gathers : gathers_from job ≡ gathers_from j
  pub inputs : Within (in_paths j.recipe) (in_paths job.recipe)
  pub outs : out_paths job.recipe ≡ out_paths j.recipe
  pub some_out : (o : Path) × In o (out_paths j.recipe)

pub goes_on :
    (flow : Flow) (image : Image) (settings : Settings) (progress : Progress) (plan : Plan) (more : Listings) (later : List Job) →
    IsComplete image → IsPlan flow image settings progress plan → derivation flow image (plan.lists ++ more) settings.targets ≡ Derived later →
    (j : Job) → In j plan.jobs → GoesOn later j
goes_on flow image settings progress plan more later complete is after j h =
    let srcs = sources_of image in
    let walked = flat_map (walk flow srcs plan.lists 200) settings.targets in
    let d = derived flow image plan.lists settings.targets plan.jobs complete is.derived in
    let e = derived flow image (plan.lists ++ more) settings.targets later complete after in
    let c = map_in (job flow plan.lists) (distinct same_candidate walked) j (subst (In j) (sym d.1) h) in
    let t = flat_in (walk flow srcs plan.lists 200) settings.targets c.0 (distinct_in same_candidate walked c.0 c.1) in
    let q = walked_chosen flow srcs plan.lists 200 t.0 c.0 t.2 in
    let o = makes_above (job flow plan.lists c.0) q.0 (job_makes flow srcs plan.lists q.0 c.0 q.1) in
    record {
      job = job flow (plan.lists ++ more) c.0;
      is_there =
          subst (In (job flow (plan.lists ++ more) c.0)) e.1
          (walked_job flow srcs (plan.lists ++ more) settings.targets 200 c.0
          (in_flat (walk flow srcs (plan.lists ++ more) 200) settings.targets t.0 c.0 t.1 (walk_more flow srcs plan.lists more 200 t.0 c.0 t.2)));
      gathers = sym (ap gathers_from c.2);
      inputs = λ q i. inputs_more flow plan.lists more c.0 q (subst (λ (k : Job). In q (in_paths k.recipe)) c.2 i);
      outs = sym (ap (λ (k : Job). out_paths k.recipe) c.2);
      some_out = (o.0, subst (λ (k : Job). In o.0 (out_paths k.recipe)) (sym c.2) o.1);
    }
