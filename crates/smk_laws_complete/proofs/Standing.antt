-- What stands at a whole output of a job that is neither Open nor Dirty: what its command makes of its inputs' clean values.
use Rattle.std.proofs.Common.{◌≡◌, ℕ, suc, ◌≤◌, Bool, true, false, List, map, sym, ap, subst, ◌∙◌, Some}
use Rattle.smk_base.specs.declared.tree.Tree.{Tree}
use Rattle.smk_world.specs.World.{in_paths, out_paths}
use Rattle.smk_world.specs.declared.recipe.Recipe.{Recipe}
use Rattle.smk_world.specs.Trees.{Path, Act, all_of, files_of, kind_in, part_at, value_at}
use Rattle.smk_record.specs.declared.record.Record.{Record}
use Rattle.smk_record.specs.Records.{core, stamped}
use Rattle.smk_pattern.specs.Bound.{BoundFills}
use Rattle.smk_flow.specs.declared.job.Job.{Job}
use Rattle.smk_flow.specs.Flows.{Flow, Candidate, gathered_folders}
use Rattle.smk_choose.specs.Choose.{choose, Make}
use Rattle.smk_store.specs.Images.{Image, core_at, is_whole, tree_now}
use Rattle.smk_store.specs.Trust.{Versions, input_value, made_at, vir}
use Rattle.smk_chain.specs.Derive.{or_none, recipe, sources_of}
use Rattle.smk_chain.specs.Mean.{listings_of, mean, setting_of}
use Rattle.smk_pick.specs.declared.settings.Settings.{Settings}
use Rattle.smk_plan.specs.States.{Plan, Progress}
use Rattle.smk_laws_plan.proofs.CurrentLists.{In, some_inj}
use Rattle.smk_laws_plan.proofs.CurrentPaths.{Above}
use Rattle.smk_laws_plan.proofs.CurrentRecipes.{recipe_same}
use Rattle.smk_laws_plan.proofs.CurrentDepths.{mean_deeper, mean_one}
use Rattle.smk_laws_plan.proofs.CurrentValues.{inputs_same, value_given, vir_make}
use Rattle.smk_laws_plan.proofs.CurrentProducts.{Product, Quiet, Rested, ReachedHere, core_reads, each_stamped, own_outputs}
use Rattle.smk_laws_plan.proofs.CurrentMeaning.{chained_at, folder_means, input_means, meant}
use Rattle.smk_laws_complete.proofs.Meanings.{MadeBy, all_more, listed_each, made_by}
use Rattle.smk_laws_complete.proofs.Parts.{value_in}

module _
    (flow : Flow) (act : Act) (has_fields : Job → Bool) (image : Image) (H : Versions) (settings : Settings) (progress : Progress)
    (plan : Plan) (fills : BoundFills) (rest : Rested flow act has_fields image H settings progress plan) where
  -- the tree at the output, and the contents of which the job's command makes it
  pub record Stands (n : ℕ) (c : Candidate) (h : Path) : Type 0 where
    pub tree : Tree
    pub now : tree_now image h ≡ Some tree
    pub contents : List Tree
    pub inputs : all_of (map (mean (setting_of flow act has_fields image) n) (in_paths (recipe flow plan.lists c))) ≡ Some contents
    pub value : value_at act (recipe flow plan.lists c) h (Some contents) ≡ Some tree

  pub stands :
      (n : ℕ) (q : Path) (c : Candidate) (h : Path) (r : Record) →
      ReachedHere flow act has_fields image H settings progress plan (suc n) q → Product flow act has_fields image H settings progress plan c q h r →
      Quiet flow act has_fields image H settings progress plan c → image.marked h ≡ false → is_whole image h (kind_in r.recipe h) ≡ true → Stands n c h
  stands n q c h r comes made quiet unmarked whole =
      let reads = core_reads image h r made.reads in
      let v =
      rest.sound.holds h (core r) reads unmarked (chained_at flow act has_fields image H settings progress plan fills rest (suc n) q c h r comes made quiet) whole in
      let k = made_at (core_at image h) in
      let e = sym (vir_make image act H k h (core r) reads) ∙ v.2 in
      let given = value_given act r.recipe h (all_of (map (input_value image H (vir image act H k)) (stamped r))) v.0 e in
      let ins =
      inputs_same (input_value image H (vir image act H k)) (mean (setting_of flow act has_fields image) n) (in_paths r.recipe) r.stamps
      (each_stamped r (rest.planned.valid h r made.reads).1)
      (λ p s y i w. input_means flow act has_fields image H settings progress plan fills rest n
      (meant flow act has_fields image H settings progress plan fills rest n) k q c h r comes made quiet p s y i w) given.0 given.1 in
      record {
        tree = v.0;
        now = v.1;
        contents = given.0;
        inputs = subst (λ (rec : Recipe). all_of (map (mean (setting_of flow act has_fields image) n) (in_paths rec)) ≡ Some given.0) made.same ins;
        value =
            subst (λ (rec : Recipe). value_at act rec h (Some given.0) ≡ Some v.0) made.same
            (sym (ap (value_at act r.recipe h) given.1) ∙ e);
      }

  -- the recipe is that of the clean values of what the job gathers
  recipe_meant :
      (n m : ℕ) (q p : Path) (c : Candidate) (y : Tree) →
      ReachedHere flow act has_fields image H settings progress plan (suc n) q → choose flow (sources_of image) q ≡ Make c →
      Quiet flow act has_fields image H settings progress plan c → (made : MadeBy (setting_of flow act has_fields image) m p y c) →
      recipe flow plan.lists c ≡ recipe flow (listings_of (gathered_folders flow c) made.trees) c
  recipe_meant n m q p c y comes chosen quiet made =
      recipe_same flow c plan.lists (listings_of (gathered_folders flow c) made.trees) (λ f i.
      let a =
      folder_means flow act has_fields image H settings progress plan fills rest n
      (meant flow act has_fields image H settings progress plan fills rest n) q c comes chosen quiet f i in
      let b = listed_each (mean (setting_of flow act has_fields image) m) (gathered_folders flow c) made.trees f made.folders i in
      sym a.2 ∙ ap files_of (mean_one (setting_of flow act has_fields image) n m f a.0 b.0 a.1 b.1) ∙ sym (ap or_none b.2))

  -- So a path at or under the output, for which the job is chosen and which means something, has its tree there.
  pub stands_in :
      (n m : ℕ) (q p : Path) (c : Candidate) (h : Path) (y : Tree) → n ≤ m →
      ReachedHere flow act has_fields image H settings progress plan (suc n) q → choose flow (sources_of image) q ≡ Make c →
      Quiet flow act has_fields image H settings progress plan c → In h (out_paths (recipe flow plan.lists c)) →
      choose flow (sources_of image) p ≡ Make c → Above p h →
      (there : Stands n c h) → mean (setting_of flow act has_fields image) (suc m) p ≡ Some y → part_at h p there.tree ≡ Some y
  stands_in n m q p c h y few comes chosen quiet i own above there v =
      let made = made_by (setting_of flow act has_fields image) m p y c own v in
      let same = recipe_meant n m q p c y comes chosen quiet made in
      let deeper =
      all_more (mean (setting_of flow act has_fields image) n) (mean (setting_of flow act has_fields image) m) (in_paths (recipe flow plan.lists c)) there.contents
      (λ p t e. mean_deeper (setting_of flow act has_fields image) n m p t few e) there.inputs in
      let contents : made.contents ≡ there.contents =
      some_inj made.contents there.contents
      (sym (subst (λ (r : Recipe). all_of (map (mean (setting_of flow act has_fields image) m) (in_paths r)) ≡ Some made.contents) (sym same) made.inputs) ∙ deeper) in
      let value = subst (λ (r : Recipe). value_at act r p (Some made.contents) ≡ Some y) (sym same) made.value in
      value_in act (recipe flow plan.lists c) h p there.contents there.tree y
      (own_outputs flow act has_fields image H settings progress plan fills rest.planned (suc n) q c comes chosen) i above there.value
      (subst (λ vs. value_at act (recipe flow plan.lists c) p (Some vs) ≡ Some y) contents value)
