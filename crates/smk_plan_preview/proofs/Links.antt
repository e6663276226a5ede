-- What the links of derived jobs tell, by what was told of sources.
use Rattle.std.proofs.Common.{◌≡◌, true, List, [], ◌∷◌, ◌++◌, map, sym, subst}
use Rattle.std.specs.Prelude.{is_some}
use Rattle.std.specs.List.{AllByRecursion}
use Rattle.smk_plan_table.proofs.Linked.{source_unmade, source_told}
use Rattle.smk_world.specs.World.{in_paths}
use Rattle.smk_world.specs.Trees.{Path, Each, among}
use Rattle.smk_pattern.specs.Shapes.{Text}
use Rattle.smk_flow.specs.declared.job.Job.{Job}
use Rattle.smk_flow.specs.Flows.{Flow, Candidate, declared_inputs, gathered_folders}
use Rattle.smk_choose.specs.Choose.{Sources, choose, maker}
use Rattle.smk_store.specs.Images.{Image, is_source}
use Rattle.smk_chain.specs.declared.jobs.Jobs.{Jobs}
use Rattle.smk_chain.specs.Derive.{Listings, chosen, gathered_files, job, jobs, recipe, wants}
use Rattle.smk_chain.proofs.Inputs.{all_front, all_back, each_append, each_recursive, inputs_each}
use Rattle.smk_chain_walk.specs.Links.{AreLinked, maker_told, number_for}
use Rattle.smk_plan.specs.States.{gathers_from}
use Rattle.smk_plan_facts.specs.Facts.{TellSources, told_sources}
use Rattle.smk_plan_preview.proofs.Telling.{no_number, told_none}
use Rattle.smk_plan_table.specs.Plans.{TellTargets}

-- ## What is told of sources is so

module _ (flow : Flow) (S : Sources) (L : Listings) (targets : List Path) (made : Jobs) (links : AreLinked flow S L targets made) (image : Image) where
  abbrev pub IsTold : Path → Type 0
  IsTold q = is_source image q ≡ true → among (told_sources made.makers) q ≡ true

  -- a source of the folder is told of as one
  abbrev pub IsKnown : Path → Type 0
  IsKnown q = is_source image q ≡ true → S.is q ≡ true

  told : (w : Path) → is_some (maker_told made.makers w) ≡ true → IsKnown w → IsTold w
  told w some known = λ is.
      source_told made.makers w
      (told_none (maker_told made.makers w) (number_for flow S L (chosen flow S L targets) w) some (links.right w)
      (no_number (chosen flow S L targets) (maker (choose flow S w)) (source_unmade flow S w (known is))))

  each_told : (ws : List Text) → AllByRecursion (λ (w : Text). is_some (maker_told made.makers w) ≡ true) ws → AllByRecursion IsKnown ws → AllByRecursion IsTold ws
  each_told [] h k = tt
  each_told (w ∷ ws) h k = (told w h.0 k.0, each_told ws h.1 k.1)

  all_told : (cs : List Candidate) → AllByRecursion (λ (c : Candidate). AllByRecursion (λ (w : Text). is_some (maker_told made.makers w) ≡ true) (wants flow L c)) cs
      → AllByRecursion (λ (c : Candidate). AllByRecursion IsKnown (wants flow L c)) cs → Each (λ (j : Job). Each IsTold (in_paths j.recipe)) (map (job flow L) cs)
  all_told [] h k = tt
  all_told (c ∷ cs) h k = (inputs_each flow L c IsTold (each_told (wants flow L c) h.0 k.0), all_told cs h.1 k.1)

  -- each input that is a source is told of as one
  pub inputs_told : made.jobs ≡ jobs flow S L targets → AllByRecursion (λ (c : Candidate). AllByRecursion IsKnown (wants flow L c)) (chosen flow S L targets) → TellSources image made
  inputs_told are known =
      subst (λ (js : List Job). Each (λ (j : Job). Each IsTold (in_paths j.recipe)) js) (sym are) (all_told (chosen flow S L targets) links.all_wants known)

  -- and so is each target
  pub targets_told : AllByRecursion IsKnown targets → TellTargets image made targets
  targets_told known = each_recursive IsTold targets (each_told targets links.all_targets known)

  -- ## What two tell the same of

  -- of each input, and of each directory that is gathered from
  pub reads_told : (P : Path → Type 0) → made.jobs ≡ jobs flow S L targets → AllByRecursion (λ (c : Candidate). AllByRecursion P (wants flow L c)) (chosen flow S L targets)
      → Each (λ (j : Job). Each P (in_paths j.recipe ++ gathers_from j)) made.jobs
  reads_told P are all = subst (Each (λ (j : Job). Each P (in_paths j.recipe ++ gathers_from j))) (sym are) (by (chosen flow S L targets) all)
    where
      by : (cs : List Candidate) → AllByRecursion (λ (c : Candidate). AllByRecursion P (wants flow L c)) cs → Each (λ (j : Job). Each P (in_paths j.recipe ++ gathers_from j)) (map (job flow L) cs)
      by [] h = tt
      by (c ∷ cs) h = (
        each_append P (in_paths (recipe flow L c)) (gathers_from (job flow L c)) (inputs_each flow L c P h.0)
            (each_recursive P (gathered_folders flow c)
            (all_front P (gathered_folders flow c) (gathered_files flow L c) (all_back P (declared_inputs flow c) (gathered_folders flow c ++ gathered_files flow L c) h.0))),
        by cs h.1,
      )
