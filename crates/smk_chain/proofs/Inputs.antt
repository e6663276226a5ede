-- What holds of all that a job wants holds of its inputs.
use Rattle.std.proofs.Common.{List, [], ◌∷◌, ◌++◌, map, Option, Some, None}
use Rattle.std.specs.List.{AllByRecursion, flat_map}
use Rattle.smk_world.specs.declared.recipe.Item.{Item}
use Rattle.smk_world.specs.World.{in_paths}
use Rattle.smk_world.specs.Trees.{Path, Each}
use Rattle.smk_pattern.specs.Shapes.{Text}
use Rattle.smk_pattern.specs.Reading.{fill}
use Rattle.smk_flow.specs.declared.rule.InPart.{InPart}
use Rattle.smk_flow.specs.declared.rule.GatherPart.{GatherPart}
use Rattle.smk_flow.specs.Flows.{Flow, Candidate, declared_inputs, gathered_folders}
use Rattle.smk_chain.specs.Derive.{Listings, gathered_files, gathered_in, item_paths, recipe, wants}

pub all_front : {A : Type 0} (P : A → Type 0) (xs ys : List A) → AllByRecursion P (xs ++ ys) → AllByRecursion P xs
all_front P [] ys h = tt
all_front P (x ∷ xs) ys h = (h.0, all_front P xs ys h.1)

pub all_back : {A : Type 0} (P : A → Type 0) (xs ys : List A) → AllByRecursion P (xs ++ ys) → AllByRecursion P ys
all_back P [] ys h = h
all_back P (x ∷ xs) ys h = all_back P xs ys h.1

pub each_recursive : {A : Type 0} (P : A → Type 0) (xs : List A) → AllByRecursion P xs → Each P xs
each_recursive P [] h = tt
each_recursive P (x ∷ xs) h = (h.0, each_recursive P xs h.1)

pub each_append : {A : Type 0} (P : A → Type 0) (xs ys : List A) → Each P xs → Each P ys → Each P (xs ++ ys)
each_append P [] ys h k = k
each_append P (x ∷ xs) ys h k = (h.0, each_append P xs ys h.1 k)

module _ (flow : Flow) (L : Listings) (c : Candidate) (Q : Path → Type 0) where
  item_each : (texts : List Text) (o : Option GatherPart) → AllByRecursion Q (map (fill c.binding) texts) → AllByRecursion Q (gathered_in flow L c o) → Each Q (item_paths flow L c texts o)
  item_each texts None h k = each_recursive Q (map (fill c.binding) texts) h
  item_each texts (Some g) h k = each_recursive Q (gathered_in flow L c (Some g)) k

  abbrev item_of : InPart → Item
  item_of i = record { name = i.name; paths = item_paths flow L c i.texts i.gather }

  items_each : (inputs : List InPart) → AllByRecursion Q (flat_map (λ (i : InPart). map (fill c.binding) i.texts) inputs) → AllByRecursion Q (flat_map (λ (i : InPart). gathered_in flow L c i.gather) inputs) →
      Each Q (flat_map (λ (item : Item). item.paths) (map item_of inputs))
  items_each [] h k = tt
  items_each (i ∷ inputs) h k =
      let texts = map (fill c.binding) i.texts in
      let files = gathered_in flow L c i.gather in
      let more_texts = flat_map (λ (x : InPart). map (fill c.binding) x.texts) inputs in
      let more_files = flat_map (λ (x : InPart). gathered_in flow L c x.gather) inputs in
      each_append Q (item_paths flow L c i.texts i.gather) (flat_map (λ (item : Item). item.paths) (map item_of inputs))
      (item_each i.texts i.gather (all_front Q texts more_texts h) (all_front Q files more_files k))
      (items_each inputs (all_back Q texts more_texts h) (all_back Q files more_files k))

  -- what holds of all that a job wants holds of its inputs
  pub inputs_each : AllByRecursion Q (wants flow L c) → Each Q (in_paths (recipe flow L c))
  inputs_each h =
      let later = all_back Q (declared_inputs flow c) (gathered_folders flow c ++ gathered_files flow L c) h in
      items_each c.part.inputs (all_front Q (declared_inputs flow c) (gathered_folders flow c ++ gathered_files flow L c) h) (all_back Q (gathered_folders flow c) (gathered_files flow L c) later)
