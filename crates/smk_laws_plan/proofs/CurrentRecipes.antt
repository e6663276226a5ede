-- Of the listings a job's recipe sees only the files of the directories that it gathers from; and its inputs are among its wants.
use Rattle.std.proofs.Common.{◌≡◌, ℕ, ◌+◌, List, [], ◌∷◌, ◌++◌, map, refl, sym, ap, subst, inl, inr, Option, Some, None, option_map, flat_map, filter_map}
use Rattle.std.specs.List.{enumerate_from}
use Rattle.smk_world.specs.declared.recipe.Item.{Item}
use Rattle.smk_world.specs.declared.recipe.Recipe.{Recipe}
use Rattle.smk_world.specs.World.{in_paths}
use Rattle.smk_world.specs.Trees.{Path}
use Rattle.smk_pattern.specs.Shapes.{Text}
use Rattle.smk_pattern.specs.Reading.{fill, shape_of}
use Rattle.smk_pattern.specs.Bound.{binding_of}
use Rattle.smk_flow.specs.declared.rule.InPart.{InPart}
use Rattle.smk_flow.specs.declared.rule.GatherPart.{GatherPart}
use Rattle.smk_flow.specs.declared.job.Gather.{Gather}
use Rattle.smk_flow.specs.declared.job.Job.{Job}
use Rattle.smk_flow.specs.Flows.{Flow, Candidate, gathers, gathered_folders, declared_inputs, folder_from, gather_at}
use Rattle.smk_chain.specs.Derive.{Listings, listing, or_none, gathered, gathered_in, gathered_files, item_paths, items, wants, recipe, job}
use Rattle.smk_laws_plan.proofs.CurrentLists.{In, in_map, map_in, in_flat, flat_in, in_left, in_right}

pub map_same : {A B : Type 0} (f g : A → B) (xs : List A) → ((x : A) → In x xs → f x ≡ g x) → map f xs ≡ map g xs
map_same f g [] h = refl
map_same f g (x ∷ xs) h = λ i. h x (inl refl) i ∷ map_same f g xs (λ y k. h y (inr k)) i

pub flat_same : {A B : Type 0} (f g : A → List B) (xs : List A) → ((x : A) → In x xs → f x ≡ g x) → flat_map f xs ≡ flat_map g xs
flat_same f g [] h = refl
flat_same f g (x ∷ xs) h = λ i. h x (inl refl) i ++ flat_same f g xs (λ y k. h y (inr k)) i

pub in_numbered : {A : Type 0} (xs : List A) (k : ℕ) (x : A) → In x xs → (j : ℕ) × In (j, x) (enumerate_from k xs)
in_numbered [] k x h = absurd h
in_numbered (y ∷ xs) k x (inl e) = (k, inl (λ i. (k, e i)))
in_numbered (y ∷ xs) k x (inr h) = let r = in_numbered xs (k + 1) x h in (r.0, inr r.1)

module _ (flow : Flow) (c : Candidate) where
  abbrev gather_of : ℕ → GatherPart → Gather
  gather_of k g =
      record { item = k; folder = folder_from flow c.binding g.checkpoint; listed = shape_of c.part.limits g.listed; wanted = shape_of [] g.wanted }

  pub folder_in :
      (i : InPart) (g : GatherPart) → In i c.part.inputs → i.gather ≡ Some g →
      In (folder_from flow c.binding g.checkpoint) (gathered_folders flow c)
  folder_in i g h e =
      let r = in_numbered c.part.inputs 0 i h in
      in_map (λ (g : Gather). g.folder) (gathers flow c) (gather_of r.0 g)
      (in_flat (λ (n : ℕ × InPart). gather_at flow c.part.limits c.binding n.0 n.1.gather) (enumerate_from 0 c.part.inputs) (r.0, i) (gather_of r.0 g) r.1
      (subst (λ o. In (gather_of r.0 g) (gather_at flow c.part.limits c.binding r.0 o)) (sym e) (inl refl)))

  module _ (L M : Listings) (agree : (f : Path) → In f (gathered_folders flow c) → or_none (listing L f) ≡ or_none (listing M f)) where
    gathered_same : (f : Path) (g : GatherPart) → In f (gathered_folders flow c) → gathered L c f g ≡ gathered M c f g
    gathered_same f g h =
        ap (λ files. filter_map (λ file. option_map (λ b. fill (b ++ c.binding) g.wanted) (binding_of c.part.limits g.listed file)) files) (agree f h)

    paths_same : (i : InPart) → In i c.part.inputs → item_paths flow L c i.texts i.gather ≡ item_paths flow M c i.texts i.gather
    paths_same i h = go i.gather refl
      where
        go : (o : Option GatherPart) → i.gather ≡ o → item_paths flow L c i.texts o ≡ item_paths flow M c i.texts o
        go None e = refl
        go (Some g) e = gathered_same (folder_from flow c.binding g.checkpoint) g (folder_in i g h e)

    files_same : (i : InPart) → In i c.part.inputs → gathered_in flow L c i.gather ≡ gathered_in flow M c i.gather
    files_same i h = go i.gather refl
      where
        go : (o : Option GatherPart) → i.gather ≡ o → gathered_in flow L c o ≡ gathered_in flow M c o
        go None e = refl
        go (Some g) e = gathered_same (folder_from flow c.binding g.checkpoint) g (folder_in i g h e)

    pub items_same : items flow L c ≡ items flow M c
    items_same =
        map_same _ _ c.part.inputs (λ i h. let make : List Text → Item = λ ps. record { name = i.name; paths = ps } in ap make (paths_same i h))

    abbrev recipe_with : List Item → Recipe
    recipe_with its = record (recipe flow L c) { inputs = its }

    pub recipe_same : recipe flow L c ≡ recipe flow M c
    recipe_same = ap recipe_with items_same

    abbrev job_with : Recipe → Job
    job_with r = record (job flow L c) { recipe = r }

    pub job_same : job flow L c ≡ job flow M c
    job_same = ap job_with recipe_same

    pub wants_same : wants flow L c ≡ wants flow M c
    wants_same = ap (λ files. declared_inputs flow c ++ (gathered_folders flow c ++ files)) (flat_same _ _ c.part.inputs files_same)

  pub folders_wanted : (L : Listings) (f : Path) → In f (gathered_folders flow c) → In f (wants flow L c)
  folders_wanted L f h =
      in_right f (declared_inputs flow c) (gathered_folders flow c ++ gathered_files flow L c) (in_left f (gathered_folders flow c) (gathered_files flow L c) h)

  pub inputs_wanted : (L : Listings) (q : Path) → In q (in_paths (recipe flow L c)) → In q (wants flow L c)
  inputs_wanted L q h =
      let r = flat_in (λ (i : Item). i.paths) (items flow L c) q h in
      let s = map_in _ c.part.inputs r.0 r.1 in
      go s.0 s.1 s.0.gather refl (subst (λ (i : Item). In q i.paths) s.2 r.2)
    where
      go : (i : InPart) → In i c.part.inputs → (o : Option GatherPart) → i.gather ≡ o → In q (item_paths flow L c i.texts o) → In q (wants flow L c)
      go i k None e w =
          in_left q (declared_inputs flow c) (gathered_folders flow c ++ gathered_files flow L c)
          (in_flat (λ (i : InPart). map (fill c.binding) i.texts) c.part.inputs i q k w)
      go i k (Some g) e w =
          in_right q (declared_inputs flow c) (gathered_folders flow c ++ gathered_files flow L c)
          (in_right q (gathered_folders flow c) (gathered_files flow L c)
          (in_flat (λ (i : InPart). gathered_in flow L c i.gather) c.part.inputs i q k (subst (λ o. In q (gathered_in flow L c o)) (sym e) w)))
