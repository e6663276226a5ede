-- What a job wants with right listings means something one job less deep than what it makes.
use Rattle.std.proofs.Common.{◌≡◌, ◌⊎◌, ℕ, suc, ◌+◌, ◌≤◌, true, List, [], ◌∷◌, ◌++◌, map, filter_map, refl, sym, ap, subst, inl, inr, ◌∙◌, Option, Some, None, option_map, is_some, true≢false, IsTrue}
use Rattle.std.specs.List.{enumerate_from}
use Rattle.smk_base.specs.Path.{is_path}
use Rattle.smk_base.specs.declared.tree.Tree.{Tree}
use Rattle.smk_world.specs.World.{in_paths}
use Rattle.smk_world.specs.Trees.{Path}
use Rattle.smk_world.specs.declared.recipe.Item.{Item}
use Rattle.smk_world.specs.declared.recipe.Recipe.{Recipe}
use Rattle.smk_pattern.specs.Shapes.{Text}
use Rattle.smk_pattern.specs.Reading.{fill}
use Rattle.smk_pattern.specs.Bound.{binding_of}
use Rattle.smk_flow.specs.declared.rule.InPart.{InPart}
use Rattle.smk_flow.specs.declared.rule.GatherPart.{GatherPart}
use Rattle.smk_flow.specs.Flows.{Candidate, gathered_folders, declared_inputs, folder_from}
use Rattle.smk_chain.specs.Derive.{Listings, listing, or_none, gathered_in, gathered_files, item_paths, items, wants, recipe}
use Rattle.smk_chain.specs.Mean.{Setting, listings_of, mean}
use Rattle.smk_laws_plan.proofs.CurrentLists.{In, in_map, in_flat, flat_in, in_either, all_in, and_right}
use Rattle.smk_laws_plan.proofs.CurrentRecipes.{folder_in, inputs_wanted, folders_wanted}
use Rattle.smk_laws_plan.proofs.CurrentDepths.{mean_deeper}
use Rattle.smk_laws_plan.proofs.CurrentValues.{mean_source}
use Rattle.smk_laws_plan.proofs.CurrentChosen.{origin}
use Rattle.smk_laws_complete.specs.Derived.{AreRight, GathersAlone, HasListings}
use Rattle.smk_laws_complete.proofs.Meanings.{MadeBy, all_each, listed_each, source_files}
use Rattle.smk_laws_complete.proofs.Walked.{IsWalked, own_derived, folder_served}

numbered_in : {A : Type 0} (xs : List A) (k : ℕ) (e : ℕ × A) → In e (enumerate_from k xs) → In e.1 xs
numbered_in [] k e h = absurd h
numbered_in (x ∷ xs) k e (inl p) = inl (ap (λ w. w.1) p)
numbered_in (x ∷ xs) k e (inr h) = inr (numbered_in xs (k + 1) e h)

some_or : (o : Option (List Path)) → is_some o ≡ true → (files : List Path) × (o ≡ Some files)
some_or None h = absurd (true≢false (sym h))
some_or (Some files) h = (files, refl)

module _
    (S : Setting) (L : Listings) (targets : List Path) (right : AreRight S L targets)
    (n : ℕ) (few : n ≤ 200) (p : Path) (t : Tree) (c : Candidate) (made : MadeBy S n p t c) (walked : IsWalked S L targets (suc n) p) where
  -- the listings of the directories' clean values
  abbrev pub meant : Listings
  meant = listings_of (gathered_folders S.flow c) made.trees

  abbrev meant_recipe : Recipe
  meant_recipe = recipe S.flow meant c

  -- a known listing is that of the clean value
  pub listing_meant : (f : Path) (files : List Path) → In f (gathered_folders S.flow c) → listing L f ≡ Some files → listing meant f ≡ Some files
  listing_meant f files i known =
      let r = listed_each (mean S n) (gathered_folders S.flow c) made.trees f made.folders i in
      let same = right.gathered c f files r.0 (own_derived S L targets n p c walked made.chosen) i (folder_served S L targets n p t c made walked f i) known (mean_deeper S n 200 f r.0 few r.1) in
      r.2 ∙ ap Some (sym same)

  -- what means something and is a path
  abbrev pub IsMeant : Path → Type 0
  IsMeant w = (s : Tree) × (mean S n w ≡ Some s) × (is_path w ≡ true)

  a_path : (w : Path) → In w (wants S.flow meant c) → is_path w ≡ true
  a_path w i = all_in is_path (wants S.flow meant c) w (and_right (S.has_fields _) _ (and_right (is_some c.part.command) _ made.runnable)) i

  input_meant : (w : Path) → In w (in_paths meant_recipe) → IsMeant w
  input_meant w i =
      let r = all_each (mean S n) (in_paths meant_recipe) made.contents w made.inputs i in (r.0, r.1, a_path w (inputs_wanted S.flow c meant w i))

  item_meant : (i : InPart) (w : Path) → In i c.part.inputs → In w (item_paths S.flow meant c i.texts i.gather) → IsMeant w
  item_meant i w h k =
      let item : InPart → Item = λ i. record { name = i.name; paths = item_paths S.flow meant c i.texts i.gather } in
      input_meant w (in_flat (λ (i : Item). i.paths) (items S.flow meant c) (item i) w (in_map item c.part.inputs i h) k)

  declared_meant : GathersAlone S.flow → (w : Path) → In w (declared_inputs S.flow c) → IsMeant w
  declared_meant alone w k =
      let r = flat_in (λ (i : InPart). map (fill c.binding) i.texts) c.part.inputs w k in go r.0 r.1 r.0.gather refl r.2
    where
      none : (texts : List Text) → texts ≡ [] → In w (map (fill c.binding) texts) → ⊥
      none texts e i = subst (λ ts. In w (map (fill c.binding) ts)) e i

      go : (i : InPart) → In i c.part.inputs → (o : Option GatherPart) → i.gather ≡ o → In w (map (fill c.binding) i.texts) → IsMeant w
      go i h None e k = item_meant i w h (subst (λ o. In w (item_paths S.flow meant c i.texts o)) (sym e) k)
      go i h (Some g) e k =
          let o = origin S.flow p c S.sources made.chosen in
          absurd (none i.texts (alone c.part i (numbered_in S.flow.rules 0 (c.rule, c.part) o.listed) h (ap is_some e)) k)

  folder_meant : (w : Path) → In w (gathered_folders S.flow c) → IsMeant w
  folder_meant w i =
      let r = all_each (mean S n) (gathered_folders S.flow c) made.trees w made.folders i in (r.0, r.1, a_path w (folders_wanted S.flow c meant w i))

  file_meant : (w : Path) → In w (gathered_files S.flow L c) → IsMeant w
  file_meant w k =
      let r = flat_in (λ (i : InPart). gathered_in S.flow L c i.gather) c.part.inputs w k in go r.0 r.1 r.0.gather refl r.2
    where
      files_fit : GatherPart → Option (List Path) → List Text
      files_fit g o = filter_map (λ file. option_map (λ b. fill (b ++ c.binding) g.wanted) (binding_of c.part.limits g.listed file)) (or_none o)

      known :
          (i : InPart) → In i c.part.inputs → (g : GatherPart) → i.gather ≡ Some g → (o : Option (List Path)) →
          listing L (folder_from S.flow c.binding g.checkpoint) ≡ o → In w (files_fit g o) → IsMeant w
      known i h g e None l k = absurd k
      known i h g e (Some files) l k =
          let there = listing_meant (folder_from S.flow c.binding g.checkpoint) files (folder_in S.flow c i g h e) l in
          item_meant i w h (subst (λ o. In w (item_paths S.flow meant c i.texts o)) (sym e) (subst (λ o. In w (files_fit g o)) (sym there) k))

      go : (i : InPart) → In i c.part.inputs → (o : Option GatherPart) → i.gather ≡ o → In w (gathered_in S.flow L c o) → IsMeant w
      go i h None e k = absurd k
      go i h (Some g) e k = known i h g e (listing L (folder_from S.flow c.binding g.checkpoint)) refl k

  -- whatever it wants
  pub want_meant : GathersAlone S.flow → (w : Path) → In w (wants S.flow L c) → IsMeant w
  want_meant alone w h = go (in_either w (declared_inputs S.flow c) (gathered_folders S.flow c ++ gathered_files S.flow L c) h)
    where
      rest : In w (gathered_folders S.flow c) ⊎ In w (gathered_files S.flow L c) → IsMeant w
      rest (inl i) = folder_meant w i
      rest (inr i) = file_meant w i

      go : In w (declared_inputs S.flow c) ⊎ In w (gathered_folders S.flow c ++ gathered_files S.flow L c) → IsMeant w
      go (inl i) = declared_meant alone w i
      go (inr i) = rest (in_either w (gathered_folders S.flow c) (gathered_files S.flow L c) i)

  -- where its listings are known they are all those of the clean values
  pub listings_meant : HasListings S L c → (f : Path) → In f (gathered_folders S.flow c) → or_none (listing L f) ≡ or_none (listing meant f)
  listings_meant has f i = go (has f i)
    where
      source : S.sources.is f ≡ true → (o : Option (List Path)) → listing L f ≡ o → or_none o ≡ or_none (listing meant f)
      source is (Some files) l = sym (ap or_none (listing_meant f files i l))
      source is None l =
          let r = listed_each (mean S n) (gathered_folders S.flow c) made.trees f made.folders i in
          sym (ap or_none r.2 ∙ source_files S f r.0 (sym (mean_source S n f is) ∙ r.1))

      go : IsTrue (S.sources.is f) ⊎ IsTrue (is_some (listing L f)) → or_none (listing L f) ≡ or_none (listing meant f)
      go (inl is) = source is (listing L f) refl
      go (inr known) = let k = some_or (listing L f) known in ap or_none k.1 ∙ sym (ap or_none (listing_meant f k.0 i k.1))
