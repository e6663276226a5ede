-- In a plan the job of each input, and of each directory that is gathered from, comes before the jobs that want it.
use Rattle.std.proofs.Common.{◌≡◌, ◌⊎◌, ℕ, zero, suc, ◌≤◌, arith, Bool, true, false, not, cond, List, [], ◌∷◌, ◌++◌, map, filter, flat_map, refl, sym, ap, subst, inl, inr, ◌∙◌, Option, Some, None, is_some}
use Rattle.smk_world.specs.declared.event.Node.{Node}
use Rattle.smk_world.specs.declared.event.Node.TheVariants.{Regular, Directory}
use Rattle.smk_world.specs.declared.recipe.Out.{Out}
use Rattle.smk_world.specs.declared.recipe.OutItem.{OutItem}
use Rattle.smk_world.specs.World.{in_paths, out_paths}
use Rattle.smk_world.specs.Trees.{Path, outs_of}
use Rattle.smk_base.specs.Path.{overlaps, is_path}
use Rattle.smk_pattern.specs.Reading.{fill}
use Rattle.smk_flow.specs.declared.rule.FlaggedText.{FlaggedText}
use Rattle.smk_flow.specs.declared.rule.OutPart.{OutPart}
use Rattle.smk_flow.specs.declared.job.Job.{Job}
use Rattle.smk_flow.specs.Flows.{Flow, Candidate, outs, outputs, logs}
use Rattle.smk_choose.specs.Choose.{Sources, Choice, Source, Make, Nothing, Ambiguous, choose}
use Rattle.smk_store.specs.Images.{Image, Content, content_of, is_source, sources, holds_source}
use Rattle.smk_chain.specs.Derive.{Listings, job, recipe, wants, walk, distinct, same_candidate, sources_of}
use Rattle.smk_plan.specs.States.{makes, gathers_from}
use Rattle.smk_laws_plan.specs.Current.{IsComplete}
use Rattle.smk_laws_plan.proofs.CurrentLists.{In, in_left, in_right, in_either, in_flat, flat_in, in_map, map_in, in_filter, distinct_in, all_in, any_from, and_right, not_true, clash_of, none_some}
use Rattle.smk_laws_plan.proofs.CurrentPaths.{touch_overlaps, Above, among_in}
use Rattle.smk_laws_plan.proofs.CurrentReach.{Reached, reached_zero, reached_step, choice_known, walk_by, walk_make}
use Rattle.smk_laws_plan.proofs.CurrentRecipes.{inputs_wanted, folders_wanted}
use Rattle.smk_laws_plan.proofs.CurrentApart.{makes_above}
use Rattle.smk_laws_plan.proofs.CurrentChosen.{chosen_candidate, paths_are}
use Rattle.smk_laws_plan.proofs.CurrentMeaning.{source_file}

-- what is among the one is among the other
abbrev pub Within : {A : Type 0} → List A → List A → Type 0
Within {A} a b = (x : A) → In x a → In x b

more_cons : {A : Type 0} (x : A) (a b : List A) → Within a b → Within (x ∷ a) (x ∷ b)
more_cons x a b more y (inl e) = inl e
more_cons x a b more y (inr i) = inr (more y i)

-- ## Candidates in order

module _ (flow : Flow) (srcs : Sources) (L : Listings) where
  -- each want is a source, or its job is among these
  abbrev pub Earlier : List Candidate → Candidate → Type 0
  Earlier seen c =
      (w : Path) → In w (wants flow L c) → (choose flow srcs w ≡ Source) ⊎ ((d : Candidate) × (choose flow srcs w ≡ Make d) × In d seen)

  abbrev pub Ordered : List Candidate → List Candidate → Type 0
  Ordered seen [] = Unit {0}
  Ordered seen (c ∷ cs) = Earlier seen c × Ordered (c ∷ seen) cs

  earlier_more : (a b : List Candidate) → Within a b → (c : Candidate) → Earlier a c → Earlier b c
  earlier_more a b more c h w i = go (h w i)
    where
      go : (choose flow srcs w ≡ Source) ⊎ ((d : Candidate) × (choose flow srcs w ≡ Make d) × In d a) → (choose flow srcs w ≡ Source) ⊎ ((d : Candidate) × (choose flow srcs w ≡ Make d) × In d b)
      go (inl e) = inl e
      go (inr r) = inr (r.0, r.1, more r.0 r.2)

  ordered_more : (a b xs : List Candidate) → Within a b → Ordered a xs → Ordered b xs
  ordered_more a b [] more h = tt
  ordered_more a b (c ∷ cs) more h = (earlier_more a b more c h.0, ordered_more (c ∷ a) (c ∷ b) cs (more_cons c a b more) h.1)

  ordered_append :
      (seen xs ys : List Candidate) → Ordered seen xs →
      ((s : List Candidate) → Within seen s → Within xs s → Ordered s ys) → Ordered seen (xs ++ ys)
  ordered_append seen [] ys h k = k seen (λ d i. i) (λ d i. absurd i)
  ordered_append seen (c ∷ cs) ys h k = (h.0, ordered_append (c ∷ seen) cs ys h.1 (λ s m n. k s (λ d i. m d (inr i)) (split s m n)))
    where
      split : (s : List Candidate) → Within (c ∷ seen) s → Within cs s → Within (c ∷ cs) s
      split s m n d (inl e) = m d (inl e)
      split s m n d (inr i) = n d i

  pub flat_ordered :
      (f : Path → List Candidate) (seen : List Candidate) (ws : List Path) →
      ((w : Path) → In w ws → (s : List Candidate) → Ordered s (f w)) → Ordered seen (flat_map f ws)
  flat_ordered f seen [] h = tt
  flat_ordered f seen (w ∷ ws) h =
      ordered_append seen (f w) (flat_map f ws) (h w (inl refl) seen) (λ s m n. flat_ordered f s ws (λ v i. h v (inr i)))

  pub own_walked :
      (all : List Candidate) (n : ℕ) (p : Path) (c : Candidate) → Reached flow srcs L all n p → choose flow srcs p ≡ Make c → In c (walk flow srcs L n p)
  own_walked all zero p c r e = absurd (reached_zero flow srcs L all p c r e)
  own_walked all (suc n) p c r e =
      subst (In c) (sym (walk_make flow srcs L n p c e)) (in_right c (flat_map (walk flow srcs L n) (wants flow L c)) (c ∷ []) (inl refl))

  -- what is walked comes in order
  pub walk_ordered : (all : List Candidate) (n : ℕ) (p : Path) (seen : List Candidate) → Reached flow srcs L all n p → Ordered seen (walk flow srcs L n p)
  walk_ordered all zero p seen r = tt
  walk_ordered all (suc n) p seen r = go (choice_known flow srcs L (suc n) p r.calm) (λ q s k. walk_ordered all n q s k)
    where
      last :
          (c : Candidate) → choose flow srcs p ≡ Make c → (s : List Candidate) → Within (flat_map (walk flow srcs L n) (wants flow L c)) s → Earlier s c
      last c e s has w i =
          let below = reached_step flow srcs L all n p c w r e i in
          pick (choice_known flow srcs L n w below.calm) below
        where
          pick : (choose flow srcs w ≡ Source) ⊎ ((d : Candidate) × (choose flow srcs w ≡ Make d)) → Reached flow srcs L all n w → (choose flow srcs w ≡ Source) ⊎ ((d : Candidate) × (choose flow srcs w ≡ Make d) × In d s)
          pick (inl x) below = inl x
          pick (inr x) below =
              inr (x.0, x.1, has x.0 (in_flat (walk flow srcs L n) (wants flow L c) w x.0 i (own_walked all n w x.0 below x.1)))

      go : (choose flow srcs p ≡ Source) ⊎ ((c : Candidate) × (choose flow srcs p ≡ Make c)) → ((q : Path) (s : List Candidate) → Reached flow srcs L all n q → Ordered s (walk flow srcs L n q)) → Ordered seen (walk flow srcs L (suc n) p)
      go (inl e) ih = subst (Ordered seen) (sym (ap (walk_by flow srcs L n) e)) tt
      go (inr (c, e)) ih =
          subst (Ordered seen) (sym (walk_make flow srcs L n p c e))
          (ordered_append seen (flat_map (walk flow srcs L n) (wants flow L c)) (c ∷ [])
          (flat_ordered (walk flow srcs L n) seen (wants flow L c) (λ w i s. ih w s (reached_step flow srcs L all n p c w r e i)))
          (λ s m n. (last c e s n, tt)))

  -- a job of the walk is that of a path which the walk comes to
  pub walked_reached :
      (all : List Candidate) (n : ℕ) (p : Path) (c : Candidate) → Reached flow srcs L all n p → In c (walk flow srcs L n p) →
      (m : ℕ) × (q : Path) × Reached flow srcs L all (suc m) q × (choose flow srcs q ≡ Make c) × (suc m ≤ n)
  walked_reached all zero p c r h = absurd h
  walked_reached all (suc n) p c r h = go (choose flow srcs p) refl h (λ q s k. walked_reached all n q c s k)
    where
      last : (d : Candidate) → choose flow srcs p ≡ Make d → In c (d ∷ []) → (m : ℕ) × (q : Path) × Reached flow srcs L all (suc m) q × (choose flow srcs q ≡ Make c) × (suc m ≤ suc n)
      last d e (inl s) = (n, p, r, e ∙ ap Make (sym s), omega arith)
      last d e (inr k) = absurd k

      parts : (d : Candidate) → choose flow srcs p ≡ Make d → In c (flat_map (walk flow srcs L n) (wants flow L d)) ⊎ In c (d ∷ []) → ((q : Path) → Reached flow srcs L all n q → In c (walk flow srcs L n q) → (m : ℕ) × (q : Path) × Reached flow srcs L all (suc m) q × (choose flow srcs q ≡ Make c) × (suc m ≤ n)) → (m : ℕ) × (q : Path) × Reached flow srcs L all (suc m) q × (choose flow srcs q ≡ Make c) × (suc m ≤ suc n)
      parts d e (inl k) ih =
          let w = flat_in (walk flow srcs L n) (wants flow L d) c k in
          let r = ih w.0 (reached_step flow srcs L all n p d w.0 r e w.1) w.2 in
          let b = r.4 in (r.0, r.1, r.2, r.3, omega arith)
      parts d e (inr k) ih = last d e k

      go : (ch : Choice) → choose flow srcs p ≡ ch → In c (walk_by flow srcs L n ch) → ((q : Path) → Reached flow srcs L all n q → In c (walk flow srcs L n q) → (m : ℕ) × (q : Path) × Reached flow srcs L all (suc m) q × (choose flow srcs q ≡ Make c) × (suc m ≤ n)) → (m : ℕ) × (q : Path) × Reached flow srcs L all (suc m) q × (choose flow srcs q ≡ Make c) × (suc m ≤ suc n)
      go Source e k ih = absurd k
      go (Nothing lack) e k ih = absurd k
      go (Ambiguous a b) e k ih = absurd k
      go (Make d) e k ih = parts d e (in_either c (flat_map (walk flow srcs L n) (wants flow L d)) (d ∷ []) k) ih

  filter_ordered :
      (x : Candidate) (seen ys : List Candidate) → In x seen → ((y : Candidate) → In y ys → same_candidate x y ≡ true → y ≡ x) →
      Ordered seen ys → Ordered seen (filter (λ y. not (same_candidate x y)) ys)
  filter_ordered x seen [] i h o = tt
  filter_ordered x seen (y ∷ ys) i h o =
      go (same_candidate x y) refl
      (λ e. filter_ordered x seen ys i (λ z k. h z (inr k)) (ordered_more (y ∷ seen) seen ys (back e) o.1))
      (filter_ordered x (y ∷ seen) ys (inr i) (λ z k. h z (inr k)) o.1)
    where
      back : same_candidate x y ≡ true → Within (y ∷ seen) seen
      back e d (inl f) = subst (λ z. In z seen) (sym (f ∙ h y (inl refl) e)) i
      back e d (inr k) = k

      go : (b : Bool) → same_candidate x y ≡ b → (same_candidate x y ≡ true → Ordered seen (filter (λ y. not (same_candidate x y)) ys)) → Ordered (y ∷ seen) (filter (λ y. not (same_candidate x y)) ys) → Ordered seen (cond (not b) (y ∷ filter (λ y. not (same_candidate x y)) ys) (filter (λ y. not (same_candidate x y)) ys))
      go true e left out = left e
      go false e left out = (o.0, out)

  pub distinct_ordered :
      (seen xs : List Candidate) → ((a b : Candidate) → In a xs → In b xs → same_candidate a b ≡ true → b ≡ a) →
      Ordered seen xs → Ordered seen (distinct same_candidate xs)
  distinct_ordered seen [] h o = tt
  distinct_ordered seen (x ∷ xs) h o = (
    o.0,
    filter_ordered x (x ∷ seen) (distinct same_candidate xs) (inl refl)
        (λ y i e. h x y (inl refl) (inr (distinct_in same_candidate xs y i)) e)
        (distinct_ordered (x ∷ seen) xs (λ a b i k e. h a b (inr i) (inr k) e) o.1),
  )

-- ## Jobs in order

-- it is an input of the job, or a directory that the job gathers from
abbrev pub Reads : Job → Path → Type 0
Reads k q = In q (in_paths k.recipe) ⊎ In q (gathers_from k)

-- none of all makes what the job reads, or one of the earlier does
abbrev pub Served : List Job → List Job → Job → Type 0
Served all seen k = (q : Path) → Reads k q → ((j : Job) → In j all → makes j q ≡ false) ⊎ ((j : Job) × In j seen × (makes j q ≡ true))

abbrev pub InOrder : List Job → List Job → List Job → Type 0
InOrder all seen [] = Unit {0}
InOrder all seen (k ∷ ks) = Served all seen k × InOrder all (k ∷ seen) ks

pub some_node : (o : Option Node) (f : Content) → content_of o ≡ Some f → is_some o ≡ true
some_node None f h = absurd (none_some None f refl h)
some_node (Some Directory) f h = absurd (none_some None f refl h)
some_node (Some (Regular bytes time read_only)) f h = refl

module _ (flow : Flow) (image : Image) (L : Listings) where
  -- the outputs of a job are its candidate's
  output_of : (c : Candidate) (o : Path) → In o (out_paths (recipe flow L c)) → In o (outputs flow c)
  output_of c o h =
      let a = map_in (λ (o : Out). o.path) (outs_of (recipe flow L c)) o (subst (In o) (paths_are (recipe flow L c)) h) in
      let b = flat_in (λ (i : OutItem). i.outs) (recipe flow L c).outputs a.0 a.1 in
      let d = map_in _ c.part.outputs b.0 b.1 in
      let f = map_in _ d.0.outs a.0 (subst (λ (i : OutItem). In a.0 i.outs) d.2 b.2) in
      subst (λ p. In p (outputs flow c)) (sym (a.2 ∙ ap (λ (o : Out). o.path) f.2))
      (in_map (λ (o : FlaggedText). fill c.binding o.text) (outs c.part) f.0 (in_flat (λ (o : OutPart). o.outs) c.part.outputs d.0 f.0 d.1 f.1))

  -- no job makes a source
  pub source_unmade :
      IsComplete image → (p q : Path) (c : Candidate) → choose flow (sources_of image) p ≡ Make c → is_source image q ≡ true →
      makes (job flow L c) q ≡ false
  source_unmade complete p q c e source = go (makes (job flow L c) q) refl
    where
      named : In q (sources image)
      named =
          let f = source_file image q source in
          in_filter (is_source image) image.names q (among_in image.names q (complete.names q ∙ some_node (image.node q) f.0 f.1)) source

      above : (o : Path) → Above q o → overlaps o q ≡ true
      above o (inl s) = touch_overlaps o q (inl (sym s))
      above o (inr u) = touch_overlaps o q (inr (inr u))

      go : (b : Bool) → makes (job flow L c) q ≡ b → b ≡ false
      go false h = refl
      go true h =
          let o = makes_above (job flow L c) q h in
          let apart = (chosen_candidate flow (sources_of image) p c e).1 in
          let clear = all_in (λ q. Rattle.std.specs.Prelude.◌&&◌ (is_path q) (not (holds_source image q))) (outputs flow c ++ logs flow c) o.0 apart
          (in_left o.0 (outputs flow c) (logs flow c) (output_of c o.0 o.1)) in
          absurd (clash_of (holds_source image o.0) (any_from (overlaps o.0) (sources image) q named (above o.0 o.2)) (not_true (holds_source image o.0) (and_right (is_path o.0) _ clear)))

  pub jobs_in_order :
      (all : List Job) →
      ((q : Path) → choose flow (sources_of image) q ≡ Source → (j : Job) → In j all → makes j q ≡ false) →
      ((q : Path) (d : Candidate) → choose flow (sources_of image) q ≡ Make d → makes (job flow L d) q ≡ true) →
      (seen cs : List Candidate) → Ordered flow (sources_of image) L seen cs → InOrder all (map (job flow L) seen) (map (job flow L) cs)
  jobs_in_order all none own seen [] o = tt
  jobs_in_order all none own seen (c ∷ cs) o = (λ q h. pick q (o.0 q (wanted q h)), jobs_in_order all none own (c ∷ seen) cs o.1)
    where
      wanted : (q : Path) → Reads (job flow L c) q → In q (wants flow L c)
      wanted q (inl i) = inputs_wanted flow c L q i
      wanted q (inr i) = folders_wanted flow c L q i

      pick : (q : Path) → (choose flow (sources_of image) q ≡ Source) ⊎ ((d : Candidate) × (choose flow (sources_of image) q ≡ Make d) × In d seen) → ((j : Job) → In j all → makes j q ≡ false) ⊎ ((j : Job) × In j (map (job flow L) seen) × (makes j q ≡ true))
      pick q (inl e) = inl (none q e)
      pick q (inr (d, e, i)) = inr (job flow L d, in_map (job flow L) seen d i, own q d e)
