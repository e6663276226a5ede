-- What jobs of a plan read is clean where it is current; and the clean value is a matter of the sources.
use Rattle.std.proofs.Common.{◌≡◌, ◌⊎◌, ℕ, zero, suc, ◌≤◌, Bool, true, false, cond, List, ◌++◌, refl, sym, ap, subst, inl, inr, ◌∙◌, arith, Option, Some, None, option_map, is_some, IsTrue}
use Rattle.smk_base.specs.Path.{overlaps}
use Rattle.smk_base.specs.declared.tree.Tree.{Tree}
use Rattle.smk_world.specs.World.{in_paths}
use Rattle.smk_world.specs.Trees.{Path, Act, files_of}
use Rattle.smk_flow.specs.declared.job.Job.{Job}
use Rattle.smk_flow.specs.Flows.{Flow, Candidate}
use Rattle.smk_choose.specs.Choose.{Source, Make, choose}
use Rattle.smk_store.specs.Images.{Image, Content, file_at, is_source, source_at, sources, holds_source}
use Rattle.smk_store.specs.Trust.{Versions}
use Rattle.smk_store.specs.Soundness.{SameSources, told}
use Rattle.smk_chain.specs.Derive.{job, walk, wants, distinct, same_candidate, sources_of}
use Rattle.smk_chain.specs.Mean.{setting_of, clean_value}
use Rattle.smk_pick.specs.declared.settings.Settings.{Settings}
use Rattle.smk_plan.specs.States.{Plan, Progress, files_listed, gathers_from, is_ready, is_current}
use Rattle.smk_laws_plan.specs.Current.{ListingsAreMeant, IsComplete, ReadsAreClean, SameValues}
use Rattle.smk_laws_plan.proofs.CurrentLists.{In, in_right, in_either, flat_in, map_in, distinct_in, in_filter, filter_in, any_in, any_from, or_cases, clash_of}
use Rattle.smk_laws_plan.proofs.CurrentPaths.{among_in}
use Rattle.smk_laws_plan.proofs.CurrentReach.{reached_zero, reached_step, choice_known}
use Rattle.smk_laws_plan.proofs.CurrentRecipes.{inputs_wanted, folders_wanted}
use Rattle.smk_laws_plan.proofs.CurrentChosen.{chosen_viable}
use Rattle.smk_laws_plan.proofs.CurrentFills.{bound_fills_from}
use Rattle.smk_pattern.proofs.Names.{numbered_all}
use Rattle.smk_laws_plan.proofs.CurrentDepths.{mean_deeper}
use Rattle.smk_laws_plan.proofs.CurrentMeaning.{in_from, source_chosen, source_file, source_clean, source_lists, ready_clean, ready_listed, Cleans}
use Rattle.smk_laws_history.proofs.CurrentLaw.{rested}
use Rattle.smk_laws_plan.proofs.CurrentProducts.{Planned, Rested, ReachedHere}
use Rattle.smk_laws_plan.proofs.PlanOrder.{some_node, walked_reached}
use Rattle.smk_laws_plan.proofs.PlanOne.{derived, derived_reached}

module _
    (flow : Flow) (act : Act) (has_fields : Job → Bool) (image : Image) (H : Versions) (settings : Settings) (progress : Progress)
    (plan : Plan) (rest : Planned flow image settings progress plan) where
  abbrev pub comes : ℕ → Path → Type 0
  comes n p = ReachedHere flow act has_fields image H settings progress plan n p

  -- at some depth below 200 the walk comes to what a job reads
  pub wanted_comes : (j : Job) (p : Path) → In j plan.jobs → In p (in_paths j.recipe ++ gathers_from j) → (n : ℕ) × (suc n ≤ 200) × comes n p
  wanted_comes j p h i =
      let srcs = sources_of image in
      let d = derived flow image plan.lists settings.targets plan.jobs rest.complete rest.derived.derived in
      let c = map_in (job flow plan.lists) (distinct same_candidate (Rattle.std.specs.List.flat_map (walk flow srcs plan.lists 200) settings.targets)) j (subst (In j) (sym d.1) h) in
      let t = flat_in (walk flow srcs plan.lists 200) settings.targets c.0 (distinct_in same_candidate _ c.0 c.1) in
      let all = Rattle.std.specs.List.flat_map (walk flow srcs plan.lists 200) settings.targets in
      let w = walked_reached flow srcs plan.lists all 200 t.0 c.0 (derived_reached flow image plan.lists settings.targets plan.jobs rest.complete rest.derived.derived t.0 t.1) t.2 in
      (w.0, w.4, reached_step flow srcs plan.lists all w.0 w.1 c.0 p w.2 w.3 (want c.0 (subst (λ (k : Job). In p (in_paths k.recipe ++ gathers_from k)) c.2 i)))
    where
      want : (c : Candidate) → In p (in_paths (job flow plan.lists c).recipe ++ gathers_from (job flow plan.lists c)) → In p (wants flow plan.lists c)
      want c k = go (in_either p (in_paths (job flow plan.lists c).recipe) (gathers_from (job flow plan.lists c)) k)
        where
          go : In p (in_paths (job flow plan.lists c).recipe) ⊎ In p (gathers_from (job flow plan.lists c)) → In p (wants flow plan.lists c)
          go (inl l) = inputs_wanted flow c plan.lists p l
          go (inr l) = folders_wanted flow c plan.lists p l

module _
    (flow : Flow) (act : Act) (has_fields : Job → Bool) (image : Image) (H : Versions) (settings : Settings) (progress : Progress)
    (plan : Plan) (rest : Rested flow act has_fields image H settings progress plan) where
  clean_here : (n : ℕ) (p : Path) → suc n ≤ 200 → comes flow act has_fields image H settings progress plan rest.planned n p → IsTrue (is_current image settings progress plan p) → Cleans flow act has_fields image H settings progress plan (bound_fills_from numbered_all) rest 200 p
  clean_here n p b h current = go n b h (choice_known flow (sources_of image) plan.lists n p h.calm) (or_cases (is_source image p) (is_ready image settings progress plan p) current)
    where
      made : (n : ℕ) → suc n ≤ 200 → comes flow act has_fields image H settings progress plan rest.planned n p → (c : Candidate) → choose flow (sources_of image) p ≡ Make c → (is_ready image settings progress plan p ≡ true) → Cleans flow act has_fields image H settings progress plan (bound_fills_from numbered_all) rest 200 p
      made zero b h c e ready = absurd (reached_zero flow (sources_of image) plan.lists _ p c h e)
      made (suc m) b h c e ready =
          let v = ready_clean flow act has_fields image H settings progress plan (bound_fills_from numbered_all) rest m p h ready in
          (v.0, v.1, mean_deeper (setting_of flow act has_fields image) (suc m) 200 p v.0 (omega arith) v.2)

      go : (n : ℕ) → suc n ≤ 200 → comes flow act has_fields image H settings progress plan rest.planned n p → (choose flow (sources_of image) p ≡ Source) ⊎ ((c : Candidate) × (choose flow (sources_of image) p ≡ Make c)) → (is_source image p ≡ true) ⊎ (is_ready image settings progress plan p ≡ true) → Cleans flow act has_fields image H settings progress plan (bound_fills_from numbered_all) rest 200 p
      go n b h (inl s) either = source_clean flow act has_fields image H settings progress plan (bound_fills_from numbered_all) rest 200 p (source_chosen flow (sources_of image) p s)
      go n b h (inr (c, e)) (inl is) = absurd (clash_of (is_source image p) is (chosen_viable flow (sources_of image) p c e).1)
      go n b h (inr (c, e)) (inr ready) = made n b h c e ready

pub reads_are_clean : ReadsAreClean
reads_are_clean flow act has_fields image H settings progress L plan rest j p inn reads current =
    let r = rested flow act has_fields image H settings progress L plan rest in
    let w =
    wanted_comes flow act has_fields image H settings progress plan r.planned j p (in_from plan.jobs j inn) (in_from (in_paths j.recipe ++ gathers_from j) p reads) in
    clean_here flow act has_fields image H settings progress plan r w.0 p w.1 w.2 current

pub listings_are_meant : ListingsAreMeant
listings_are_meant flow act has_fields image H settings progress L plan sound j f inn gathers ready =
    let r = rested flow act has_fields image H settings progress L plan sound in
    let w =
    wanted_comes flow act has_fields image H settings progress plan r.planned j f (in_from plan.jobs j inn)
    (in_right f (in_paths j.recipe) (gathers_from j) (in_from (gathers_from j) f gathers)) in
    go r w.0 w.1 w.2 (choice_known flow (sources_of image) plan.lists w.0 f w.2.calm)
  where
    made :
        (r : Rested flow act has_fields image H settings progress plan) (n : ℕ) → suc n ≤ 200 → comes flow act has_fields image H settings progress plan r.planned n f →
        (c : Candidate) → choose flow (sources_of image) f ≡ Make c →
        (t : Tree) × (clean_value (setting_of flow act has_fields image) f ≡ Some t) × (files_listed image f ≡ files_of t)
    made r zero b h c e = absurd (reached_zero flow (sources_of image) plan.lists _ f c h e)
    made r (suc m) b h c e =
        let v = ready_listed flow act has_fields image H settings progress plan (bound_fills_from numbered_all) r m f h ready in
        (v.0, mean_deeper (setting_of flow act has_fields image) (suc m) 200 f v.0 (omega arith) v.1, v.2)

    go :
        (r : Rested flow act has_fields image H settings progress plan) (n : ℕ) → suc n ≤ 200 → comes flow act has_fields image H settings progress plan r.planned n f →
        (choose flow (sources_of image) f ≡ Source) ⊎ ((c : Candidate) × (choose flow (sources_of image) f ≡ Make c)) →
        (t : Tree) × (clean_value (setting_of flow act has_fields image) f ≡ Some t) × (files_listed image f ≡ files_of t)
    go r n b h (inl s) =
        source_lists flow act has_fields image H settings progress plan (bound_fills_from numbered_all) r 200 f (source_chosen flow (sources_of image) f s)
    go r n b h (inr (c, e)) = made r n b h c e

-- ## The same sources

-- a path is a source where some content is read there as one
source_by : (image : Image) (p : Path) → is_source image p ≡ is_some (option_map told (source_at image p))
source_by image p = go (is_source image p) refl
  where
    go : (b : Bool) → is_source image p ≡ b → b ≡ is_some (option_map told (cond b (file_at image p) None))
    go false h = refl
    go true h = let f = source_file image p h in sym (ap (λ o. is_some (option_map told o)) f.1)

module _ (a b : Image) (complete : IsComplete b) (same : (p : Path) → is_source a p ≡ is_source b p) where
  named : (p : Path) → is_source b p ≡ true → In p (sources b)
  named p h =
      let f = source_file b p h in
      in_filter (is_source b) b.names p (among_in b.names p (complete.names p ∙ some_node (b.node p) f.0 f.1)) h

  held_too : (p : Path) → holds_source a p ≡ true → holds_source b p ≡ true
  held_too p h =
      let q = any_in (overlaps p) (sources a) h in
      any_from (overlaps p) (sources b) q.0 (named q.0 (sym (same q.0) ∙ (filter_in (is_source a) a.names q.0 q.1).1)) q.2

same_bool : (a b : Bool) → (a ≡ true → b ≡ true) → (b ≡ true → a ≡ true) → a ≡ b
same_bool true b h k = sym (h refl)
same_bool false true h k = k refl
same_bool false false h k = refl

bytes_told : (o : Option Content) → option_map (λ (f : Content). f.bytes) o ≡ option_map (λ (t : List ℕ × ℕ). t.0) (option_map told o)
bytes_told None = refl
bytes_told (Some f) = refl

-- complete images with the same sources have the same paths as sources, and the same paths hold one
pub sources_alike : (a b : Image) → IsComplete a → IsComplete b → SameSources a b → sources_of a ≡ sources_of b
sources_alike a b in_a in_b same =
    let is : (p : Path) → is_source a p ≡ is_source b p = λ p. source_by a p ∙ (ap is_some (sym (same p)) ∙ sym (source_by b p)) in
    let holds : (p : Path) → holds_source a p ≡ holds_source b p =
    λ p. same_bool (holds_source a p) (holds_source b p) (held_too a b in_b is p) (held_too b a in_a (λ p. sym (is p)) p) in
    λ i. record { is = λ p. is p i; holds = λ p. holds p i }

pub same_values : SameValues
same_values flow act has_fields a b in_a in_b same p =
    let srcs : sources_of a ≡ sources_of b = sources_alike a b in_a in_b same in
    let bytes : (p : Path) → option_map (λ (f : Content). f.bytes) (source_at a p) ≡ option_map (λ (f : Content). f.bytes) (source_at b p) =
    λ p. bytes_told (source_at a p) ∙ (ap (option_map (λ (t : List ℕ × ℕ). t.0)) (sym (same p)) ∙ sym (bytes_told (source_at b p))) in
    let settings : setting_of flow act has_fields a ≡ setting_of flow act has_fields b =
    λ i. record { flow = flow; act = act; has_fields = has_fields; sources = srcs i; bytes = λ p. bytes p i } in
    ap (λ S. clean_value S p) settings
