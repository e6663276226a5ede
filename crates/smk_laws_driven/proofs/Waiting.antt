-- The child of a good job that reads clean values ends well.
use Rattle.std.proofs.Common.{◌≡◌, ◌≢◌, ◌⊎◌, inl, inr, ℕ, Bool, arith, true, false, List, [], ◌∷◌, ◌++◌, map, refl, sym, ap, subst, ◌∙◌, Option, Some, None, option_map, Ok, IsTrue, eqb-true, true≢false}
use Rattle.std.specs.Prelude.{nat_eq, not, if◌then◌else◌}
use Rattle.std.proofs.lemmas.Option.{same_Some}
use Rattle.smk_base.specs.Path.{is_path}
use Rattle.smk_base.proofs.Apart.{path_outside}
use Rattle.smk_world.specs.declared.event.Call.TheVariants.{Waited}
use Rattle.smk_world.specs.declared.event.Change.{Change}
use Rattle.smk_world.specs.declared.event.Child.{Child}
use Rattle.smk_world.specs.declared.event.Ended.{Ended}
use Rattle.smk_world.specs.declared.recipe.Recipe.{Recipe}
use Rattle.smk_world.specs.World.{World, after, child_numbered, in_paths, out_paths, owned_by, owned_of, owned_paths}
use Rattle.smk_world.specs.Calls.{ContentsAre, Lets, OutputsAre}
use Rattle.smk_world.specs.Trees.{Act, Each, IsIn, all_of, is_path_text}
use Rattle.smk_world.proofs.Names.{formed_after}
use Rattle.smk_flow.specs.Flows.{Candidate}
use Rattle.smk_store.specs.Images.{is_outside, seen, tree_now}
use Rattle.smk_store.specs.Soundness.{Outside}
use Rattle.smk_store.specs.Trust.{Versions}
use Rattle.smk_chain.specs.Derive.{Listings, job, recipe}
use Rattle.smk_chain.specs.Mean.{Setting, clean_value}
use Rattle.smk_report.specs.Lines.{Good}
use Rattle.smk_run.specs.Closings.{wait_event}
use Rattle.smk_run.specs.Statuses.{IsGiven}
use Rattle.smk_laws_plan.proofs.CurrentLists.{and_left, in_left}
use Rattle.smk_laws_complete.specs.Derived.{IsGoodJob}
use Rattle.smk_laws_complete.proofs.Goods.{good_jobs_end_well}
use Rattle.smk_laws_protocol.specs.Protocol.{OpenJob, RunState, Running, eased, own}
use Rattle.smk_laws_protocol.specs.Midway.{AllStrangers, Fits, IsOfJob, Midway}
use Rattle.smk_laws_protocol.proofs.Basics.{each_in, each_of, in_split}
use Rattle.smk_laws_protocol.proofs.Between.{trees_at}
use Rattle.smk_laws_protocol.proofs.Between as views
use Rattle.smk_laws_protocol.proofs.Reading.{contents_are, outputs_are}
use Rattle.smk_laws_protocol.proofs.Rows.{now}
use Rattle.smk_laws_protocol.proofs.SoundWorlds.{now_is}
use Rattle.smk_laws_protocol.proofs.Unowned.{input_unowned}
use Rattle.smk_laws_protocol.proofs.View.{View}
use Rattle.smk_drive.specs.Moments.{ending}
use Rattle.smk_laws_turns.proofs.Pairs.{aside, parted}

-- ## Lists

all_known : {A : Type 0} (os : List (Option A)) (xs : List A) → all_of os ≡ Some xs → os ≡ map Some xs
all_known [] [] h = refl
all_known {A} [] (x ∷ xs) h = absurd (none x xs h)
  where
    none : (x : A) (xs : List A) → ◌≡◌ {A = Option (List A)} (Some []) (Some (x ∷ xs)) → ⊥
    none x xs e = cc
all_known {A} (None ∷ os) xs h = absurd (none xs h)
  where
    none : (xs : List A) → ◌≡◌ {A = Option (List A)} None (Some xs) → ⊥
    none xs e = cc
all_known {A} (Some y ∷ os) xs h = go (all_of os) refl xs h (λ ys e. all_known os ys e)
  where
    go :
        (r : Option (List A)) → all_of os ≡ r → (xs : List A) → option_map (λ ys. y ∷ ys) r ≡ Some xs →
        ((ys : List A) → all_of os ≡ Some ys → os ≡ map Some ys) → Some y ∷ os ≡ map Some xs
    go None e xs k again = absurd (none xs k)
      where
        none : (xs : List A) → ◌≡◌ {A = Option (List A)} None (Some xs) → ⊥
        none xs e = cc
    go (Some ys) e xs k again = ap (λ zs. Some y ∷ zs) (again ys e) ∙ ap (map Some) (same_Some (y ∷ ys) xs k)

each_same : {A B : Type 0} (f g : A → B) (xs : List A) → Each (λ x. f x ≡ g x) xs → map f xs ≡ map g xs
each_same f g [] h = refl
each_same f g (x ∷ xs) h = let rest = each_same f g xs h.1 in λ i. h.0 i ∷ rest i

numbered_at : (n : ℕ) (cs : List Child) (c : Child) → child_numbered n cs ≡ Some c → IsIn cs c × (c.number ≡ n)
numbered_at n [] c h = absurd (none c h)
  where
    none : (c : Child) → ◌≡◌ {A = Option Child} None (Some c) → ⊥
    none c e = cc
numbered_at n (x ∷ cs) c h = go (nat_eq x.number n) refl h (numbered_at n cs c)
  where
    go : (b : Bool) → nat_eq x.number n ≡ b → (if b then Some x else child_numbered n cs) ≡ Some c → (child_numbered n cs ≡ Some c → IsIn cs c × (c.number ≡ n)) →
        IsIn (x ∷ cs) c × (c.number ≡ n)
    go true e k ih = let same = same_Some x c k in (inl (sym same), ap (λ (y : Child). y.number) (sym same) ∙ eqb-true x.number n e)
    go false e k ih = let r = ih k in (inr r.0, r.1)

same_or : (a b : ℕ) → ((a ≢ b) → ⊥) → a ≡ b
same_or a b h = go (nat_eq a b) refl
  where
    told : (a b : ℕ) → a ≡ b → nat_eq a b ≡ true
    told a b e = grind arith

    go : (c : Bool) → nat_eq a b ≡ c → a ≡ b
    go true e = eqb-true a b e
    go false e = absurd (h (λ same. true≢false (sym (told a b same) ∙ e)))

module _ (o : Outside) (entry w : World) (H : Versions) (state : RunState) (here : Midway o entry H state w) (m : views.Midway o entry H state w) (mine : OpenJob)
    (number : ℕ) (open_here : IsIn state.jobs mine) (runs : mine.phase ≡ Running number) where
  -- the child of this number is that of the job
  its_child : (c : Child) → IsIn w.children c → c.number ≡ number → (c.recipe ≡ mine.recipe) × (c.logs ≡ mine.logs)
  its_child c i same =
      let parts = parted state.jobs mine open_here in
      let k = each_in (IsOfJob state.jobs) w.children c here.children i in
      let all = subst AllStrangers parts.2 here.apart in
      go parts.0 parts.1 all k.0 (in_split parts.0 parts.1 mine k.0 (subst (λ js. IsIn js k.0) parts.2 k.1)) k.2 k.3 k.4
    where
      go : (js ks : List OpenJob) → AllStrangers (js ++ mine ∷ ks) → (k : OpenJob) → (k ≡ mine) ⊎ IsIn (js ++ ks) k → k.phase ≡ Running c.number →
          c.recipe ≡ k.recipe → c.logs ≡ k.logs → (c.recipe ≡ mine.recipe) × (c.logs ≡ mine.logs)
      go js ks all k (inl e) phase recipes logs = (recipes ∙ ap (λ (x : OpenJob). x.recipe) e, logs ∙ ap (λ (x : OpenJob). x.logs) e)
      go js ks all k (inr i) phase recipes logs =
          absurd ((aside js ks mine k all i).numbers number runs (phase ∙ ap Running same))

  -- so what it owns is the job's
  pub owned_is : (c : Child) → child_numbered number w.children ≡ Some c → owned_by number w.children ≡ owned_paths mine.recipe mine.logs
  owned_is c h =
      let at = numbered_at number w.children c h in
      let its = its_child c at.0 at.1 in
      ap owned_of h ∙ (λ i. owned_paths (its.0 i) (its.1 i))

  fits : Fits o entry (eased state) state.top w mine
  fits = each_in (Fits o entry (eased state) state.top w) state.jobs mine here.fits open_here

  outside : Each (λ p. IsTrue (is_outside p)) (out_paths mine.recipe)
  outside =
      each_of (λ p. IsTrue (is_outside p)) (out_paths mine.recipe) (λ p i.
      ap not (path_outside p (and_left (is_path p) _
      (each_in (λ p. IsTrue (is_path_text p)) (own mine) p fits.paths (in_left p (out_paths mine.recipe) mine.logs i)))))

  module _ (S : Setting) (acts : S.act ≡ o.act) (L : Listings) (c : Candidate) (good : IsGoodJob S L c) (same : recipe S.flow L c ≡ mine.recipe)
      (fed : Each (λ q. tree_now (seen o.read w) q ≡ clean_value S q) (in_paths mine.recipe)) where
    trees : trees_at (now o w) (in_paths mine.recipe) ≡ map Some good.inputs
    trees =
        ap (λ (v : View). trees_at v (in_paths mine.recipe)) (sym (now_is o w H))
        ∙ (each_same (tree_now (seen o.read w)) (clean_value S) (in_paths mine.recipe) fed
        ∙ (ap (λ (r : Recipe). map (clean_value S) (in_paths r)) (sym same)
        ∙ all_known (map (clean_value S) (in_paths (recipe S.flow L c))) good.inputs good.clean))

    contents : (child : Child) → child.recipe ≡ mine.recipe → ContentsAre w child.recipe good.inputs
    contents child e =
        subst (λ (r : Recipe). ContentsAre w r good.inputs) (sym e)
        (contents_are o w here.images.formed (in_paths mine.recipe) good.inputs (λ p i. input_unowned o entry H state w m mine open_here p i) trees)

    abbrev acted_status : ℕ
    acted_status = (o.act mine.recipe good.inputs).status

    acted_good : acted_status ≡ 0
    acted_good =
        ap (λ (r : Recipe). (o.act r good.inputs).status) (sym same) ∙ (ap (λ (a : Act). (a (recipe S.flow L c) good.inputs).status) (sym acts) ∙ good.status)

    -- Its child ends well.
    pub ends_well :
        (rose : Type 0) (ended : Ended) (left : List Change) → ¬ rose → ended.number ≡ number → Lets o.act w (Waited (Ok ended)) left →
        IsGiven o.act rose w (Waited (Ok ended)) → ending (seen o.read (after w (wait_event ended left))) (job S.flow L c) ended.status ≡ Good
    ends_well rose ended left never numbered lets given =
        let at = numbered_at ended.number w.children lets.0 lets.1 in
        let its = its_child lets.0 at.0 (at.1 ∙ numbered) in
        let stands = contents lets.0 its.0 in
        let status : ended.status ≡ acted_status =
        same_or ended.status acted_status (λ other. never
        (given lets.0 lets.1 good.inputs stands (λ e. other (e ∙ ap (λ (r : Recipe). (o.act r good.inputs).status) its.0)))) in
        let zero_status = status ∙ acted_good in
        let made = lets.2 zero_status good.inputs stands in
        let formed = formed_after w (wait_event ended left) here.images.formed in
        let later = seen o.read (after w (wait_event ended left)) in
        let outs : (o.act mine.recipe good.inputs).outputs ≡ map (tree_now later) (out_paths mine.recipe) =
        outputs_are o (after w (wait_event ended left)) formed (out_paths mine.recipe) (o.act mine.recipe good.inputs).outputs outside
        (subst (λ (r : Recipe). OutputsAre (after w (wait_event ended left)) r (o.act r good.inputs).outputs) its.0 made.1)
        ∙ ap (λ (v : View). trees_at v (out_paths mine.recipe)) (sym (now_is o (after w (wait_event ended left)) H)) in
        let there : map (tree_now later) (out_paths (recipe S.flow L c)) ≡ (S.act (recipe S.flow L c) good.inputs).outputs =
        ap (λ (r : Recipe). map (tree_now later) (out_paths r)) same
        ∙ (sym outs
        ∙ (ap (λ (r : Recipe). (o.act r good.inputs).outputs) (sym same) ∙ ap (λ (a : Act). (a (recipe S.flow L c) good.inputs).outputs) (sym acts))) in
        subst (λ n. ending later (job S.flow L c) n ≡ Good) (good.status ∙ sym zero_status) (good_jobs_end_well S L c later good there)
