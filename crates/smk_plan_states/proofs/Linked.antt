-- Jobs that are derived and linked serve their targets.
use Rattle.std.proofs.Common.{◌≡◌, ◌⊎◌, ℕ, suc, ◌<◌, length, arith, Bool, true, false, cond, List, [], ◌∷◌, ◌++◌, map, filter, flat_map, find, refl, sym, ap, subst, inl, inr, ◌∙◌, Option, Some, None, option_map, is_some, append_assoc, length-append, append-nil}
use Rattle.std.specs.List.{AllByRecursion}
use Rattle.smk_base.specs.Path.{overlaps}
use Rattle.smk_world.specs.World.{in_paths, out_paths}
use Rattle.smk_world.specs.Trees.{Path, Each}
use Rattle.smk_flow.specs.declared.job.Job.{Job}
use Rattle.smk_flow.specs.Flows.{Flow, Candidate}
use Rattle.smk_choose.specs.declared.choice.Making.{Making}
use Rattle.smk_choose.specs.Choose.{Sources, Source, Make, choose, maker}
use Rattle.smk_choose.specs.Told.{making}
use Rattle.smk_store.specs.Images.{Image, is_source}
use Rattle.smk_chain.specs.declared.jobs.Jobs.{Jobs}
use Rattle.smk_chain.specs.Derive.{Listings, Derived, Refusal, Deep, derivation, job, jobs, recipe, wants, walk, chosen, same_candidate, sources_of, refused, is_deep, job_refusals}
use Rattle.smk_chain.proofs.Inputs.{each_append}
use Rattle.smk_chain_walk.specs.Links.{AreLinked, maker_told, number_for}
use Rattle.smk_chain_walk.specs.Numbers.{is_job, number_in, place_of}
use Rattle.smk_chain_walk.proofs.Adding.{is_its_job}
use Rattle.smk_plan.specs.States.{makes, gathers_from}
use Rattle.smk_plan.specs.Sights.{job_at}
use Rattle.smk_laws_plan.specs.Current.{IsComplete}
use Rattle.smk_laws_plan.proofs.CurrentLists.{In, in_left, in_right, in_either, in_flat, flat_in, map_in, in_distinct, distinct_in, append_nil_left, append_nil_right, map_nil, filter_nil, clash_of, none_some, some_inj}
use Rattle.smk_laws_plan.proofs.CurrentReach.{Reached, reached_target, choice_known}
use Rattle.smk_laws_plan.proofs.CurrentRecipes.{inputs_wanted, folders_wanted}
use Rattle.smk_laws_plan.proofs.CurrentWalked.{walked_chosen, chosen_same, candidate_trans}
use Rattle.smk_laws_plan.proofs.CurrentApart.{JobsApart, Apart}
use Rattle.smk_laws_plan.proofs.CurrentMeaning.{source_chosen}
use Rattle.smk_laws_plan.proofs.PlanOrder.{Ordered, flat_ordered, walk_ordered, own_walked, distinct_ordered, source_unmade}
use Rattle.smk_laws_plan.proofs.PlanOne.{derived, derived_apart, job_makes}
use Rattle.smk_laws_plan.proofs.CurrentProducts.{some_of}
use Rattle.smk_plan_states.specs.Served.{AreApart, IsToldOf, IsBelow, ReadEarlier, outputs_of}
use Rattle.smk_plan_states.specs.Laws.{LinkedAreServed}
use Rattle.smk_plan_states.proofs.Apart.{each_in}
use Rattle.smk_plan_states.proofs.ReadOthers.{found_one}
use Rattle.smk_plan_states.proofs.ReadyNow.{job_there}

-- ## Lists

each_from : {A : Type 0} (P : A → Type 0) (xs : List A) → ((x : A) → In x xs → P x) → Each P xs
each_from P [] f = tt
each_from P (x ∷ xs) f = (f x (inl refl), each_from P xs (λ y i. f y (inr i)))

all_in : {A : Type 0} (P : A → Type 0) (xs : List A) (x : A) → AllByRecursion P xs → In x xs → P x
all_in P [] x h i = absurd i
all_in P (y ∷ xs) x h (inl e) = subst P (sym e) h.0
all_in P (y ∷ xs) x h (inr i) = all_in P xs x h.1 i

none_found : {A : Type 0} (test : A → Bool) (xs : List A) → ((x : A) → In x xs → test x ≡ false) → find test xs ≡ None
none_found test [] h = refl
none_found test (x ∷ xs) h = ap (λ b. cond b (Some x) (find test xs)) (h x (inl refl)) ∙ none_found test xs (λ y i. h y (inr i))

-- ## Outputs that lie apart

apart_from : (ps : List Path) → Apart ps → AreApart ps
apart_from [] h = tt
apart_from (p ∷ ps) h = (each_from (λ q. overlaps q p ≡ false) ps h.0, apart_from ps h.1)

apart_both : (ps qs : List Path) → AreApart ps → AreApart qs → ((p q : Path) → In p ps → In q qs → overlaps q p ≡ false) → AreApart (ps ++ qs)
apart_both [] qs h k f = k
apart_both (p ∷ ps) qs h k f =
    (each_append (λ q. overlaps q p ≡ false) ps qs h.0 (each_from (λ q. overlaps q p ≡ false) qs (λ q i. f p q (inl refl) i)), apart_both ps qs h.1 k (λ x q i j. f x q (inr i) j))

outputs_apart : (js : List Job) → JobsApart js → AreApart (outputs_of js)
outputs_apart [] h = tt
outputs_apart (j ∷ js) h =
    apart_both (out_paths j.recipe) (outputs_of js) (apart_from (out_paths j.recipe) h.1) (outputs_apart js h.2)
    (λ p q i k. let r = flat_in (λ (j : Job). out_paths j.recipe) js q k in h.0 r.0 p q r.1 i r.2)

-- ## Places of candidates

place_front :
    (front rest : List Candidate) (m : Making) (d : Candidate) → In d front → is_job m d ≡ true →
    (n : ℕ) × (n < length front) × (place_of (front ++ rest) m ≡ Some n)
place_front [] rest m d i h = absurd i
place_front (x ∷ front) rest m d i h = go (is_job m x) refl i (λ k. place_front front rest m d k h)
  where
    there : In d (x ∷ front) → is_job m x ≡ false → In d front
    there (inl e) f = absurd (clash_of (is_job m x) (subst (λ c. is_job m c ≡ true) e h) f)
    there (inr k) f = k

    go : (b : Bool) → is_job m x ≡ b → In d (x ∷ front) → (In d front → (n : ℕ) × (n < length front) × (place_of (front ++ rest) m ≡ Some n)) → (n : ℕ) × (n < suc (length front)) × (cond b (Some 0) (option_map suc (place_of (front ++ rest) m)) ≡ Some n)
    go true e k ih = (0, omega arith, refl)
    go false e k ih = let r = ih (there k e) in let lt = r.1 in (suc r.0, omega arith, ap (option_map suc) r.2)

found_at :
    (flow : Flow) (L : Listings) (cs : List Candidate) (m : Making) (n : ℕ) → place_of cs m ≡ Some n →
    (d : Candidate) × In d cs × (is_job m d ≡ true) × (job_at (map (job flow L) cs) n ≡ Some (job flow L d))
found_at flow L [] m n e = absurd (none_some None n refl e)
found_at flow L (x ∷ cs) m n e = go (is_job m x) refl e (found_at flow L cs m)
  where
    behind : (o : Option ℕ) → place_of cs m ≡ o → option_map suc o ≡ Some n → ((k : ℕ) → place_of cs m ≡ Some k → (d : Candidate) × In d cs × (is_job m d ≡ true) × (job_at (map (job flow L) cs) k ≡ Some (job flow L d))) → (d : Candidate) × In d (x ∷ cs) × (is_job m d ≡ true) × (job_at (map (job flow L) (x ∷ cs)) n ≡ Some (job flow L d))
    behind None p k ih = absurd (none_some None n refl k)
    behind (Some i) p k ih =
        let r = ih i p in
        (r.0, inr r.1, r.2, ap (job_at (map (job flow L) (x ∷ cs))) (sym (some_inj (suc i) n k)) ∙ r.3)

    go : (b : Bool) → is_job m x ≡ b → cond b (Some 0) (option_map suc (place_of cs m)) ≡ Some n → ((k : ℕ) → place_of cs m ≡ Some k → (d : Candidate) × In d cs × (is_job m d ≡ true) × (job_at (map (job flow L) cs) k ≡ Some (job flow L d))) → (d : Candidate) × In d (x ∷ cs) × (is_job m d ≡ true) × (job_at (map (job flow L) (x ∷ cs)) n ≡ Some (job flow L d))
    go true b k ih = (x, inl refl, b, ap (job_at (map (job flow L) (x ∷ cs))) (sym (some_inj 0 n k)))
    go false b k ih = behind (place_of cs m) refl k ih

module _
    (flow : Flow) (sources : Sources) (image : Image) (L : Listings) (targets : List Path) (made : Jobs) (complete : IsComplete image) (derives : derivation flow image L targets ≡ Derived made.jobs)
    (are : made.jobs ≡ jobs flow sources L targets) (calm : job_refusals flow sources image L targets ≡ []) (links : AreLinked flow sources L targets made) where
  abbrev walked : List Candidate
  walked = flat_map (walk flow sources L 200) targets

  abbrev cs : List Candidate
  cs = chosen flow sources L targets

  apart : JobsApart made.jobs
  apart = derived_apart flow image L targets made.jobs complete derives

  abbrev deep : List Refusal
  deep = map Deep (filter (is_deep flow sources image L targets) targets)

  reached : (t : Path) → In t targets → Reached flow sources L walked 200 t
  reached t i =
      let shallow = map_nil Deep (filter (is_deep flow sources image L targets) targets) (append_nil_left deep _ calm) in
      let met = append_nil_left (flat_map (refused flow sources L 201) targets) _ (append_nil_right deep _ calm) in
      reached_target flow sources L targets 200 t (filter_nil (is_deep flow sources image L targets) targets t shallow i) met i

  chosen_for : (c : Candidate) → In c walked → (q : Path) × (choose flow sources q ≡ Make c)
  chosen_for c h = let t = flat_in (walk flow sources L 200) targets c h in walked_chosen flow sources L 200 t.0 c t.2

  ordered : Ordered flow sources L [] cs
  ordered =
      distinct_ordered flow sources L [] walked alike (flat_ordered flow sources L (walk flow sources L 200) [] targets (λ t i s. walk_ordered flow sources L walked 200 t s (reached t i)))
    where
      alike : (a b : Candidate) → In a walked → In b walked → same_candidate a b ≡ true → b ≡ a
      alike a b i k e = let p = chosen_for a i in let q = chosen_for b k in sym (chosen_same flow sources L p.0 q.0 a b p.1 q.1 e)

  number_told : (q : Path) → is_some (maker_told made.makers q) ≡ true → maker_told made.makers q ≡ Some (number_for flow sources L cs q)
  number_told q h = let t = some_of (maker_told made.makers q) h in t.1 ∙ ap Some (links.right q t.0 t.1)

  -- a path for which a job is chosen
  told_made : (q : Path) (c : Candidate) (n : ℕ) → choose flow sources q ≡ Make c → place_of cs (making c) ≡ Some n → is_some (maker_told made.makers q) ≡ true → (t : IsToldOf made q) × (t.number ≡ Some n)
  told_made q c n e p h =
      let d = found_at flow L cs (making c) n p in
      let w = chosen_for d.0 (distinct_in same_candidate walked d.0 d.1) in
      let same : d.0 ≡ c = chosen_same flow sources L w.0 q d.0 c w.1 e d.2 in
      let there : job_at made.jobs n ≡ Some (job flow L d.0) = ap (λ js. job_at js n) are ∙ d.3 in
      let own : makes (job flow L d.0) q ≡ true = subst (λ x. makes (job flow L x) q ≡ true) (sym same) (job_makes flow sources L q c e) in (
        record {
          number = Some n;
          told = number_told q h ∙ ap Some (ap (λ ch. number_in cs (maker ch)) e ∙ p);
          right = found_one made.jobs (job flow L d.0) q apart (job_there made.jobs n (job flow L d.0) there) own ∙ sym there;
        },
        refl,
      )

  -- a source
  told_source : (q : Path) → choose flow sources q ≡ Source → sources.is q ≡ is_source image q → is_some (maker_told made.makers q) ≡ true → (t : IsToldOf made q) × (t.number ≡ None)
  told_source q e same h = (
    record {
      number = None;
      told = number_told q h ∙ ap Some (ap (λ ch. number_in cs (maker ch)) e);
      right = none_found (λ j. makes j q) made.jobs none;
    },
    refl,
  )
    where
      none : (j : Job) → In j made.jobs → makes j q ≡ false
      none j i =
          let d = derived flow image L targets made.jobs complete derives in
          let c = map_in (job flow L) (chosen flow (sources_of image) L targets) j (subst (In j) (sym d.1) i) in
          let t = flat_in (walk flow (sources_of image) L 200) targets c.0 (distinct_in same_candidate (flat_map (walk flow (sources_of image) L 200) targets) c.0 c.1) in
          let p = walked_chosen flow (sources_of image) L 200 t.0 c.0 t.2 in
          subst (λ x. makes x q ≡ false) (sym c.2) (source_unmade flow image L complete p.0 q c.0 p.1 (sym same ∙ source_chosen flow sources q e))

  target_told : (t : Path) → In t targets → sources.is t ≡ is_source image t → IsToldOf made t
  target_told t i same = go (choice_known flow sources L 200 t (reached t i).calm)
    where
      h : is_some (maker_told made.makers t) ≡ true
      h = all_in (λ t. is_some (maker_told made.makers t) ≡ true) targets t links.all_targets i

      go : (choose flow sources t ≡ Source) ⊎ ((c : Candidate) × (choose flow sources t ≡ Make c)) → IsToldOf made t
      go (inl e) = (told_source t e same h).0
      go (inr (c, e)) =
          let w = in_flat (walk flow sources L 200) targets t c i (own_walked flow sources L walked 200 t c (reached t i) e) in
          let d = in_distinct same_candidate is_its_job candidate_trans walked c w in
          let p = place_front cs [] (making c) d.0 d.1 d.2 in
          (told_made t c p.0 e (ap (λ xs. place_of xs (making c)) (sym (append-nil cs)) ∙ p.2) h).0

  module _ (same : Each (λ (j : Job). Each (λ q. sources.is q ≡ is_source image q) (in_paths j.recipe ++ gathers_from j)) made.jobs) where
    read_from :
        (front rest seen : List Candidate) → cs ≡ front ++ rest → Ordered flow sources L seen rest → ((c : Candidate) → In c seen → In c front) →
        ReadEarlier made (length front) (map (job flow L) rest)
    read_from front [] seen all order within = tt
    read_from front (c ∷ rest) seen all order within = (
      each_from (λ q. (t : IsToldOf made q) × IsBelow (length front) t.number) reads one,
      subst (λ n. ReadEarlier made n (map (job flow L) rest)) (length-append front (c ∷ []) ∙ omega arith)
          (read_from (front ++ c ∷ []) rest (c ∷ seen) (all ∙ sym (append_assoc front (c ∷ []) rest)) order.1 grown),
    )
      where
        reads : List Path
        reads = in_paths (recipe flow L c) ++ gathers_from (job flow L c)

        here : In c cs
        here = subst (In c) (sym all) (in_right c front (c ∷ rest) (inl refl))

        grown : (d : Candidate) → In d (c ∷ seen) → In d (front ++ c ∷ [])
        grown d (inl e) = in_right d front (c ∷ []) (inl e)
        grown d (inr k) = in_left d front (c ∷ []) (within d k)

        wanted : (q : Path) → In q reads → In q (wants flow L c)
        wanted q i = go (in_either q (in_paths (recipe flow L c)) (gathers_from (job flow L c)) i)
          where
            go : In q (in_paths (recipe flow L c)) ⊎ In q (gathers_from (job flow L c)) → In q (wants flow L c)
            go (inl k) = inputs_wanted flow c L q k
            go (inr k) = folders_wanted flow c L q k

        one : (q : Path) → In q reads → (t : IsToldOf made q) × IsBelow (length front) t.number
        one q i = go (order.0 q (wanted q i))
          where
            h : is_some (maker_told made.makers q) ≡ true
            h = all_in (λ w. is_some (maker_told made.makers w) ≡ true) (wants flow L c) q (all_in (λ c. AllByRecursion (λ w. is_some (maker_told made.makers w) ≡ true) (wants flow L c)) cs c links.all_wants here) (wanted q i)

            alike : sources.is q ≡ is_source image q
            alike =
                each_in (λ q. sources.is q ≡ is_source image q) reads q
                (each_in (λ (j : Job). Each (λ q. sources.is q ≡ is_source image q) (in_paths j.recipe ++ gathers_from j)) made.jobs (job flow L c) same
                (subst (In (job flow L c)) (sym are) (Rattle.smk_laws_plan.proofs.CurrentLists.in_map (job flow L) cs c here)))
                i

            go : (choose flow sources q ≡ Source) ⊎ ((d : Candidate) × (choose flow sources q ≡ Make d) × In d seen) → (t : IsToldOf made q) × IsBelow (length front) t.number
            go (inl e) = let t = told_source q e alike h in (t.0, subst (IsBelow (length front)) (sym t.1) tt)
            go (inr (d, e, k)) =
                let p = place_front front (c ∷ rest) (making d) d (within d k) (is_its_job d) in
                let t = told_made q d p.0 e (ap (λ xs. place_of xs (making d)) all ∙ p.2) h in
                (t.0, subst (IsBelow (length front)) (sym t.1) p.1)

pub linked_are_served : LinkedAreServed
linked_are_served flow sources image L targets made complete derives are calm links same_targets same_reads =
    record {
      apart = outputs_apart made.jobs (apart flow sources image L targets made complete derives are calm links);
      targets = each_from (IsToldOf made) targets
          (λ t i. target_told flow sources image L targets made complete derives are calm links t i (each_in (λ t. sources.is t ≡ is_source image t) targets t same_targets i));
      reads = subst (ReadEarlier made 0) (sym are)
          (read_from flow sources image L targets made complete derives are calm links same_reads [] (chosen flow sources L targets) [] refl (ordered flow sources image L targets made complete derives are calm links) (λ c i. i));
    }
