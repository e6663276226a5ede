-- What is derived with some listings is derived with fewer: nothing more is refused then, and no outputs and logs clash, since each job that is called for
-- is so with more listings too.
use Rattle.std.specs.Prelude.{◌==◌, nat_lt}
use lib.Pointwise.{pointwise}
use Rattle.std.proofs.Common.{◌≡◌, ◌⊎◌, ℕ, ◌≤◌, arith, Bool, true, false, not, cond, ◌||◌, List, [], ◌∷◌, ◌++◌, map, filter, flat_map, length, refl, sym, ap, subst, inl, inr, ◌∙◌, bytes_eq, eqb-true, eq-eqb}
use Rattle.std.proofs.lemmas.Bool.{le-ltb, ltb-false}
use Rattle.smk_base.specs.Path.{is_under, overlaps}
use Rattle.smk_base.specs.declared.tree.Pair.{Pair}
use Rattle.smk_base.proofs.Places.{place_itself, same_place}
use Rattle.smk_world.specs.Trees.{Path}
use Rattle.smk_flow.specs.Flows.{Candidate, Flow}
use Rattle.smk_flow.specs.declared.job.Job.{Job}
use Rattle.smk_record.specs.Records.{same_pair}
use Rattle.smk_choose.specs.Choose.{Make, Sources, choose}
use Rattle.smk_store.specs.Images.{Image}
use Rattle.smk_chain.specs.Derive.{Clash, Deep, Derived, Listings, Refusal, TooManyPaths, chosen, clashes, derivation, distinct, height, hinders, is_deep, job, jobs, outcome, reach, refused, refused_if, same_candidate, sources_of, spots, walk}
use Rattle.smk_chain.proofs.Heights.{height_within}
use Rattle.smk_laws_plan.proofs.CurrentApart.{Spot, SpotsApart, spot_free, spots_append, spots_apart}
use Rattle.smk_laws_plan.proofs.CurrentLists.{In, and_both, append_nil_left, append_nil_right, clash_of, distinct_in, filter_in, filter_nil, flat_in, flat_nil, in_distinct, in_either, in_flat, in_map, map_in, map_nil, not_true, or_cases}
use Rattle.smk_laws_plan.proofs.CurrentPaths.{touch_overlaps}
use Rattle.smk_laws_plan.proofs.CurrentReach.{outcome_derived}
use Rattle.smk_laws_plan.proofs.CurrentWalked.{candidate_trans, chosen_same, walked_chosen}
use Rattle.smk_laws_edit.proofs.Fewer.{IsPartOf, calm_part, flat_empty, height_part, reach_fewer, refused_none, walk_part}

-- ## Lists

pub filter_empty : {A : Type 0} (test : A → Bool) (xs : List A) → ((x : A) → In x xs → test x ≡ false) → filter test xs ≡ []
filter_empty test [] h = refl
filter_empty test (x ∷ xs) h = ap (λ b. cond b (x ∷ filter test xs) (filter test xs)) (h x (inl refl)) ∙ filter_empty test xs (λ y k. h y (inr k))

turned : (a b : Path) → overlaps a b ≡ true → overlaps b a ≡ true
turned a b h = go (or_cases (bytes_eq a b) (is_under a b || is_under b a) h)
  where
    under : (is_under a b ≡ true) ⊎ (is_under b a ≡ true) → overlaps b a ≡ true
    under (inl u) = touch_overlaps b a (inr (inr u))
    under (inr u) = touch_overlaps b a (inr (inl u))

    go : (bytes_eq a b ≡ true) ⊎ ((is_under a b || is_under b a) ≡ true) → overlaps b a ≡ true
    go (inl e) = touch_overlaps b a (inl (sym (same_place a b e)))
    go (inr u) = under (or_cases (is_under a b) (is_under b a) u)

apart_turned : (a b : Path) → overlaps a b ≡ false → overlaps b a ≡ false
apart_turned a b h = go (overlaps b a) refl
  where
    go : (b' : Bool) → overlaps b a ≡ b' → b' ≡ false
    go false e = refl
    go true e = absurd (clash_of (overlaps a b) (turned b a e) h)

-- ## Spots that are apart

spots_join :
    (xs ys : List Spot) → SpotsApart xs → SpotsApart ys → ((s t : Spot) → In s xs → In t ys → overlaps t.0 s.0 ≡ false) → SpotsApart (xs ++ ys)
spots_join [] ys a b cross = b
spots_join (x ∷ xs) ys a b cross = (λ t i. go t (in_either t xs ys i), spots_join xs ys a.1 b (λ s t i k. cross s t (inr i) k))
  where
    go : (t : Spot) → In t xs ⊎ In t ys → overlaps t.0 x.0 ≡ false
    go t (inl i) = a.0 t i
    go t (inr i) = cross x t (inl refl) i

-- spots that are apart, from earlier ones and from what is known too, don't clash
none_clash :
    (image : Image) (earlier : List Path) (ss : List Spot) → SpotsApart ss →
    ((s : Spot) (e : Path) → In s ss → In e earlier → overlaps s.0 e ≡ false) →
    ((s : Spot) (q : Path) → In s ss → In q image.known → hinders image s q ≡ false) → clashes image earlier ss ≡ []
none_clash image earlier [] apart far free = refl
none_clash image earlier (s ∷ ss) apart far free =
    let first = filter_empty (overlaps s.0) earlier (λ e i. far s e (inl refl) i) in
    let second = filter_empty (hinders image s) image.known (λ q i. free s q (inl refl) i) in
    let rest =
    none_clash image (earlier ++ s.0 ∷ []) ss apart.1 (λ t e it ie. go t e it (in_either e earlier (s.0 ∷ []) ie)) (λ t q it iq. free t q (inr it) iq) in
    λ i. map (Clash s.0) (first i ++ second i) ++ rest i
  where
    go : (t : Spot) (e : Path) → In t ss → In e earlier ⊎ In e (s.0 ∷ []) → overlaps t.0 e ≡ false
    go t e it (inl ie) = far t e (inr it) ie
    go t e it (inr (inl same)) = subst (λ x. overlaps t.0 x ≡ false) (sym same) (apart.0 t it)
    go t e it (inr (inr none)) = absurd none

-- ## Candidates

pair_itself : (p : Pair) → same_pair p p ≡ true
pair_itself p = and_both _ _ (place_itself p.name) (place_itself p.value)

pairs_itself : (ps : List Pair) → pointwise same_pair ps ps ≡ true
pairs_itself [] = refl
pairs_itself (p ∷ ps) = and_both _ _ (pair_itself p) (pairs_itself ps)

candidate_itself : (c : Candidate) → same_candidate c c ≡ true
candidate_itself c = and_both _ _ (eq-eqb c.rule c.rule refl) (pairs_itself c.binding)

-- no two of them are the same
abbrev Differ : List Candidate → Type 0
Differ [] = Unit {0}
Differ (c ∷ cs) = ((d : Candidate) → In d cs → same_candidate c d ≡ false) × Differ cs

differ_filter : (test : Candidate → Bool) (cs : List Candidate) → Differ cs → Differ (filter test cs)
differ_filter test [] h = tt
differ_filter test (c ∷ cs) h = go (test c) (differ_filter test cs h.1)
  where
    go : (b : Bool) → Differ (filter test cs) → Differ (cond b (c ∷ filter test cs) (filter test cs))
    go true k = (λ d i. h.0 d (filter_in test cs d i).0, k)
    go false k = k

differ_distinct : (cs : List Candidate) → Differ (distinct same_candidate cs)
differ_distinct [] = tt
differ_distinct (c ∷ cs) =
    let other : Candidate → Bool = λ d. not (same_candidate c d) in (
      λ d i. not_true (same_candidate c d) (filter_in other (distinct same_candidate cs) d i).1,
      differ_filter other (distinct same_candidate cs) (differ_distinct cs),
    )

module _ (flow : Flow) (L M : Listings) (part : IsPartOf L M) where
  -- ## Jobs that are called for

  abbrev laid : Listings → List Candidate → List Spot
  laid K cs = flat_map spots (map (job flow K) cs)

  own_laid : (cs : List Candidate) (c : Candidate) → SpotsApart (laid M cs) → In c cs → SpotsApart (spots (job flow M c))
  own_laid [] c apart i = absurd i
  own_laid (d ∷ cs) c apart (inl e) =
      subst (λ (x : Candidate). SpotsApart (spots (job flow M x))) (sym e) (spots_append (spots (job flow M d)) (laid M cs) apart).0
  own_laid (d ∷ cs) c apart (inr i) = own_laid cs c (spots_append (spots (job flow M d)) (laid M cs) apart).1 i

  in_laid : (K : Listings) (cs : List Candidate) (c : Candidate) (s : Spot) → In c cs → In s (spots (job flow K c)) → In s (laid K cs)
  in_laid K cs c s i k = in_flat spots (map (job flow K) cs) (job flow K c) s (in_map (job flow K) cs c i) k

  -- the spots of two jobs that differ are apart
  between_laid :
      (cs : List Candidate) (c d : Candidate) (s t : Spot) → SpotsApart (laid M cs) → In c cs → In d cs → same_candidate c d ≡ false →
      In s (spots (job flow M c)) → In t (spots (job flow M d)) → overlaps t.0 s.0 ≡ false
  between_laid [] c d s t apart ic id other is it = absurd ic
  between_laid (x ∷ cs) c d s t apart (inl e) (inl f) other is it =
      absurd (clash_of (same_candidate c c) (candidate_itself c) (subst (λ z. same_candidate c z ≡ false) (f ∙ sym e) other))
  between_laid (x ∷ cs) c d s t apart (inl e) (inr id) other is it =
      (spots_append (spots (job flow M x)) (laid M cs) apart).2 s t (subst (λ (z : Candidate). In s (spots (job flow M z))) e is) (in_laid M cs d t id it)
  between_laid (x ∷ cs) c d s t apart (inr ic) (inl f) other is it =
      apart_turned s.0 t.0
      ((spots_append (spots (job flow M x)) (laid M cs) apart).2 t s (subst (λ (z : Candidate). In t (spots (job flow M z))) f it) (in_laid M cs c s ic is))
  between_laid (x ∷ cs) c d s t apart (inr ic) (inr id) other is it =
      between_laid cs c d s t (spots_append (spots (job flow M x)) (laid M cs) apart).1 ic id other is it

  -- a job's outputs and logs don't hang on listings
  spot_part : (cs ds : List Candidate) → ((d : Candidate) → In d ds → In d cs) → (s : Spot) → In s (laid L ds) → In s (laid M cs)
  spot_part cs ds within s i =
      let j = flat_in spots (map (job flow L) ds) s i in
      let d = map_in (job flow L) ds j.0 j.1 in
      in_laid M cs d.0 s (within d.0 d.1) (subst (λ (x : Job). In s (spots x)) d.2 j.2)

  laid_apart : (cs ds : List Candidate) → SpotsApart (laid M cs) → Differ ds → ((d : Candidate) → In d ds → In d cs) → SpotsApart (laid L ds)
  laid_apart cs [] apart differ within = tt
  laid_apart cs (d ∷ ds) apart differ within =
      spots_join (spots (job flow L d)) (laid L ds) (own_laid cs d apart (within d (inl refl)))
      (laid_apart cs ds apart differ.1 (λ e i. within e (inr i)))
      (λ s t is it.
      let j = flat_in spots (map (job flow L) ds) t it in
      let e = map_in (job flow L) ds j.0 j.1 in
      between_laid cs d e.0 s t apart (within d (inl refl)) (within e.0 (inr e.1)) (differ.0 e.0 e.1) is (subst (λ (x : Job). In t (spots x)) e.2 j.2))

  module _ (srcs : Sources) (targets : List Path) where
    abbrev walked : Listings → List Candidate
    walked K = flat_map (walk flow srcs K 200) targets

    chosen_for : (K : Listings) (c : Candidate) → In c (walked K) → (q : Path) × (choose flow srcs q ≡ Make c)
    chosen_for K c i = let t = flat_in (walk flow srcs K 200) targets c i in walked_chosen flow srcs K 200 t.0 c t.2

    -- a job that is called for is so with more listings
    pub chosen_part : (c : Candidate) → In c (chosen flow srcs L targets) → In c (chosen flow srcs M targets)
    chosen_part c i =
        let here = distinct_in same_candidate (walked L) c i in
        let t = flat_in (walk flow srcs L 200) targets c here in
        let there = in_flat (walk flow srcs M 200) targets t.0 c t.1 (walk_part flow L M part srcs 200 t.0 c t.2) in
        let d = in_distinct same_candidate candidate_itself candidate_trans (walked M) c there in
        let p = chosen_for M d.0 (distinct_in same_candidate (walked M) d.0 d.1) in
        let q = chosen_for M c there in
        subst (λ z. In z (chosen flow srcs M targets)) (chosen_same flow srcs M p.0 q.0 d.0 c p.1 q.1 d.2) d.1

    clear_part :
        (image : Image) → clashes image [] (flat_map spots (jobs flow srcs M targets)) ≡ [] →
        clashes image [] (flat_map spots (jobs flow srcs L targets)) ≡ []
    clear_part image clear =
        none_clash image [] (flat_map spots (jobs flow srcs L targets))
        (laid_apart (chosen flow srcs M targets) (chosen flow srcs L targets) (spots_apart image [] (flat_map spots (jobs flow srcs M targets)) clear)
        (differ_distinct (walked L)) chosen_part)
        (λ s e is ie. absurd ie)
        (λ s q is iq.
        spot_free image [] (flat_map spots (jobs flow srcs M targets)) clear s q
        (spot_part (chosen flow srcs M targets) (chosen flow srcs L targets) chosen_part s is) iq)

  -- ## Nothing more is refused

  top_height : (a b n : ℕ) → a ≤ b → b ≤ n → (b == n) ≡ false → (a == n) ≡ false
  top_height a b n low most h = go (a == n) refl
    where
      go : (x : Bool) → (a == n) ≡ x → x ≡ false
      go false e = refl
      go true e =
          let same = eqb-true a n e in
          let equal : b ≡ n = omega arith in absurd (clash_of (b == n) (eq-eqb b n equal) h)

  module _ (image : Image) (targets : List Path) (ks : List Job) (later : derivation flow image M targets ≡ Derived ks) where
    abbrev srcs : Sources
    srcs = sources_of image

    abbrev early : Listings → List Refusal
    early K = refused_if (nat_lt 100000 (length (reach flow srcs K 400 targets))) TooManyPaths

    abbrev deep : Listings → List Refusal
    deep K = map Deep (filter (is_deep flow srcs image K targets) targets)

    abbrev met : Listings → List Refusal
    met K = flat_map (refused flow srcs K 201) targets

    abbrev clashing : Listings → List Refusal
    clashing K = clashes image [] (flat_map spots (jobs flow srcs K targets))

    abbrev all : Listings → List Refusal
    all K = early K ++ (deep K ++ (met K ++ clashing K))

    none_later : (early M ≡ []) × (deep M ≡ []) × (met M ≡ []) × (clashing M ≡ [])
    none_later =
        let none : all M ≡ [] = (outcome_derived (all M) (jobs flow srcs M targets) ks later).0 in
        let one = append_nil_right (early M) (deep M ++ (met M ++ clashing M)) none in
        let two = append_nil_right (deep M) (met M ++ clashing M) one in (
          append_nil_left (early M) (deep M ++ (met M ++ clashing M)) none,
          append_nil_left (deep M) (met M ++ clashing M) one,
          append_nil_left (met M) (clashing M) two,
          append_nil_right (met M) (clashing M) two,
        )

    few_paths : nat_lt 100000 (length (reach flow srcs L 400 targets)) ≡ false
    few_paths =
        let most =
        ltb-false 100000 (length (reach flow srcs M 400 targets))
        (refused_none (nat_lt 100000 (length (reach flow srcs M 400 targets))) TooManyPaths none_later.0) in
        let fewer = reach_fewer flow L M part srcs 400 targets in le-ltb 100000 (length (reach flow srcs L 400 targets)) (omega arith)

    none_deep : filter (is_deep flow srcs image L targets) targets ≡ []
    none_deep =
        filter_empty (is_deep flow srcs image L targets) targets
        (λ p i.
        top_height (height flow srcs L 201 p) (height flow srcs M 201 p) 201 (height_part flow L M part srcs 201 p) (height_within flow srcs M 201 p)
        (filter_nil (is_deep flow srcs image M targets) targets p (map_nil Deep (filter (is_deep flow srcs image M targets) targets) none_later.1) i))

    none_met : met L ≡ []
    none_met =
        flat_empty (refused flow srcs L 201) targets (λ p i. calm_part flow L M part srcs 201 p (flat_nil (refused flow srcs M 201) targets p none_later.2 i))

    pub derived_part : derivation flow image L targets ≡ Derived (jobs flow srcs L targets)
    derived_part =
        let clear = clear_part srcs targets image none_later.3 in
        λ i. outcome (refused_if (few_paths i) TooManyPaths ++ (map Deep (none_deep i) ++ (none_met i ++ clear i))) (jobs flow srcs L targets)
