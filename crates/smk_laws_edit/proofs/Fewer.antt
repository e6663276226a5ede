-- With fewer listings less is wanted: what is walked, how long chains are, what is refused on the way, and what is reached.
use Rattle.std.specs.List.{fold}
use Rattle.std.specs.Prelude.{is_none, if◌then◌else◌}
use Rattle.std.proofs.Common.{◌≡◌, ◌⊎◌, ℕ, zero, suc, ◌+◌, ◌≤◌, arith, zero-le, max, Bool, true, false, not, cond, ◌&&◌, List, [], ◌∷◌, ◌++◌, map, filter, filter_map, flat_map, length, refl, sym, ap, subst, inl, inr, ◌∙◌, bytes_eq, Option, Some, None, option_map, is_some}
use Rattle.smk_base.specs.Path.{is_path}
use Rattle.smk_base.proofs.Places.{place_itself, same_place}
use Rattle.smk_world.specs.Calls.{in_folder}
use Rattle.smk_world.specs.Trees.{Path, among, folder_over}
use Rattle.smk_pattern.specs.Bound.{binding_of}
use Rattle.smk_pattern.specs.Reading.{fill}
use Rattle.smk_flow.specs.Flows.{Candidate, Flow, declared_inputs, folder_from, gathered_folders}
use Rattle.smk_flow.specs.declared.rule.GatherPart.{GatherPart}
use Rattle.smk_flow.specs.declared.rule.InPart.{InPart}
use Rattle.smk_choose.specs.Choose.{Ambiguous, Choice, Make, Nothing, Source, Sources, candidates, choose, maker}
use Rattle.smk_chain.specs.Derive.{Listings, MissingMember, NoCommand, NoInput, Refusal, distinct, gathered, gathered_files, gathered_in, height, is_missing, listing, next, or_none, reach, recipe, refused, refused_at, refused_if, walk, wants}
use Rattle.smk_laws_plan.proofs.CurrentApart.{same_trans}
use Rattle.smk_laws_plan.proofs.CurrentLists.{In, append_nil_left, append_nil_right, clash_of, cons_nil, distinct_in, filter_in, flat_in, flat_nil, in_distinct, in_either, in_filter, in_flat, in_left, in_map, in_right, not_true}
use Rattle.smk_laws_plan.proofs.CurrentReach.{fold_max}
use Rattle.smk_laws_plan.proofs.PlanOrder.{Within}

-- ## Lists

pub flat_empty : {A B : Type 0} (f : A → List B) (xs : List A) → ((x : A) → In x xs → f x ≡ []) → flat_map f xs ≡ []
flat_empty f [] h = refl
flat_empty f (x ∷ xs) h = λ i. h x (inl refl) i ++ flat_empty f xs (λ y k. h y (inr k)) i

fold_low : {A : Type 0} (f : A → ℕ) (n : ℕ) (xs : List A) → ((x : A) → In x xs → f x ≤ n) → (a : ℕ) → a ≤ n → fold max a (map f xs) ≤ n
fold_low f n [] h a k = k
fold_low f n (x ∷ xs) h a k = fold_low f n xs (λ y i. h y (inr i)) (max a (f x)) (let e = h x (inl refl) in omega arith)

-- no path stands in the list twice
abbrev Once : List Path → Type 0
Once [] = Unit {0}
Once (x ∷ xs) = (In x xs → ⊥) × Once xs

once_filter : (test : Path → Bool) (xs : List Path) → Once xs → Once (filter test xs)
once_filter test [] h = tt
once_filter test (x ∷ xs) h = go (test x) (once_filter test xs h.1)
  where
    go : (b : Bool) → Once (filter test xs) → Once (cond b (x ∷ filter test xs) (filter test xs))
    go true k = (λ i. h.0 (filter_in test xs x i).0, k)
    go false k = k

once_distinct : (xs : List Path) → Once (distinct bytes_eq xs)
once_distinct [] = tt
once_distinct (x ∷ xs) =
    let other : Path → Bool = λ y. not (bytes_eq x y) in (
      λ i. clash_of (bytes_eq x x) (place_itself x) (not_true (bytes_eq x x) (filter_in other (distinct bytes_eq xs) x i).1),
      once_filter other (distinct bytes_eq xs) (once_distinct xs),
    )

no_more : (test : Path → Bool) (xs : List Path) → length (filter test xs) ≤ length xs
no_more test [] = zero-le
no_more test (x ∷ xs) = go (test x) (no_more test xs)
  where
    go : (b : Bool) → length (filter test xs) ≤ length xs → length (cond b (x ∷ filter test xs) (filter test xs)) ≤ suc (length xs)
    go true h = omega arith
    go false h = omega arith

-- without one that is there a list is shorter
one_fewer : (x : Path) (xs : List Path) → In x xs → suc (length (filter (λ y. not (bytes_eq x y)) xs)) ≤ length xs
one_fewer x [] h = absurd h
one_fewer x (y ∷ xs) (inl e) = go (bytes_eq x y) (subst (λ z. bytes_eq x z ≡ true) e (place_itself x)) (no_more (λ y. not (bytes_eq x y)) xs)
  where
    go :
        (b : Bool) → b ≡ true → length (filter (λ y. not (bytes_eq x y)) xs) ≤ length xs →
        suc (length (cond (not b) (y ∷ filter (λ y. not (bytes_eq x y)) xs) (filter (λ y. not (bytes_eq x y)) xs))) ≤ suc (length xs)
    go true s h = omega arith
    go false s h = absurd (clash_of false s refl)
one_fewer x (y ∷ xs) (inr i) = go (bytes_eq x y) (one_fewer x xs i)
  where
    go :
        (b : Bool) → suc (length (filter (λ y. not (bytes_eq x y)) xs)) ≤ length xs →
        suc (length (cond (not b) (y ∷ filter (λ y. not (bytes_eq x y)) xs) (filter (λ y. not (bytes_eq x y)) xs))) ≤ suc (length xs)
    go true h = omega arith
    go false h = omega arith

few : (xs ys : List Path) → Once xs → Within xs ys → length xs ≤ length ys
few [] ys once within = zero-le
few (x ∷ xs) ys once within =
    let rest =
    few xs (filter (λ y. not (bytes_eq x y)) ys) once.1
    (λ z i. in_filter (λ y. not (bytes_eq x y)) ys z (within z (inr i)) (ap not (differs z i))) in
    let fewer = one_fewer x ys (within x (inl refl)) in omega arith
  where
    differs : (z : Path) → In z xs → bytes_eq x z ≡ false
    differs z i = go (bytes_eq x z) refl
      where
        go : (b : Bool) → bytes_eq x z ≡ b → b ≡ false
        go false e = refl
        go true e = absurd (once.0 (subst (λ w. In w xs) (sym (same_place x z e)) i))

pub in_once : (xs : List Path) (q : Path) → In q xs → In q (distinct bytes_eq xs)
in_once xs q i =
    let r = in_distinct bytes_eq place_itself same_trans xs q i in subst (λ z. In z (distinct bytes_eq xs)) (same_place r.0 q r.2) r.1

-- ## Listings

-- what the first ones answer the second ones answer too
abbrev pub IsPartOf : Listings → Listings → Type 0
IsPartOf L M = (f : Path) (files : List Path) → listing L f ≡ Some files → listing M f ≡ Some files

pub refused_none : (b : Bool) (r : Refusal) → refused_if b r ≡ [] → b ≡ false
refused_none false r h = refl
refused_none true r h = absurd (cons_nil r [] h)

missing_part : (L M : Listings) → IsPartOf L M → (p : Path) (over : Option Path) → is_missing M p over ≡ false → is_missing L p over ≡ false
missing_part L M part p None h = refl
missing_part L M part p (Some folder) h = go (listing L folder) refl
  where
    go : (o : Option (List Path)) → listing L folder ≡ o → is_missing L p (Some folder) ≡ false
    go None e = ap (λ o. is_some o && not (among (map (in_folder folder) (or_none o)) p)) e
    go (Some files) e = ap (λ o. is_some o && not (among (map (in_folder folder) (or_none o)) p)) (e ∙ sym (part folder files e)) ∙ h

module _ (flow : Flow) (L M : Listings) (part : IsPartOf L M) where
  -- what is gathered with some listings is so with more
  gathered_part : (c : Candidate) (f : Path) (g : GatherPart) → Within (gathered L c f g) (gathered M c f g)
  gathered_part c f g x h = go (listing L f) refl h
    where
      go :
          (o : Option (List Path)) → listing L f ≡ o →
          In x (filter_map (λ file. option_map (λ b. fill (b ++ c.binding) g.wanted) (binding_of c.part.limits g.listed file)) (or_none o)) →
          In x (gathered M c f g)
      go None e k = absurd k
      go (Some files) e k =
          subst (λ o. In x (filter_map (λ file. option_map (λ b. fill (b ++ c.binding) g.wanted) (binding_of c.part.limits g.listed file)) (or_none o)))
          (sym (part f files e)) k

  files_part : (c : Candidate) (o : Option GatherPart) → Within (gathered_in flow L c o) (gathered_in flow M c o)
  files_part c None x h = h
  files_part c (Some g) x h = gathered_part c (folder_from flow c.binding g.checkpoint) g x h

  pub wants_part : (c : Candidate) → Within (wants flow L c) (wants flow M c)
  wants_part c x h = go (in_either x (declared_inputs flow c) (gathered_folders flow c ++ gathered_files flow L c) h)
    where
      files : In x (gathered_files flow L c) → In x (gathered_files flow M c)
      files i =
          let r = flat_in (λ (i : InPart). gathered_in flow L c i.gather) c.part.inputs x i in
          in_flat (λ (i : InPart). gathered_in flow M c i.gather) c.part.inputs r.0 x r.1 (files_part c r.0.gather x r.2)

      rest : In x (gathered_folders flow c) ⊎ In x (gathered_files flow L c) → In x (wants flow M c)
      rest (inl i) =
          in_right x (declared_inputs flow c) (gathered_folders flow c ++ gathered_files flow M c)
          (in_left x (gathered_folders flow c) (gathered_files flow M c) i)
      rest (inr i) =
          in_right x (declared_inputs flow c) (gathered_folders flow c ++ gathered_files flow M c)
          (in_right x (gathered_folders flow c) (gathered_files flow M c) (files i))

      go : In x (declared_inputs flow c) ⊎ In x (gathered_folders flow c ++ gathered_files flow L c) → In x (wants flow M c)
      go (inl i) = in_left x (declared_inputs flow c) (gathered_folders flow c ++ gathered_files flow M c) i
      go (inr i) = rest (in_either x (gathered_folders flow c) (gathered_files flow L c) i)

  module _ (srcs : Sources) where
    -- ## What is walked

    abbrev walk_by : Listings → ℕ → Option Candidate → List Candidate
    walk_by K n m = elim m as (λ _. List Candidate) [ None ↦ [] | Some c ↦ flat_map (walk flow srcs K n) (wants flow K c) ++ c ∷ [] ]

    pub walk_part : (n : ℕ) (p : Path) → Within (walk flow srcs L n p) (walk flow srcs M n p)
    walk_part zero p x h = h
    walk_part (suc n) p x h = go (maker (choose flow srcs p)) h (λ q. walk_part n q)
      where
        parts :
            (c : Candidate) → ((q : Path) → Within (walk flow srcs L n q) (walk flow srcs M n q)) →
            In x (flat_map (walk flow srcs L n) (wants flow L c)) ⊎ In x (c ∷ []) → In x (walk_by M n (Some c))
        parts c again (inl k) =
            let r = flat_in (walk flow srcs L n) (wants flow L c) x k in
            in_left x (flat_map (walk flow srcs M n) (wants flow M c)) (c ∷ [])
            (in_flat (walk flow srcs M n) (wants flow M c) r.0 x (wants_part c r.0 r.1) (again r.0 x r.2))
        parts c again (inr k) = in_right x (flat_map (walk flow srcs M n) (wants flow M c)) (c ∷ []) k

        go :
            (m : Option Candidate) → In x (walk_by L n m) → ((q : Path) → Within (walk flow srcs L n q) (walk flow srcs M n q)) → In x (walk_by M n m)
        go None k again = absurd k
        go (Some c) k again = parts c again (in_either x (flat_map (walk flow srcs L n) (wants flow L c)) (c ∷ []) k)

    -- ## How long chains are

    abbrev height_by : Listings → ℕ → Option Candidate → ℕ
    height_by K n m = elim m as (λ _. ℕ) [ None ↦ 0 | Some c ↦ 1 + fold max 0 (map (height flow srcs K n) (filter is_path (wants flow K c))) ]

    pub height_part : (n : ℕ) (p : Path) → height flow srcs L n p ≤ height flow srcs M n p
    height_part zero p = zero-le
    height_part (suc n) p = go (maker (choose flow srcs p)) (λ q. height_part n q)
      where
        go : (m : Option Candidate) → ((q : Path) → height flow srcs L n q ≤ height flow srcs M n q) → height_by L n m ≤ height_by M n m
        go None again = zero-le
        go (Some c) again =
            let low =
            fold_low (height flow srcs L n) (fold max 0 (map (height flow srcs M n) (filter is_path (wants flow M c)))) (filter is_path (wants flow L c))
            (λ w i.
            let r = filter_in is_path (wants flow L c) w i in
            let most =
            fold_max (map (height flow srcs M n) (filter is_path (wants flow M c))) 0 (height flow srcs M n w)
            (in_map (height flow srcs M n) (filter is_path (wants flow M c)) w (in_filter is_path (wants flow M c) w (wants_part c w r.0) r.1)) in
            let less = again w in omega arith) 0 zero-le in
            omega arith

    -- ## What is refused on the way

    abbrev want_by : Listings → ℕ → Path → Candidate → Path → Bool → List Refusal
    want_by K n p c w b = elim b as (λ _. List Refusal) [ true ↦ refused flow srcs K n w | false ↦ NoInput p c.rule w ∷ [] ]

    abbrev refused_by : Listings → ℕ → Path → Choice → List Refusal
    refused_by K n p choice =
        refused_at flow K p choice
        ++ elim (maker choice) as (λ _. List Refusal) [
          | None ↦ []
          | Some c ↦
              flat_map (λ w. elim (is_path w) as (λ _. List Refusal) [ true ↦ refused flow srcs K n w | false ↦ NoInput p c.rule w ∷ [] ])
              (wants flow K c)
        ]

    abbrev absent : Path → Candidate → List Refusal
    absent p c = refused_if (is_missing M p (folder_over (recipe flow M c) p)) (MissingMember p)

    abbrev bare : Candidate → List Refusal
    bare c = refused_if (is_none c.part.command) (NoCommand c.rule)

    calm_at : (p : Path) (c : Candidate) → refused_at flow M p (Make c) ≡ [] → refused_at flow L p (Make c) ≡ []
    calm_at p c h =
        let there =
        missing_part L M part p (folder_over (recipe flow L c) p)
        (refused_none (is_missing M p (folder_over (recipe flow M c) p)) (MissingMember p)
        (append_nil_left (absent p c) (bare c) h)) in
        let command = append_nil_right (absent p c) (bare c) h in
        λ i. refused_if (there i) (MissingMember p) ++ command i

    pub calm_part : (n : ℕ) (p : Path) → refused flow srcs M n p ≡ [] → refused flow srcs L n p ≡ []
    calm_part zero p h = refl
    calm_part (suc n) p h = go (choose flow srcs p) h (λ q. calm_part n q)
      where
        want :
            (c : Candidate) (w : Path) (b : Bool) → (refused flow srcs M n w ≡ [] → refused flow srcs L n w ≡ []) → want_by M n p c w b ≡ [] →
            want_by L n p c w b ≡ []
        want c w true again k = again k
        want c w false again k = k

        go :
            (choice : Choice) → refused_by M n p choice ≡ [] → ((q : Path) → refused flow srcs M n q ≡ [] → refused flow srcs L n q ≡ []) →
            refused_by L n p choice ≡ []
        go Source k again = refl
        go (Nothing lack) k again = k
        go (Ambiguous a b) k again = k
        go (Make c) k again =
            let front = calm_at p c (append_nil_left (refused_at flow M p (Make c)) _ k) in
            let behind = append_nil_right (refused_at flow M p (Make c)) _ k in
            let rest =
            flat_empty (λ w. want_by L n p c w (is_path w)) (wants flow L c)
            (λ w i. want c w (is_path w) (again w) (flat_nil (λ w. want_by M n p c w (is_path w)) (wants flow M c) w behind (wants_part c w i))) in
            λ i. front i ++ rest i

    -- ## What is reached

    next_part : (p : Path) → Within (next flow srcs L p) (next flow srcs M p)
    next_part p q h = go (srcs.is p) h
      where
        go :
            (b : Bool) → In q (if b then [] else filter is_path (flat_map (wants flow L) (candidates flow srcs p))) →
            In q (if b then [] else filter is_path (flat_map (wants flow M) (candidates flow srcs p)))
        go true k = absurd k
        go false k =
            let r = filter_in is_path (flat_map (wants flow L) (candidates flow srcs p)) q k in
            let c = flat_in (wants flow L) (candidates flow srcs p) q r.0 in
            in_filter is_path (flat_map (wants flow M) (candidates flow srcs p)) q
            (in_flat (wants flow M) (candidates flow srcs p) c.0 q c.1 (wants_part c.0 q c.2)) r.1

    abbrev further : Listings → List Path → List Path
    further K nearer = nearer ++ flat_map (next flow srcs K) nearer

    further_part : (xs ys : List Path) → Within xs ys → Within (further L xs) (further M ys)
    further_part xs ys within q h = go (in_either q xs (flat_map (next flow srcs L) xs) h)
      where
        go : In q xs ⊎ In q (flat_map (next flow srcs L) xs) → In q (further M ys)
        go (inl i) = in_left q ys (flat_map (next flow srcs M) ys) (within q i)
        go (inr i) =
            let r = flat_in (next flow srcs L) xs q i in
            in_right q ys (flat_map (next flow srcs M) ys) (in_flat (next flow srcs M) ys r.0 q (within r.0 r.1) (next_part r.0 q r.2))

    reach_part : (n : ℕ) (targets : List Path) → Within (reach flow srcs L n targets) (reach flow srcs M n targets)
    reach_part zero targets q h = h
    reach_part (suc n) targets q h =
        in_once (further M (reach flow srcs M n targets)) q
        (further_part (reach flow srcs L n targets) (reach flow srcs M n targets) (reach_part n targets) q
        (distinct_in bytes_eq (further L (reach flow srcs L n targets)) q h))

    reach_once : (n : ℕ) (targets : List Path) → Once (reach flow srcs L n targets)
    reach_once zero targets = once_distinct targets
    reach_once (suc n) targets = once_distinct (further L (reach flow srcs L n targets))

    pub reach_fewer : (n : ℕ) (targets : List Path) → length (reach flow srcs L n targets) ≤ length (reach flow srcs M n targets)
    reach_fewer n targets = few (reach flow srcs L n targets) (reach flow srcs M n targets) (reach_once n targets) (reach_part n targets)
