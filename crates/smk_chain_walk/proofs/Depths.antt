-- A walk comes to the same at every depth that is great enough.
use Rattle.std.proofs.Common.{◌≡◌, ◌∙◌, ℕ, zero, suc, ◌+◌, ◌≤◌, max, eqb, Bool, true, false, cond, List, [], ◌∷◌, ◌++◌, map, filter, refl, sym, ap, ap₂, arith, Some, None, true≢false, append_assoc, append-nil}
use Rattle.std.specs.List.{flat_map, fold, AllByRecursion}
use Rattle.smk_base.specs.Path.{is_path}
use Rattle.smk_world.specs.Trees.{Path}
use Rattle.smk_pattern.specs.Shapes.{Text}
use Rattle.smk_flow.specs.Flows.{Flow, Candidate}
use Rattle.smk_choose.specs.Choose.{Sources, Choice, Source, Make, Nothing, Ambiguous, choose, maker}
use Rattle.smk_chain.specs.Derive.{Listings, Refusal, NoInput, wants, wanted_paths, walk, height, refused, refused_at}
use Rattle.smk_chain.proofs.Heights.{fold_above, below_top, height_by, height_within}
use Rattle.smk_chain_walk.specs.Steps.{Fits, refused_for, called_for, asked_by, asked}

-- ---- lists

pub all_map : {A : Type 0} (P Q : A → Type 0) → ((x : A) → P x → Q x) → (xs : List A) → AllByRecursion P xs → AllByRecursion Q xs
all_map P Q f [] h = tt
all_map P Q f (x ∷ xs) h = (f x h.0, all_map P Q f xs h.1)

pub all_both : {A : Type 0} (P Q : A → Type 0) (xs : List A) → AllByRecursion P xs → AllByRecursion Q xs → AllByRecursion (λ x. P x × Q x) xs
all_both P Q [] h k = tt
all_both P Q (x ∷ xs) h k = ((h.0, k.0), all_both P Q xs h.1 k.1)

pub flat_same : {A B : Type 0} (f g : A → List B) (xs : List A) → AllByRecursion (λ x. f x ≡ g x) xs → flat_map f xs ≡ flat_map g xs
flat_same f g [] h = refl
flat_same f g (x ∷ xs) h = ap₂ ◌++◌ h.0 (flat_same f g xs h.1)

pub front_nil : {A : Type 0} (xs ys : List A) → xs ++ ys ≡ [] → xs ≡ []
front_nil [] ys e = refl
front_nil (x ∷ xs) ys e = absurd cc

pub back_nil : {A : Type 0} (xs ys : List A) → xs ++ ys ≡ [] → ys ≡ []
back_nil [] ys e = e
back_nil (x ∷ xs) ys e = absurd cc

pub flat_nil : {A B : Type 0} (f : A → List B) (xs : List A) → flat_map f xs ≡ [] → AllByRecursion (λ x. f x ≡ []) xs
flat_nil f [] e = tt
flat_nil f (x ∷ xs) e = (front_nil (f x) (flat_map f xs) e, flat_nil f xs (back_nil (f x) (flat_map f xs) e))

pub flat_push : {A B : Type 0} (f : A → List B) (xs : List A) (x : A) → flat_map f (xs ++ x ∷ []) ≡ flat_map f xs ++ f x
flat_push f [] x = append-nil (f x)
flat_push f (y ∷ xs) x = ap (λ ys. f y ++ ys) (flat_push f xs x) ∙ sym (append_assoc (f y) (flat_map f xs) (f x))

pub all_push : {A : Type 0} (P : A → Type 0) (xs : List A) (x : A) → AllByRecursion P xs → P x → AllByRecursion P (xs ++ x ∷ [])
all_push P [] x e f = (f, tt)
all_push P (y ∷ xs) x e f = (e.0, all_push P xs x e.1 f)

-- ---- heights

fold_each : {A : Type 0} (f : A → ℕ) (test : A → Bool) (n : ℕ) (xs : List A) (a : ℕ) → fold max a (map f (filter test xs)) ≤ n → AllByRecursion (λ x. test x ≡ true → f x ≤ n) xs
fold_each f test n [] a h = tt
fold_each f test n (x ∷ xs) a h = go (λ b k. fold_each f test n xs b k) (test x) refl h
  where
    go : ((b : ℕ) → fold max b (map f (filter test xs)) ≤ n → AllByRecursion (λ y. test y ≡ true → f y ≤ n) xs) → (b : Bool) → test x ≡ b → fold max a (map f (cond b (x ∷ filter test xs) (filter test xs))) ≤ n → AllByRecursion (λ y. test y ≡ true → f y ≤ n) (x ∷ xs)
    go rest true e k = (λ _. let top = fold_above (map f (filter test xs)) (max a (f x)) in omega arith, rest (max a (f x)) k)
    go rest false e k = (λ t. absurd (true≢false (sym t ∙ e)), rest a k)

-- ---- one want

pub want_same : (F G : Path → List Refusal) (p : Path) (rule : ℕ) (w : Text) → (is_path w ≡ true → F w ≡ G w) → asked_by F p rule w ≡ asked_by G p rule w
want_same F G p rule w same = go (is_path w) refl
  where
    go : (b : Bool) → is_path w ≡ b → elim b as (λ _. List Refusal) [ true ↦ F w | false ↦ NoInput p rule w ∷ [] ] ≡ elim b as (λ _. List Refusal) [ true ↦ G w | false ↦ NoInput p rule w ∷ [] ]
    go true e = same e
    go false e = refl

pub want_calm : (F : Path → List Refusal) (p : Path) (rule : ℕ) (w : Text) → asked_by F p rule w ≡ [] → (is_path w ≡ true) × (F w ≡ [])
want_calm F p rule w h = go (is_path w) h
  where
    go : (b : Bool) → elim b as (λ _. List Refusal) [ true ↦ F w | false ↦ NoInput p rule w ∷ [] ] ≡ [] → (b ≡ true) × (F w ≡ [])
    go true h = (refl, h)
    go false h = absurd cc

module _ (flow : Flow) (sources : Sources) (L : Listings) where
  abbrev pub walk_by : ℕ → Choice → List Candidate
  walk_by n ch =
      elim (maker ch) as (λ _. List Candidate) [
        | None ↦ []
        | Some c ↦ flat_map (walk flow sources L n) (wants flow L c) ++ c ∷ []
      ]

  abbrev pub refused_by : ℕ → Path → Choice → List Refusal
  refused_by n p ch =
      refused_at flow L p ch
      ++ elim (maker ch) as (λ _. List Refusal) [
        | None ↦ []
        | Some c ↦ flat_map (asked_by (refused flow sources L n) p c.rule) (wants flow L c)
      ]

  fits_low : (n : ℕ) (p : Path) → height flow sources L (suc n) p ≤ n → Fits flow sources L n p
  fits_low zero p h = λ c e. let tall : height flow sources L 1 p ≡ 1 + fold max 0 (map (height flow sources L 0) (wanted_paths flow L c)) = ap (height_by flow sources L 0) e in omega arith
  fits_low (suc n) p h = λ c e.
      let tall : height flow sources L (suc (suc n)) p ≡ 1 + fold max 0 (map (height flow sources L (suc n)) (wanted_paths flow L c)) = ap (height_by flow sources L (suc n)) e in
      all_map (λ w. is_path w ≡ true → height flow sources L (suc n) w ≤ n) (λ w. is_path w ≡ true → Fits flow sources L n w) (λ w f t. fits_low n w (f t)) (wants flow L c)
      (fold_each (height flow sources L (suc n)) is_path n (wants flow L c) 0 (omega arith))

  -- a target from which no chain of 201 jobs leads
  pub fits_shallow : (p : Path) → eqb (height flow sources L 201 p) 201 ≡ false → Fits flow sources L 200 p
  fits_shallow p h = fits_low 200 p (below_top (height flow sources L 201 p) 200 (height_within flow sources L 201 p) h)

  -- ---- refusals

  unmade_far : (m n : ℕ) (p : Path) (ch : Choice) → ((c : Candidate) → ch ≡ Make c → ⊥) → refused_by m p ch ≡ refused_by n p ch
  unmade_far m n p Source none = refl
  unmade_far m n p (Make c) none = absurd (none c refl)
  unmade_far m n p (Nothing lack) none = refl
  unmade_far m n p (Ambiguous a b) none = refl

  made_far : (m n k : ℕ) (p : Path) → ((w : Path) → Fits flow sources L k w → refused flow sources L m w ≡ refused flow sources L n w) → (ch : Choice) →
      ((c : Candidate) → ch ≡ Make c → AllByRecursion (λ w. is_path w ≡ true → Fits flow sources L k w) (wants flow L c)) → refused_by m p ch ≡ refused_by n p ch
  made_far m n k p same Source fits = refl
  made_far m n k p same (Make c) fits = ap (λ rs. refused_at flow L p (Make c) ++ rs)
      (flat_same (asked_by (refused flow sources L m) p c.rule) (asked_by (refused flow sources L n) p c.rule) (wants flow L c)
      (all_map (λ w. is_path w ≡ true → Fits flow sources L k w) (λ w. asked_by (refused flow sources L m) p c.rule w ≡ asked_by (refused flow sources L n) p c.rule w)
      (λ w f. want_same (refused flow sources L m) (refused flow sources L n) p c.rule w (λ t. same w (f t))) (wants flow L c) (fits c refl)))
  made_far m n k p same (Nothing lack) fits = refl
  made_far m n k p same (Ambiguous a b) fits = refl

  refused_far : (n m : ℕ) (p : Path) → n ≤ m → Fits flow sources L n p → refused flow sources L (suc m) p ≡ refused flow sources L (suc n) p
  refused_far zero m p le fits = unmade_far m 0 p (choose flow sources p) fits
  refused_far (suc n) zero p le fits = absurd (omega arith)
  refused_far (suc n) (suc m) p le fits = made_far (suc m) (suc n) n p (λ w f. refused_far n m w (omega arith) f) (choose flow sources p) fits

  -- ---- walks

  unmade_walk : (m n : ℕ) (ch : Choice) → ((c : Candidate) → ch ≡ Make c → ⊥) → walk_by m ch ≡ []
  unmade_walk m n Source none = refl
  unmade_walk m n (Make c) none = absurd (none c refl)
  unmade_walk m n (Nothing lack) none = refl
  unmade_walk m n (Ambiguous a b) none = refl

  made_walk : (m n k r : ℕ) (p : Path) → ((w : Path) → Fits flow sources L k w → refused flow sources L r w ≡ [] → walk flow sources L m w ≡ walk flow sources L n w) → (ch : Choice) →
      ((c : Candidate) → ch ≡ Make c → AllByRecursion (λ w. is_path w ≡ true → Fits flow sources L k w) (wants flow L c)) → refused_by r p ch ≡ [] → walk_by m ch ≡ walk_by n ch
  made_walk m n k r p same Source fits calm = refl
  made_walk m n k r p same (Make c) fits calm =
      let ws = wants flow L c in
      let each = flat_nil (asked_by (refused flow sources L r) p c.rule) ws (back_nil (refused_at flow L p (Make c)) _ calm) in
      ap (λ (xs : List Candidate). xs ++ c ∷ [])
      (flat_same (walk flow sources L m) (walk flow sources L n) ws
      (all_map (λ w. (is_path w ≡ true → Fits flow sources L k w) × (asked_by (refused flow sources L r) p c.rule w ≡ [])) (λ w. walk flow sources L m w ≡ walk flow sources L n w)
      (λ w h. let q = want_calm (refused flow sources L r) p c.rule w h.1 in same w (h.0 q.0) q.1) ws
      (all_both (λ w. is_path w ≡ true → Fits flow sources L k w) (λ w. asked_by (refused flow sources L r) p c.rule w ≡ []) ws (fits c refl) each)))
  made_walk m n k r p same (Nothing lack) fits calm = refl
  made_walk m n k r p same (Ambiguous a b) fits calm = refl

  walk_far : (n m : ℕ) (p : Path) → n ≤ m → Fits flow sources L n p → refused flow sources L (suc n) p ≡ [] → walk flow sources L m p ≡ walk flow sources L n p
  walk_far zero zero p le fits calm = refl
  walk_far zero (suc m) p le fits calm = unmade_walk m 0 (choose flow sources p) fits
  walk_far (suc n) zero p le fits calm = absurd (omega arith)
  walk_far (suc n) (suc m) p le fits calm =
      made_walk m n n (suc n) p (λ w f k. walk_far n m w (omega arith) f k) (choose flow sources p) fits calm

  -- ---- what is refused at a path and under it, and what it calls for, by what its job wants

  deep_enough : (n : ℕ) → suc n ≤ 200 → (w : Path) → Fits flow sources L n w → refused flow sources L 200 w ≡ refused_for flow sources L w
  unfolding refused_for
  deep_enough n le w f = refused_far n 199 w (omega arith) f ∙ sym (refused_far n 200 w (omega arith) f)

  far_enough : (n : ℕ) → suc n ≤ 200 → (w : Path) → Fits flow sources L n w → refused_for flow sources L w ≡ [] → walk flow sources L 199 w ≡ called_for flow sources L w
  unfolding refused_for called_for
  far_enough n le w f calm =
      let low : refused flow sources L (suc n) w ≡ [] = sym (refused_far n 200 w (omega arith) f) ∙ calm in
      walk_far n 199 w (omega arith) f low ∙ sym (walk_far n 200 w (omega arith) f low)

  pub refused_make : (n : ℕ) (p : Path) (c : Candidate) → suc n ≤ 200 → Fits flow sources L (suc n) p → choose flow sources p ≡ Make c →
      refused_for flow sources L p ≡ refused_at flow L p (Make c) ++ flat_map (asked flow sources L p c.rule) (wants flow L c)
  unfolding refused_for
  refused_make n p c le fits e =
      ap (refused_by 200 p) e
      ∙ ap (λ rs. refused_at flow L p (Make c) ++ rs)
      (flat_same (asked_by (refused flow sources L 200) p c.rule) (asked flow sources L p c.rule) (wants flow L c)
      (all_map (λ w. is_path w ≡ true → Fits flow sources L n w) (λ w. asked_by (refused flow sources L 200) p c.rule w ≡ asked flow sources L p c.rule w)
      (λ w f. want_same (refused flow sources L 200) (refused_for flow sources L) p c.rule w (λ t. deep_enough n le w (f t))) (wants flow L c) (fits c e)))

  pub called_make : (n : ℕ) (p : Path) (c : Candidate) → suc n ≤ 200 → Fits flow sources L (suc n) p → choose flow sources p ≡ Make c →
      flat_map (asked flow sources L p c.rule) (wants flow L c) ≡ [] →
      called_for flow sources L p ≡ flat_map (called_for flow sources L) (wants flow L c) ++ c ∷ []
  unfolding called_for
  called_make n p c le fits e calm =
      let ws = wants flow L c in
      ap (walk_by 199) e
      ∙ ap (λ (xs : List Candidate). xs ++ c ∷ [])
      (flat_same (walk flow sources L 199) (called_for flow sources L) ws
      (all_map (λ w. (is_path w ≡ true → Fits flow sources L n w) × (asked flow sources L p c.rule w ≡ [])) (λ w. walk flow sources L 199 w ≡ called_for flow sources L w)
      (λ w h. let q = want_calm (refused_for flow sources L) p c.rule w h.1 in far_enough n le w (h.0 q.0) q.1) ws
      (all_both (λ w. is_path w ≡ true → Fits flow sources L n w) (λ w. asked flow sources L p c.rule w ≡ []) ws (fits c e) (flat_nil (asked flow sources L p c.rule) ws calm))))

  pub refused_unmade : (p : Path) (ch : Choice) → choose flow sources p ≡ ch → maker ch ≡ None → refused_for flow sources L p ≡ refused_at flow L p ch ++ []
  unfolding refused_for
  refused_unmade p Source e none = ap (refused_by 200 p) e
  refused_unmade p (Make c) e none = absurd cc
  refused_unmade p (Nothing lack) e none = ap (refused_by 200 p) e
  refused_unmade p (Ambiguous a b) e none = ap (refused_by 200 p) e

  pub called_source : (p : Path) → choose flow sources p ≡ Source → called_for flow sources L p ≡ []
  unfolding called_for
  called_source p e = ap (walk_by 199) e

  -- the job that makes a path comes last
  pub called_own : (p : Path) (c : Candidate) → choose flow sources p ≡ Make c → (xs : List Candidate) × (called_for flow sources L p ≡ xs ++ c ∷ [])
  unfolding called_for
  called_own p c e = (flat_map (walk flow sources L 199) (wants flow L c), ap (walk_by 199) e)

  -- what is refused at the path itself comes first
  pub refused_front : (p : Path) → (rest : List Refusal) × (refused_for flow sources L p ≡ refused_at flow L p (choose flow sources p) ++ rest)
  unfolding refused_for
  refused_front p = (
    elim (maker (choose flow sources p)) as (λ _. List Refusal) [
      | None ↦ []
      | Some c ↦ flat_map (asked_by (refused flow sources L 200) p c.rule) (wants flow L c)
    ],
    refl,
  )

  -- what is refused of the targets, and what they call for
  pub refused_all : (targets : List Path) → flat_map (refused flow sources L 201) targets ≡ flat_map (refused_for flow sources L) targets
  unfolding refused_for
  refused_all targets = refl

  pub called_all : (targets : List Path) → flat_map (walk flow sources L 200) targets ≡ flat_map (called_for flow sources L) targets
  unfolding called_for
  called_all targets = refl
