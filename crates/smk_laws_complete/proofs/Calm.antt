-- Nothing is refused of what means something.
use Rattle.std.proofs.Common.{◌≡◌, ◌⊎◌, ℕ, zero, suc, ◌+◌, ◌≤◌, max, Bool, true, false, not, cond, ◌&&◌, List, [], ◌∷◌, ◌++◌, map, filter, flat_map, fold, refl, sym, ap, subst, inl, inr, ◌∙◌, arith, Option, Some, None, is_some, zero-le, true≢false, eqb-true}
use Rattle.std.specs.Prelude.{is_none, ◌==◌}
use Rattle.smk_base.specs.Path.{is_path}
use Rattle.smk_base.specs.declared.tree.Tree.{Tree}
use Rattle.smk_world.specs.Calls.{in_folder}
use Rattle.smk_world.specs.Trees.{Path, among, folder_over}
use Rattle.smk_pattern.specs.Shapes.{Text}
use Rattle.smk_flow.specs.Flows.{Candidate}
use Rattle.smk_choose.specs.Choose.{Choice, Source, Make, choose, maker}
use Rattle.smk_chain.specs.Derive.{Listings, Refusal, NoInput, NoCommand, MissingMember, Deep, listing, or_none, recipe, wants, wanted_paths, walk, height, refused, refused_at, refused_if, is_missing, chosen, jobs, is_deep, clashes, spots}
use Rattle.smk_chain.specs.Mean.{Setting, mean}
use Rattle.smk_laws_plan.proofs.CurrentLists.{In, in_flat, filter_in, and_left, none_some}
use Rattle.smk_laws_plan.proofs.CurrentReach.{height_make}
use Rattle.smk_laws_plan.proofs.CurrentDepths.{mean_deeper}
use Rattle.smk_laws_complete.specs.Derived.{AreRight, GathersAlone, CleanTargetsAreDerived, NoListingIsRight}
use Rattle.smk_laws_complete.proofs.Meanings.{MadeBy, made_by, choice_of, source_choice, ground_source}
use Rattle.smk_laws_complete.proofs.Walked.{IsWalked, own_derived, want_walked, walked_derived}
use Rattle.smk_laws_complete.proofs.Wanted.{want_meant}

-- ## Lists

flat_empty : {A B : Type 0} (f : A → List B) (xs : List A) → ((x : A) → In x xs → f x ≡ []) → flat_map f xs ≡ []
flat_empty f [] h = refl
flat_empty f (x ∷ xs) h = λ i. h x (inl refl) i ++ flat_empty f xs (λ y k. h y (inr k)) i

pub filter_empty : {A : Type 0} (test : A → Bool) (xs : List A) → ((x : A) → In x xs → test x ≡ false) → filter test xs ≡ []
filter_empty test [] h = refl
filter_empty test (x ∷ xs) h = ap (λ b. cond b (x ∷ filter test xs) (filter test xs)) (h x (inl refl)) ∙ filter_empty test xs (λ y k. h y (inr k))

fold_low : {A : Type 0} (f : A → ℕ) (n : ℕ) (xs : List A) → ((x : A) → In x xs → f x ≤ n) → (a : ℕ) → a ≤ n → fold max a (map f xs) ≤ n
fold_low f n [] h a k = k
fold_low f n (x ∷ xs) h a k = fold_low f n xs (λ y i. h y (inr i)) (max a (f x)) (let e = h x (inl refl) in omega arith)

below_not : (a n : ℕ) → a ≤ n → (a == suc n) ≡ false
below_not a n h = go (a == suc n) refl
  where
    go : (b : Bool) → (a == suc n) ≡ b → b ≡ false
    go false e = refl
    go true e = absurd (let s = eqb-true a (suc n) e in omega arith)

module _ (S : Setting) (L : Listings) (targets : List Path) (alone : GathersAlone S.flow) (right : AreRight S L targets) where
  -- ## Chains are short

  abbrev height_by : ℕ → Choice → ℕ
  height_by m ch =
      elim (maker ch) as (λ _. ℕ) [ None ↦ 0 | Some c ↦ 1 + fold max 0 (map (height S.flow S.sources L m) (wanted_paths S.flow L c)) ]

  source_low : (m n : ℕ) (p : Path) → choose S.flow S.sources p ≡ Source → height S.flow S.sources L m p ≤ n
  source_low zero n p e = zero-le
  source_low (suc m) n p e = subst (λ h. h ≤ n) (sym (ap (height_by m) e)) (zero-le)

  pub height_low : (n : ℕ) (p : Path) (t : Tree) → n ≤ 200 → mean S n p ≡ Some t → IsWalked S L targets n p → (m : ℕ) → height S.flow S.sources L m p ≤ n
  height_low zero p t few v walked m = source_low m 0 p (source_choice S.flow S.sources p (ground_source S p t v))
  height_low (suc n) p t few v walked zero = zero-le
  height_low (suc n) p t few v walked (suc m) = go (choice_of S n p t v) (height_low n)
    where
      go :
          (choose S.flow S.sources p ≡ Source) ⊎ ((c : Candidate) × (choose S.flow S.sources p ≡ Make c)) →
          ((q : Path) (s : Tree) → n ≤ 200 → mean S n q ≡ Some s → IsWalked S L targets n q → (m : ℕ) → height S.flow S.sources L m q ≤ n) →
          height S.flow S.sources L (suc m) p ≤ suc n
      go (inl e) ih = source_low (suc m) (suc n) p e
      go (inr (c, e)) ih =
          let made = made_by S n p t c e v in
          let below : n ≤ 200 = omega arith in
          let low =
          fold_low (height S.flow S.sources L m) n (wanted_paths S.flow L c) (λ w i.
          let in_wants = (filter_in is_path (wants S.flow L c) w i).0 in
          let meant = want_meant S L targets right n below p t c made walked alone w in_wants in
          ih w meant.0 below meant.1 (want_walked S L targets n p c w walked e in_wants) m) 0 (zero-le) in
          let h = height_make S.flow S.sources L m p c e in omega arith

  -- ## Nothing is refused on the way

  abbrev refused_by : ℕ → Path → Choice → List Refusal
  refused_by m p ch =
      refused_at S.flow L p ch
      ++ elim (maker ch) as (λ _. List Refusal) [
        | None ↦ []
        | Some c ↦
            flat_map
            (λ w. elim (is_path w) as (λ _. List Refusal) [ true ↦ refused S.flow S.sources L m w | false ↦ NoInput p c.rule w ∷ [] ])
            (wants S.flow L c)
      ]

  source_calm : (m : ℕ) (p : Path) → choose S.flow S.sources p ≡ Source → refused S.flow S.sources L m p ≡ []
  source_calm zero p e = refl
  source_calm (suc m) p e = ap (refused_by m p) e

  -- the path isn't missing in its directory
  member_there :
      (n : ℕ) (p : Path) (t : Tree) (c : Candidate) → suc n ≤ 200 → mean S (suc n) p ≡ Some t → MadeBy S n p t c → In c (chosen S.flow S.sources L targets) →
      is_missing L p (folder_over (recipe S.flow L c) p) ≡ false
  member_there n p t c few v made derived = go (folder_over (recipe S.flow L c) p) refl
    where
      listed : (f : Path) → folder_over (recipe S.flow L c) p ≡ Some f → (o : Option (List Path)) → listing L f ≡ o → (is_some o && not (among (map (in_folder f) (or_none o)) p)) ≡ false
      listed f over None l = refl
      listed f over (Some files) l = ap not (right.members c p f files derived made.chosen over l (t, mean_deeper S (suc n) 200 p t few v))

      go : (o : Option Path) → folder_over (recipe S.flow L c) p ≡ o → is_missing L p o ≡ false
      go None over = refl
      go (Some f) over = listed f over (listing L f) refl

  none_missing : (b : Bool) (r : Refusal) → b ≡ false → refused_if b r ≡ []
  none_missing b r e = ap (λ b. refused_if b r) e

  commanded : (o : Option Text) → is_some o ≡ true → is_none o ≡ false
  commanded None h = absurd (true≢false (sym h))
  commanded (Some text) h = refl

  own_calm :
      (n : ℕ) (p : Path) (t : Tree) (c : Candidate) → suc n ≤ 200 → mean S (suc n) p ≡ Some t → MadeBy S n p t c → In c (chosen S.flow S.sources L targets) →
      refused_at S.flow L p (Make c) ≡ []
  own_calm n p t c few v made derived =
      let a = none_missing (is_missing L p (folder_over (recipe S.flow L c) p)) (MissingMember p) (member_there n p t c few v made derived) in
      let b = none_missing (is_none c.part.command) (NoCommand c.rule) (commanded c.part.command (and_left (is_some c.part.command) _ made.runnable)) in
      λ i. a i ++ b i

  pub calm : (n : ℕ) (p : Path) (t : Tree) → n ≤ 200 → mean S n p ≡ Some t → IsWalked S L targets n p → (m : ℕ) → refused S.flow S.sources L m p ≡ []
  calm zero p t few v walked m = source_calm m p (source_choice S.flow S.sources p (ground_source S p t v))
  calm (suc n) p t few v walked zero = refl
  calm (suc n) p t few v walked (suc m) = go (choice_of S n p t v) (calm n)
    where
      below : n ≤ 200
      below = omega arith

      entered : (c : Candidate) (w : Path) (b : Bool) → is_path w ≡ b → b ≡ true → refused S.flow S.sources L m w ≡ [] → elim b as (λ _. List Refusal) [ true ↦ refused S.flow S.sources L m w | false ↦ NoInput p c.rule w ∷ [] ] ≡ []
      entered c w true e k r = r
      entered c w false e k r = absurd (true≢false (sym k))

      go :
          (choose S.flow S.sources p ≡ Source) ⊎ ((c : Candidate) × (choose S.flow S.sources p ≡ Make c)) →
          ((q : Path) (s : Tree) → n ≤ 200 → mean S n q ≡ Some s → IsWalked S L targets n q → (m : ℕ) → refused S.flow S.sources L m q ≡ []) →
          refused S.flow S.sources L (suc m) p ≡ []
      go (inl e) ih = source_calm (suc m) p e
      go (inr (c, e)) ih =
          let made = made_by S n p t c e v in
          let derived = own_derived S L targets n p c walked e in
          let a = own_calm n p t c few v made derived in
          let b =
          flat_empty (λ w. elim (is_path w) as (λ _. List Refusal) [ true ↦ refused S.flow S.sources L m w | false ↦ NoInput p c.rule w ∷ [] ]) (wants S.flow L c) (λ w i.
          let meant = want_meant S L targets right n below p t c made walked alone w i in
          entered c w (is_path w) refl meant.2 (ih w meant.0 below meant.1 (want_walked S L targets n p c w walked e i) m)) in
          ap (refused_by m p) e ∙ (λ i. a i ++ b i)

pub clean_targets_are_derived : CleanTargetsAreDerived
clean_targets_are_derived S image L targets alone values right =
    let deep = ap (map Deep) (filter_empty (is_deep S.flow S.sources image L targets) targets (λ p i. let v = values p i in
    below_not (height S.flow S.sources L 201 p) 200 (height_low S L targets alone right 200 p v.0 (let e : 200 ≤ 200 = omega arith in e) v.1 (walked p i) 201))) in
    let none = flat_empty (refused S.flow S.sources L 201) targets (λ p i. let v = values p i in calm S L targets alone right 200 p v.0 (let e : 200 ≤ 200 = omega arith in e) v.1 (walked p i) 201) in
    λ i. deep i ++ (none i ++ clashes image [] (flat_map spots (jobs S.flow S.sources L targets)))
  where
    walked : (p : Path) → In p targets → IsWalked S L targets 200 p
    walked p i c k = walked_derived S.flow S.sources L targets c (in_flat (walk S.flow S.sources L 200) targets p c i k)

pub no_listing_is_right : NoListingIsRight
no_listing_is_right S targets =
    record {
      gathered = λ c f files tree derived i served known v. absurd (none_some None files refl known);
      members = λ c p f files derived e over known v. absurd (none_some None files refl known);
    }
