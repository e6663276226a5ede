-- Rules at their places.
use Rattle.std.proofs.Common.{◌≡◌, ℕ, zero, suc, ◌+◌, ◌<◌, ◌≤◌, List, [], ◌∷◌, ◌++◌, length, Bool, true, false, cond, true≢false, Option, Some, None, is_some, refl, ap, sym, subst, ◌∙◌, bytes_eq, arith, length-append}
use Rattle.std.specs.Prelude.{slice_get}
use Rattle.std.specs.Option.{option_and_then, option_or}
use Rattle.std.specs.BTreeMap.{BTreeMap}
use Rattle.std.specs.Prelude.{String}
use Rattle.std.specs.Map.{update}
use Rattle.std.proofs.lemmas.List.Folds.{find-append}
use Rattle.std.proofs.lemmas.Option.{slice_get-get_or}
use Rattle.std.proofs.lemmas.Slice.Eq.{bytes_eq-Decides}
use Rattle.smk_flow.specs.declared.rule.RulePart.{RulePart}
use Rattle.smk_flow.specs.Checks.{rule_in}
use Rattle.smk_eval.specs.Kept.{kept_text as kept, with_place, ArePlaced}

-- ## One more place

stays : (look : List ℕ → Option ℕ) (name : List ℕ) (place : ℕ) (q : List ℕ) → is_some (look name) ≡ true → look q ≡ with_place look name place q
stays look name place q h = go (look q) (bytes_eq name q) refl refl
  where
    go : (o : Option ℕ) (b : Bool) → look q ≡ o → bytes_eq name q ≡ b → o ≡ option_or o (cond b (Some place) None)
    go (Some i) b e f = refl
    go None false e f = refl
    go None true e f =
        let same : name ≡ q = (bytes_eq-Decides name q).0 f in
        absurd (true≢false (sym h ∙ ap (λ (t : List ℕ). is_some (look t)) same ∙ ap (λ (o : Option ℕ). is_some o) e))

pub place_stays : {Y : Type 0} (m : BTreeMap (String Y) ℕ) (name : List ℕ) (place : ℕ) (q : List ℕ) → is_some (kept m name) ≡ true → kept m q ≡ with_place (kept m) name place q
place_stays m name place q h = stays (kept m) name place q h

added : (look : List ℕ → Option ℕ) (name : List ℕ) (place : ℕ) (q : List ℕ) → is_some (look name) ≡ false → cond (bytes_eq name q) (Some place) (look q) ≡ with_place look name place q
added look name place q h = go (look q) (bytes_eq name q) refl refl
  where
    go : (o : Option ℕ) (b : Bool) → look q ≡ o → bytes_eq name q ≡ b → cond b (Some place) o ≡ option_or o (cond b (Some place) None)
    go (Some i) false e f = refl
    go (Some i) true e f =
        let same : name ≡ q = (bytes_eq-Decides name q).0 f in
        absurd (true≢false (sym (ap (λ (o : Option ℕ). is_some o) e) ∙ ap (λ (t : List ℕ). is_some (look t)) (sym same) ∙ h))
    go None true e f = refl
    go None false e f = refl

pub place_added : {Y : Type 0} (m n : BTreeMap (String Y) ℕ) (name : List ℕ) (place : ℕ) (q : List ℕ) → is_some (kept m name) ≡ false
    → kept n q ≡ update bytes_eq (kept m) name (Some place) q → kept n q ≡ with_place (kept m) name place q
place_added m n name place q h is = is ∙ added (kept m) name place q h

-- ## One more rule

get_before : {X : Type 0} (xs : List X) (x : X) (i : ℕ) → i < length xs → slice_get (xs ++ x ∷ []) i ≡ slice_get xs i
get_before [] x i h = absurd (omega (arith, h))
get_before (y ∷ xs) x zero h = refl
get_before (y ∷ xs) x (suc i) h = get_before xs x i (omega (arith, h))

get_last : {X : Type 0} (xs : List X) (x : X) → slice_get (xs ++ x ∷ []) (length xs) ≡ Some x
get_last [] x = refl
get_last (y ∷ xs) x = let e : suc (length xs) ≡ length (y ∷ xs) = omega arith in subst (λ (n : ℕ). slice_get ((y ∷ xs) ++ x ∷ []) n ≡ Some x) e (get_last xs x)

some_before : (parts : List RulePart) (i : ℕ) (part : RulePart) (o : Option RulePart) → i < length parts → slice_get parts i ≡ o → (r : Option RulePart) → o ≡ option_or o r
some_before parts i part None lt e r = let bad : None ≡ Some (Rattle.std.proofs.Common.get_or parts i part) = sym e ∙ slice_get-get_or parts i part lt in cc
some_before parts i part (Some p) lt e r = refl

pub more_placed : {Y : Type 0} (m n : BTreeMap (String Y) ℕ) (parts : List RulePart) (part : RulePart) (name : List ℕ) → part.name ≡ name
    → ((q : List ℕ) → kept n q ≡ with_place (kept m) name (length parts) q) → ArePlaced m parts → ArePlaced n (parts ++ part ∷ [])
more_placed m n parts part name named is old = record {
  are = λ q.
      ap (λ (o : Option ℕ). option_and_then (λ (i : ℕ). slice_get (parts ++ part ∷ []) i) o) (is q)
      ∙ go q (kept m q) refl
      ∙ sym (find-append (λ (r : RulePart). bytes_eq r.name q) parts (part ∷ []));
  within = λ q i h. inside q i (kept m q) refl (sym (is q) ∙ h);
}
  where
    go : (q : List ℕ) (o : Option ℕ) → kept m q ≡ o
        → option_and_then (λ (i : ℕ). slice_get (parts ++ part ∷ []) i) (option_or o (cond (bytes_eq name q) (Some (length parts)) None))
        ≡ option_or (rule_in parts q) (cond (bytes_eq part.name q) (Some part) None)
    go q (Some i) e =
        let lt = old.within q i e in
        let found : slice_get parts i ≡ rule_in parts q = sym (ap (λ (o : Option ℕ). option_and_then (λ (j : ℕ). slice_get parts j) o) e) ∙ old.are q in
        get_before parts part i lt ∙ found ∙ some_before parts i part (rule_in parts q) lt found (cond (bytes_eq part.name q) (Some part) None)
    go q None e =
        let none : None ≡ rule_in parts q = sym (ap (λ (o : Option ℕ). option_and_then (λ (j : ℕ). slice_get parts j) o) e) ∙ old.are q in
        last (bytes_eq name q) ∙ ap (λ (t : List ℕ). cond (bytes_eq t q) (Some part) None) (sym named) ∙ ap (λ (o : Option RulePart). option_or o (cond (bytes_eq part.name q) (Some part) None)) none
      where
        last : (b : Bool) → option_and_then (λ (i : ℕ). slice_get (parts ++ part ∷ []) i) (cond b (Some (length parts)) None) ≡ cond b (Some part) None
        last true = get_last parts part
        last false = refl

    inside : (q : List ℕ) (i : ℕ) (o : Option ℕ) → kept m q ≡ o → option_or o (cond (bytes_eq name q) (Some (length parts)) None) ≡ Some i → i < length (parts ++ part ∷ [])
    inside q i (Some j) e h =
        let same : j ≡ i = cc in
        omega (arith, subst (λ (k : ℕ). k < length parts) same (old.within q j e), length-append parts (part ∷ []))
    inside q i None e h = last (bytes_eq name q) h
      where
        last : (b : Bool) → cond b (Some (length parts)) None ≡ Some i → i < length (parts ++ part ∷ [])
        last true k = let same : length parts ≡ i = cc in omega (arith, same, length-append parts (part ∷ []))
        last false k = cc
