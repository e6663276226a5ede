-- What the steps of a reader took, where they succeed.
use Rattle.std.proofs.Common.{◌≡◌, Bool, true, false, List, [], ◌∷◌, ◌++◌, Ok, Err, refl, sym, ap, subst, ◌∙◌, ◌⊎◌, inl, inr, cond, rules}
use Rattle.std.specs.Prelude.{ℕ}
use Rattle.std.specs.Str.{bytes_eq}
use Rattle.std.proofs.lemmas.Slice.Eq.{bytes_eq-Decides}
use denote.Enum.Bare.{same_true}
use Rattle.smk_parse_expr.specs.contracts.symbol.Sign.{the_type}
use Rattle.smk_parse_expr.specs.declared.symbol.Symbol.{Symbol}
use Rattle.smk_parse_expr.specs.declared.symbol.Symbol.TheVariants as s
use Rattle.smk_parse_expr.specs.declared.symbol.Sign.{Sign}
use Rattle.smk_parse_expr.specs.declared.symbol.Sign.TheVariants.{OpenSquare, CloseSquare, Point}
use Rattle.smk_parse_tree.specs.declared.syntax.OutputPick.{OutputPick}
use Rattle.smk_parse_tree.specs.declared.syntax.OutputPick.TheVariants as pick
use Rattle.smk_parse_expr.specs.Symbols.{Bytes, Parser, Outcome, and_then, ◌>>=◌, pure, sees, next, expect, refuse}
use Rattle.smk_parse_expr.specs.Exprs.{text, name, number, spelled, by_name, by_place, picked}
use Rattle.smk_parse_expr.specs.Grammar.{IsPick, all, by_name as named_pick, by_place as placed_pick}

abbrev pub done : {A : Type 0} → A → List Symbol → Outcome A
done a rest = Ok (a, rest)

abbrev pub Takes : {A : Type 0} → (List Symbol → A → Type 0) → List Symbol → A → List Symbol → Type 0
Takes Is i x rest = (xs : List Symbol) × (i ≡ xs ++ rest) × Is xs x

pub bind_ok : {A B : Type 0} (r : Outcome A) (f : A → Parser B) (y : B) (rest : List Symbol) → and_then r f ≡ done y rest
    → (v : A) × (mid : List Symbol) × (r ≡ done v mid) × (f v mid ≡ done y rest)
bind_ok (Ok p) f y rest h = (p.0, p.1, refl, h)
bind_ok (Err d) f y rest h = absurd cc

abbrev pub Chosen : {A : Type 0} → Bool → A → A → A → Type 0
Chosen b x y z = ((b ≡ true) × (x ≡ z)) ⊎ ((b ≡ false) × (y ≡ z))

pub chosen : {A : Type 0} (b : Bool) (x y z : A) → cond b x y ≡ z → Chosen b x y z
chosen true x y z h = inl (refl, h)
chosen false x y z h = inr (refl, h)

pub parts : {A : Type 0} (a b : A) (r s : List Symbol) → done a r ≡ done b s → (a ≡ b) × (r ≡ s)
parts {A} a b r s h =
    let both : ◌≡◌ {A = A × List Symbol} (a, r) (b, s) = cc in
    (ap (λ (p : A × List Symbol). p.0) both, ap (λ (p : A × List Symbol). p.1) both)

pub sees-found : (k : Sign) (i : List Symbol) → sees k i ≡ true → (at : ℕ) × (xs : List Symbol) × (i ≡ s.Sign at k ∷ xs)
sees-found k [] h = absurd cc
sees-found k (s.Text at v ∷ xs) h = absurd cc
sees-found k (s.Name at w ∷ xs) h = absurd cc
sees-found k (s.Number at n ∷ xs) h = absurd cc
sees-found k (s.Sign at l ∷ xs) h = let e : l ≡ k = same_true the_type (search rules) l k h in (at, xs, ap (λ (m : Sign). s.Sign at m ∷ xs) e)
sees-found k (s.Newline at ∷ xs) h = absurd cc
sees-found k (s.Indent at ∷ xs) h = absurd cc
sees-found k (s.Dedent at ∷ xs) h = absurd cc

pub refused : {A : Type 0} (i rest : List Symbol) (a : A) → refuse i ≡ done a rest → ⊥
refused i rest a h = cc

pub expect-found : (k : Sign) (i rest : List Symbol) → expect k i ≡ done tt rest → (at : ℕ) × (i ≡ s.Sign at k ∷ rest)
unfolding expect
expect-found k i rest h = elim (chosen (sees k i) (Ok (tt, next i)) (refuse i) (done tt rest) h) [
  | inl (met, same) ↦
      let f = sees-found k i met in
      let r : f.1 ≡ rest = ap next (sym f.2) ∙ (parts tt tt (next i) rest same).1 in
      (f.0, f.2 ∙ ap (λ (v : List Symbol). s.Sign f.0 k ∷ v) r)
  | inr (none, same) ↦ absurd (refused i rest tt same)
]

pub text-found : (t : Bytes) (i rest : List Symbol) → text i ≡ done t rest → (at : ℕ) × (i ≡ s.Text at t ∷ rest)
unfolding text
text-found t [] rest h = absurd cc
text-found t (s.Text at v ∷ xs) rest h = let p = parts v t xs rest h in (at, ap (λ (w : Bytes). s.Text at w ∷ xs) p.0 ∙ ap (λ (w : List Symbol). s.Text at t ∷ w) p.1)
text-found t (s.Name at w ∷ xs) rest h = absurd cc
text-found t (s.Number at n ∷ xs) rest h = absurd cc
text-found t (s.Sign at k ∷ xs) rest h = absurd cc
text-found t (s.Newline at ∷ xs) rest h = absurd cc
text-found t (s.Indent at ∷ xs) rest h = absurd cc
text-found t (s.Dedent at ∷ xs) rest h = absurd cc

pub name-found : (t : Bytes) (i rest : List Symbol) → name i ≡ done t rest → (at : ℕ) × (i ≡ s.Name at t ∷ rest)
unfolding name
name-found t [] rest h = absurd cc
name-found t (s.Name at v ∷ xs) rest h = let p = parts v t xs rest h in (at, ap (λ (w : Bytes). s.Name at w ∷ xs) p.0 ∙ ap (λ (w : List Symbol). s.Name at t ∷ w) p.1)
name-found t (s.Text at w ∷ xs) rest h = absurd cc
name-found t (s.Number at n ∷ xs) rest h = absurd cc
name-found t (s.Sign at k ∷ xs) rest h = absurd cc
name-found t (s.Newline at ∷ xs) rest h = absurd cc
name-found t (s.Indent at ∷ xs) rest h = absurd cc
name-found t (s.Dedent at ∷ xs) rest h = absurd cc

pub number-found : (t : ℕ) (i rest : List Symbol) → number i ≡ done t rest → (at : ℕ) × (i ≡ s.Number at t ∷ rest)
unfolding number
number-found t [] rest h = absurd cc
number-found t (s.Number at v ∷ xs) rest h = let p = parts v t xs rest h in (at, ap (λ (w : ℕ). s.Number at w ∷ xs) p.0 ∙ ap (λ (w : List Symbol). s.Number at t ∷ w) p.1)
number-found t (s.Text at w ∷ xs) rest h = absurd cc
number-found t (s.Name at n ∷ xs) rest h = absurd cc
number-found t (s.Sign at k ∷ xs) rest h = absurd cc
number-found t (s.Newline at ∷ xs) rest h = absurd cc
number-found t (s.Indent at ∷ xs) rest h = absurd cc
number-found t (s.Dedent at ∷ xs) rest h = absurd cc

pub spelled-found : (k : Bytes) (i rest : List Symbol) → spelled k i ≡ done tt rest → (at : ℕ) × (i ≡ s.Name at k ∷ rest)
unfolding spelled
spelled-found k [] rest h = absurd cc
spelled-found k (s.Name at w ∷ xs) rest h = elim (chosen (bytes_eq w k) (Ok (tt, xs)) (refuse (s.Name at w ∷ xs)) (done tt rest) h) [
  | inl (met, same) ↦
      let e : w ≡ k = (bytes_eq-Decides w k).0 met in
      let p = parts tt tt xs rest same in
      (at, ap (λ (v : Bytes). s.Name at v ∷ xs) e ∙ ap (λ (v : List Symbol). s.Name at k ∷ v) p.1)
  | inr (none, same) ↦ absurd (refused (s.Name at w ∷ xs) rest tt same)
]
spelled-found k (s.Text at w ∷ xs) rest h = absurd cc
spelled-found k (s.Number at n ∷ xs) rest h = absurd cc
spelled-found k (s.Sign at l ∷ xs) rest h = absurd cc
spelled-found k (s.Newline at ∷ xs) rest h = absurd cc
spelled-found k (s.Indent at ∷ xs) rest h = absurd cc
spelled-found k (s.Dedent at ∷ xs) rest h = absurd cc

-- ---- a step, and what goes on behind it

pub sign_then : {B : Type 0} (k : Sign) (f : Unit {0} → Parser B) (y : B) (i rest : List Symbol) → and_then (expect k i) f ≡ done y rest
    → (at : ℕ) × (j : List Symbol) × (i ≡ s.Sign at k ∷ j) × (f tt j ≡ done y rest)
sign_then k f y i rest h =
    let b = bind_ok (expect k i) f y rest h in
    let g = expect-found k i b.1 b.2 in
    (g.0, b.1, g.1, b.3)

pub name_then : {B : Type 0} (f : Bytes → Parser B) (y : B) (i rest : List Symbol) → and_then (name i) f ≡ done y rest
    → (at : ℕ) × (w : Bytes) × (j : List Symbol) × (i ≡ s.Name at w ∷ j) × (f w j ≡ done y rest)
name_then f y i rest h =
    let b = bind_ok (name i) f y rest h in
    let g = name-found b.0 i b.1 b.2 in
    (g.0, b.0, b.1, g.1, b.3)

pub text_then : {B : Type 0} (f : Bytes → Parser B) (y : B) (i rest : List Symbol) → and_then (text i) f ≡ done y rest
    → (at : ℕ) × (w : Bytes) × (j : List Symbol) × (i ≡ s.Text at w ∷ j) × (f w j ≡ done y rest)
text_then f y i rest h =
    let b = bind_ok (text i) f y rest h in
    let g = text-found b.0 i b.1 b.2 in
    (g.0, b.0, b.1, g.1, b.3)

pub word_then : {B : Type 0} (k : Bytes) (f : Unit {0} → Parser B) (y : B) (i rest : List Symbol) → and_then (spelled k i) f ≡ done y rest
    → (at : ℕ) × (j : List Symbol) × (i ≡ s.Name at k ∷ j) × (f tt j ≡ done y rest)
word_then k f y i rest h =
    let b = bind_ok (spelled k i) f y rest h in
    let g = spelled-found k i b.1 b.2 in
    (g.0, b.1, g.1, b.3)

-- ---- which outputs

by_name-found : (p : OutputPick) (a : ℕ) (i rest : List Symbol) → by_name i ≡ done p rest → Takes IsPick (s.Sign a Point ∷ i) p rest
unfolding by_name
by_name-found p a i rest h =
    let b = name_then (λ w. pure (pick.Named w)) p i rest h in
    let q = parts (pick.Named b.1) p b.2 rest b.4 in (
      s.Sign a Point ∷ s.Name b.0 b.1 ∷ [],
      ap (λ (v : List Symbol). s.Sign a Point ∷ v) (b.3 ∙ ap (λ (v : List Symbol). s.Name b.0 b.1 ∷ v) q.1),
      subst (IsPick (s.Sign a Point ∷ s.Name b.0 b.1 ∷ [])) q.0 (named_pick a b.0 b.1),
    )

by_place-found : (p : OutputPick) (a : ℕ) (i rest : List Symbol) → by_place i ≡ done p rest → Takes IsPick (s.Sign a OpenSquare ∷ i) p rest
unfolding by_place
by_place-found p a i rest h =
    let b = bind_ok (number i) (λ n. expect CloseSquare >>= (λ _. pure (pick.At n))) p rest h in
    let n = number-found b.0 i b.1 b.2 in
    let c = sign_then CloseSquare (λ _. pure (pick.At b.0)) p b.1 rest b.3 in
    let q = parts (pick.At b.0) p c.1 rest c.3 in (
      s.Sign a OpenSquare ∷ s.Number n.0 b.0 ∷ s.Sign c.0 CloseSquare ∷ [],
      ap (λ (v : List Symbol). s.Sign a OpenSquare ∷ v) (n.1 ∙ ap (λ (v : List Symbol). s.Number n.0 b.0 ∷ v) (c.2 ∙ ap (λ (v : List Symbol). s.Sign c.0 CloseSquare ∷ v) q.1)),
      subst (IsPick (s.Sign a OpenSquare ∷ s.Number n.0 b.0 ∷ s.Sign c.0 CloseSquare ∷ [])) q.0 (placed_pick a n.0 c.0 b.0),
    )

pub picked-found : (p : OutputPick) (i rest : List Symbol) → picked i ≡ done p rest → Takes IsPick i p rest
unfolding picked
picked-found p i rest h = elim (chosen (sees Point i) (by_name (next i)) (cond (sees OpenSquare i) (by_place (next i)) (Ok (pick.All, i))) (done p rest) h) [
  | inl (met, same) ↦
      let f = sees-found Point i met in
      let g = by_name-found p f.0 (next i) rest same in
      (g.0, f.2 ∙ ap (λ (v : List Symbol). s.Sign f.0 Point ∷ v) (ap next (sym f.2)) ∙ g.1, g.2)
  | inr (none, other) ↦ elim (chosen (sees OpenSquare i) (by_place (next i)) (Ok (pick.All, i)) (done p rest) other) [
    | inl (met, same) ↦
        let f = sees-found OpenSquare i met in
        let g = by_place-found p f.0 (next i) rest same in
        (g.0, f.2 ∙ ap (λ (v : List Symbol). s.Sign f.0 OpenSquare ∷ v) (ap next (sym f.2)) ∙ g.1, g.2)
    | inr (neither, same) ↦ let q = parts pick.All p i rest same in ([], q.1, subst (IsPick []) q.0 all)
  ]
]
