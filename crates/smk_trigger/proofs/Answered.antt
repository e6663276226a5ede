-- What many calls answered, where each answer is a value or a fault.
use Rattle.std.proofs.Common.{◌≡◌, List, [], ◌∷◌, map, refl, ap, subst, ◌∙◌, Ok, Err, IfOk, Contains}
use Rattle.std.specs.Prelude.{MatchResult}
use Rattle.std.specs.declared.result.Result.{Result}
use Rattle.std.specs.declared.vec.Vec.{Vec}
use Rattle.std.specs.List.{AllZip}

module _ {X Y : Type 0} (E : Type 0) (f : X → Y) where
  -- values that are each the function's are its values at all
  pub all_answered : (xs : List X) (ys : List Y) → AllZip (λ (x : X) (r : Result Y E). IfOk r (λ y. y ≡ f x)) xs (map Ok ys) → ys ≡ map f xs
  all_answered [] [] h = refl
  all_answered [] (y ∷ ys) h = absurd h
  all_answered (x ∷ xs) [] h = absurd h
  all_answered (x ∷ xs) (y ∷ ys) h = ap (λ z. z ∷ ys) h.0 ∙ ap (λ zs. f x ∷ zs) (all_answered xs ys h.1)

  -- the values, where no answer is a fault
  pub answered : {Z : Type 0} (xs : List X) (rs : List (Result Y E)) (r : Result (Vec Y Z) E)
      → AllZip (λ (x : X) (r : Result Y E). IfOk r (λ y. y ≡ f x)) xs rs
      → MatchResult r (λ v. (ys : List Y) × (rs ≡ map Ok ys) × (v.items ≡ ys)) (λ e. Contains rs (Err e))
      → IfOk r (λ v. v.items ≡ map f xs)
  answered xs rs (Ok v) zip h = h.2 ∙ all_answered xs h.0 (subst (λ rs. AllZip (λ (x : X) (r : Result Y E). IfOk r (λ y. y ≡ f x)) xs rs) h.1 zip)
  answered xs rs (Err e) zip h = tt
