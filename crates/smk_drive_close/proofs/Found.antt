-- Whether something was found.
use Rattle.std.proofs.Common.{◌≡◌, ◌∙◌, Bool, true, false, Option, Some, None, not, refl, sym, ap}
use Rattle.std.specs.Option.{is_none, is_some}

pub found_none : {A : Type 0} (o : Option A) (r : Bool) → is_some o ≡ not r → r ≡ true → is_none o ≡ true
found_none None r is was = refl
found_none (Some x) r is was = absurd (never (is ∙ ap (λ b. not b) was))
  where
    never : true ≡ false → ⊥
    never e = cc

pub found_some : {A : Type 0} (o : Option A) (r : Bool) → is_some o ≡ not r → r ≡ false → is_none o ≡ false
found_some (Some x) r is was = refl
found_some None r is was = absurd (never (sym (is ∙ ap (λ b. not b) was)))
  where
    never : true ≡ false → ⊥
    never e = cc
