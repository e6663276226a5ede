-- Texts in which no constraint stands have no bad one.
use Rattle.std.proofs.Common.{◌≡◌, Bool, List, [], ◌∷◌, true, false, Some, None, refl, sym, subst, true≢false}
use Rattle.std.specs.Prelude.{◌&&◌}
use Rattle.std.specs.List.{list_all}
use Rattle.smk_pattern.specs.Shapes.{Text}
use Rattle.smk_pattern.specs.Grammar.{Piece, plain, hole, inline_limits, limit_for}
use Rattle.smk_pattern.specs.Written.{is_bare, IsBadLimit}

bare_lacks : (name : Text) (ps : List Piece) → list_all is_bare ps ≡ true → inline_limits name ps ≡ []
bare_lacks name [] e = refl
bare_lacks name (plain t ∷ ps) e = bare_lacks name ps e
bare_lacks name (hole other None ∷ ps) e = bare_lacks name ps e
bare_lacks name (hole other (Some limit) ∷ ps) e = absurd (true≢false (sym e))

pub bare_good : (name : Text) (ps : List Piece) (names : List Text) → list_all is_bare ps ≡ true → IsBadLimit [] ps names name → ⊥
bare_good name ps names e b =
    let h : None ≡ Some b.limit = subst (λ (ls : List Text). limit_for [] name ls ≡ Some b.limit) (bare_lacks name ps e) b.is in
    cc

-- the second fails wherever the first holds, so both never hold
pub never_all : (a b : Bool) → (a ≡ true → b ≡ false) → (a && b) ≡ false
never_all true b h = h refl
never_all false b h = refl
