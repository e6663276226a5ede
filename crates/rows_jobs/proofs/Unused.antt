-- Where nothing runs no place is used.
use Rattle.std.proofs.Common.{◌≡◌, ℕ, false, List, [], ◌∷◌, refl, sym, subst, ◌∙◌, Option, Some}
use Rattle.smk_world.specs.World.{World}
use Rattle.smk_world.specs.Calls.{IsUnused, any_overlap, used_now}
use Rattle.smk_world_mem.specs.Work.{IsAtRest}

some_same : (x y : World) → Some x ≡ Some y → x ≡ y
some_same x y e = cc

pub unused_at_rest : (told : Option World) (p : List ℕ) → IsAtRest told → (w : World) → told ≡ Some w → IsUnused w p
unused_at_rest told p (v, is, none) w e = subst (λ x. IsUnused x p) (some_same v w (sym is ∙ e)) (subst (λ cs. any_overlap (p ∷ []) (used_now cs) ≡ false) (sym none) refl)
