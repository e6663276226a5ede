-- Where nothing runs each place may be written.
use Rattle.std.proofs.Common.{◌≡◌, false, [], ◌∷◌, refl, sym, subst, ◌∙◌, Option, Some}
use Rattle.std.proofs.lemmas.Option.{same_Some}
use Rattle.smk_world.specs.World.{World}
use Rattle.smk_world.specs.Calls.{IsUnused, any_overlap, used_now}
use Rattle.smk_world.specs.Trees.{Path}
use Rattle.smk_world_mem.specs.Work.{IsAtRest}

pub unused_at : (told : Option World) (p : Path) → IsAtRest told → (w : World) → told ≡ Some w → IsUnused w p
unused_at told p (v, is, none) w e =
    subst (λ x. IsUnused x p) (same_Some v w (sym is ∙ e)) (subst (λ cs. any_overlap (p ∷ []) (used_now cs) ≡ false) (sym none) refl)
