-- Where no child runs.
use Rattle.std.proofs.Common.{◌≡◌, List, [], ◌∷◌, get_or, refl, ap, sym, subst, true, false, ◌∙◌}
use Rattle.std.specs.Prelude.{All}
use Rattle.smk_world.specs.declared.event.Child.{Child}
use Rattle.smk_world.specs.World.{World, numbers, is_within}
use Rattle.smk_world.specs.Calls.{IsUnused, HasOwners, owned_now, any_overlap, used_now}
use Rattle.smk_world.specs.Trees.{Path}
use Rattle.smk_store.specs.Unowned.{NoneOwned}

-- without running numbers there are no children
pub no_children : (cs : List Child) → numbers cs ≡ [] → cs ≡ []
no_children [] h = refl
no_children (c ∷ cs) h = cc

unused : (w : World) (p : Path) → numbers w.children ≡ [] → IsUnused w p
unused w p h = subst (λ cs. any_overlap (p ∷ []) (used_now cs) ≡ false) (sym (no_children w.children h)) refl

pub all_unused : (w : World) (ps : List Path) → numbers w.children ≡ [] → All (IsUnused w) ps
all_unused w ps h = λ k d lt. unused w (get_or ps k d) h

never : false ≡ true → ⊥
never e = cc

pub none_owned : (w : World) → HasOwners w → numbers w.children ≡ [] → NoneOwned w
none_owned w owners h = λ q owned. never (sym (ap (λ cs. is_within q (owned_now cs)) (no_children w.children h)) ∙ owners q owned)
