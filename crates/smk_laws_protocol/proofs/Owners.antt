-- What the children of a number own.
use Rattle.std.proofs.Common.{◌≡◌, ◌⊎◌, ℕ, Bool, true, false, List, [], ◌∷◌, refl, subst, inl, inr, Some}
use Rattle.std.specs.Prelude.{nat_eq, if◌then◌else◌}
use Rattle.smk_world.specs.declared.event.Child.{Child}
use Rattle.smk_world.specs.World.{owned_by, owned_of, owned_paths, child_numbered}
use Rattle.smk_world.specs.Trees.{Path, IsIn}
use Rattle.smk_laws_protocol.proofs.Basics.{clash}

pub owner_of : (n : ℕ) (cs : List Child) (p : Path) → IsIn (owned_by n cs) p → (c : Child) × IsIn cs c × (nat_eq c.number n ≡ true) × IsIn (owned_paths c.recipe c.logs) p
owner_of n [] p i = absurd i
owner_of n (c ∷ cs) p i = go (nat_eq c.number n) refl i (owner_of n cs p)
  where
    go :
        (b : Bool) → nat_eq c.number n ≡ b → IsIn (owned_of (if b then Some c else child_numbered n cs)) p →
        (IsIn (owned_by n cs) p → (d : Child) × IsIn cs d × (nat_eq d.number n ≡ true) × IsIn (owned_paths d.recipe d.logs) p) →
        (d : Child) × IsIn (c ∷ cs) d × (nat_eq d.number n ≡ true) × IsIn (owned_paths d.recipe d.logs) p
    go true e i ih = (c, inl refl, e, i)
    go false e i ih = let r = ih i in (r.0, inr r.1, r.2, r.3)

-- where a child has the number, the first that has it is in the list too
pub numbered_in : (n : ℕ) (cs : List Child) (c : Child) → IsIn cs c → nat_eq c.number n ≡ true → (d : Child) × IsIn cs d × (nat_eq d.number n ≡ true) × (child_numbered n cs ≡ Some d)
numbered_in n [] c i e = absurd i
numbered_in n (x ∷ cs) c i e = go (nat_eq x.number n) refl i (numbered_in n cs c)
  where
    go :
        (b : Bool) → nat_eq x.number n ≡ b → (c ≡ x) ⊎ IsIn cs c →
        (IsIn cs c → nat_eq c.number n ≡ true → (d : Child) × IsIn cs d × (nat_eq d.number n ≡ true) × (child_numbered n cs ≡ Some d)) →
        (d : Child) × IsIn (x ∷ cs) d × (nat_eq d.number n ≡ true) × ((if b then Some x else child_numbered n cs) ≡ Some d)
    go true f i ih = (x, inl refl, f, refl)
    go false f (inl s) ih = clash (nat_eq x.number n) (subst (λ y. nat_eq y.number n ≡ true) s e) f
    go false f (inr k) ih = let r = ih k e in (r.0, inr r.1, r.2, r.3)
