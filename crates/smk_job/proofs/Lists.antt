-- What holds of each, what is so of none, and what stands in a list of paths.
use Rattle.std.proofs.Common.{◌≡◌, inl, inr, Bool, true, false, List, [], ◌∷◌, refl, sym, subst, arith, bytes_eq}
use Rattle.std.specs.Prelude.{IsTrue}
use Rattle.std.specs.List.{list_any}
use Rattle.std.proofs.lemmas.Bool.{or_right, or_left}
use Rattle.smk_base.proofs.Places.{place_itself}
use Rattle.smk_world.specs.World.{is_named}
use Rattle.smk_world.specs.Trees.{Path, IsIn, Each, among}

-- of each, so of what is in it
pub each_in : {A : Type 0} (P : A → Type 0) (xs : List A) (x : A) → Each P xs → IsIn xs x → P x
each_in P [] x h i = absurd i
each_in P (y ∷ xs) x h (inl e) = subst P (sym e) h.0
each_in P (y ∷ xs) x h (inr i) = each_in P xs x h.1 i

pub none_by : {A : Type 0} (t : A → Bool) (xs : List A) → ((x : A) → IsIn xs x → t x ≡ false) → list_any t xs ≡ false
none_by t [] h = refl
none_by t (x ∷ xs) h = let a = h x (inl refl) in let b = none_by t xs (λ y i. h y (inr i)) in grind arith

pub among_by : (ps : List Path) (p : Path) → IsIn ps p → IsTrue (among ps p)
among_by [] p i = absurd i
among_by (x ∷ ps) p (inl e) = or_left (bytes_eq p x) (is_named p ps) (subst (λ y. bytes_eq p y ≡ true) e (place_itself p))
among_by (x ∷ ps) p (inr i) = or_right (bytes_eq p x) (is_named p ps) (among_by ps p i)
