-- What stands in folders, by the list of the folders above it.
use Rattle.std.proofs.Common.{◌≡◌, inl, inr, ℕ, Bool, true, false, ◌&&◌, ◌==◌, List, [], ◌∷◌, map, refl, sym, ap, subst, ◌∙◌, eqb-true, Option, Some}
use Rattle.std.specs.Prelude.{if◌then◌else◌}
use Rattle.smk_base.specs.Path.{is_under}
use Rattle.smk_base.proofs.Under.{under_further}
use Rattle.smk_base.proofs.Places.{and_first, and_second}
use Rattle.smk_world.specs.declared.event.Node.{Node}
use Rattle.smk_world.specs.declared.event.Node.TheVariants.{Directory}
use Rattle.smk_world.specs.World.{World, folders_above}
use Rattle.smk_world.specs.Folders.{CanHold, has_names}
use Rattle.smk_world.specs.Trees.{Path, IsIn, Each}
use Rattle.smk_world.proofs.Folders.{names_above}
use Rattle.smk_world.proofs.Stays.{IsMade, AreMade}

false_true : false ≡ true → ⊥
false_true e = cc

in_map : (b : ℕ) (fs : List Path) (f : Path) → IsIn fs f → IsIn (map (λ q. b ∷ q) fs) (b ∷ f)
in_map b [] f i = absurd i
in_map b (x ∷ fs) f (inl e) = inl (ap (λ q. b ∷ q) e)
in_map b (x ∷ fs) f (inr i) = inr (in_map b fs f i)

-- a folder above the place is one of them
pub above_in : (p f : Path) → is_under p f ≡ true → IsIn (folders_above p) f
above_in [] f h = absurd (false_true h)
above_in (b ∷ text) [] h = first (b == 47) h
  where
    first : (x : Bool) → x ≡ true → IsIn (if x then [] ∷ map (λ q. b ∷ q) (folders_above text) else map (λ q. b ∷ q) (folders_above text)) []
    first true e = inl refl
    first false e = absurd (false_true e)
above_in (b ∷ text) (c ∷ f) h =
    let same : b ≡ c = eqb-true b c (and_first (b == c) (is_under text f) h) in
    later (b == 47) (subst (λ x. IsIn (map (λ q. b ∷ q) (folders_above text)) (x ∷ f)) same (in_map b (folders_above text) f (above_in text f (and_second (b == c) (is_under text f) h))))
  where
    later : (x : Bool) → IsIn (map (λ q. b ∷ q) (folders_above text)) (c ∷ f) → IsIn (if x then [] ∷ map (λ q. b ∷ q) (folders_above text) else map (λ q. b ∷ q) (folders_above text)) (c ∷ f)
    later true i = inr i
    later false i = i

each_of : (P : Path → Type 0) (fs : List Path) (f : Path) → Each P fs → IsIn fs f → P f
each_of P [] f h i = absurd i
each_of P (x ∷ fs) f h (inl e) = subst P (sym e) h.0
each_of P (x ∷ fs) f h (inr i) = each_of P fs f h.1 i

pub held_by : (at : Path → Option Node) (p : Path) → Each (λ f. at f ≡ Some Directory) (folders_above p) → has_names p ≡ true → CanHold at p
held_by at p all named = record { folders = λ f u. each_of (λ f. at f ≡ Some Directory) (folders_above p) f all (above_in p f u); named = named }

pub made_by : (w : World) (p : Path) → Each (IsMade w (λ q. is_under p q)) (folders_above p) → has_names p ≡ true → AreMade w (λ q. is_under p q)
made_by w p all named = record {
  folders = λ q f made none u. each_of (IsMade w (λ q. is_under p q)) (folders_above p) f all (above_in p f (under_further p q f made u));
  named = λ q made none. names_above p q named made;
}
