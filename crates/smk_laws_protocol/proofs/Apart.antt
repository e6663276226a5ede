-- Lists of paths that are apart, and jobs that are.
use Rattle.std.proofs.Common.{◌≡◌, Bool, true, false, List, [], ◌∷◌, sym, subst, inl, inr, arith, ◌∙◌}
use Rattle.std.specs.Prelude.{◌&&◌, not}
use Rattle.std.specs.List.{list_any}
use Rattle.smk_world.specs.Trees.{Path, IsIn}
use Rattle.smk_base.specs.Path.{overlaps}
use Rattle.smk_world.specs.Calls.{any_overlap, are_apart}
use Rattle.smk_laws_protocol.proofs.Basics.{none_of, none_by, clash}
use Rattle.smk_laws_protocol.proofs.Texts.{OverlapLaws}

not_left : (a b : Bool) → (not a && b) ≡ true → a ≡ false
not_left a b h = grind arith

and_right : (a b : Bool) → (not a && b) ≡ true → b ≡ true
and_right a b h = grind arith

-- two that overlap are one
pub apart_same : (laws : OverlapLaws) (ps : List Path) (p q : Path) → are_apart ps ≡ true → IsIn ps p → IsIn ps q → overlaps p q ≡ true → p ≡ q
apart_same laws [] p q h i k over = absurd i
apart_same laws (x ∷ ps) p q h (inl a) (inl b) over = a ∙ sym b
apart_same laws (x ∷ ps) p q h (inl a) (inr k) over =
    clash (overlaps x q) (subst (λ y. overlaps y q ≡ true) a over) (none_of (overlaps x) ps q (not_left (list_any (overlaps x) ps) (are_apart ps) h) k)
apart_same laws (x ∷ ps) p q h (inr i) (inl b) over =
    clash (overlaps x p) (laws.swap x p ∙ subst (λ y. overlaps p y ≡ true) b over) (none_of (overlaps x) ps p (not_left (list_any (overlaps x) ps) (are_apart ps) h) i)
apart_same laws (x ∷ ps) p q h (inr i) (inr k) over = apart_same laws ps p q (and_right (list_any (overlaps x) ps) (are_apart ps) h) i k over

-- any of the ones overlaps any of the others
pub free_of : (ps qs : List Path) (p : Path) → any_overlap ps qs ≡ false → IsIn ps p → list_any (overlaps p) qs ≡ false
free_of ps qs p h i = none_of (λ x. list_any (overlaps x) qs) ps p h i

pub free_to : (laws : OverlapLaws) (ps qs : List Path) (q : Path) → any_overlap ps qs ≡ false → IsIn qs q → list_any (overlaps q) ps ≡ false
free_to laws ps qs q h i = none_by (overlaps q) ps (λ p k. laws.swap q p ∙ none_of (overlaps p) qs q (free_of ps qs p h k) i)

pub any_swap : (laws : OverlapLaws) (ps qs : List Path) → any_overlap ps qs ≡ false → any_overlap qs ps ≡ false
any_swap laws ps qs h = none_by (λ q. list_any (overlaps q) ps) qs (λ q i. free_to laws ps qs q h i)
