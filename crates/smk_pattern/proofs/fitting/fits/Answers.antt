use Rattle.std.proofs.Common.{◌≡◌, ◌==◌, ℕ, [], None, true, refl, arith, List, length, Option, IfOk, MatchOption, option_map, sym, subst, ◌∙◌, IsUtf8}
use Rattle.std.proofs.lemmas.Bool.Decides.{nat_tests}
use Rattle.std.proofs.lemmas.List.{length-map, nil_from_length}
use Rattle.std.proofs.lemmas.Result.{IfOk-weaker}
use Rattle.smk_base.specs.declared.tree.Pair.{Pair}
use Rattle.smk_pattern.specs.declared.pattern.Piece.{Piece}
use Rattle.smk_pattern.specs.declared.pattern.Wildcard as code
use Rattle.smk_pattern.specs.Shapes.{Text, IsNumbered}
use Rattle.smk_pattern.specs.Fitting.{Fits, bound_pairs}
use Rattle.smk_pattern.specs.Binding.{IsBindingOf}
use Rattle.smk_pattern.specs.Bound.{bound}
use Rattle.smk_pattern.specs.Pieces.{parts_of, wildcard_of, wildcards_of, pattern_of, IsWellFormed}
use Rattle.smk_pattern.proofs.BoundBy.{bound_by}
use Rattle.smk_pattern.proofs.fitting.fits.Goals as goal

-- none
no_items : (ws : List code.Wildcard) → (length ws == 0) ≡ true → ws ≡ []
no_items ws e = nil_from_length ws (grind (arith, nat_tests))

-- what is found is what is computed
bound_of : (pieces : List Piece) (wildcards : List code.Wildcard) (path : Text) (found : Option (List Pair)) → IsWellFormed pieces wildcards → IsUtf8 path →
    MatchOption found ((values : List Text) → Fits (pattern_of pieces wildcards) path values → ⊥) (λ b. IsBindingOf (pattern_of pieces wildcards) path b) →
    found ≡ option_map (bound_pairs (wildcards_of wildcards)) (bound (pattern_of pieces wildcards) path)
bound_of pieces wildcards path found w utf8 m =
    bound_by (pattern_of pieces wildcards) path found (subst (λ (n : ℕ). IsNumbered (parts_of pieces) 0 n) (sym (length-map wildcards wildcard_of)) w.numbered) w.texts utf8 m

pub fits_search-requires : goal.fits_search-requires
fits_search-requires c = rw (c.as_slice-pieces.ensures, c.as_slice-wildcards.ensures) c.pattern.invariant.numbered

pub returns-then-is_empty-clause-bound : goal.returns-then-is_empty-clause-bound
returns-then-is_empty-clause-bound c =
    let none : c.pattern.inside.wildcards ≡ [] = sym c.as_slice-wildcards.ensures ∙ no_items c.as_slice-wildcards.result.now (sym c.is_empty.ensures ∙ c.if-is_empty.true) in
    rw (← c.pattern.view_is, ← c.as_str-path.ensures.text)
    (bound_of c.pattern.inside.pieces c.pattern.inside.wildcards c.as_str-path.result.now c.fits_text.result c.pattern.invariant c.as_str-path.utf8
    (rw (none, ← c.as_slice-pieces.ensures) c.fits_text.ensures))

pub returns-then-not-may_fit-clause-bound : goal.returns-then-not-may_fit-clause-bound
returns-then-not-may_fit-clause-bound c =
    rw (← c.pattern.view_is, ← c.as_str-path.ensures.text)
    (bound_of c.pattern.inside.pieces c.pattern.inside.wildcards c.as_str-path.result.now None c.pattern.invariant c.as_str-path.utf8
    (rw (← c.as_slice-pieces.ensures, ← c.as_slice-wildcards.ensures) (c.if-not-may_fit.ensures refl)))

pub returns-clause-bound : goal.returns-clause-bound
returns-clause-bound c =
    rw (← c.pattern.view_is, ← c.as_str-path.ensures.text)
    (IfOk-weaker c.fits_search.result _ _
    (λ found m. bound_of c.pattern.inside.pieces c.pattern.inside.wildcards c.as_str-path.result.now found c.pattern.invariant c.as_str-path.utf8
    (rw (← c.as_slice-pieces.ensures, ← c.as_slice-wildcards.ensures) m))
    c.fits_search.ensures)
