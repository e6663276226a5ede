-- A pattern that was read is filled as its text is.
use Rattle.std.proofs.Common.{◌≡◌, ℕ, List, [], ◌∷◌, ◌++◌, length, map, option_map, refl, ap, ap₂, ◌∙◌}
use Rattle.std.specs.List.{flat_map}
use Rattle.std.proofs.lemmas.Option.{get_or_from_slice_get, slice_get-map}
use Rattle.smk_base.specs.declared.tree.Pair.{Pair}
use Rattle.smk_pattern.specs.Shapes.{Text, IsNumbered}
use Rattle.smk_pattern.specs.Fitting.{filled}
use Rattle.smk_pattern.specs.Filling.{values_of, FillIsFilled}
use Rattle.smk_pattern.specs.Grammar.{Piece, plain, hole}
use Rattle.smk_pattern.specs.Reading.{place_of, part_in, names_in, pieces, value, or_empty, fill_piece}
use Rattle.smk_pattern.specs.Written.{wildcard_in}
use Rattle.smk_pattern.proofs.Names.{numbered_all}
use Rattle.smk_pattern.proofs.Grammatical.{place_found, below_all, later_numbered}

abbrev value_for : List Pair → Text → Text
value_for binding name = or_empty (value binding name)

values_again : (binding given : List Pair) (ps : List Piece) (names : List Text) → values_of binding (map (wildcard_in given ps) names) ≡ map (value_for binding) names
values_again binding given ps [] = refl
values_again binding given ps (name ∷ names) = ap (λ xs. value_for binding name ∷ xs) (values_again binding given ps names)

fill_pieces : (binding : List Pair) (names : List Text) (ps : List Piece) (known : ℕ) → IsNumbered (map (part_in names) ps) known (length names) →
    filled (map (part_in names) ps) (map (value_for binding) names) ≡ flat_map (fill_piece binding) ps
fill_pieces binding names [] known h = refl
fill_pieces binding names (plain t ∷ ps) known h = ap (λ x. t ++ x) (fill_pieces binding names ps known h)
fill_pieces binding names (hole name limit ∷ ps) known h =
    let place = place_of name names in
    let later = later_numbered place (map (part_in names) ps) known (length names) h in
    let at = slice_get-map (value_for binding) names place ∙ ap (option_map (value_for binding)) (place_found name names (below_all place (map (part_in names) ps) known (length names) h)) in
    ap₂ ◌++◌ (get_or_from_slice_get (map (value_for binding) names) place (value_for binding name) [] at) (fill_pieces binding names ps later.0 later.1)

pub fill_is_filled : FillIsFilled
fill_is_filled given source binding =
    ap (filled (map (part_in (names_in (pieces source))) (pieces source))) (values_again binding given (pieces source) (names_in (pieces source)))
    ∙ fill_pieces binding (names_in (pieces source)) (pieces source) 0 (numbered_all (pieces source))
