-- Patterns with values, piece by piece.
use Rattle.std.proofs.Common.{◌≡◌, ℕ, ◌+◌, ◌<◌, List, [], ◌∷◌, ◌++◌, length, take, get_or, sym, ap, ◌∙◌, append-nil, append_assoc}
use Rattle.std.proofs.lemmas.List.{map_more}
use Rattle.smk_pattern.specs.declared.pattern.Piece.{Piece}
use Rattle.smk_pattern.specs.Shapes.{Text, Part}
use Rattle.smk_pattern.specs.Fitting.{filled, part_text}
use Rattle.smk_pattern.specs.Pieces.{part_of, parts_of}

filled_push : (ps : List Part) (p : Part) (values : List Text) → filled (ps ++ p ∷ []) values ≡ filled ps values ++ part_text values p
filled_push [] p values = append-nil (part_text values p)
filled_push (q ∷ ps) p values = ap (λ t. part_text values q ++ t) (filled_push ps p values) ∙ sym (append_assoc (part_text values q) (filled ps values) (part_text values p))

pub filled_more : (pieces : List Piece) (i : ℕ) (values : List Text) (d : Piece) → i < length pieces →
    filled (parts_of (take (i + 1) pieces)) values ≡ filled (parts_of (take i pieces)) values ++ part_text values (part_of (get_or pieces i d))
filled_more pieces i values d lt =
    ap (λ ps. filled ps values) (map_more part_of pieces i d lt) ∙ filled_push (parts_of (take i pieces)) (part_of (get_or pieces i d)) values
