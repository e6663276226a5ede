-- Patterns that end with a text.
use Rattle.std.proofs.Common.{◌≡◌, List, [], ◌∷◌, ◌++◌, Option, None, Some, is_some, Bool, false, Bor, MatchOption, sym, ap, ◌∙◌, append-nil, append_assoc, true≢false}
use Rattle.std.proofs.lemmas.List.{map_push}
use Rattle.smk_pattern.specs.declared.pattern.Piece.{Piece}
use Rattle.smk_pattern.specs.declared.pattern.Piece.TheVariants.{Literal}
use Rattle.smk_pattern.specs.Shapes.{Text, Part}
use Rattle.smk_pattern.specs.Shapes.Part.{text}
use Rattle.smk_pattern.specs.Fitting.{filled, part_text}
use Rattle.smk_pattern.specs.Pieces.{part_of, parts_of}

filled_text : (ps : List Part) (t : Text) (values : List Text) → filled (ps ++ text t ∷ []) values ≡ filled ps values ++ t
filled_text [] t values = append-nil t
filled_text (q ∷ ps) t values = ap (λ x. part_text values q ++ x) (filled_text ps t values) ∙ sym (append_assoc (part_text values q) (filled ps values) t)

pub ends_with : (pieces front : List Piece) (last : Piece) (t path : Text) (values : List Text) → pieces ≡ front ++ last ∷ [] → last ≡ Literal t →
    filled (parts_of pieces) values ≡ path → path ≡ filled (parts_of front) values ++ t
ends_with pieces front last t path values e f h =
    sym h ∙ ap (λ ps. filled (parts_of ps) values) e ∙ ap (λ ps. filled ps values) (map_push part_of front last)
    ∙ ap (λ p. filled (parts_of front ++ part_of p ∷ []) values) f ∙ filled_text (parts_of front) t values

pub no_end : (o : Option (Bor Text)) (some : Bool) (path t : Text) → some ≡ is_some o →
    MatchOption o ((before : Text) → path ≡ before ++ t → ⊥) (λ before. path ≡ before.now ++ t) → some ≡ false → (before : Text) → path ≡ before ++ t → ⊥
no_end None some path t e m f = m
no_end (Some x) some path t e m f = absurd (true≢false (sym e ∙ f))
