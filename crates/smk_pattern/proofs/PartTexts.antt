-- Parts whose texts are UTF-8, one after another.
use Rattle.std.proofs.Common.{◌≡◌, List, [], ◌∷◌, ◌++◌, sym, ap, subst, ◌∙◌}
use Rattle.std.proofs.lemmas.List.{map_push}
use Rattle.smk_pattern.specs.declared.pattern.Piece.{Piece}
use Rattle.smk_pattern.specs.Shapes.{Part, AreTexts}
use Rattle.smk_pattern.specs.Shapes.Part.{text, wild}
use Rattle.smk_pattern.specs.Pieces.{part_of, parts_of}

texts_more : (ps : List Part) (p : Part) → AreTexts ps → AreTexts (p ∷ []) → AreTexts (ps ++ p ∷ [])
texts_more [] p h one = one
texts_more (text t ∷ ps) p h one = (h.0, texts_more ps p h.1 one)
texts_more (wild n ∷ ps) p h one = texts_more ps p h one

pub texts_push : (old new : List Piece) (p : Piece) → new ≡ old ++ p ∷ [] → AreTexts (parts_of old) → AreTexts (part_of p ∷ []) → AreTexts (parts_of new)
texts_push old new p e h one = subst AreTexts (sym (ap parts_of e ∙ map_push part_of old p)) (texts_more (parts_of old) (part_of p) h one)
