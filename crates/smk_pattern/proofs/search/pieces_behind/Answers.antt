use Rattle.std.proofs.Common.{◌≡◌, ◌+◌, [], ◌∷◌, ◌++◌, length, refl, sym, ap, ◌∙◌, append_assoc, append-nil}
use Rattle.std.proofs.lemmas.List.{nil_from_length}
use Rattle.smk_pattern.specs.Pieces.{parts_of, part_of}
use Rattle.smk_pattern.proofs.Behind.{noted_more, noted_all}
use Rattle.smk_pattern.proofs.search.pieces_behind.Goals as goal

pub places-init : goal.places-init
places-init c = ([], refl, tt)

pub places-preserved : goal.places-preserved
places-preserved c =
    let (front, whole, noted) = c.places.invariant in
    let p = c.in-Some.ensures.cases in
    let piece = part_of c.in-Some.piece.now in
    let later = parts_of c.in-Some.later.now in (
      front ++ piece ∷ [],
      whole ∙ ap (λ qs. front ++ parts_of qs) p.0 ∙ sym (append_assoc front (piece ∷ []) later),
      rw c.note_place.ensures (noted_more c.places.behind.items front piece (length c.in-Some.later.now) (rw p.0 at noted)),
    )

pub returns : goal.returns
returns c =
    let (front, whole, noted) = c.places.invariant in
    let nil = nil_from_length c.places.ahead.now c.in_default.ensures.cases in
    let all = whole ∙ ap (λ qs. front ++ parts_of qs) nil ∙ append-nil front in
    rw all (noted_all c.places.behind.items front (rw nil at noted))
