-- How a pattern is filled, piece by piece.
use Rattle.std.proofs.Common.{◌≡◌, ℕ, ◌+◌, ◌<◌, List, [], ◌∷◌, ◌++◌, take, map, length, get_or, refl, ap, ◌∙◌, append-nil}
use Rattle.std.proofs.lemmas.Grind.{flat_map-append}
use Rattle.std.proofs.lemmas.List.{take_more}
use Rattle.smk_base.specs.declared.tree.Pair.{Pair}
use Rattle.smk_eval_values.specs.declared.reading.Piece.{Piece}
use Rattle.smk_eval_values.specs.Letters.{plain, name, letter_text, filled, piece_letters, letters_of}
use Rattle.smk_eval_values.proofs.Read.{letters_push}

pub filled_plain : (bound : List Pair) (t : List ℕ) → filled bound (map plain t) ≡ t
filled_plain bound [] = refl
filled_plain bound (b ∷ t) = ap (λ (x : List ℕ). b ∷ x) (filled_plain bound t)

pub filled_name : (bound : List Pair) (n : List ℕ) → filled bound (name n ∷ []) ≡ letter_text bound (name n)
filled_name bound n = append-nil (letter_text bound (name n))

pub letters_more : (ps : List Piece) (i : ℕ) (d : Piece) → i < length ps → letters_of (take (i + 1) ps) ≡ letters_of (take i ps) ++ piece_letters (get_or ps i d)
letters_more ps i d lt = ap letters_of (take_more ps i d lt) ∙ letters_push (take i ps) (get_or ps i d)

pub filled_more : (bound : List Pair) (ps : List Piece) (i : ℕ) (d : Piece) → i < length ps
    → filled bound (letters_of (take (i + 1) ps)) ≡ filled bound (letters_of (take i ps)) ++ filled bound (piece_letters (get_or ps i d))
filled_more bound ps i d lt =
    ap (filled bound) (letters_more ps i d lt) ∙ flat_map-append (letter_text bound) (letters_of (take i ps)) (piece_letters (get_or ps i d))
