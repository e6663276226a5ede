-- The names of a pattern, piece by piece.
use Rattle.std.proofs.Common.{◌≡◌, ℕ, ◌+◌, ◌<◌, ◌≤◌, ◌||◌, Bool, true, false, cond, List, [], ◌∷◌, ◌++◌, drop, map, length, get_or, refl, ap, sym, ◌∙◌}
use Rattle.std.specs.Prelude.{Option, Some, None}
use Rattle.std.specs.Str.{bytes_eq}
use Rattle.std.proofs.lemmas.List.{at_drop_more, at_drop_all}
use Rattle.std.proofs.lemmas.List.Folds.{list_any-append}
use Rattle.std.proofs.Math.Bool.{or-false}
use Rattle.smk_eval_values.specs.declared.reading.Piece.{Piece}
use Rattle.smk_eval_values.specs.declared.reading.Piece.TheVariants.{Plain, Name}
use Rattle.smk_eval_values.specs.declared.choices.Choices.{Choices}
use Rattle.smk_eval_values.specs.Letters.{Letter, plain, name, is_name, stands, piece_letters, letters_of}
use Rattle.smk_eval_values.specs.Expanding.{has_values, unknown}

pub stands_plain : (t n : List ℕ) → stands (map plain t) n ≡ false
stands_plain [] n = refl
stands_plain (b ∷ t) n = stands_plain t n

pub stands_name : (m n : List ℕ) → stands (name m ∷ []) n ≡ bytes_eq n m
stands_name m n = or-false (bytes_eq n m)

pub stands_more : (ps : List Piece) (n : List ℕ) (i : ℕ) (d : Piece) → i < length ps
    → stands (letters_of (drop i ps)) n ≡ (stands (piece_letters (get_or ps i d)) n || stands (letters_of (drop (i + 1) ps)) n)
stands_more ps n i d lt =
    at_drop_more (λ (qs : List Piece). stands (letters_of qs) n) ps i d lt
    ∙ list_any-append (is_name n) (piece_letters (get_or ps i d)) (letters_of (drop (i + 1) ps))

pub stands_end : (ps : List Piece) (n : List ℕ) (i : ℕ) → length ps ≤ i → stands (letters_of (drop i ps)) n ≡ false
stands_end ps n i le = at_drop_all (λ (qs : List Piece). stands (letters_of qs) n) ps i le

or_else : Option (List ℕ) → Option (List ℕ) → Option (List ℕ)
or_else None b = b
or_else (Some n) b = Some n

unknown_plain : (choices : List Choices) (t : List ℕ) (ls : List Letter) → unknown choices (map plain t ++ ls) ≡ unknown choices ls
unknown_plain choices [] ls = refl
unknown_plain choices (b ∷ t) ls = unknown_plain choices t ls

named_by : (v : Bool) (n : List ℕ) (later : Option (List ℕ)) → cond v later (Some n) ≡ or_else (cond v None (Some n)) later
unfolding or_else
named_by true n later = refl
named_by false n later = refl

pub plain_alone : (choices : List Choices) (t : List ℕ) → unknown choices (map plain t) ≡ None
plain_alone choices [] = refl
plain_alone choices (b ∷ t) = plain_alone choices t

unknown_piece : (choices : List Choices) (p : Piece) (ls : List Letter) → unknown choices (piece_letters p ++ ls) ≡ or_else (unknown choices (piece_letters p)) (unknown choices ls)
unfolding or_else
unknown_piece choices (Plain t) ls = unknown_plain choices t ls ∙ sym (ap (λ (u : Option (List ℕ)). or_else u (unknown choices ls)) (plain_alone choices t))
unknown_piece choices (Name n) ls = named_by (has_values choices n) n (unknown choices ls)

-- no piece before the place has the first unknown name
pub unknown_later : (choices : List Choices) (ps : List Piece) (i : ℕ) (d : Piece) → i < length ps → None ≡ unknown choices (piece_letters (get_or ps i d))
    → unknown choices (letters_of (drop i ps)) ≡ unknown choices (letters_of (drop (i + 1) ps))
unfolding or_else
unknown_later choices ps i d lt e =
    at_drop_more (λ (qs : List Piece). unknown choices (letters_of qs)) ps i d lt
    ∙ unknown_piece choices (get_or ps i d) (letters_of (drop (i + 1) ps))
    ∙ ap (λ (u : Option (List ℕ)). or_else u (unknown choices (letters_of (drop (i + 1) ps)))) (sym e)

pub unknown_here : (choices : List Choices) (ps : List Piece) (i : ℕ) (d : Piece) (n : List ℕ) → i < length ps → Some n ≡ unknown choices (piece_letters (get_or ps i d))
    → unknown choices (letters_of (drop i ps)) ≡ Some n
unfolding or_else
unknown_here choices ps i d n lt e =
    at_drop_more (λ (qs : List Piece). unknown choices (letters_of qs)) ps i d lt
    ∙ unknown_piece choices (get_or ps i d) (letters_of (drop (i + 1) ps))
    ∙ ap (λ (u : Option (List ℕ)). or_else u (unknown choices (letters_of (drop (i + 1) ps)))) (sym e)

pub unknown_end : (ps : List Piece) (choices : List Choices) (i : ℕ) → length ps ≤ i → unknown choices (letters_of (drop i ps)) ≡ None
unknown_end ps choices i le = at_drop_all (λ (qs : List Piece). unknown choices (letters_of qs)) ps i le
