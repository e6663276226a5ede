-- Whether a text is written as a pattern, by its parts.
use Rattle.std.proofs.Common.{◌≡◌, ℕ, ◌<◌, ◌&&◌, ◌||◌, List, length, false, sym, ap, subst, ◌∙◌, nat_le, arith}
use Rattle.std.proofs.lemmas.Bool.Decides.{nat_tests}
use Rattle.std.specs.List.{list_all, list_any}
use Rattle.std.proofs.Math.Bool.{and-false}
use Rattle.smk_base.specs.Path.{is_path}
use Rattle.smk_pattern.specs.Shapes.{Text}
use Rattle.smk_pattern.specs.Grammar.{Piece, is_balanced}
use Rattle.smk_pattern.specs.Reading.{pieces, names_in, is_hole}
use Rattle.smk_pattern.specs.Written.{is_named, is_single, are_written, is_written}

none : (n : ℕ) → n ≡ 0 → nat_le 1 n ≡ false
none n e = grind (arith, nat_tests)

not_written : (text : Text) → are_written (pieces text) ≡ false → is_written text ≡ false
not_written text e =
    ap (λ b. is_balanced 0 text && (b && (list_any is_hole (pieces text) || is_path text))) e ∙ and-false (is_balanced 0 text)

pub too_few : (text : Text) (ps : List Piece) → ps ≡ pieces text → length ps ≡ 0 → is_written text ≡ false
too_few text ps e n =
    let named = list_all is_named (pieces text) in
    let single = list_all (is_single (pieces text)) (names_in (pieces text)) in
    not_written text
    (ap (λ b. named && (single && b)) (none (length (pieces text)) (sym (ap length e) ∙ n)) ∙ ap (λ b. named && b) (and-false single) ∙ and-false named)

pub too_many_limits : (text : Text) (ps : List Piece) → ps ≡ pieces text → list_all (is_single ps) (names_in ps) ≡ false → is_written text ≡ false
too_many_limits text ps e f =
    let named = list_all is_named (pieces text) in
    let some = nat_le 1 (length (pieces text)) in
    let single : list_all (is_single (pieces text)) (names_in (pieces text)) ≡ false = subst (λ (qs : List Piece). list_all (is_single qs) (names_in qs) ≡ false) e f in
    not_written text (ap (λ b. named && (b && some)) single ∙ and-false named)
