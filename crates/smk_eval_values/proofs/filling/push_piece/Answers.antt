use Rattle.std.proofs.Common.{◌≡◌, ◌++◌, List, ℕ, string_bytes, ap, sym, subst, ◌∙◌}
use Rattle.std.specs.Prelude.{OnOk}
use Rattle.smk_eval_values.specs.declared.reading.Piece.{Piece}
use Rattle.smk_eval_values.specs.Letters.{filled, piece_letters}
use Rattle.smk_eval_values.proofs.Fill.{filled_plain}
use Rattle.smk_eval_values.proofs.filling.push_piece.Goals as goal

pub returns-in-Plain : goal.returns-in-Plain
returns-in-Plain c =
    let bound = c.args.bound.now in
    subst (λ (t : List ℕ). OnOk c.push_plain.result (string_bytes c.push_plain.new.text ≡ string_bytes c.args.text.now ++ t))
    (c.as_str.ensures ∙ sym (ap (λ (p : Piece). filled bound (piece_letters p)) c.in-Plain.is ∙ filled_plain bound c.in-Plain.plain))
    c.push_plain.ensures
