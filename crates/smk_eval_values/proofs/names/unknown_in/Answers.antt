use Rattle.std.proofs.Common.{ap, sym, ◌∙◌}
use Rattle.smk_eval_values.specs.declared.reading.Piece.{Piece}
use Rattle.smk_eval_values.specs.Letters.{piece_letters}
use Rattle.smk_eval_values.specs.Expanding.{unknown}
use Rattle.smk_eval_values.proofs.Standing.{plain_alone}
use Rattle.smk_eval_values.proofs.names.unknown_in.Goals as goal

pub returns-in-Plain : goal.returns-in-Plain
returns-in-Plain c =
    let choices = c.args.choices.now in
    sym (ap (λ (p : Piece). unknown choices (piece_letters p)) c.in-Plain.is ∙ plain_alone choices c.in-Plain.field-0)
