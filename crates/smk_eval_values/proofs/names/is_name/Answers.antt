use Rattle.std.proofs.Common.{ap, sym, ◌∙◌}
use Rattle.smk_eval_values.specs.declared.reading.Piece.{Piece}
use Rattle.smk_eval_values.specs.Letters.{stands, piece_letters}
use Rattle.smk_eval_values.proofs.Standing.{stands_plain}
use Rattle.smk_eval_values.proofs.names.is_name.Goals as goal

pub returns-in-Plain : goal.returns-in-Plain
returns-in-Plain c =
    let name = c.args.name.now in
    sym (ap (λ (p : Piece). stands (piece_letters p) name) c.in-Plain.is ∙ stands_plain c.in-Plain.field-0 name)
