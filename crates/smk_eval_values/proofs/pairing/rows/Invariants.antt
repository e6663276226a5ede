use Rattle.std.proofs.Common.{◌≡◌, drop}
use Rattle.smk_eval_values.specs.Letters.{letters_of}
use Rattle.smk_eval_values.specs.Expanding.{rows}
use Rattle.smk_eval_values.proofs.pairing.rows.Given as goal

abbrev pub invariant-loop-choice : goal.invariant-loop-choice
invariant-loop-choice l = rows (letters_of l.pieces) (drop l.choice-index l.choices) ≡ rows (letters_of l.pieces) l.choices
