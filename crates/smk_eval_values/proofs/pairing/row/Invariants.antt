use Rattle.std.proofs.Common.{◌≡◌, take}
use Rattle.smk_eval_values.specs.Expanding.{row}
use Rattle.smk_eval_values.proofs.pairing.row.Given as goal

abbrev pub invariant-loop-choice : goal.invariant-loop-choice
invariant-loop-choice l = l.bound ≡ row l.place (take l.choice-index l.choices)
