use Rattle.std.proofs.Common.{◌≡◌, drop}
use Rattle.smk_eval_values.specs.Letters.{letters_of}
use Rattle.smk_eval_values.specs.Expanding.{has_each}
use Rattle.smk_eval_values.proofs.pairing.has_each.Given as goal

abbrev pub invariant-loop-choice : goal.invariant-loop-choice
invariant-loop-choice l = has_each l.count (letters_of l.pieces) (drop l.choice-index l.choices) ≡ has_each l.count (letters_of l.pieces) l.choices
