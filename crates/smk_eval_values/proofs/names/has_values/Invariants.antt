use Rattle.std.proofs.Common.{◌≡◌, drop}
use Rattle.smk_eval_values.specs.Expanding.{has_values}
use Rattle.smk_eval_values.proofs.names.has_values.Given as goal

abbrev pub invariant-loop-choice : goal.invariant-loop-choice
invariant-loop-choice l = has_values (drop l.choice-index l.choices) l.name ≡ has_values l.choices l.name
