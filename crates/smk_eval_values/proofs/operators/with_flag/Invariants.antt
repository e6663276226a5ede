use Rattle.std.proofs.Common.{◌≡◌, ◌∷◌, take}
use Rattle.smk_eval_values.proofs.operators.with_flag.Given as goal

abbrev pub invariant-loop-word : goal.invariant-loop-word
invariant-loop-word l = l.words ≡ l.flag ∷ take l.word-index l.word-items
