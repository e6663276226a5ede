use Rattle.std.proofs.Common.{◌≡◌, ◌++◌, map}
use Rattle.std.specs.List.{range_with_len}
use Rattle.smk_eval_values.specs.Letters.{letters_of, filled}
use Rattle.smk_eval_values.specs.Expanding.{row}
use Rattle.smk_eval_values.proofs.pairing.pair.Given as goal

abbrev pub invariant-loop-place : goal.invariant-loop-place
invariant-loop-place l = l.texts ≡ l.initial.texts ++ map (λ i. filled (row i l.choices) (letters_of l.pieces)) (range_with_len 0 l.place)
