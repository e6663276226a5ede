use Rattle.std.proofs.Common.{◌≡◌, List, ℕ, take}
use Rattle.smk_pattern.specs.Grammar.{given_limit}
use Rattle.smk_pattern.specs.ByName.{text_at}
use Rattle.smk_pattern.proofs.by_name.values_by_name.Given as goal

abbrev pub invariant-loop-pair : goal.invariant-loop-pair
invariant-loop-pair l = (q : List ℕ) → text_at l.texts q ≡ given_limit q (take l.pair-index l.binding)
