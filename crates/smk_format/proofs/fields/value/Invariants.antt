use Rattle.std.proofs.Common.{◌≡◌, drop}
use Rattle.smk_format.specs.Fields.{value_in}
use Rattle.smk_format.proofs.fields.value.Given as goal

abbrev pub invariant-loop-pair : goal.invariant-loop-pair
invariant-loop-pair l = value_in l.pairs l.name ≡ value_in (drop l.pair-index l.pairs) l.name
