use Rattle.std.proofs.Common.{◌≡◌, drop}
use Rattle.smk_format.specs.Fields.{count_in}
use Rattle.smk_format.proofs.fields.count.Given as goal

abbrev pub invariant-loop-amount : goal.invariant-loop-amount
invariant-loop-amount l = count_in l.amounts l.name ≡ count_in (drop l.amount-index l.amounts) l.name
