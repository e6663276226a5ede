use Rattle.std.proofs.Common.{◌≡◌, take}
use Rattle.std.specs.List.{flat_map}
use Rattle.smk_choose.specs.Readings.{by_folder}
use Rattle.smk_choose.specs.Index.{outputs_at}
use Rattle.smk_choose.proofs.candidates.outputs_by.Given as goal

abbrev pub invariant-loop-number : goal.invariant-loop-number
invariant-loop-number l = l.found.items ≡ flat_map (λ n. by_folder n (outputs_at l.rules n) l.path) (take l.number-index l.numbers)
