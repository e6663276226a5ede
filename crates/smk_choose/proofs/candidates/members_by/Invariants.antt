use Rattle.std.proofs.Common.{◌≡◌, take}
use Rattle.std.specs.List.{flat_map}
use Rattle.smk_choose.specs.Readings.{by_folders}
use Rattle.smk_choose.specs.Index.{directories_at}
use Rattle.smk_choose.proofs.candidates.members_by.Given as goal

abbrev pub invariant-loop-number : goal.invariant-loop-number
invariant-loop-number l = l.found.items ≡ flat_map (λ n. by_folders n (directories_at l.readings n) l.folders) (take l.number-index l.numbers)
