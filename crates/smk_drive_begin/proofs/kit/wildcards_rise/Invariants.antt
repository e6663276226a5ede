use Rattle.std.proofs.Common.{◌≡◌, map, length}
use Rattle.smk_record.specs.Records.{are_rising}
use Rattle.smk_drive_begin.proofs.kit.wildcards_rise.Given as goal

abbrev pub invariant-loop-rest : goal.invariant-loop-rest
invariant-loop-rest l = are_rising (map (λ w. w.name) l.rest) ≡ are_rising (map (λ w. w.name) l.wildcards)

abbrev pub decreases-loop-rest : goal.decreases-loop-rest
decreases-loop-rest l = length l.rest
