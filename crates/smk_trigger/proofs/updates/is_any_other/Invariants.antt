use Rattle.std.proofs.Common.{◌≡◌, not, drop}
use Rattle.std.specs.List.{list_any}
use Rattle.smk_record.specs.Records.{agree}
use Rattle.smk_trigger.proofs.updates.is_any_other.Given as goal

abbrev pub invariant-loop-stamp : goal.invariant-loop-stamp
invariant-loop-stamp l = list_any (λ s. not (agree s l.now)) (drop l.stamp-index l.stamps) ≡ list_any (λ s. not (agree s l.now)) l.stamps
