use Rattle.std.proofs.Common.{◌≡◌, drop}
use Rattle.smk_choose.specs.Choose.{has_before}
use Rattle.smk_choose.proofs.Preferred.{before_from}
use Rattle.smk_choose.proofs.precedence.has_before.Given as goal

abbrev pub invariant-loop-name : goal.invariant-loop-name
invariant-loop-name l = has_before l.a l.b l.names ≡ before_from l.a l.b l.seen (drop l.name-index l.names)
