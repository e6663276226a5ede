use Rattle.std.proofs.Common.{◌≡◌, drop}
use Rattle.smk_plan_table.specs.Parts.{may_be_stopped}
use Rattle.smk_plan_table.proofs.doubting.may_be_stopped.Given as goal

abbrev pub invariant-loop-rank : goal.invariant-loop-rank
invariant-loop-rank l = may_be_stopped l.ranks l.suspects ≡ may_be_stopped (drop l.rank-index l.ranks) l.rest
