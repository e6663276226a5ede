use Rattle.std.proofs.Common.{◌≡◌, drop}
use Rattle.smk_plan_table.specs.Parts.{may_be_marked}
use Rattle.smk_plan_table.proofs.doubting.may_be_marked.Given as goal

abbrev pub invariant-loop-kept : goal.invariant-loop-kept
invariant-loop-kept l = may_be_marked l.running l.suspects ≡ may_be_marked (drop l.kept-index l.running) l.rest
