use Rattle.std.proofs.Common.{◌≡◌, drop}
use Rattle.smk_choose.specs.Decided.{is_deep_enough, first_missing}
use Rattle.smk_choose.proofs.decide.first_missing.Given as goal

abbrev pub invariant-loop-want : goal.invariant-loop-want
invariant-loop-want l = first_missing (is_deep_enough l.heights) l.wants ≡ first_missing (is_deep_enough l.heights) (drop l.want-index l.wants)
