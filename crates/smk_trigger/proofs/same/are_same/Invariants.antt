use Rattle.std.proofs.Common.{◌≡◌, drop}
use Rattle.std.specs.Cmp.Lexicographic.{pointwise}
use Rattle.smk_trigger.proofs.same.are_same.Given as goal

abbrev pub invariant-loop-this : goal.invariant-loop-this
invariant-loop-this g l = pointwise g.T.Same.alike l.these l.others ≡ pointwise g.T.Same.alike (drop l.this-index l.these) l.rest
