use Rattle.std.proofs.Common.{◌≡◌, length}
use Rattle.smk_pattern.specs.Reading.{is_below}
use Rattle.smk_flow_jobs.proofs.sorted.is_below.Given as goal

abbrev pub invariant-loop-a : goal.invariant-loop-a
invariant-loop-a l = is_below l.fn.a l.fn.b ≡ is_below l.a l.b

abbrev pub decreases-loop-a : goal.decreases-loop-a
decreases-loop-a l = length l.a
