use Rattle.std.proofs.Common.{◌≡◌, arith, rules}
use Rattle.smk_core.proofs.Gets.{has_more}
use Rattle.smk_core.proofs.jobs.numbers.Goals as goal

pub loop-number-preserved : goal.loop-number-preserved
loop-number-preserved c =
    let same : c.in-Ok.number ≡ c.loop-number.number = first_of (omega (arith, c.in-Ok.ensures), search rules, grind arith) in
    has_more c.loop-number.made c.push.new.self c.in-Ok.number c.loop-number.number same c.loop-number.invariant c.in_ok-push.ensures.ok
