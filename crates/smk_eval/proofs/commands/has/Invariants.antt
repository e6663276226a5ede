use Rattle.std.proofs.Common.{◌≡◌, length}
use Rattle.smk_eval.specs.Waiting.{has}
use Rattle.smk_eval.proofs.commands.has.Given as goal

abbrev pub invariant-loop-rest : goal.invariant-loop-rest
invariant-loop-rest l = has l.word l.rest ≡ has l.word l.text

abbrev pub decreases-loop-rest : goal.decreases-loop-rest
decreases-loop-rest l = length l.rest
