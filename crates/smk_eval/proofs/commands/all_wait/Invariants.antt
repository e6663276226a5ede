use Rattle.std.proofs.Common.{◌≡◌, drop}
use Rattle.smk_eval.specs.Waiting.{all_wait}
use Rattle.smk_eval.proofs.commands.all_wait.Given as goal

abbrev pub invariant-loop-part : goal.invariant-loop-part
invariant-loop-part l = all_wait (drop l.part-index l.parts) ≡ all_wait l.parts
