use Rattle.std.proofs.Common.{◌≡◌, ◌+◌, drop}
use Rattle.smk_laws_turns.specs.Moving.{number_like}
use Rattle.smk_drive_close.proofs.numbering.number_like.Given as goal

abbrev pub invariant-loop-number : goal.invariant-loop-number
invariant-loop-number l = number_like l.jobs l.job ≡ l.number + number_like (drop l.number l.jobs) l.job
