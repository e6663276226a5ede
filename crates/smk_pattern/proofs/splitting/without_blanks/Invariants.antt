use Rattle.std.proofs.Common.{◌≡◌, ◌≤◌, ◌-◌, length, drop, IsCharBoundary}
use Rattle.smk_pattern.specs.Reading.{trimmed}
use Rattle.smk_pattern.proofs.splitting.without_blanks.Given as goal

abbrev pub invariant-loop-start : goal.invariant-loop-start
invariant-loop-start l = record {
  within : l.start ≤ length l.text;
  boundary : IsCharBoundary l.text l.start;
  rest : trimmed (drop l.start l.text) ≡ trimmed l.text;
}

abbrev pub decreases-loop-start : goal.decreases-loop-start
decreases-loop-start l = length l.text - l.start
