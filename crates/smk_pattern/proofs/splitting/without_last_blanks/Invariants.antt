use Rattle.std.proofs.Common.{◌≡◌, ◌≤◌, length, take, reverse, IsCharBoundary}
use Rattle.smk_pattern.specs.Reading.{trimmed}
use Rattle.smk_pattern.proofs.splitting.without_last_blanks.Given as goal

abbrev pub invariant-loop-end : goal.invariant-loop-end
invariant-loop-end l = record {
  within : l.end ≤ length l.text;
  boundary : IsCharBoundary l.text l.end;
  rest : trimmed (reverse (take l.end l.text)) ≡ trimmed (reverse l.text);
}

abbrev pub decreases-loop-end : goal.decreases-loop-end
decreases-loop-end l = l.end
