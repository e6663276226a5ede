use Rattle.std.proofs.Common.{◌≡◌, ◌≤◌, [], drop, length}
use Rattle.smk_eval_values.specs.Expanding.{expanded}
use Rattle.smk_eval_values.proofs.expanding.expand.Given as goal

abbrev pub invariant-loop-pattern : goal.invariant-loop-pattern
invariant-loop-pattern l = record {
  so_far : expanded l.zip l.allow_missing l.choices l.made (drop l.pattern-index l.patterns) ≡ expanded l.zip l.allow_missing l.choices [] l.patterns;
  few : length l.made ≤ 100_000;
}
