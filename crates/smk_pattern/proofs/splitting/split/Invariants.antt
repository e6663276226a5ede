use Rattle.std.proofs.Common.{◌≡◌}
use Rattle.smk_pattern.specs.Splitting.{HasRead}
use Rattle.smk_pattern.proofs.splitting.split.Given as goal

abbrev pub invariant-loop-at : goal.invariant-loop-at
invariant-loop-at l = record {
  read : HasRead l.splitter l.at;
  text : l.splitter.text.now ≡ l.text;
}
