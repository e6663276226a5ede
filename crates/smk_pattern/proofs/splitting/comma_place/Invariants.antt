use Rattle.std.proofs.Common.{◌≡◌, ◌≤◌, ◌++◌, ◌-◌, length, take, drop}
use Rattle.smk_pattern.specs.Reading.{before_comma, after_comma}
use Rattle.smk_pattern.proofs.splitting.comma_place.Given as goal

abbrev pub invariant-loop-at : goal.invariant-loop-at
invariant-loop-at l = record {
  within : l.at ≤ length l.bytes;
  before : before_comma l.bytes ≡ take l.at l.bytes ++ before_comma (drop l.at l.bytes);
  after : after_comma l.bytes ≡ after_comma (drop l.at l.bytes);
}

abbrev pub decreases-loop-at : goal.decreases-loop-at
decreases-loop-at l = length l.bytes - l.at
