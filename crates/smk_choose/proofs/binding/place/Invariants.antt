use Rattle.std.proofs.Common.{◌≡◌, ◌++◌, take, drop}
use Rattle.smk_pattern.specs.Reading.{put}
use Rattle.smk_choose.proofs.binding.place.Given as goal

abbrev pub invariant-loop-other : goal.invariant-loop-other
invariant-loop-other l = record {
  count : l.at ≡ l.other-index;
  rest : put l.pair l.pairs ≡ take l.other-index l.pairs ++ put l.pair (drop l.other-index l.pairs);
}
