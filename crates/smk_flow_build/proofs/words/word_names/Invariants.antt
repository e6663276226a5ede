use Rattle.std.proofs.Common.{◌≡◌, ◌<◌, ◌+◌, ◌++◌, ℕ, Some, drop, IsCharBoundary}
use Rattle.smk_pattern.specs.Searching.{now_of}
use Rattle.smk_flow.specs.Begun.{begun_of}
use Rattle.smk_flow.specs.Checks.{names_after, word_names}
use Rattle.smk_flow_build.proofs.words.word_names.Given as goal

abbrev pub invariant-loop-at : goal.invariant-loop-at
invariant-loop-at l = record {
  names : now_of l.names.items ++ names_after (drop l.at l.text) (begun_of l.text l.at l.brace) ≡ word_names l.text;
  brace : (s : ℕ) → l.brace ≡ Some s → (s < l.at) × IsCharBoundary l.text (s + 1);
}
