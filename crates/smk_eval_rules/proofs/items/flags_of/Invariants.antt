use Rattle.std.proofs.Common.{◌≡◌, [], drop}
use Rattle.smk_eval_rules.specs.Items.{with_flags}
use Rattle.smk_eval_rules.proofs.items.flags_of.Given as goal

abbrev pub invariant-loop-word : goal.invariant-loop-word
invariant-loop-word l = with_flags l.flags (drop l.word-index l.words) ≡ with_flags [] l.words
