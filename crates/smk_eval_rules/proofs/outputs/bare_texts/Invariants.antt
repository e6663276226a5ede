use Rattle.std.proofs.Common.{◌≡◌, take, map}
use Rattle.smk_pattern.specs.Bare.{without_limits}
use Rattle.smk_pattern.specs.Searching.{now_of}
use Rattle.smk_eval_rules.proofs.outputs.bare_texts.Given as goal

abbrev pub invariant-loop-text : goal.invariant-loop-text
invariant-loop-text l = l.made ≡ map without_limits (now_of (take l.text-index l.texts))
