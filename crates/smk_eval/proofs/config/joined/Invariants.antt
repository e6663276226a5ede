use Rattle.std.proofs.Common.{◌≡◌, ◌++◌, drop}
use Rattle.std.specs.Prelude.{string_bytes}
use Rattle.smk_eval.specs.Settings.{more_keys, joined}
use Rattle.smk_eval.proofs.config.joined.Given as goal

abbrev pub invariant-loop-key : goal.invariant-loop-key
invariant-loop-key l = string_bytes l.text ++ more_keys (drop l.key-index l.later) ≡ joined l.keys
