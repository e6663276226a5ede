use Rattle.std.proofs.Common.{◌≡◌, drop}
use Rattle.serde_json.specs.View.{view}
use Rattle.smk_config.specs.Settings.{under}
use Rattle.smk_config.proofs.config.within.Given as goal

abbrev pub invariant-loop-key : goal.invariant-loop-key
invariant-loop-key l = under l.keys (view l.value) ≡ under (drop l.key-index l.keys) (view l.inner)
