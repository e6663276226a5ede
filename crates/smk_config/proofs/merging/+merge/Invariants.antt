use Rattle.std.proofs.Common.{◌≡◌, ◌++◌}
use Rattle.serde_json.specs.View.{members_view}
use Rattle.smk_config.specs.Settings.{over}
use Rattle.smk_config.proofs.merging.+merge.Given as goal

abbrev pub invariant-merged-loop-key : goal.invariant-merged-loop-key
invariant-merged-loop-key l = over (members_view l.later.entries) (members_view l.fn.earlier.entries) ≡ over (members_view l.key-iterator) (members_view l.made.entries)
