use Rattle.std.proofs.Common.{◌≡◌, drop}
use Rattle.std.specs.List.{list_any}
use Rattle.smk_trigger.specs.Reasons.{is_unreadable}
use Rattle.smk_trigger.proofs.kept.has_unreadable.Given as goal

abbrev pub invariant-loop-one : goal.invariant-loop-one
invariant-loop-one l = list_any is_unreadable l.kept ≡ list_any is_unreadable (drop l.one-index l.kept)
