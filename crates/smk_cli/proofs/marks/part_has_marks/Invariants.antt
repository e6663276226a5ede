use Rattle.std.proofs.Common.{◌≡◌, drop}
use Rattle.std.specs.List.{list_any}
use Rattle.smk_cli_calls.specs.OneByOne.{item_has_marks}
use Rattle.smk_cli.proofs.marks.part_has_marks.Given as goal

abbrev pub invariant-loop-item : goal.invariant-loop-item
invariant-loop-item l = list_any item_has_marks l.part.outputs ≡ list_any item_has_marks (drop l.item-index l.part.outputs)
