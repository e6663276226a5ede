use Rattle.std.proofs.Common.{◌≡◌, drop}
use Rattle.std.specs.List.{list_any}
use Rattle.smk_cli_calls.specs.OneByOne.{is_marked}
use Rattle.smk_cli.proofs.marks.item_has_marks.Given as goal

abbrev pub invariant-loop-out : goal.invariant-loop-out
invariant-loop-out l = list_any is_marked l.item.outs ≡ list_any is_marked (drop l.out-index l.item.outs)
