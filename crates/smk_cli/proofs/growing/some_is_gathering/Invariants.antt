-- some_is_gathering
use Rattle.std.proofs.Common.{◌≡◌, drop}
use Rattle.std.specs.List.{list_any}
use Rattle.smk_cli_calls.specs.OneByOne.{is_gathering}
use Rattle.smk_cli.proofs.growing.some_is_gathering.Given as goal

abbrev pub invariant-loop-item : goal.invariant-loop-item
invariant-loop-item l = list_any is_gathering l.items ≡ list_any is_gathering (drop l.item-index l.items)
