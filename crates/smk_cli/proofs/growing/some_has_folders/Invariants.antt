-- some_has_folders
use Rattle.std.proofs.Common.{◌≡◌, drop}
use Rattle.std.specs.List.{list_any}
use Rattle.smk_cli_calls.specs.OneByOne.{item_has_folders}
use Rattle.smk_cli.proofs.growing.some_has_folders.Given as goal

abbrev pub invariant-loop-item : goal.invariant-loop-item
invariant-loop-item l = list_any item_has_folders l.items ≡ list_any item_has_folders (drop l.item-index l.items)
