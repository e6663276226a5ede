-- item_has_folders
use Rattle.std.proofs.Common.{◌≡◌, drop}
use Rattle.std.specs.List.{list_any}
use Rattle.smk_cli_calls.specs.OneByOne.{is_folder}
use Rattle.smk_cli.proofs.growing.item_has_folders.Given as goal

abbrev pub invariant-loop-out : goal.invariant-loop-out
invariant-loop-out l = list_any is_folder l.item.outs ≡ list_any is_folder (drop l.out-index l.item.outs)
