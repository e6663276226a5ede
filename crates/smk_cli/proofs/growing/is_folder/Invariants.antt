-- is_folder
use Rattle.std.proofs.Common.{◌≡◌, drop}
use Rattle.std.specs.List.{list_any}
use Rattle.smk_flow.specs.Flows.{is_directory}
use Rattle.smk_cli.proofs.growing.is_folder.Given as goal

abbrev pub invariant-loop-flag : goal.invariant-loop-flag
invariant-loop-flag l = list_any is_directory l.out.flags ≡ list_any is_directory (drop l.flag-index l.out.flags)
