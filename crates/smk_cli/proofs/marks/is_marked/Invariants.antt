use Rattle.std.proofs.Common.{◌≡◌, drop}
use Rattle.std.specs.List.{list_any}
use Rattle.smk_cli_calls.specs.OneByOne.{is_mark}
use Rattle.smk_cli.proofs.marks.is_marked.Given as goal

abbrev pub invariant-loop-flag : goal.invariant-loop-flag
invariant-loop-flag l = list_any is_mark l.out.flags ≡ list_any is_mark (drop l.flag-index l.out.flags)
