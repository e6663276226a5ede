use Rattle.std.proofs.Common.{◌≡◌, drop}
use Rattle.std.specs.List.{list_any}
use Rattle.smk_pattern.specs.Searching.{now_of}
use Rattle.smk_flow.specs.Checks.{has}
use Rattle.smk_flow_build.proofs.flags.has_any.Given as goal

abbrev pub invariant-loop-other : goal.invariant-loop-other
invariant-loop-other l = list_any (has (now_of l.names)) (now_of l.others) ≡ list_any (has (now_of l.names)) (now_of (drop l.other-index l.others))
