use Rattle.std.proofs.Common.{◌≡◌, drop}
use Rattle.std.specs.List.{list_all}
use Rattle.smk_pattern.specs.Searching.{now_of}
use Rattle.smk_flow.specs.Checks.{has}
use Rattle.smk_flow_build.proofs.names.has_all.Given as goal

abbrev pub invariant-loop-other : goal.invariant-loop-other
invariant-loop-other l = list_all (has (now_of l.names)) (now_of l.others) ≡ list_all (has (now_of l.names)) (now_of (drop l.other-index l.others))
