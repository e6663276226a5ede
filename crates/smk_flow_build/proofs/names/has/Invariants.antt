use Rattle.std.proofs.Common.{◌≡◌, drop}
use Rattle.smk_pattern.specs.Searching.{now_of}
use Rattle.smk_flow.specs.Checks.{has}
use Rattle.smk_flow_build.proofs.names.has.Given as goal

abbrev pub invariant-loop-other : goal.invariant-loop-other
invariant-loop-other l = has (now_of l.names) l.name ≡ has (now_of (drop l.other-index l.names)) l.name
