use Rattle.std.proofs.Common.{◌≡◌, drop}
use Rattle.std.specs.List.{list_any}
use Rattle.smk_flow.specs.Checks.{excludes}
use Rattle.smk_flow_build.proofs.flags.is_excluded.Given as goal

abbrev pub invariant-loop-other : goal.invariant-loop-other
invariant-loop-other l = list_any (excludes l.flag) l.before ≡ list_any (excludes l.flag) (drop l.other-index l.before)
