use Rattle.std.proofs.Common.{◌≡◌, ◌++◌, [], take, drop}
use Rattle.smk_pattern.specs.Searching.{now_of}
use Rattle.smk_flow.specs.Checks.{bad_flags}
use Rattle.smk_flow_build.proofs.flags.add_bad_flags.Given as goal

abbrev pub invariant-loop-at : goal.invariant-loop-at
invariant-loop-at l =
    now_of l.found.items ++ bad_flags l.checkpoint (take l.at l.flags) (drop l.at l.flags)
    ≡ now_of l.initial.found.items ++ bad_flags l.checkpoint [] l.flags
