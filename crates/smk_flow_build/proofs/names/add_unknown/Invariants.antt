use Rattle.std.proofs.Common.{◌≡◌, ◌++◌, take}
use Rattle.smk_pattern.specs.Searching.{now_of}
use Rattle.smk_flow.specs.Checks.{unknown_in}
use Rattle.smk_flow_build.proofs.names.add_unknown.Given as goal

abbrev pub invariant-loop-name : goal.invariant-loop-name
invariant-loop-name l = now_of l.found.items ≡ now_of l.initial.found.items ++ unknown_in (now_of l.known) (now_of (take l.name-index l.names))
