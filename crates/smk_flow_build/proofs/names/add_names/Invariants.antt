use Rattle.std.proofs.Common.{◌≡◌, ◌++◌, take}
use Rattle.smk_pattern.specs.Searching.{now_of}
use Rattle.smk_flow_build.proofs.names.add_names.Given as goal

abbrev pub invariant-loop-name : goal.invariant-loop-name
invariant-loop-name l = now_of l.found.items ≡ now_of l.initial.found.items ++ now_of (take l.name-index l.names)
