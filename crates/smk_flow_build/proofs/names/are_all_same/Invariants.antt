use Rattle.std.proofs.Common.{◌≡◌, drop}
use Rattle.std.specs.List.{list_all}
use Rattle.smk_pattern.specs.Searching.{now_of}
use Rattle.smk_flow.specs.Checks.{are_same, names_of, wildcards_of, are_all_same}
use Rattle.smk_flow_build.proofs.names.are_all_same.Given as goal

abbrev pub invariant-loop-text : goal.invariant-loop-text
invariant-loop-text l =
    are_all_same (now_of l.texts)
    ≡ list_all (λ t. are_same (wildcards_of (now_of l.texts)) (names_of t)) (now_of (drop l.text-index l.texts))
