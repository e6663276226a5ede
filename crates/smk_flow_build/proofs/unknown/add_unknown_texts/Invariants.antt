use Rattle.std.proofs.Common.{◌≡◌, ◌++◌, take}
use Rattle.std.specs.List.{flat_map}
use Rattle.smk_pattern.specs.Searching.{now_of}
use Rattle.smk_flow.specs.Checks.{names_of, unknown_in}
use Rattle.smk_flow_build.proofs.unknown.add_unknown_texts.Given as goal

abbrev pub invariant-loop-text : goal.invariant-loop-text
invariant-loop-text l =
    now_of l.found.items ≡ now_of l.initial.found.items ++ flat_map (λ t. unknown_in (now_of l.known) (names_of t)) (take l.text-index l.texts)
