use Rattle.std.proofs.Common.{◌≡◌, ◌++◌, take}
use Rattle.std.specs.List.{flat_map}
use Rattle.smk_base.specs.declared.tree.Pair.{Pair}
use Rattle.smk_pattern.specs.Searching.{now_of}
use Rattle.smk_flow.specs.Checks.{words_unknown}
use Rattle.smk_flow_build.proofs.unknown.add_unknown_resources.Given as goal

abbrev pub invariant-loop-word : goal.invariant-loop-word
invariant-loop-word l =
    now_of l.found.items ≡ now_of l.initial.found.items ++ flat_map (λ (w : Pair). words_unknown (now_of l.known) w.value) (take l.word-index l.words)
