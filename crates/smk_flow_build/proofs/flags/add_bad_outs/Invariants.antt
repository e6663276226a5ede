use Rattle.std.proofs.Common.{◌≡◌, ◌++◌, [], take}
use Rattle.std.specs.List.{flat_map}
use Rattle.smk_pattern.specs.Searching.{now_of}
use Rattle.smk_flow.specs.declared.rule.FlaggedText.{FlaggedText}
use Rattle.smk_flow.specs.Lent.{all_lent}
use Rattle.smk_flow.specs.Checks.{bad_flags}
use Rattle.smk_flow_build.proofs.flags.add_bad_outs.Given as goal

abbrev pub invariant-loop-out : goal.invariant-loop-out
invariant-loop-out l =
    now_of l.found.items
    ≡ now_of l.initial.found.items ++ flat_map (λ (o : FlaggedText). bad_flags l.checkpoint [] o.flags) (all_lent (take l.out-index l.outs))
