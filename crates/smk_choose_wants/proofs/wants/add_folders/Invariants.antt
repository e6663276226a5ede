use Rattle.std.proofs.Common.{◌≡◌, ◌++◌, map, take}
use Rattle.std.specs.List.{flat_map}
use Rattle.smk_flow.specs.declared.rule.InPart.{InPart}
use Rattle.smk_choose_wants.specs.Wants.{candidate_of, folder_in, want_of}
use Rattle.smk_choose_wants.proofs.wants.add_folders.Given as goal

abbrev pub invariant-loop-input : goal.invariant-loop-input
invariant-loop-input l = l.found ≡ l.initial.found ++ map want_of (flat_map (λ (i : InPart). folder_in l.flow (candidate_of l.making l.part) i.gather) (take l.input-index l.input-items))
