use Rattle.std.proofs.Common.{◌≡◌, ◌++◌, take}
use Rattle.smk_pattern.specs.Searching.{now_of}
use Rattle.smk_flow.proofs.texts.add_texts.Given as goal

abbrev pub invariant-loop-text : goal.invariant-loop-text
invariant-loop-text l = now_of l.found.items ≡ now_of l.initial.found.items ++ take l.text-index l.texts
