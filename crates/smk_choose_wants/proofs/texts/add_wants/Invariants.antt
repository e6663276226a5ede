use Rattle.std.proofs.Common.{◌≡◌, ◌++◌, map, take}
use Rattle.smk_choose_wants.specs.Wants.{want_of}
use Rattle.smk_choose_wants.proofs.texts.add_wants.Given as goal

abbrev pub invariant-loop-text : goal.invariant-loop-text
invariant-loop-text l = l.found ≡ l.initial.found ++ map want_of (take l.text-index l.texts)
