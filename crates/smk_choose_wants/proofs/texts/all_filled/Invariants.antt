use Rattle.std.proofs.Common.{◌≡◌, map, take}
use Rattle.smk_pattern.specs.Reading.{fill}
use Rattle.smk_choose_wants.proofs.texts.all_filled.Given as goal

abbrev pub invariant-loop-text : goal.invariant-loop-text
invariant-loop-text l = l.made ≡ map (fill l.binding) (take l.text-index l.texts)
