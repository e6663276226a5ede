use Rattle.std.proofs.Common.{◌≡◌, ◌++◌, [], map, take}
use Rattle.smk_pattern.specs.Reading.{shape_of}
use Rattle.smk_choose.proofs.readings.add_texts.Given as goal

abbrev pub invariant-loop-text : goal.invariant-loop-text
invariant-loop-text l = l.found ≡ l.initial.found ++ map (shape_of []) (take l.text-index l.texts)
