use Rattle.std.proofs.Common.{◌≡◌, take}
use Rattle.std.specs.List.{filter_map}
use Rattle.smk_choose_wants.specs.Wants.{wanted_by}
use Rattle.smk_choose_wants.proofs.gathering.wanted_for_all.Given as goal

abbrev pub invariant-loop-file : goal.invariant-loop-file
invariant-loop-file l = l.made ≡ filter_map (wanted_by l.binding l.patterns.listed l.patterns.wanted) (take l.file-index l.files)
