use Rattle.std.proofs.Common.{◌≡◌, filter, take}
use Rattle.smk_base.specs.Path.{is_path}
use Rattle.smk_choose_wants.proofs.texts.paths_of.Given as goal

abbrev pub invariant-loop-text : goal.invariant-loop-text
invariant-loop-text l = l.made ≡ filter is_path (take l.text-index l.texts)
