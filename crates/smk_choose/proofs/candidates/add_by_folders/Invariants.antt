use Rattle.std.proofs.Common.{◌≡◌, ◌++◌, take}
use Rattle.smk_choose.specs.Readings.{by_folders}
use Rattle.smk_choose.proofs.candidates.add_by_folders.Given as goal

abbrev pub invariant-loop-folder : goal.invariant-loop-folder
invariant-loop-folder l = l.found.items ≡ l.initial.found.items ++ by_folders l.rule l.patterns (take l.folder-index l.folders)
