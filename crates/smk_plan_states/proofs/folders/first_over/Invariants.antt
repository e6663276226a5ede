use Rattle.std.proofs.Common.{◌≡◌, drop}
use Rattle.smk_plan_states.specs.Ways.{first_over}
use Rattle.smk_plan_states.proofs.folders.first_over.Given as goal

abbrev pub invariant-loop-folder : goal.invariant-loop-folder
invariant-loop-folder l = first_over l.path l.folders ≡ first_over l.path (drop l.folder-index l.folders)
