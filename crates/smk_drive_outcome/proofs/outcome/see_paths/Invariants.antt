use Rattle.std.proofs.Common.{◌≡◌, take, true}
use Rattle.std.specs.List.{list_all}
use Rattle.smk_world.specs.Trees.{is_path_text}
use Rattle.smk_drive_outcome.proofs.outcome.see_paths.Given as goal

abbrev pub invariant-loop-path : goal.invariant-loop-path
invariant-loop-path l = list_all is_path_text (take l.path-index l.paths) ≡ true
