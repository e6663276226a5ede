use Rattle.std.proofs.Common.{◌≡◌, ◌≤◌, length, drop, take, true}
use Rattle.std.specs.List.{list_all}
use Rattle.smk_world.specs.Trees.{is_path_text}
use Rattle.smk_record.proofs.valid.after_paths.Given as goal

abbrev pub invariant-loop-path : goal.invariant-loop-path
invariant-loop-path l = record {
  left : l.rest ≡ drop l.path-index l.stamps;
  enough : l.path-index ≤ length l.stamps;
  paths : list_all is_path_text (take l.path-index l.paths) ≡ true;
}
