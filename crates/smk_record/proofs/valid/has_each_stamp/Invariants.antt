use Rattle.std.proofs.Common.{◌≡◌, ◌+◌, length, take, true}
use Rattle.std.specs.List.{list_all, flat_map}
use Rattle.smk_world.specs.Trees.{is_path_text}
use Rattle.smk_record.proofs.valid.has_each_stamp.Given as goal

abbrev pub invariant-loop-item : goal.invariant-loop-item
invariant-loop-item l = record {
  left : length (flat_map (λ item. item.paths) (take l.item-index l.inputs)) + length l.rest ≡ length l.stamps;
  paths : list_all is_path_text (flat_map (λ item. item.paths) (take l.item-index l.inputs)) ≡ true;
}
