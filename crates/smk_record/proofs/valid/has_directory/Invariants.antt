use Rattle.std.proofs.Common.{◌≡◌, map, filter, drop}
use Rattle.std.specs.List.{flat_map}
use Rattle.smk_world.specs.World.{is_named}
use Rattle.smk_world.specs.Trees.{is_folder_kind}
use Rattle.smk_record.proofs.valid.has_directory.Given as goal

abbrev pub invariant-loop-item : goal.invariant-loop-item
invariant-loop-item l =
    is_named l.path (map (λ out. out.path) (filter (λ out. is_folder_kind out.kind) (flat_map (λ item. item.outs) (drop l.item-index l.outputs))))
    ≡ is_named l.path (map (λ out. out.path) (filter (λ out. is_folder_kind out.kind) (flat_map (λ item. item.outs) l.outputs)))
