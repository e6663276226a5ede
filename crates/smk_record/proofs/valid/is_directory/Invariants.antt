use Rattle.std.proofs.Common.{◌≡◌, map, filter, drop}
use Rattle.smk_world.specs.World.{is_named}
use Rattle.smk_world.specs.Trees.{is_folder_kind}
use Rattle.smk_record.proofs.valid.is_directory.Given as goal

abbrev pub invariant-loop-out : goal.invariant-loop-out
invariant-loop-out l =
    is_named l.path (map (λ out. out.path) (filter (λ out. is_folder_kind out.kind) (drop l.out-index l.outs)))
    ≡ is_named l.path (map (λ out. out.path) (filter (λ out. is_folder_kind out.kind) l.outs))
