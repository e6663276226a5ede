use Rattle.std.proofs.Common.{◌≡◌, map, take, true}
use Rattle.std.specs.List.{list_all}
use Rattle.smk_world.specs.World.{is_named}
use Rattle.smk_world.specs.Trees.{is_path_text}
use Rattle.smk_record.proofs.valid.is_output.Given as goal

abbrev pub invariant-loop-out : goal.invariant-loop-out
invariant-loop-out l = record {
  found : l.found ≡ is_named l.path (map (λ out. out.path) (take l.out-index l.outs));
  paths : list_all is_path_text (map (λ out. out.path) (take l.out-index l.outs)) ≡ true;
}
