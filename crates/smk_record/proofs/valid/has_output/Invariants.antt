use Rattle.std.proofs.Common.{◌≡◌, map, take, true}
use Rattle.std.specs.List.{list_all, flat_map}
use Rattle.smk_world.specs.World.{is_named}
use Rattle.smk_world.specs.Trees.{is_path_text}
use Rattle.smk_record.proofs.valid.has_output.Given as goal

abbrev pub invariant-loop-item : goal.invariant-loop-item
invariant-loop-item l = record {
  found : l.found ≡ is_named l.path (flat_map (λ item. map (λ out. out.path) item.outs) (take l.item-index l.outputs));
  paths : list_all is_path_text (flat_map (λ item. map (λ out. out.path) item.outs) (take l.item-index l.outputs)) ≡ true;
}
