use Rattle.std.proofs.Common.{◌≡◌, map, take, true}
use Rattle.std.specs.List.{list_all}
use Rattle.smk_world.specs.declared.recipe.Out.{Out}
use Rattle.smk_world.specs.Trees.{is_path_text}
use Rattle.smk_run.proofs.stamps.see_outs.Given as goal

abbrev pub invariant-loop-out : goal.invariant-loop-out
invariant-loop-out l = list_all is_path_text (map (λ (out : Out). out.path) (take l.out-index l.outs)) ≡ true
