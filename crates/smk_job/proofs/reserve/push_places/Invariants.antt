use Rattle.std.proofs.Common.{◌≡◌, ◌++◌, true, map, take}
use Rattle.smk_base.specs.Path.{is_path}
use Rattle.smk_world.specs.declared.recipe.Out.{Out}
use Rattle.smk_world.specs.Trees.{Each}
use Rattle.smk_job.proofs.reserve.push_places.Given as goal

abbrev pub invariant-loop-out : goal.invariant-loop-out
invariant-loop-out l =
    (l.places ≡ l.initial.places ++ map (λ (out : Out). out.path) (take l.out-index l.outs))
    × Each (λ p. is_path p ≡ true) (map (λ (out : Out). out.path) (take l.out-index l.outs))
