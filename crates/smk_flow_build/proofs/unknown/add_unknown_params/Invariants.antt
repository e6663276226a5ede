use Rattle.std.proofs.Common.{◌≡◌, ◌++◌, take}
use Rattle.std.specs.List.{flat_map}
use Rattle.smk_world.specs.declared.recipe.Values.{Values}
use Rattle.smk_pattern.specs.Searching.{now_of}
use Rattle.smk_flow.specs.Checks.{words_unknown}
use Rattle.smk_flow_build.proofs.unknown.add_unknown_params.Given as goal

abbrev pub invariant-loop-param : goal.invariant-loop-param
invariant-loop-param l =
    now_of l.found.items ≡ now_of l.initial.found.items ++ flat_map (λ (v : Values). flat_map (words_unknown (now_of l.known)) v.values) (take l.param-index l.params)
