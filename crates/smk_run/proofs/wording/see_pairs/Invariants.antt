use Rattle.std.proofs.Common.{◌≡◌, ◌∷◌, [], take, true}
use Rattle.std.specs.List.{list_all, flat_map}
use Rattle.smk_base.specs.declared.tree.Pair.{Pair}
use Rattle.smk_world.specs.Trees.{is_text}
use Rattle.smk_run.proofs.wording.see_pairs.Given as goal

abbrev pub invariant-loop-pair : goal.invariant-loop-pair
invariant-loop-pair l = list_all is_text (flat_map (λ (pair : Pair). pair.name ∷ pair.value ∷ []) (take l.pair-index l.pairs)) ≡ true
