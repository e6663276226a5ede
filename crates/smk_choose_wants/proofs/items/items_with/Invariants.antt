use Rattle.std.proofs.Common.{◌≡◌, map, take}
use Rattle.smk_choose_wants.specs.Wants.{candidate_of, item_with}
use Rattle.smk_choose_wants.proofs.items.items_with.Given as goal

abbrev pub invariant-loop-input : goal.invariant-loop-input
invariant-loop-input l = l.made ≡ map (item_with l.flow l.lists (candidate_of l.making l.part)) (take l.input-index l.input-items)
