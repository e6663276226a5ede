use Rattle.std.proofs.Common.{◌≡◌, drop}
use Rattle.std.specs.List.{list_all}
use Rattle.smk_plan_duties.specs.Numbers.{are_item_below}
use Rattle.smk_plan_duties.proofs.serials.are_inputs_below.Given as goal

abbrev pub invariant-loop-item : goal.invariant-loop-item
invariant-loop-item l = list_all (are_item_below l.numbers l.duties l.made) l.inputs ≡ list_all (are_item_below l.numbers l.duties l.made) (drop l.item-index l.inputs)
