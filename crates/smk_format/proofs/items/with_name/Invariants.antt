use Rattle.std.proofs.Common.{◌≡◌, drop, map}
use Rattle.smk_format.specs.Fields.{item_in}
use Rattle.smk_format.proofs.items.with_name.Given as goal

abbrev pub invariant-loop-item : goal.invariant-loop-item
invariant-loop-item g l = item_in (map g.V.Valued.shape l.items) l.name ≡ item_in (map g.V.Valued.shape (drop l.item-index l.items)) l.name
