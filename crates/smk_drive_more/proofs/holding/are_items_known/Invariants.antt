use Rattle.std.proofs.Common.{◌≡◌, drop}
use Rattle.std.specs.List.{list_all}
use Rattle.smk_laws_turns.specs.Growing.{are_known_in}
use Rattle.smk_drive_more.proofs.holding.are_items_known.Given as goal

abbrev pub invariant-loop-item : goal.invariant-loop-item
invariant-loop-item g l = list_all (are_known_in (g.T.Told.known l.told)) l.items ≡ list_all (are_known_in (g.T.Told.known l.told)) (drop l.item-index l.items)
