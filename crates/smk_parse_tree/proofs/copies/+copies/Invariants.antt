use Rattle.std.proofs.Common.{◌≡◌, take}
use Rattle.smk_parse_tree.proofs.copies.+copies.Given as goal

abbrev pub invariant-copy_all-loop-part : goal.invariant-copy_all-loop-part
invariant-copy_all-loop-part l = l.copies ≡ take l.part-index l.parts

abbrev pub invariant-copy_items-loop-item : goal.invariant-copy_items-loop-item
invariant-copy_items-loop-item l = l.copies ≡ take l.item-index l.items
