use Rattle.std.proofs.Common.{◌≡◌, length, None}
use Rattle.std.specs.BTreeMap.{get_by_text}
use Rattle.smk_world.specs.Trees.{Path}
use Rattle.smk_plan_duties.proofs.Numbered.{found_in}
use Rattle.smk_plan_duties.proofs.numbers.numbers_of.Given as goal

abbrev pub invariant-numbers : goal.invariant-numbers
invariant-numbers l = (q : Path) → found_in l.rest (get_by_text l.numbers q) q ≡ found_in l.makers None q

abbrev pub decreases-numbers : goal.decreases-numbers
decreases-numbers l = length l.rest
