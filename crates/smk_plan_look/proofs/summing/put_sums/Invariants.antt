use Rattle.std.proofs.Common.{◌≡◌, ◌++◌, length}
use Rattle.std.specs.Prelude.{reverse}
use Rattle.std.specs.BTreeSet.{contains_text}
use Rattle.smk_plan_look.specs.Putting.{put_sums}
use Rattle.smk_plan_look.proofs.summing.put_sums.Given as goal

abbrev pub invariant-sights : goal.invariant-sights
invariant-sights l = l.found ++ put_sums (contains_text l.needed) (reverse l.left) l.rest ≡ put_sums (contains_text l.needed) (reverse l.fn.from_last) l.sums

abbrev pub decreases-sights : goal.decreases-sights
decreases-sights l = length l.left
