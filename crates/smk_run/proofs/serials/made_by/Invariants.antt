use Rattle.std.proofs.Common.{◌≡◌, length, None}
use Rattle.std.specs.BTreeMap.{get_by_text}
use Rattle.smk_world.specs.Trees.{Path}
use Rattle.smk_run.specs.Duties.{serial_in}
use Rattle.smk_run.proofs.Makers.{found_in}
use Rattle.smk_run.proofs.serials.made_by.Given as goal

abbrev pub invariant-makers : goal.invariant-makers
invariant-makers l = (q : Path) → found_in (serial_in l.serials) l.rest (get_by_text l.made q) q ≡ found_in (serial_in l.serials) l.makers None q

abbrev pub decreases-makers : goal.decreases-makers
decreases-makers l = length l.rest
