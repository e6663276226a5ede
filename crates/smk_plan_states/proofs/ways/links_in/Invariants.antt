use Rattle.std.proofs.Common.{◌≡◌, ◌≤◌, drop, length}
use Rattle.smk_world.specs.Trees.{Path}
use Rattle.smk_plan_states.specs.Keys.{at_key}
use Rattle.smk_plan_states.specs.Lines.{tells_of}
use Rattle.smk_plan_states.specs.Ways.{place_from}
use Rattle.smk_plan_states.proofs.ways.links_in.Given as goal

abbrev pub decreases-makers : goal.decreases-makers
decreases-makers l = l.number

abbrev pub invariant-makers : goal.invariant-makers
invariant-makers l = (l.number ≤ length l.makers) × ((q : Path) → at_key l.links q ≡ place_from l.number (tells_of q) (drop l.number l.makers))
