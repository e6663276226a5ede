use Rattle.std.proofs.Common.{◌≡◌, ◌++◌, not, drop, filter}
use Rattle.std.specs.BTreeSet.{contains_text}
use Rattle.smk_chain.specs.Derive.{distinct}
use Rattle.smk_plan_states.specs.Tables.{same_path}
use Rattle.smk_plan_states.proofs.awaits.each_once.Given as goal

abbrev pub invariant-loop-spot : goal.invariant-loop-spot
invariant-loop-spot l =
    l.found ++ filter (λ a. not (contains_text l.seen a.path)) (distinct same_path (drop l.spot-index l.spots)) ≡ distinct same_path l.spots
