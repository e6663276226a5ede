use Rattle.std.proofs.Common.{◌≡◌, ◌||◌, ℕ, List, drop, map}
use Rattle.std.specs.BTreeSet.{contains_text}
use Rattle.smk_world.specs.Trees.{among}
use Rattle.smk_plan_states.proofs.awaits.spot_paths.Given as goal

abbrev pub invariant-loop-spot : goal.invariant-loop-spot
invariant-loop-spot l = (q : List ℕ) → (contains_text l.set q || among (map (λ a. a.path) (drop l.spot-index l.spots)) q) ≡ among (map (λ a. a.path) l.spots) q
