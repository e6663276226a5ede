use Rattle.std.proofs.Common.{◌≡◌, ◌||◌, ℕ, List, drop, map}
use Rattle.std.specs.BTreeSet.{contains_text}
use Rattle.smk_world.specs.Trees.{among}
use Rattle.smk_plan_states.proofs.ways.listed_in.Given as goal

abbrev pub invariant-loop-known : goal.invariant-loop-known
invariant-loop-known l = (q : List ℕ) → (contains_text l.set q || among (map (λ k. k.folder) (drop l.known-index l.lists)) q) ≡ among (map (λ k. k.folder) l.lists) q
