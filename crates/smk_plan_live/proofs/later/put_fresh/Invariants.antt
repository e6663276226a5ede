use Rattle.std.proofs.Common.{◌≡◌, ◌||◌, length, map}
use Rattle.std.specs.Option.{option_or}
use Rattle.std.specs.BTreeMap.{get_by_text}
use Rattle.smk_world.specs.Trees.{Path, among}
use Rattle.smk_plan.specs.declared.seen.Sight.{Sight}
use Rattle.smk_plan.specs.Sights.{sight_at}
use Rattle.smk_plan_live.proofs.later.put_fresh.Given as goal

abbrev pub decreases-sights : goal.decreases-sights
decreases-sights l = length l.left

abbrev pub invariant-sights : goal.invariant-sights
invariant-sights l =
    ((q : Path) → option_or (sight_at l.left q) (get_by_text l.seen q) ≡ option_or (sight_at l.fn.sights q) (get_by_text l.fn.seen q))
    × ((q : Path) → (among (map (λ (s : Sight). s.path) l.left) q || among l.came q) ≡ (among (map (λ (s : Sight). s.path) l.fn.sights) q || among l.fn.came q))
