use Rattle.std.proofs.Common.{◌||◌, ◌++◌, ◌∷◌, [], map, sym, ap, ◌∙◌}
use Rattle.std.specs.Option.{option_or}
use Rattle.std.specs.BTreeMap.{get_by_text}
use Rattle.smk_world.specs.Trees.{among}
use Rattle.smk_plan.specs.declared.seen.Sight.{Sight}
use Rattle.smk_plan.specs.Sights.{sight_at}
use Rattle.smk_plan_live.proofs.Grown.{last_sight, last_path}
use Rattle.smk_plan_live.proofs.later.put_fresh.Goals as goal

pub sights-preserved : goal.sights-preserved
sights-preserved c =
    let left = c.pop.new.self in
    let s = c.in-Some.sight in (
      (λ q.
          ap (option_or (sight_at left q)) (c.in_ok-put.ensures q) ∙ last_sight left s q (get_by_text c.sights.seen q)
          ∙ ap (λ l. option_or (sight_at l q) (get_by_text c.sights.seen q)) (sym c.in-Some.ensures) ∙ c.sights.invariant.0 q),
      (λ q.
          ap (λ l. among (map (λ (x : Sight). x.path) left) q || among l q) (c.in_ok-push.ensures.ok ∙ ap (λ p. c.sights.came ++ p ∷ []) c.in_ok-copy.ensures)
          ∙ last_path left s c.sights.came q
          ∙ ap (λ l. among (map (λ (x : Sight). x.path) l) q || among c.sights.came q) (sym c.in-Some.ensures) ∙ c.sights.invariant.1 q),
    )
