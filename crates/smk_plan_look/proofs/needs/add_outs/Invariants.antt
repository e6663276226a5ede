use Rattle.std.proofs.Common.{◌≡◌, ◌||◌, ℕ, List, drop}
use Rattle.std.specs.BTreeSet.{contains_text}
use Rattle.std.specs.List.{list_any}
use Rattle.smk_world.specs.declared.recipe.Out.{Out}
use Rattle.smk_plan_look.specs.Needs.{path_touches}
use Rattle.smk_plan_look.proofs.needs.add_outs.Given as goal

abbrev pub invariant-loop-out : goal.invariant-loop-out
invariant-loop-out l = (q : List ℕ) →
    (contains_text l.touched q || list_any (λ (o : Out). path_touches l.store l.seen q o.path) (drop l.out-index l.outs)) ≡ (list_any (λ (o : Out). path_touches l.store l.seen q o.path) l.outs || contains_text l.initial.touched q)
