use Rattle.std.proofs.Common.{◌≡◌, ◌||◌, ℕ, List, drop, map}
use Rattle.std.specs.BTreeSet.{contains_text}
use Rattle.std.specs.List.{list_any, zip}
use Rattle.smk_plan_look.specs.Needs.{is_touched_at}
use Rattle.smk_plan_look.proofs.needs.add_inputs.Given as goal

abbrev pub invariant-loop-i : goal.invariant-loop-i
invariant-loop-i l = (q : List ℕ) →
    (contains_text l.touched q || list_any (is_touched_at l.seen q) (zip (map (λ p. p.now) (drop l.i l.paths)) (drop l.i l.stamps)))
    ≡ (list_any (is_touched_at l.seen q) (zip (map (λ p. p.now) l.paths) l.stamps) || contains_text l.initial.touched q)
