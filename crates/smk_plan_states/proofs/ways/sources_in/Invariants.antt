use Rattle.std.proofs.Common.{◌≡◌, ◌&&◌, ◌||◌, ℕ, List, drop, is_none}
use Rattle.std.specs.Prelude.{bytes_eq}
use Rattle.std.specs.List.{list_any}
use Rattle.smk_plan_states.specs.Keys.{has_key}
use Rattle.smk_plan_states.proofs.ways.sources_in.Given as goal

abbrev pub invariant-loop-maker : goal.invariant-loop-maker
invariant-loop-maker l = (q : List ℕ) → (has_key l.sources q || list_any (λ m. is_none m.job && bytes_eq m.path q) (drop l.maker-index l.makers)) ≡ list_any (λ m. is_none m.job && bytes_eq m.path q) l.makers
