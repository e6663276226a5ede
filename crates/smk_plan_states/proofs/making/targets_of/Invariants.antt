use Rattle.std.proofs.Common.{◌≡◌, ◌&&◌, take, map, is_none}
use Rattle.std.specs.Prelude.{bytes_eq}
use Rattle.std.specs.List.{list_any}
use Rattle.smk_world.specs.Trees.{Path}
use Rattle.smk_chain.specs.declared.jobs.Jobs.{Jobs}
use Rattle.smk_plan_states.specs.Keys.{has_key}
use Rattle.smk_plan_states.specs.Lines.{target_of}
use Rattle.smk_plan_states.specs.Ways.{AreWays}
use Rattle.smk_plan_states.proofs.making.targets_of.Given as goal

abbrev pub invariant-loop-path : goal.invariant-loop-path
invariant-loop-path l = (J : Jobs) → AreWays J l.ways → ((q : Path) → has_key l.sources q ≡ list_any (λ m. is_none m.job && bytes_eq m.path q) J.makers) → l.found ≡ map (target_of J) (take l.path-index l.targets)
