use Rattle.std.proofs.Common.{◌≡◌, ◌++◌, map, take}
use Rattle.std.specs.BTreeSet.{contains_text}
use Rattle.smk_plan_facts.specs.Telling.{stamp_in}
use Rattle.smk_plan_facts.proofs.judged.add_stamps.Given as goal

abbrev pub invariant-loop-path : goal.invariant-loop-path
invariant-loop-path g l = l.stamps ≡ l.initial.stamps ++ map (stamp_in (g.T.Told.known l.told) (g.T.Told.seen l.told) (contains_text l.sources)) (take l.path-index l.paths)
