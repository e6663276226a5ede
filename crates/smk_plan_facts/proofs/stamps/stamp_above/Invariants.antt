use Rattle.std.proofs.Common.{◌≡◌, drop, None}
use Rattle.smk_plan_facts.specs.Telling.{nearest}
use Rattle.smk_plan_facts.proofs.stamps.stamp_above.Given as goal

abbrev pub invariant-loop-folder : goal.invariant-loop-folder
invariant-loop-folder g l = nearest (g.T.Told.known l.told) l.found (drop l.folder-index l.folder-items) ≡ nearest (g.T.Told.known l.told) None l.folder-items
