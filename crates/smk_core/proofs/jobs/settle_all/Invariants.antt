use Rattle.std.proofs.Common.{◌≡◌, length, drop}
use Rattle.smk_core.specs.Lines.{ArePassed, AreReadyBut, AreOfAll}
use Rattle.smk_core.proofs.jobs.settle_all.Given as goal

abbrev pub invariant-loop-job : goal.invariant-loop-job
invariant-loop-job l =
    AreOfAll (length l.befores) l.ready l.passed.items l.phases
    × ArePassed l.phases l.befores l.passed.items
    × AreReadyBut (drop l.job-index l.jobs) l.phases l.befores l.ready.present
    × (l.ready.asks ≡ l.fn.ready.asks)
