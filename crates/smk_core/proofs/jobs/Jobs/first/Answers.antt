use Rattle.std.proofs.Common.{subst}
use Rattle.smk_core.specs.Lines.{Roll, IsBestReady}
use Rattle.smk_core.proofs.Rolls.{best_ready}
use Rattle.smk_core.proofs.jobs.Jobs.first.Goals as goal

pub returns : goal.returns
returns c =
    let s = c.self.inside in
    subst (λ (r : Roll). IsBestReady r c.args.room.now c.first.result) c.self.view_is
    (best_ready s.ready s.befores s.behind.items s.passed.items s.phases.items c.self.invariant c.args.room.now c.first.result c.first.ensures)
