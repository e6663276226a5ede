use Rattle.std.proofs.Common.{◌≡◌, true, ap, ◌∙◌}
use Rattle.smk_core.specs.Standing.{stands, is_waiting}
use Rattle.smk_core.specs.Lines.{Roll}
use Rattle.smk_core.proofs.Rolls.{waiting_inside, begun_roll}
use Rattle.smk_core.proofs.jobs.Jobs.start.Goals as goal

pub set-requires : goal.set-requires
set-requires c =
    let s = c.self.inside in
    let waits : stands is_waiting s.phases.items c.args.job ≡ true = ap (λ (r : Roll). stands is_waiting r.phases c.args.job) c.self.view_is ∙ c.requires in
    waiting_inside s.ready s.befores s.behind.items s.passed.items s.phases.items c.self.invariant c.args.job waits

pub invariant_of-self : goal.invariant_of-self
invariant_of-self c =
    let s = c.self.inside in
    let waits : stands is_waiting s.phases.items c.args.job ≡ true = ap (λ (r : Roll). stands is_waiting r.phases c.args.job) c.self.view_is ∙ c.requires in
    begun_roll s.ready s.befores s.behind.items s.passed.items s.phases.items c.self.invariant c.args.job c.set.new.self waits c.set.ensures.asks c.set.ensures.present
