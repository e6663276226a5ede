use Rattle.std.proofs.Common.{◌≡◌, ◌≤◌, ℕ, List, length, sym, ap, ◌∙◌, subst}
use Rattle.smk_core.specs.declared.phase.Phase.{Phase}
use Rattle.smk_core.specs.declared.place.TheConstants.{NONE}
use Rattle.smk_core.specs.Lines.{Roll, roll}
use Rattle.smk_core.specs.Machine.{IsMachine}
use Rattle.smk_core.specs.Replans.{AreNumbers, IsCarried, Moves}
use Rattle.smk_core.specs.Standing.{Standing}
use Rattle.smk_core.proofs.Carried.{moved_numbers}
use Rattle.smk_core.proofs.Machines.{replanned_machine}
use Rattle.smk_core.proofs.machine.CoreStarter.replan.Goals as goal

pub carried-requires-clause-numbers : goal.carried-requires-clause-numbers
carried-requires-clause-numbers c =
    subst (λ (m : List ℕ). AreNumbers c.len.result m) (sym c.as_slice.ensures)
    (subst (λ (n : ℕ). AreNumbers n c.args.moved.now) (sym c.len.ensures) (moved_numbers c.args.moved.now c.args.self.now.asks c.args.asks.now c.requires.moves))

pub invariant_of-self : goal.invariant_of-self
invariant_of-self c =
    let s = c.self.inside in
    let asks = c.args.asks.now in
    let befores = c.args.befores.now in
    let moved = c.args.moved.now in
    let made = c.in_ok-phases.phases.items in
    let jobs : c.in_ok-jobs.jobs ≡ roll asks befores made = c.in_ok-jobs.ensures.value ∙ (λ i. roll (c.as_slice-2.ensures i) (c.as_slice-3.ensures i) made) in
    let carried : IsCarried moved (length asks) s.jobs.phases made =
    subst (λ (ps : List Phase). IsCarried moved (length asks) ps made) c.phases.ensures
    (subst (λ (n : ℕ). IsCarried moved n c.phases.result.now made) c.len.ensures
    (subst (λ (m : List ℕ). IsCarried m c.len.result c.phases.result.now made) c.as_slice.ensures c.in_ok-phases.ensures)) in
    let moves : Moves moved s.jobs.asks asks = subst (λ (x : Standing). Moves moved x.asks asks) (sym c.self.view_is) c.requires.moves in
    let few : length made ≤ NONE = subst (λ (n : ℕ). n ≤ NONE) (ap (λ (r : Roll). length r.phases) jobs) c.in_ok-jobs.ensures.few in
    subst (λ (r : Roll). IsMachine s.room r s.running s.failed) (sym jobs)
    (replanned_machine s.room s.jobs s.running s.failed asks befores moved made c.self.invariant moves carried few)
