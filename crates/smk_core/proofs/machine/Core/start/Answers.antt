use Rattle.std.proofs.Common.{◌≡◌, ◌+◌, Some, true, set, sym, ap, ◌∙◌, subst}
use Rattle.std.specs.List.{slice_get}
use Rattle.smk_core.specs.declared.phase.Phase.TheVariants.{Running}
use Rattle.smk_core.specs.Lines.{Roll, fits_room}
use Rattle.smk_core.specs.Machine.{bounds_of, standing_of, IsMachine}
use Rattle.smk_core.specs.Standing.{Standing, may_start, started, asks_running}
use Rattle.smk_core.proofs.Settling.{is_waiting_at}
use Rattle.smk_core.proofs.Machines.{may_waits, may_fits, begun_machine, changed_standing}
use Rattle.smk_core.proofs.machine.Core.start.Goals as goal

pub take-requires : goal.take-requires
take-requires c =
    let s = c.self.inside in
    let may : may_start (standing_of s.room s.keep_going s.stopped s.jobs) c.args.job ≡ true = ap (λ (x : Standing). may_start x c.args.job) c.self.view_is ∙ c.requires in
    let ask : slice_get s.jobs.asks c.args.job ≡ Some c.in-Some.ask.now = sym c.in-Some.ensures in
    sym (ap (fits_room s.room) ask) ∙ may_fits s.room s.jobs s.keep_going s.stopped s.running s.failed c.self.invariant c.args.job may

pub start-requires : goal.start-requires
start-requires c =
    let s = c.self.inside in
    let may : may_start (standing_of s.room s.keep_going s.stopped s.jobs) c.args.job ≡ true = ap (λ (x : Standing). may_start x c.args.job) c.self.view_is ∙ c.requires in
    may_waits s.room s.jobs s.keep_going s.stopped s.running s.failed c.self.invariant c.args.job may

pub invariant_of-self : goal.invariant_of-self
invariant_of-self c =
    let s = c.self.inside in
    let job = c.args.job in
    let may : may_start (standing_of s.room s.keep_going s.stopped s.jobs) job ≡ true = ap (λ (x : Standing). may_start x job) c.self.view_is ∙ c.requires in
    let ask : slice_get s.jobs.asks job ≡ Some c.in-Some.ask.now = sym c.in-Some.ensures in
    subst (λ (r : Roll). IsMachine c.take.new.self r (s.running + 1) s.failed) (sym c.start.ensures)
    (begun_machine s.room c.take.new.self s.jobs s.running s.failed c.self.invariant job c.in-Some.ask.now ask
    (is_waiting_at s.jobs.phases job (may_waits s.room s.jobs s.keep_going s.stopped s.running s.failed c.self.invariant job may))
    (c.take.ensures s.room.cores (bounds_of s.room) (asks_running s.jobs.asks s.jobs.phases) c.self.invariant.held))

pub returns : goal.returns
returns c =
    let s = c.self.inside in
    let job = c.args.job in
    changed_standing s.room c.take.new.self s.keep_going s.stopped s.jobs c.start.new.self (set s.jobs.phases job Running) _
    (c.take.ensures s.room.cores (bounds_of s.room) (asks_running s.jobs.asks s.jobs.phases) c.self.invariant.held) c.start.ensures
    ∙ ap (λ (x : Standing). started x job) c.self.view_is
