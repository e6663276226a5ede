use Rattle.std.proofs.Common.{◌≡◌, ◌<◌, ◌-◌, true, not, ◌||◌, [], set, sym, ap, ◌∙◌, subst, arith}
use Rattle.smk_core.specs.Lines.{Roll}
use Rattle.smk_core.specs.Machine.{bounds_of, IsMachine}
use Rattle.smk_core.specs.Standing.{Standing, stands, is_running, ended, ending, asks_running}
use Rattle.smk_core.proofs.Settling.{is_running_at}
use Rattle.smk_core.proofs.Machines.{given_back, some_runs, ended_in_use, ended_machine, changed_standing}
use Rattle.smk_core.proofs.machine.CoreStarter.ended.Goals as goal

pub give-requires : goal.give-requires
give-requires c =
    let s = c.self.inside in
    let job = c.args.job in
    let runs : stands is_running s.jobs.phases job ≡ true = ap (λ (x : Standing). stands is_running x.phases job) c.self.view_is ∙ c.requires in
    given_back s.room s.room s.jobs s.running s.failed c.self.invariant job c.in-Some.ask.now (sym c.in-Some.ensures) (is_running_at s.jobs.phases job runs)

pub overflow_sub-self : goal.overflow_sub-self
overflow_sub-self c =
    let s = c.self.inside in
    let job = c.args.job in
    let runs : stands is_running s.jobs.phases job ≡ true = ap (λ (x : Standing). stands is_running x.phases job) c.self.view_is ∙ c.requires in
    let some : 0 < s.running = some_runs s.room s.room s.jobs s.running s.failed c.self.invariant job c.in-Some.ask.now (sym c.in-Some.ensures) (is_running_at s.jobs.phases job runs) in
    omega arith

pub invariant_of-self : goal.invariant_of-self
invariant_of-self c =
    let s = c.self.inside in
    let job = c.args.job in
    let good = c.args.good in
    let runs : stands is_running s.jobs.phases job ≡ true = ap (λ (x : Standing). stands is_running x.phases job) c.self.view_is ∙ c.requires in
    subst (λ (r : Roll). IsMachine c.give.new.self r (s.running - 1) (s.failed || not good)) (sym c.end.ensures)
    (ended_machine s.room c.give.new.self s.jobs s.running s.failed c.self.invariant job c.in-Some.ask.now (sym c.in-Some.ensures) (is_running_at s.jobs.phases job runs) good
    (c.give.ensures s.room.cores (bounds_of s.room) (asks_running s.jobs.asks (set s.jobs.phases job (ending good))) []
    (ended_in_use s.room s.room s.jobs s.running s.failed c.self.invariant job c.in-Some.ask.now (sym c.in-Some.ensures) (is_running_at s.jobs.phases job runs) good)))

pub returns : goal.returns
returns c =
    let s = c.self.inside in
    let job = c.args.job in
    let good = c.args.good in
    let runs : stands is_running s.jobs.phases job ≡ true = ap (λ (x : Standing). stands is_running x.phases job) c.self.view_is ∙ c.requires in
    changed_standing s.room c.give.new.self s.keep_going s.stopped s.jobs c.end.new.self (set s.jobs.phases job (ending good)) _
    (c.give.ensures s.room.cores (bounds_of s.room) (asks_running s.jobs.asks (set s.jobs.phases job (ending good))) []
    (ended_in_use s.room s.room s.jobs s.running s.failed c.self.invariant job c.in-Some.ask.now (sym c.in-Some.ensures) (is_running_at s.jobs.phases job runs) good)) c.end.ensures
    ∙ ap (λ (x : Standing). ended x job good) c.self.view_is
