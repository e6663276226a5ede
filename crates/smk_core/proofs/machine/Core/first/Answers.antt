use Rattle.std.proofs.Common.{◌≡◌, true, sym, ap, ◌∙◌, subst, MatchOption}
use Rattle.smk_core.specs.Standing.{Standing, goes_on, may_start, NoneMayStart, IsFirst}
use Rattle.smk_core.specs.Machine.{standing_of}
use Rattle.smk_core.proofs.Machines.{first_is}
use Rattle.smk_core.proofs.machine.Core.first.Goals as goal

pub returns : goal.returns
returns c =
    let s = c.self.inside in
    let on : goes_on (standing_of s.room s.keep_going s.stopped s.jobs) ≡ true = ap goes_on c.self.view_is ∙ sym c.goes_on.ensures ∙ c.if-not-goes_on.false in
    subst (λ (x : Standing). MatchOption c.first.result (NoneMayStart x) (λ j. (may_start x j ≡ true) × IsFirst x j)) c.self.view_is
    (first_is s.room s.jobs s.keep_going s.stopped s.running s.failed c.self.invariant on c.first.result c.first.ensures)
