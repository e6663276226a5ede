use Rattle.std.proofs.Common.{◌≡◌, ◌∙◌, List, map, option_map, IfOk, sym, ap, subst}
use Rattle.smk_flow.specs.Flows.{Candidate}
use Rattle.smk_chain.specs.Derive.{wants}
use Rattle.smk_choose_wants.specs.declared.wanted.Want.{Want}
use Rattle.smk_choose_wants.specs.Wants.{want_of}
use Rattle.smk_choose_wants.proofs.Chosen.{part_is, no_part}
use Rattle.smk_choose_wants.proofs.wants.wants_of.Goals as goal

pub returns-in-Some : goal.returns-in-Some
returns-in-Some c = λ d placed is.
    let flow = c.args.flow.now in
    subst (λ (x : Candidate). IfOk c.wants_with.result (λ (found : List Want). found ≡ map want_of (wants flow c.args.lists.now x)))
    (part_is flow d c.args.making.now c.in-Some.part.now (sym (ap (option_map (λ r. r.now)) c.in-Some.is) ∙ c.part_at.ensures) placed is)
    c.wants_with.ensures

pub returns-in-None : goal.returns-in-None
returns-in-None c = λ d placed is.
    absurd (no_part c.args.flow.now d c.args.making.now (sym (ap (option_map (λ r. r.now)) c.in-None.is) ∙ c.part_at.ensures) placed is)
