use Rattle.std.proofs.Common.{◌∙◌, Some, option_map, sym, ap, subst}
use Rattle.smk_choose.specs.Choose.{Choice, choose}
use Rattle.smk_choose.specs.Told.{told_by}
use Rattle.smk_chain.specs.Derive.{refused_at}
use Rattle.smk_chain.specs.Told.{TellsFirst}
use Rattle.smk_chain_walk.proofs.Taken.{made_taken, if_err}
use Rattle.smk_chain_walk.proofs.stepping.permitted.Goals as goal

pub returns-in_err-check-in-Some-Make-clause-fault : goal.returns-in_err-check-in-Some-Make-clause-fault
returns-in_err-check-in-Some-Make-clause-fault c =
    let flow = c.args.flow.now in
    let sources = told_by c.args.sources.now in
    let L = c.args.lists.now in
    let p = c.args.path.now in
    let made = made_taken (choose flow sources p) c.in-Some-Make.making
    (ap Some (sym c.in-Some-Make.field-0-is) ∙ sym (ap (option_map (λ x. x.now)) c.in-Some-Make.is) ∙ c.choice.ensures ∙ c.requires.known) in
    let f = c.in_err-check-in-Some-Make.field-0.0 in
    if_err c.from_residual.result f (TellsFirst flow (refused_at flow L p (choose flow sources p))) c.from_residual.ensures.1
    (subst (λ (ch : Choice). TellsFirst flow (refused_at flow L p ch) f) (sym made.1) (c.in_err-check-in-Some-Make.ensures.fault sources p made.0 made.1 made.2))

pub returns-in_ok-check-in-Some-Make-clause-permitted : goal.returns-in_ok-check-in-Some-Make-clause-permitted
returns-in_ok-check-in-Some-Make-clause-permitted c =
    let flow = c.args.flow.now in
    let sources = told_by c.args.sources.now in
    let p = c.args.path.now in
    let made = made_taken (choose flow sources p) c.in-Some-Make.making
    (ap Some (sym c.in-Some-Make.field-0-is) ∙ sym (ap (option_map (λ x. x.now)) c.in-Some-Make.is) ∙ c.choice.ensures ∙ c.requires.known) in
    (made.0, made.1, made.2, c.in_ok-check-in-Some-Make.ensures.calm sources p made.0 made.1 made.2)
