use Rattle.std.proofs.Common.{◌≡◌, ◌∙◌, ◌+◌, ◌-◌, suc, List, map, take, arith, sym, subst}
use Rattle.smk_choose.specs.declared.table.Choices.{Choices}
use Rattle.smk_choose.specs.Told.{told_by, Covers}
use Rattle.smk_choose_wants.specs.declared.wanted.Want.{Want}
use Rattle.smk_chain_walk.specs.Stepping.{IsBegun, IsStep, text_in}
use Rattle.smk_chain_walk.specs.Steps.{Walked}
use Rattle.smk_chain_walk.proofs.Visiting.{SoFar, walked_done, walked_refused}
use Rattle.smk_chain_walk.proofs.Descent.{at_err, deeper, below_fits, below_covers, stop_here, stop_under, go_on, done_here, noted_source}
use Rattle.smk_chain_walk.proofs.Targets.{take_whole}
use Rattle.smk_chain_walk.proofs.walking.+visit.Goals as goal

pub returns-then-is_done : goal.returns-then-is_done
returns-then-is_done t c =
    walked_done c.args.query.now.flow.now (told_by c.args.query.now.sources.now) c.args.query.now.lists.now c.args.reached.now c.args.path.now (sym c.is_done.ensures ∙ c.if-is_done.true)

pub returns-in_err-step : goal.returns-in_err-step
returns-in_err-step t c =
    let flow = c.args.query.now.flow.now in
    let sources = told_by c.args.query.now.sources.now in
    let L = c.args.query.now.lists.now in
    let p = c.args.path.now in
    at_err (λ r. Walked flow sources L c.args.reached.now c.args.reached.now p r) c.from_residual.result c.in_err-step.field-0.0 c.from_residual.ensures.1
    (walked_refused flow sources L c.args.reached.now c.args.reached.now p c.in_err-step.field-0.0 c.in_err-step.ensures.fault)

pub returns-in_default : goal.returns-in_default
returns-in_default t c =
    let flow = c.args.query.now.flow.now in
    let sources = told_by c.args.query.now.sources.now in
    let L = c.args.query.now.lists.now in
    let p = c.args.path.now in
    let source = subst (IsBegun flow sources L p) c.in_default.is c.in_ok-step.ensures.begun in
    noted_source flow sources L c.args.reached.now c.note_source.new.self p c.note_source.result c.note_source.ensures.memory c.note_source.ensures.done c.note_source.ensures.keeps
    (λ cs h. c.note_source.ensures.noted flow sources L cs h source) source

pub returns-in_err-wanted : goal.returns-in_err-wanted
returns-in_err-wanted t c =
    let flow = c.args.query.now.flow.now in
    let sources = told_by c.args.query.now.sources.now in
    let L = c.args.query.now.lists.now in
    let p = c.args.path.now in
    let m = c.in-Some.step.making.now in
    let own = c.in-Some.step.own in
    let ws = c.as_slice-want-items.result.now in
    let begun : IsStep flow sources L p m c.in-Some.step.wants own = subst (IsBegun flow sources L p) c.in-Some.is c.in_ok-step.ensures.begun in
    let s : IsStep flow sources L p m ws own = subst (λ (xs : List Want). IsStep flow sources L p m xs own) (sym c.as_slice-want-items.ensures) begun in
    let i = c.loop-want.want-index in
    let w = c.want-item.result in
    let f = c.in_err-wanted.field-0.0 in
    let now = c.loop-want.reached in
    at_err (λ r. Walked flow sources L c.args.reached.now now p r) c.from_residual-in_err-wanted.result f c.from_residual-in_err-wanted.ensures.1
    (stop_here flow sources L c.args.depth p m ws own c.requires.few c.requires.fits s i w c.loop-want-test.true c.want-item.is c.args.reached.now now now f
    c.in_err-wanted.ensures c.loop-want.invariant)

pub visit-requires : goal.visit-requires
visit-requires t c =
    let flow = c.args.query.now.flow.now in
    let sources = told_by c.args.query.now.sources.now in
    let L = c.args.query.now.lists.now in
    let p = c.args.path.now in
    let m = c.in-Some.step.making.now in
    let own = c.in-Some.step.own in
    let ws = c.as_slice-want-items.result.now in
    let begun : IsStep flow sources L p m c.in-Some.step.wants own = subst (IsBegun flow sources L p) c.in-Some.is c.in_ok-step.ensures.begun in
    let s : IsStep flow sources L p m ws own = subst (λ (xs : List Want). IsStep flow sources L p m xs own) (sym c.as_slice-want-items.ensures) begun in
    let i = c.loop-want.want-index in
    let w = c.want-item.result in
    let found = c.in_ok-wanted.wanted in
    let deep = (deeper flow sources L c.args.depth p s.candidate c.requires.fits s.chosen).1 in
    let few = c.requires.few in (
      omega (arith, deep, c.decreases),
      (
        c.requires.guide,
        (
          c.requires.folders,
          (
            omega (arith, few),
            (
              below_fits flow sources L c.args.depth p m ws own c.requires.few c.requires.fits s i w c.loop-want-test.true c.want-item.is found c.in_ok-wanted.ensures,
              subst (λ (k : Choices). Covers flow sources k (c.args.depth - 1 + 1) found.now) (sym c.inner-table.ensures)
                  (below_covers flow sources L c.args.depth p m ws own c.requires.few c.requires.fits s i w c.loop-want-test.true c.want-item.is c.args.table.now found c.in_ok-wanted.ensures c.requires.covers),
            ),
          ),
        ),
      ),
    )

pub returns-in_err-visit : goal.returns-in_err-visit
returns-in_err-visit t c =
    let flow = c.args.query.now.flow.now in
    let sources = told_by c.args.query.now.sources.now in
    let L = c.args.query.now.lists.now in
    let p = c.args.path.now in
    let m = c.in-Some.step.making.now in
    let own = c.in-Some.step.own in
    let ws = c.as_slice-want-items.result.now in
    let begun : IsStep flow sources L p m c.in-Some.step.wants own = subst (IsBegun flow sources L p) c.in-Some.is c.in_ok-step.ensures.begun in
    let s : IsStep flow sources L p m ws own = subst (λ (xs : List Want). IsStep flow sources L p m xs own) (sym c.as_slice-want-items.ensures) begun in
    let i = c.loop-want.want-index in
    let w = c.want-item.result in
    let f = c.in_err-visit.field-0.0 in
    let now = c.loop-want.reached in
    let new = c.visit.new.reached in
    let found = c.in_ok-wanted.wanted in
    at_err (λ r. Walked flow sources L c.args.reached.now new p r) c.from_residual-in_err-visit.result f c.from_residual-in_err-visit.ensures.1
    (stop_under flow sources L c.args.depth p m ws own c.requires.few c.requires.fits s i w c.loop-want-test.true c.want-item.is c.args.reached.now now new found f c.in_ok-wanted.ensures
    (subst (λ r. Walked flow sources L now new found.now r) c.in_err-visit.was c.visit.ensures) c.loop-want.invariant)

pub loop-want-preserved : goal.loop-want-preserved
loop-want-preserved t c =
    let flow = c.args.query.now.flow.now in
    let sources = told_by c.args.query.now.sources.now in
    let L = c.args.query.now.lists.now in
    let p = c.args.path.now in
    let m = c.in-Some.step.making.now in
    let own = c.in-Some.step.own in
    let ws = c.as_slice-want-items.result.now in
    let begun : IsStep flow sources L p m c.in-Some.step.wants own = subst (IsBegun flow sources L p) c.in-Some.is c.in_ok-step.ensures.begun in
    let s : IsStep flow sources L p m ws own = subst (λ (xs : List Want). IsStep flow sources L p m xs own) (sym c.as_slice-want-items.ensures) begun in
    let i = c.loop-want.want-index in
    let w = c.want-item.result in
    let now = c.loop-want.reached in
    let new = c.visit.new.reached in
    let found = c.in_ok-wanted.wanted in
    let more : i + 1 ≡ suc i = omega arith in
    subst (λ k. SoFar flow sources L c.args.reached.now new p m.rule (map text_in (take k ws))) (sym more)
    (go_on flow sources L c.args.depth p m ws own c.requires.few c.requires.fits s i w c.loop-want-test.true c.want-item.is c.args.reached.now now new found c.in_ok-wanted.ensures
    (subst (λ r. Walked flow sources L now new found.now r) c.in_ok-visit.was c.visit.ensures) c.loop-want.invariant)

pub returns : goal.returns
returns t c =
    let flow = c.args.query.now.flow.now in
    let sources = told_by c.args.query.now.sources.now in
    let L = c.args.query.now.lists.now in
    let p = c.args.path.now in
    let m = c.in-Some.step.making.now in
    let own = c.in-Some.step.own in
    let ws = c.as_slice-want-items.result.now in
    let begun : IsStep flow sources L p m c.in-Some.step.wants own = subst (IsBegun flow sources L p) c.in-Some.is c.in_ok-step.ensures.begun in
    let s : IsStep flow sources L p m ws own = subst (λ (xs : List Want). IsStep flow sources L p m xs own) (sym c.as_slice-want-items.ensures) begun in
    let now = c.loop-want.reached in
    done_here flow sources L c.args.depth p m ws own c.requires.few c.requires.fits s c.args.reached.now now c.settle.new.self c.settle.result c.settle.ensures.memory c.settle.ensures.done c.settle.ensures.keeps
    (λ cs paths ready calm all h. c.settle.ensures.settled sources s.candidate cs
    (record { chosen = s.chosen; is = s.is; wanted = c.as_slice.ensures ∙ sym c.as_slice-want-items.ensures ∙ s.wants; paths = paths; done = ready })
    (record { calm = calm; called = all; holds = h }))
    (subst (λ (xs : List Want). SoFar flow sources L c.args.reached.now now p m.rule (map text_in xs)) (take_whole ws c.loop-want.want-index c.loop-want-test.false) c.loop-want.invariant)
