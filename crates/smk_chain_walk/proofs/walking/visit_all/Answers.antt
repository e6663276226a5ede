use Rattle.std.proofs.Common.{◌≡◌, ◌∙◌, ◌+◌, suc, eqb, false, List, take, arith, refl, sym, subst}
use Rattle.smk_world.specs.Trees.{Path}
use Rattle.smk_choose.specs.Told.{told_by, CoversAll}
use Rattle.smk_chain.specs.Derive.{height, refused}
use Rattle.smk_chain.specs.Told.{TellsFirst}
use Rattle.std.specs.List.{flat_map, AllByRecursion}
use Rattle.smk_chain_walk.specs.Steps.{Walked}
use Rattle.smk_chain_walk.proofs.Taken.{if_err}
use Rattle.smk_chain_walk.proofs.Targets.{take_whole, Reaches, target_on, target_stop, target_none, target_jobs, target_links, target_fits, target_covers}
use Rattle.smk_chain_walk.proofs.walking.visit_all.Goals as goal

pub loop-target-init : goal.loop-target-init
loop-target-init c = (refl, c.new-reached.ensures c.args.flow.now (told_by c.args.sources.now) c.args.lists.now, tt)

pub visit-requires-clause-fits : goal.visit-requires-clause-fits
visit-requires-clause-fits c =
    let flow = c.args.flow.now in
    let sources = told_by c.args.sources.now in
    let L = c.args.lists.now in
    let ts = c.as_slice-target-items.result.now in
    target_fits flow sources L ts c.loop-target.target-index c.target-item.result c.loop-target-test.true c.target-item.is
    (subst (λ (ps : List Path). AllByRecursion (λ p. eqb (height flow sources L 201 p) 201 ≡ false) ps) (sym c.as_slice-target-items.ensures) c.requires.shallow)

pub visit-requires-clause-covers : goal.visit-requires-clause-covers
visit-requires-clause-covers c =
    let flow = c.args.flow.now in
    let sources = told_by c.args.sources.now in
    let L = c.args.lists.now in
    let ts = c.as_slice-target-items.result.now in
    target_covers flow sources L c.args.table.now ts c.loop-target.target-index c.target-item.result c.loop-target-test.true c.target-item.is
    (subst (CoversAll flow sources c.args.table.now 201) (sym c.as_slice-target-items.ensures) c.requires.covered)

pub returns-in_err-visit-clause-fault : goal.returns-in_err-visit-clause-fault
returns-in_err-visit-clause-fault c =
    let flow = c.args.flow.now in
    let sources = told_by c.args.sources.now in
    let L = c.args.lists.now in
    let ts = c.as_slice-target-items.result.now in
    let f = c.in_err-visit.field-0.0 in
    let t = c.target-item.result in
    if_err c.from_residual-in_err-visit.result f (TellsFirst flow (flat_map (refused flow sources L 201) c.args.targets.now)) c.from_residual-in_err-visit.ensures.1
    (subst (λ (ps : List Path). TellsFirst flow (flat_map (refused flow sources L 201) ps) f) c.as_slice-target-items.ensures
    (target_stop flow sources L c.loop-target.reached c.visit.new.reached ts c.loop-target.target-index t f c.loop-target-test.true c.target-item.is c.loop-target.invariant
    (subst (λ r. Walked flow sources L c.loop-target.reached c.visit.new.reached t r) c.in_err-visit.was c.visit.ensures)))

pub loop-target-preserved : goal.loop-target-preserved
loop-target-preserved c =
    let flow = c.args.flow.now in
    let sources = told_by c.args.sources.now in
    let L = c.args.lists.now in
    let ts = c.as_slice-target-items.result.now in
    let i = c.loop-target.target-index in
    let t = c.target-item.result in
    let more : i + 1 ≡ suc i = omega arith in
    subst (λ k. Reaches flow sources L c.visit.new.reached (take k ts)) (sym more)
    (target_on flow sources L c.loop-target.reached c.visit.new.reached ts i t c.loop-target-test.true c.target-item.is c.loop-target.invariant
    (subst (λ r. Walked flow sources L c.loop-target.reached c.visit.new.reached t r) c.in_ok-visit.was c.visit.ensures))

pub returns-clause-none : goal.returns-clause-none
returns-clause-none c =
    let flow = c.args.flow.now in
    let sources = told_by c.args.sources.now in
    let L = c.args.lists.now in
    let ts = c.as_slice-target-items.result.now in
    let all : take c.loop-target.target-index ts ≡ c.args.targets.now = take_whole ts c.loop-target.target-index c.loop-target-test.false ∙ c.as_slice-target-items.ensures in
    target_none flow sources L c.loop-target.reached c.args.targets.now (subst (Reaches flow sources L c.loop-target.reached) all c.loop-target.invariant)

pub returns-clause-jobs : goal.returns-clause-jobs
returns-clause-jobs c =
    let flow = c.args.flow.now in
    let sources = told_by c.args.sources.now in
    let L = c.args.lists.now in
    let ts = c.as_slice-target-items.result.now in
    let all : take c.loop-target.target-index ts ≡ c.args.targets.now = take_whole ts c.loop-target.target-index c.loop-target-test.false ∙ c.as_slice-target-items.ensures in
    target_jobs flow sources L c.loop-target.reached c.args.targets.now (subst (Reaches flow sources L c.loop-target.reached) all c.loop-target.invariant)

pub returns-clause-links : goal.returns-clause-links
returns-clause-links c = λ made makers befores.
    let flow = c.args.flow.now in
    let sources = told_by c.args.sources.now in
    let L = c.args.lists.now in
    let ts = c.as_slice-target-items.result.now in
    let all : take c.loop-target.target-index ts ≡ c.args.targets.now = take_whole ts c.loop-target.target-index c.loop-target-test.false ∙ c.as_slice-target-items.ensures in
    target_links flow sources L c.loop-target.reached c.args.targets.now made makers befores (subst (Reaches flow sources L c.loop-target.reached) all c.loop-target.invariant)
