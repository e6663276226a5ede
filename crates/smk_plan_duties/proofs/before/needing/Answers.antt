use Rattle.std.proofs.Common.{[], subst, sym, ◌∙◌, ap}
use Rattle.smk_store.proofs.Writing.{same_there}
use Rattle.smk_plan_duties.specs.Needs.{answer_at}
use Rattle.smk_plan_duties.proofs.OneMore.{AreTold, none_told, told_more}
use Rattle.smk_plan_duties.proofs.before.needing.Goals as goal

pub loop-i-init : goal.loop-i-init
loop-i-init c = subst (AreTold c.args.befores.now c.args.number 0) (sym c.new-found.ensures) (none_told c.args.befores.now c.args.number)

pub loop-i-preserved : goal.loop-i-preserved
loop-i-preserved c =
    told_more c.args.befores.now c.args.number c.loop-i.i c.needs_it-needs.result c.loop-i.found c.push.new.self c.as_slice-in-loop-i.result.now c.requires.earlier c.in_ok-push.ensures.ok (c.as_slice-in-loop-i.ensures ∙ c.index-befores-i.is ∙ same_there c.args.befores.now c.loop-i.i c.index-befores-i.result [] c.loop-i-test.true)
    (c.needs_it-needs.ensures ∙ ap (λ f. answer_at f c.as_slice-in-loop-i.result.now c.loop-i.i c.args.number) c.as_slice.ensures) c.loop-i.invariant
