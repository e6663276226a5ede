use Rattle.std.proofs.Common.{◌∙◌, ◌++◌, not, filter, arith}
use Rattle.std.proofs.lemmas.Grind.{common_steps}
use Rattle.std.specs.BTreeSet.{contains_text}
use Rattle.smk_chain.specs.Derive.{distinct}
use Rattle.smk_plan_states.specs.declared.lines.Awaited.{Awaited}
use Rattle.smk_plan_states.specs.Tables.{same_path}
use Rattle.smk_plan_states.proofs.LookUps.{each_more, all_new}
use Rattle.smk_plan_states.proofs.awaits.each_once.Goals as goal

pub loop-spot-init : goal.loop-spot-init
loop-spot-init c =
    (λ i. c.new-found.ensures i ++ filter (λ (a : Awaited). not (contains_text c.new-seen.result a.path)) (distinct same_path c.args.spots.now))
    ∙ all_new (λ q. contains_text c.new-seen.result q) (distinct same_path c.args.spots.now) (λ q. grind (arith, common_steps))

pub loop-spot-preserved : goal.loop-spot-preserved
loop-spot-preserved c =
    each_more (λ q. contains_text c.loop-spot.seen q) (λ q. contains_text c.push_fresh.new.seen q) c.spot-item.result c.is_fresh-fresh.result c.is_fresh-fresh.ensures c.in_ok-push_fresh.ensures.seen
    c.loop-spot.found c.push_fresh.new.found c.args.spots.now c.loop-spot.spot-index c.loop-spot-test.true c.spot-item.is c.in_ok-push_fresh.ensures.found _ c.loop-spot.invariant
