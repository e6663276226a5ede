use Rattle.smk_plan_states.specs.Keys.{has_key}
use Rattle.smk_plan_states.proofs.LookUps.{inputs_more}
use Rattle.smk_plan_states.proofs.making.inputs_in.Goals as goal

pub loop-path-preserved : goal.loop-path-preserved
loop-path-preserved c = λ J ways.
    inputs_more J c.args.name.now (λ q. has_key c.loop-path.seen q) (λ q. has_key c.put_key.new.keys q) c.loop-path.found c.push_input.new.found c.args.paths.now c.loop-path.path-index c.path-item.result c.has_key-again.result
    c.loop-path-test.true c.path-item.is c.has_key-again.ensures (c.in_ok-push_input.ensures J ways) c.in_ok-put_key.ensures _ (c.loop-path.invariant J ways)
