use Rattle.std.proofs.Common.{◌<◌, length, ◌∙◌, arith}
use Rattle.std.proofs.Math.Seq.{map-set_same}
use Rattle.smk_world_real.proofs.Numbers.{Contains-number}
use Rattle.smk_world_real.proofs.children.poll.Goals as goal

pub returns-in_err-status-clause-same : goal.returns-in_err-status-clause-same
returns-in_err-status-clause-same g c = map-set_same _ c.loop-i.children c.loop-i.i c.try_wait.new.self c.index-children-i.result c.try_wait.ensures ∙ c.loop-i.invariant

pub returns-in-Some-clause-same : goal.returns-in-Some-clause-same
returns-in-Some-clause-same g c = map-set_same _ c.loop-i.children c.loop-i.i c.try_wait.new.self c.index-children-i.result c.try_wait.ensures ∙ c.loop-i.invariant

pub returns-in-Some-clause-among : goal.returns-in-Some-clause-among
returns-in-Some-clause-among g c =
    let within : c.loop-i.i < length c.loop-i.children = omega (arith, c.loop-i-test.true, c.loop-i.auto.children) in
    rw (← c.loop-i.invariant) (Contains-number _ c.loop-i.children c.loop-i.i c.try_wait.new.self c.index-children-i.result within c.try_wait.ensures)

pub loop-i-preserved : goal.loop-i-preserved
loop-i-preserved g c = map-set_same _ c.loop-i.children c.loop-i.i c.try_wait.new.self c.index-children-i.result c.try_wait.ensures ∙ c.loop-i.invariant
