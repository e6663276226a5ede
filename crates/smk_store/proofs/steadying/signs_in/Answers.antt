use Rattle.std.proofs.Common.{◌++◌, ap, sym, ◌∙◌}
use Rattle.smk_store.specs.Steadying.{signs_of}
use Rattle.smk_store.proofs.Greatest.{signs_next, signs_done}
use Rattle.smk_store.proofs.steadying.signs_in.Goals as goal

pub loop-i-preserved : goal.loop-i-preserved
loop-i-preserved c =
    let p = c.index-paths-i.result in
    let e = c.index-entries-i.result in
    c.in_ok-push_signs.ensures ∙ ap (λ t. t ++ signs_of (record { path = p; entry = e })) c.loop-i.invariant
    ∙ sym (signs_next c.args.paths.now c.args.entries.now c.loop-i.i p e c.requires.each c.loop-i-test.true c.index-paths-i.is c.index-entries-i.is)

pub returns : goal.returns
returns c = c.loop-i.invariant ∙ signs_done c.args.paths.now c.args.entries.now c.loop-i.i c.requires.each c.loop-i-test.false
