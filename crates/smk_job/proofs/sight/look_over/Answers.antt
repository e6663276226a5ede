use Rattle.std.proofs.Common.{sym, ◌∙◌}
use Rattle.smk_job.proofs.Looking.{looked_well, looked_wrong, looked_blindly, looked_all, place_at}
use Rattle.smk_job.proofs.sight.look_over.Goals as goal

pub returns-in_err-stat-clause-acted : goal.returns-in_err-stat-clause-acted
returns-in_err-stat-clause-acted g c =
    let outs = c.args.outs.now in
    let i = c.loop-i.i in
    let out = c.index-outs-i.result in
    let p = c.index-places-i.result in
    looked_blindly g.W.Files.act outs i out p _ _ _ _ c.from_residual.result c.from_residual.ensures.0 c.loop-i-test.true c.index-outs-i.is
    (place_at outs c.args.places.now i out p c.requires.at c.loop-i-test.true c.index-outs-i.is c.index-places-i.is) c.loop-i.invariant c.in_err-stat.ensures

pub returns-in-Some-clause-acted : goal.returns-in-Some-clause-acted
returns-in-Some-clause-acted g c =
    let outs = c.args.outs.now in
    let i = c.loop-i.i in
    let out = c.index-outs-i.result in
    let p = c.index-places-i.result in
    looked_wrong g.W.Files.act outs i out p _ _ _ c.in_ok-stat.stat c.in-Some.wrong c.requires.files c.loop-i-test.true c.index-outs-i.is
    (place_at outs c.args.places.now i out p c.requires.at c.loop-i-test.true c.index-outs-i.is c.index-places-i.is) (sym c.wrong_of.ensures ∙ c.in-Some.is) c.loop-i.invariant c.in_ok-stat.ensures

pub loop-i-preserved : goal.loop-i-preserved
loop-i-preserved g c =
    let outs = c.args.outs.now in
    let i = c.loop-i.i in
    let out = c.index-outs-i.result in
    let p = c.index-places-i.result in
    looked_well g.W.Files.act outs i out p _ _ _ c.in_ok-stat.stat c.requires.files c.loop-i-test.true c.index-outs-i.is
    (place_at outs c.args.places.now i out p c.requires.at c.loop-i-test.true c.index-outs-i.is c.index-places-i.is) (sym c.wrong_of.ensures ∙ c.in-None.is) c.loop-i.invariant c.in_ok-stat.ensures

pub returns-clause-acted : goal.returns-clause-acted
returns-clause-acted g c = looked_all g.W.Files.act c.args.outs.now c.loop-i.i _ _ c.loop-i-test.false c.loop-i.invariant
