use Rattle.smk_world.proofs.Devices.{looked_on, looked_memory, looked_then, still}
use Rattle.smk_digest.proofs.Matched.{content_pushed, contents_done}
use Rattle.smk_digest.proofs.reading.contents_at.Goals as goal

pub returns-in_err-content-clause-looked : goal.returns-in_err-content-clause-looked
returns-in_err-content-clause-looked g c = looked_then c.loop-path.invariant.looked (looked_on _ c.in_err-content.was c.from_residual.ensures.1 c.content_at.ensures.looked)

pub returns-in_err-push-clause-looked : goal.returns-in_err-push-clause-looked
returns-in_err-push-clause-looked g c = looked_memory _ c.from_residual-in_err-push.ensures.1 (looked_then c.loop-path.invariant.looked c.in_ok-content.ensures.looked)

pub loop-path-preserved : goal.loop-path-preserved
loop-path-preserved g c =
    let v = c.loop-path.invariant in
    record {
      looked = looked_then v.looked c.in_ok-content.ensures.looked;
      told = λ w at.
          let u = still w v.looked at in
          content_pushed w u.0 c.args.paths.now c.loop-path.path-index c.path-item.result c.loop-path.contents _ c.in_ok-content.content c.loop-path-test.true c.path-item.is c.in_ok-push.ensures.ok u.2
          (v.told w at) (c.in_ok-content.ensures.told u.0 u.1);
    }

pub returns-clause-told : goal.returns-clause-told
returns-clause-told g c = λ w at. contents_done w c.args.paths.now c.loop-path.path-index c.loop-path.contents c.loop-path-test.false (c.loop-path.invariant.told w at)
