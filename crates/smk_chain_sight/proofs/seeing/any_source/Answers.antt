use Rattle.std.proofs.Common.{sym, ◌∙◌}
use Rattle.std.specs.List.{list_any}
use Rattle.smk_world.proofs.Devices.{looked_then, looked_on, still}
use Rattle.smk_store.specs.Images.{is_source}
use Rattle.smk_chain_sight.proofs.Eyes.{viewed_still}
use Rattle.smk_chain_sight.proofs.Noted.{found_one, not_this, none_of_all}
use Rattle.smk_chain_sight.proofs.seeing.any_source.Goals as goal

pub returns-in_err-here-clause-looked : goal.returns-in_err-here-clause-looked
returns-in_err-here-clause-looked g c =
    looked_then c.loop-path.invariant.looked (looked_on _ c.in_err-here.was c.from_residual.ensures.1 c.seen_at.ensures.looked)

pub returns-then-here-clause-looked : goal.returns-then-here-clause-looked
returns-then-here-clause-looked g c =
    looked_then c.loop-path.invariant.looked c.in_ok-here.ensures.looked

pub returns-then-here-clause-told : goal.returns-then-here-clause-told
returns-then-here-clause-told g c = λ w at image v known.
    let was = c.loop-path.invariant.told w at image v known in
    let u = still w c.loop-path.invariant.looked at in
    let now = c.in_ok-here.ensures.told u.0 u.1 image (viewed_still w.nodes u.0.nodes c.args.store.now image u.2 v) was.1 in
    (found_one (is_source image) c.args.paths.now c.loop-path.path-index c.path-item.result (list_any (is_source image) c.args.paths.now) c.loop-path-test.true c.path-item.is (sym now.0.source ∙ c.if-here.true) was.0, now.1)

pub loop-path-preserved : goal.loop-path-preserved
loop-path-preserved g c =
    record {
      looked = looked_then c.loop-path.invariant.looked c.in_ok-here.ensures.looked;
      told = λ w at image v known.
          let was = c.loop-path.invariant.told w at image v known in
          let u = still w c.loop-path.invariant.looked at in
          let now = c.in_ok-here.ensures.told u.0 u.1 image (viewed_still w.nodes u.0.nodes c.args.store.now image u.2 v) was.1 in
          (not_this (is_source image) c.args.paths.now c.loop-path.path-index c.path-item.result (list_any (is_source image) c.args.paths.now) c.loop-path-test.true c.path-item.is (sym now.0.source ∙ c.if-here.false) was.0, now.1);
    }

pub returns-clause-told : goal.returns-clause-told
returns-clause-told g c = λ w at image v known.
    let was = c.loop-path.invariant.told w at image v known in
    (none_of_all (is_source image) c.args.paths.now c.loop-path.path-index (list_any (is_source image) c.args.paths.now) c.loop-path-test.false was.0, was.1)
