use Rattle.std.proofs.Common.{◌≡◌, ap, take, ◌∙◌}
use Rattle.std.proofs.lemmas.List.{take_all}
use Rattle.smk_store.specs.Sources.{earlier, is_seen, first_seen}
use Rattle.smk_world.proofs.Devices.{looked_on, looked_memory, looked_then, still}
use Rattle.smk_store.proofs.Seeing.{seen_next, seen_same, source_free}
use Rattle.smk_store.proofs.sources.first_seen.Goals as goal

pub returns-in_err-seen-clause-looked : goal.returns-in_err-seen-clause-looked
returns-in_err-seen-clause-looked g c =
    looked_then c.loop-source.invariant.looked (looked_on _ c.in_err-seen.was c.from_residual.ensures.1 c.is_seen.ensures.looked)

pub returns-in_err-first-clause-looked : goal.returns-in_err-first-clause-looked
returns-in_err-first-clause-looked g c = looked_memory _ c.from_residual-in_err-first.ensures.1 (looked_then c.loop-source.invariant.looked c.in_ok-seen.ensures.looked)

pub loop-source-preserved : goal.loop-source-preserved
loop-source-preserved g c =
    let v = c.loop-source.invariant in
    let x = c.source-item.result in
    record {
      looked = looked_then v.looked c.in_ok-seen.ensures.looked;
      told = λ w at free.
          let u = still w v.looked at in
          let seen : c.in_ok-seen.seen ≡ is_seen w x =
          c.in_ok-seen.ensures.told u.0 u.1 (source_free w.nodes u.0.nodes c.args.sources.now c.loop-source.source-index x c.loop-source-test.true c.source-item.is u.2 free) ∙ seen_same w u.0 x u.2 in
          c.in_ok-first.ensures ∙ ap (λ f. earlier f x.path c.in_ok-seen.seen) (v.told w at free) ∙ ap (earlier (first_seen (is_seen w) (take c.loop-source.source-index c.args.sources.now)) x.path) seen
          ∙ seen_next (is_seen w) c.args.sources.now c.loop-source.source-index x c.loop-source-test.true c.source-item.is;
    }

pub returns-clause-told : goal.returns-clause-told
returns-clause-told g c = λ w at free.
    c.loop-source.invariant.told w at free ∙ ap (first_seen (is_seen w)) (take_all c.loop-source.source-index c.args.sources.now c.loop-source-test.false)
