use Rattle.std.proofs.Common.{◌++◌, drop, ap, sym, ◌∙◌, ◌+◌}
use Rattle.std.specs.List.{zip}
use Rattle.smk_store.specs.Sources.{sources_of}
use Rattle.smk_store.proofs.Seeing.{dropped}
use Rattle.smk_store.proofs.sources.push_paths.Goals as goal

pub loop-path-preserved : goal.loop-path-preserved
loop-path-preserved c = λ later.
    let ps = c.args.paths.now in
    let i = c.loop-path.path-index in
    c.in_ok-rest.ensures (drop (i + 1) ps ++ later)
    ∙ ap (λ qs. c.loop-path.found ++ sources_of c.args.p.now (zip (qs ++ later) c.loop-path.rest.now)) (sym (dropped ps i c.path-item.result c.loop-path-test.true c.path-item.is))
    ∙ c.loop-path.invariant later
