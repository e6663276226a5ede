use Rattle.std.proofs.Common.{take, ◌∙◌}
use Rattle.std.specs.Prelude.{bytes_eq}
use Rattle.smk_world.proofs.Devices.{next}
use Rattle.smk_record.proofs.Lists.{named_step}
use Rattle.smk_keep_forget.proofs.turning.has.Goals as goal

pub loop-path-preserved : goal.loop-path-preserved
loop-path-preserved c =
    let xs = c.args.paths.now in
    let i = c.loop-path.path-index in
    let x = c.path-item.result in
    named_step c.args.p.now (take i xs) x _ c.loop-path.found c.eq-found.result (next xs i x c.loop-path-test.true c.path-item.is) c.loop-path.invariant
    (c.eq-found.ensures ∙ (λ k. bytes_eq (c.as_str.ensures.text k) (c.as_str-in-loop-path.ensures.text k)))
