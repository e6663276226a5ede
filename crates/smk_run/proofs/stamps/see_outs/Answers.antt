use Rattle.std.proofs.Common.{map, take, subst}
use Rattle.std.specs.Str.{IsUtf8}
use Rattle.smk_record.proofs.Lists.{paths_step, mapped_more, path_text}
use Rattle.smk_run.proofs.stamps.see_outs.Goals as goal

pub loop-out-preserved : goal.loop-out-preserved
loop-out-preserved c =
    let p = c.out-item.result.path in
    let done = map (λ out. out.path) (take c.loop-out.out-index c.args.outs.now) in
    let e = mapped_more (λ out. out.path) c.args.outs.now c.loop-out.out-index c.out-item.result c.loop-out-test.true c.out-item.is in
    paths_step done p _ e c.loop-out.invariant (path_text p c.as_str-text.ensures.is_path (subst IsUtf8 c.as_str-text.ensures.text c.as_str-text.utf8))
