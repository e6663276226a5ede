use Rattle.std.proofs.Common.{map, take, ◌∙◌, ap, subst}
use Rattle.std.specs.Prelude.{bytes_eq}
use Rattle.std.specs.Str.{IsUtf8}
use Rattle.smk_record.proofs.Lists.{named_step, paths_step, mapped_more, path_text}
use Rattle.smk_record.proofs.valid.is_output.Goals as goal

pub loop-out-preserved : goal.loop-out-preserved
loop-out-preserved c =
    let p = c.out-item.result.path in
    let done = map (λ out. out.path) (take c.loop-out.out-index c.args.outs.now) in
    let e = mapped_more (λ out. out.path) c.args.outs.now c.loop-out.out-index c.out-item.result c.loop-out-test.true c.out-item.is in
    record {
      found = named_step c.args.path.now done p _ c.loop-out.found c.eq-found.result e c.loop-out.invariant.found (c.eq-found.ensures ∙ ap (bytes_eq c.args.path.now) c.as_str.ensures.text);
      paths = paths_step done p _ e c.loop-out.invariant.paths (path_text p c.as_str.ensures.is_path (subst IsUtf8 c.as_str.ensures.text c.as_str.utf8));
    }
