use Rattle.std.proofs.Common.{take, subst, ◌∙◌, ap, sym, ◌++◌, ◌∷◌, []}
use Rattle.std.specs.Str.{IsUtf8}
use Rattle.std.proofs.lemmas.List.{take_more}
use Rattle.smk_record.proofs.Lists.{dropped_more, paths_step, path_text}
use Rattle.smk_record.proofs.valid.after_paths.Goals as goal

pub loop-path-preserved : goal.loop-path-preserved
loop-path-preserved c =
    let p = c.path-item.result in
    let i = c.loop-path.path-index in
    let next = dropped_more c.args.stamps.now c.loop-path.rest.now c.in_ok-more.more.now i c.in_ok-more.field-0-0.now c.loop-path.invariant.left c.in_ok-more.ensures.cases.0 in
    let e = take_more c.args.paths.now i p c.loop-path-test.true ∙ ap (λ q. take i c.args.paths.now ++ q ∷ []) (sym c.path-item.is) in
    record {
      left = next.0;
      enough = next.1;
      paths = paths_step (take i c.args.paths.now) p _ e c.loop-path.invariant.paths (path_text p c.as_str-text.ensures.is_path (subst IsUtf8 c.as_str-text.ensures.text c.as_str-text.utf8));
    }
