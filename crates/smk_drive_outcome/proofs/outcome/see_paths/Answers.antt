use Rattle.std.proofs.Common.{take, subst, ◌∙◌, ap, sym, ◌++◌, ◌∷◌, []}
use Rattle.std.specs.Str.{IsUtf8}
use Rattle.std.proofs.lemmas.List.{take_more}
use Rattle.smk_record.proofs.Lists.{paths_step, path_text}
use Rattle.smk_drive_outcome.proofs.outcome.see_paths.Goals as goal

pub loop-path-preserved : goal.loop-path-preserved
loop-path-preserved c =
    let p = c.path-item.result in
    let i = c.loop-path.path-index in
    let e = take_more c.args.paths.now i p c.loop-path-test.true ∙ ap (λ q. take i c.args.paths.now ++ q ∷ []) (sym c.path-item.is) in
    paths_step (take i c.args.paths.now) p _ e c.loop-path.invariant (path_text p c.as_str-text.ensures.is_path (subst IsUtf8 c.as_str-text.ensures.text c.as_str-text.utf8))
