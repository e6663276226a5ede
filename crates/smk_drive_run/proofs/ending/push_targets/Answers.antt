use Rattle.std.proofs.Common.{string_bytes, length, ◌++◌}
use Rattle.std.proofs.lemmas.Slice.Zip.{zip_end}
use Rattle.smk_drive_course.specs.Reports.{target_lines}
use Rattle.smk_drive_run.proofs.TargetLines.{targets_end}
use Rattle.smk_drive_run.proofs.ending.push_targets.Goals as goal

pub returns : goal.returns
returns c =
    let n =
    zip_end c.args.targets.now c.args.current.now c.loop-path.yielded c.into_iter-path-iterator.result c.loop-path.path-iterator c.next.new.self c.next.result
    (cc) (cc) c.loop-path.yielded_by c.in-None.is c.next.ensures.steps in
    targets_end (length c.loop-path.yielded) c.args.targets.now c.args.current.now (string_bytes c.loop-path.text)
    (string_bytes c.args.text.now ++ target_lines c.args.targets.now c.args.current.now) n c.loop-path.invariant
