use Rattle.std.proofs.Common.{string_bytes, length, ◌++◌}
use Rattle.std.proofs.lemmas.Slice.Zip.{zip_end}
use Rattle.smk_record.specs.Spelling.{stamped_paths}
use Rattle.smk_record.proofs.Stamped.{stamped_end}
use Rattle.smk_record.proofs.inputs.push_stamped.Goals as goal

pub returns : goal.returns
returns c =
    let n = zip_end c.args.paths.now c.args.stamps.now c.loop-path.yielded c.into_iter-path-iterator.result c.loop-path.path-iterator c.next.new.self c.next.result (cc) (cc) c.loop-path.yielded_by c.in-None.is c.next.ensures.steps in
    stamped_end (length c.loop-path.yielded) c.args.paths.now c.args.stamps.now (string_bytes c.loop-path.text) (string_bytes c.args.text.now ++ stamped_paths c.args.paths.now c.args.stamps.now) n c.loop-path.invariant
