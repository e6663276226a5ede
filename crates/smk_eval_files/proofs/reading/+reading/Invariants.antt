use Rattle.std.proofs.Common.{◌≡◌, ◌+◌, ◌*◌, false, drop}
use Rattle.smk_world.specs.Devices.{WhereTold, HasLooked}
use Rattle.smk_eval_files.specs.Reading.{onto, included, files_from}
use Rattle.smk_eval_files.proofs.reading.+reading.Given as goal

abbrev pub decreases-with_file : goal.decreases-with_file
decreases-with_file g l = 3 * l.depth

abbrev pub decreases-with_include : goal.decreases-with_include
decreases-with_include g l = 3 * l.depth + 1

abbrev pub decreases-with_includes : goal.decreases-with_includes
decreases-with_includes g l = 3 * l.depth + 2

abbrev pub invariant-with_includes-loop-text : goal.invariant-with_includes-loop-text
invariant-with_includes-loop-text g l =
    let files = g.W.Files in record {
      looked : HasLooked files.act (files.device l.fn.work) (files.device l.work) false;
      told : WhereTold (files.device l.fn.work) (λ w.
          onto l.all (included (files_from w.nodes l.depth) l.file (drop l.text-index l.texts)) ≡ onto l.fn.files (included (files_from w.nodes l.depth) l.file l.texts));
    }
