use Rattle.smk_choose_wants.specs.Wants.{wanted_by}
use Rattle.smk_choose_wants.proofs.Composed.{files_step}
use Rattle.smk_choose_wants.proofs.gathering.wanted_for_all.Goals as goal

pub loop-file-preserved : goal.loop-file-preserved
loop-file-preserved c =
    files_step (wanted_by c.args.binding.now c.args.patterns.now.listed c.args.patterns.now.wanted) c.args.files.now c.loop-file.file-index c.file-item.result c.loop-file.made
    c.add_file.new.made c.loop-file-test.true c.file-item.is c.loop-file.invariant c.in_ok-add_file.ensures
