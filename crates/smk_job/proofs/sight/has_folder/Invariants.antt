use Rattle.std.proofs.Common.{◌≡◌, drop}
use Rattle.std.specs.List.{list_any}
use Rattle.smk_job.specs.Sights.{is_folder_out}
use Rattle.smk_job.proofs.sight.has_folder.Given as goal

abbrev pub invariant-loop-out : goal.invariant-loop-out
invariant-loop-out l = list_any is_folder_out l.outs ≡ list_any is_folder_out (drop l.out-index l.outs)
