use Rattle.std.proofs.Common.{◌≡◌, take, true}
use Rattle.std.specs.List.{list_all}
use Rattle.smk_run.specs.Stamps.{is_small}
use Rattle.smk_drive_step.proofs.summing.see_stamps.Given as goal

abbrev pub invariant-loop-stamp : goal.invariant-loop-stamp
invariant-loop-stamp l = list_all is_small (take l.stamp-index l.stamps) ≡ true
