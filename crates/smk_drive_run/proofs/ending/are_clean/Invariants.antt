use Rattle.std.proofs.Common.{◌≡◌, drop}
use Rattle.std.specs.List.{list_all}
use Rattle.smk_trigger.specs.JobStates.{is_clean}
use Rattle.smk_drive_run.proofs.ending.are_clean.Given as goal

abbrev pub invariant-loop-state : goal.invariant-loop-state
invariant-loop-state l = list_all is_clean l.states ≡ list_all is_clean (drop l.state-index l.states)
