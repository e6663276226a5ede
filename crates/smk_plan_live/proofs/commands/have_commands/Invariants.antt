use Rattle.std.proofs.Common.{◌≡◌, drop}
use Rattle.std.specs.List.{list_all}
use Rattle.smk_plan_live.specs.Commands.{has_command}
use Rattle.smk_plan_live.proofs.commands.have_commands.Given as goal

abbrev pub invariant-loop-job : goal.invariant-loop-job
invariant-loop-job l = list_all (has_command l.cores) l.jobs ≡ list_all (has_command l.cores) (drop l.job-index l.jobs)
