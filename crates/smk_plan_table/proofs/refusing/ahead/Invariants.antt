use Rattle.std.proofs.Common.{◌≡◌, ◌++◌, drop}
use Rattle.smk_plan_table.specs.Parts.{shown, before_in}
use Rattle.smk_plan_table.proofs.refusing.ahead.Given as goal

abbrev pub invariant-loop-job : goal.invariant-loop-job
invariant-loop-job l = shown l.found.items ++ before_in (drop l.job-index l.jobs) l.rest l.flags ≡ before_in l.jobs l.ranks l.begun
