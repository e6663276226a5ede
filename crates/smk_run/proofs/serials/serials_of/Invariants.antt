use Rattle.std.proofs.Common.{◌≡◌, ◌≤◌, ◌++◌, drop}
use Rattle.smk_run.specs.Duties.{serials_from}
use Rattle.smk_run.proofs.serials.serials_of.Given as goal

abbrev pub invariant-loop-duty : goal.invariant-loop-duty
invariant-loop-duty l = record {
  so_far : l.serials ++ serials_from l.first l.drawn (drop l.duty-index l.duties) ≡ serials_from l.first 0 l.duties;
  few : l.drawn ≤ l.duty-index;
}
