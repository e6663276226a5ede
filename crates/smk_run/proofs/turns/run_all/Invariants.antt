use Rattle.std.proofs.Common.{◌≡◌, ◌≤◌, drop}
use Rattle.smk_run.specs.Stamps.{number_at}
use Rattle.smk_run.specs.Duties.{due_from, serial_in}
use Rattle.smk_run.specs.Runs.{HasRunSoFar}
use Rattle.smk_run.proofs.turns.run_all.Given as goal

abbrev pub invariant-loop-number : goal.invariant-loop-number
invariant-loop-number g l = record {
  so_far : HasRunSoFar g.W.Files.act l.flow l.cores (due_from (serial_in l.serials) 0 l.duties l.jobs) (number_at l.made) l.done
      (g.W.Files.device l.initial.work) (g.W.Files.device l.work) (g.O.Sink.sunk l.initial.out) (g.O.Sink.sunk l.out);
  next : drop l.done (due_from (serial_in l.serials) 0 l.duties l.jobs) ≡ due_from (serial_in l.serials) l.number (drop l.number l.duties) (drop l.number l.jobs);
  few : l.done ≤ l.number;
}
