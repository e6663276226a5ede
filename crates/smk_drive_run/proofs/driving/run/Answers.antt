use Rattle.std.proofs.Common.{not}
use Rattle.smk_drive_hub.specs.Keeping.{parts_of}
use Rattle.smk_drive_run.proofs.driving.run.Goals as goal

pub returns : goal.returns
returns g c =
    record {
      last = parts_of c.go_on-waited.new.hub;
      unwaited = not c.go_on-waited.result;
      middle = g.O.Sink.sunk c.go_on-waited.new.out;
      gone = c.go_on-waited.ensures.gone;
      through = c.go_on-waited.ensures.through;
      concluded = c.conclude-answer.ensures;
    }
