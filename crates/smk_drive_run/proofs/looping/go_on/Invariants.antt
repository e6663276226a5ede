use Rattle.std.proofs.Common.{false}
use Rattle.smk_drive_hub.specs.Keeping.{parts_of}
use Rattle.smk_laws_begins.specs.Gone.{HasGone}
use Rattle.smk_laws_begins.specs.Stepping.{IsWithin}
use Rattle.smk_drive_run.proofs.looping.go_on.Given as goal

abbrev pub invariant-loop : goal.invariant-loop
invariant-loop g l = record {
  gone :
      HasGone g.W.Files.act l.ground.flow.now l.ground.settings.now (parts_of l.fn.hub) (parts_of l.hub) false (g.W.Files.device l.fn.work)
      (g.W.Files.device l.work) (g.O.Sink.sunk l.fn.out) (g.O.Sink.sunk l.out);
  within : IsWithin l.counter (parts_of l.hub);
}
