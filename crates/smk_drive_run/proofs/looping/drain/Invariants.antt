use Rattle.std.proofs.Common.{false}
use Rattle.smk_drive_hub.specs.Keeping.{parts_of}
use Rattle.smk_laws_begins.specs.Gone.{HasGone}
use Rattle.smk_laws_begins.specs.Standing.{taken}
use Rattle.smk_laws_begins.specs.Stepping.{IsFor}
use Rattle.smk_drive_run.proofs.looping.drain.Given as goal

abbrev pub invariant-children : goal.invariant-children
invariant-children g l = record {
  gone :
      HasGone g.W.Files.act l.ground.flow.now l.ground.settings.now (parts_of l.fn.hub) (parts_of l.hub) false (g.W.Files.device l.fn.work)
      (g.W.Files.device l.work) (g.O.Sink.sunk l.fn.out) (g.O.Sink.sunk l.out);
  within : IsFor 9223372036854775808 (parts_of l.hub);
}

abbrev pub decreases-children : goal.decreases-children
decreases-children g l = taken l.hub.children.places.items
