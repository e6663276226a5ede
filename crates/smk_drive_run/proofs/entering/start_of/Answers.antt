use Rattle.smk_drive_run.proofs.Makers.{seen_by}
use Rattle.smk_drive_run.proofs.entering.start_of.Goals as goal

pub returns : goal.returns
returns c =
    record {
      seen_so =
          seen_by c.told.result.now c.args.opened.live.base c.jobs.result.now c.as_slice.result.now c.in_ok-are_sources.are_sources c.told.ensures
          c.jobs.ensures c.as_slice.ensures c.in_ok-are_sources.ensures c.if-not-are_sources.false;
      start = c.in_ok-hub.ensures;
    }
