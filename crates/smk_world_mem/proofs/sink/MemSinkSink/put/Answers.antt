use Rattle.smk_world_mem.proofs.Sinks.{all_put}
use Rattle.smk_world_mem.proofs.sink.MemSinkSink.put.Goals as goal

pub returns-in-Ok : goal.returns-in-Ok
returns-in-Ok c = all_put _ _ _ _ c.in-Ok.ensures.items
