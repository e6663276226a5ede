use Rattle.smk_world_real.proofs.Numbers.{second_runs}
use Rattle.rows_jobs.proofs.children.run_both.Goals as goal

pub wait-requires-2 : goal.wait-requires-2
wait-requires-2 g c = record {
  runs = second_runs _ _ _ _ c.in_ok-first.first c.in_ok-second.second c.in_ok-ended.ended.number c.new-work.ensures.running
      c.in_ok-first.ensures.called.running c.in_ok-second.ensures.called.running c.in_ok-second.ensures.fresh c.in_ok-ended.ensures.called.running;
}
