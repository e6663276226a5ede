use Rattle.smk_laws_begins.proofs.Nexts.{over_has_none_left, over_may_spend, started_may_spend}
use Rattle.smk_laws_begins.proofs.Standing.{one_less_taken, one_more_taken, ready_at_start, ready_on, some_taken}
use Rattle.smk_laws_begins.proofs.turns_may_come.Goals as goal

pub returns : goal.returns
returns c =
    record {
      start = ready_at_start;
      on = ready_on;
      left = over_has_none_left;
      spend = over_may_spend;
      started = started_may_spend;
      more = one_more_taken;
      less = one_less_taken;
      some = some_taken;
    }
