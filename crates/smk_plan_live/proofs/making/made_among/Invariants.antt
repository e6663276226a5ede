use Rattle.std.proofs.Common.{◌≡◌, length}
use Rattle.smk_plan_live.proofs.Makers.{AreMadeBefore}
use Rattle.smk_plan_live.proofs.making.made_among.Given as goal

abbrev pub invariant-loop-number : goal.invariant-loop-number
invariant-loop-number l =
    record {
      each : length l.made.items ≡ length l.jobs;
      so_far : AreMadeBefore (length l.jobs) l.makers l.number l.made.items;
    }
