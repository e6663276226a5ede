use Rattle.std.proofs.Common.{◌≡◌, ◌≤◌, length, List, map}
use Rattle.smk_chain.specs.declared.jobs.Jobs.{Jobs}
use Rattle.smk_trigger.specs.declared.reason.State.{State}
use Rattle.smk_plan_states.specs.Judged.{Judging}
use Rattle.smk_plan_states.specs.First.{first_states}
use Rattle.smk_plan_states.specs.Moment.{IsMoment}
use Rattle.smk_plan_states.specs.Ranks.{rank_of}
use Rattle.smk_plan_states.proofs.Needing.{IsDown}
use Rattle.smk_plan_states.proofs.downward.needed_ranks.Given as goal

abbrev pub decreases-jobs : goal.decreases-jobs
decreases-jobs l = l.number

abbrev pub invariant-jobs : goal.invariant-jobs
invariant-jobs l =
    record {
      bound : l.number ≤ length l.lines;
      each : length l.ranks.items ≡ length l.lines;
      count : length l.needed.items ≡ length l.origins;
      so_far : (at : Judging) (jobs : Jobs) (states : List State) (h : IsMoment at jobs states l.lines l.origins l.rows l.used) → l.fn.first.items ≡ map rank_of (first_states at jobs states) →
          IsDown at jobs states l.lines l.origins l.rows l.used h l.number l.ranks.items l.needed.items;
    }
