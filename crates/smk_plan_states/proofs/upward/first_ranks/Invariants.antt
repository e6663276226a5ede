use Rattle.std.proofs.Common.{◌≡◌, ◌<◌, ℕ, Bool, Some, length, take, List, map}
use Rattle.std.specs.List.{slice_get}
use Rattle.smk_plan_states.specs.declared.lines.Line.{Line}
use Rattle.smk_plan_states.specs.Stays.{IsByEarlier, told_by}
use Rattle.smk_chain.specs.declared.jobs.Jobs.{Jobs}
use Rattle.smk_trigger.specs.declared.reason.Reason.{Reason}
use Rattle.smk_trigger.specs.declared.reason.State.{State}
use Rattle.smk_plan_states.specs.Rows.{FitOwn}
use Rattle.smk_plan_states.specs.Judged.{Judging, with_states}
use Rattle.smk_plan_states.specs.First.{first_state}
use Rattle.smk_plan_states.specs.Moment.{IsMoment}
use Rattle.smk_plan_states.specs.Ranks.{rank_of}
use Rattle.smk_plan_states.proofs.upward.first_ranks.Given as goal

abbrev pub invariant-loop-number : goal.invariant-loop-number
invariant-loop-number l =
    record {
      each : length l.ranks.items ≡ l.number;
      so_far : (at : Judging) (jobs : Jobs) (states : List State) → IsMoment at jobs states l.lines l.origins l.rows l.used →
          l.ranks.items ≡ map rank_of (map (first_state at.image at.settings at.progress (with_states jobs states)) (take l.number jobs.jobs));
      told : (reasons : List (List Reason)) (forced : List Bool) → FitOwn l.rows.own.now reasons → (n : ℕ) (line : Line) → n < l.number → slice_get l.lines n ≡ Some line →
          IsByEarlier l.origins (told_by l.rows reasons forced) l.used l.ranks.items n line;
    }
