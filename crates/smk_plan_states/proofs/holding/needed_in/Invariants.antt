use Rattle.std.proofs.Common.{◌≡◌, ◌<◌, ◌||◌, ℕ, false, drop, length}
use Rattle.std.specs.Prelude.{slice_index_or}
use Rattle.std.specs.List.{list_any, zip}
use Rattle.smk_plan_states.specs.Ranking.{is_run_reader, is_needed_in}
use Rattle.smk_plan_states.proofs.holding.needed_in.Given as goal

abbrev pub invariant-loop-i : goal.invariant-loop-i
invariant-loop-i l =
    record {
      each : length l.needed.items ≡ l.count;
      set : (n : ℕ) → n < l.count →
          (slice_index_or l.needed.items n false || list_any (is_run_reader n) (zip (drop l.i l.lines) (drop l.i l.ranks)))
          ≡ is_needed_in l.lines l.ranks n;
    }
