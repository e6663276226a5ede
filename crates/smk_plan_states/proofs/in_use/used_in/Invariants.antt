use Rattle.std.proofs.Common.{◌≡◌, ◌<◌, ◌||◌, ℕ, false, drop, length}
use Rattle.std.specs.Prelude.{slice_index_or}
use Rattle.std.specs.List.{list_any, zip}
use Rattle.smk_plan_states.specs.Ranking.{is_reader_of, is_read_by_child}
use Rattle.smk_plan_states.proofs.in_use.used_in.Given as goal

abbrev pub invariant-loop-i : goal.invariant-loop-i
invariant-loop-i l =
    record {
      each : length l.used.items ≡ length l.lines;
      used : (n : ℕ) → n < length l.lines →
          (slice_index_or l.used.items n false || list_any (is_reader_of l.origins n) (zip (drop l.i l.lines) (drop l.i l.running)))
          ≡ is_read_by_child l.lines l.origins l.running n;
    }
