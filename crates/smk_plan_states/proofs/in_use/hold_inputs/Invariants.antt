use Rattle.std.proofs.Common.{◌≡◌, ◌<◌, ◌||◌, ℕ, false, drop, length}
use Rattle.std.specs.Prelude.{slice_index_or}
use Rattle.std.specs.List.{list_any}
use Rattle.smk_plan_states.specs.Ranking.{is_made_by_other}
use Rattle.smk_plan_states.proofs.in_use.hold_inputs.Given as goal

abbrev pub invariant-loop-input : goal.invariant-loop-input
invariant-loop-input l =
    record {
      each : length l.used.items ≡ length l.initial.used.items;
      set : (n : ℕ) → n < length l.initial.used.items →
          (slice_index_or l.used.items n false || list_any (is_made_by_other l.origins n) (drop l.input-index l.inputs))
          ≡ (slice_index_or l.initial.used.items n false || list_any (is_made_by_other l.origins n) l.inputs);
    }
