use Rattle.std.proofs.Common.{◌≡◌, ◌<◌, ◌||◌, ℕ, false, drop, length}
use Rattle.std.specs.Prelude.{slice_index_or}
use Rattle.std.specs.List.{list_any}
use Rattle.smk_plan_states.specs.Ranking.{has_link}
use Rattle.smk_plan_states.proofs.downward.need_inputs.Given as goal

abbrev pub invariant-loop-input : goal.invariant-loop-input
invariant-loop-input l =
    record {
      each : length l.needed.items ≡ length l.initial.needed.items;
      set : (n : ℕ) → n < length l.initial.needed.items →
          (slice_index_or l.needed.items n false || list_any (has_link n) (drop l.input-index l.inputs))
          ≡ (slice_index_or l.initial.needed.items n false || list_any (has_link n) l.inputs);
    }
