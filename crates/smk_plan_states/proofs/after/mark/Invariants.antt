use Rattle.std.proofs.Common.{◌≡◌, ◌<◌, ◌||◌, ℕ, false, drop, length}
use Rattle.std.specs.Prelude.{slice_index_or}
use Rattle.smk_plan_states.specs.Stays.{has_number}
use Rattle.smk_plan_states.proofs.after.mark.Given as goal

abbrev pub invariant-loop-number : goal.invariant-loop-number
invariant-loop-number l =
    record {
      each : length l.flags.items ≡ length l.initial.flags.items;
      set : (n : ℕ) → n < length l.initial.flags.items →
          (slice_index_or l.flags.items n false || has_number n (drop l.number-index l.numbers))
          ≡ (slice_index_or l.initial.flags.items n false || has_number n l.numbers);
    }
