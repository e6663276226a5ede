use Rattle.std.proofs.Common.{◌≡◌, ◌<◌, ℕ, true, false, length}
use Rattle.std.specs.Prelude.{slice_index_or}
use Rattle.smk_plan_states.proofs.after.mark_differing.Given as goal

abbrev pub invariant-loop-number : goal.invariant-loop-number
invariant-loop-number l =
    record {
      each : length l.flags.items ≡ length l.initial.flags.items;
      kept : (n : ℕ) → n < length l.initial.flags.items → slice_index_or l.initial.flags.items n false ≡ true → slice_index_or l.flags.items n false ≡ true;
      set : (n : ℕ) → n < l.number → n < length l.initial.flags.items → slice_index_or l.flags.items n false ≡ false → slice_index_or l.one n false ≡ slice_index_or l.other n false;
    }
