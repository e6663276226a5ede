use Rattle.std.proofs.Common.{◌≡◌, ◌<◌, ℕ, [], true, Some, length}
use Rattle.std.specs.Prelude.{slice_index_or}
use Rattle.std.specs.List.{slice_get}
use Rattle.smk_plan_states.specs.declared.lines.Line.{Line}
use Rattle.smk_plan_states.specs.Stays.{has_number, reads_of}
use Rattle.smk_plan_states.proofs.watching.watchers_among.Given as goal

abbrev pub invariant-loop-number : goal.invariant-loop-number
invariant-loop-number l =
    record {
      each : length l.found.items ≡ length l.lines;
      so_far : (n : ℕ) (line : Line) → n < l.number → slice_get l.lines n ≡ Some line → (job : ℕ) → job < length l.lines → reads_of l.origins job line ≡ true →
          has_number n (slice_index_or l.found.items job []) ≡ true;
    }
