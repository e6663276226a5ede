use Rattle.std.proofs.Common.{◌≡◌, ◌<◌, ◌==◌, ◌||◌, ◌&&◌, ℕ, [], drop, length}
use Rattle.std.specs.Prelude.{slice_index_or}
use Rattle.std.specs.List.{list_any}
use Rattle.smk_plan_states.specs.declared.lines.Gathered.{Gathered}
use Rattle.smk_plan_states.specs.Stays.{has_number, is_made_by}
use Rattle.smk_plan_states.proofs.watching.watch_gathers.Given as goal

abbrev pub invariant-loop-gathered : goal.invariant-loop-gathered
invariant-loop-gathered l =
    record {
      each : length l.watchers.items ≡ length l.initial.watchers.items;
      set : (j n : ℕ) → j < length l.initial.watchers.items →
          (has_number n (slice_index_or l.watchers.items j []) || (list_any (λ (x : Gathered). is_made_by l.origins j x.link) (drop l.gathered-index l.gathers) && l.reader == n))
          ≡ (has_number n (slice_index_or l.initial.watchers.items j []) || (list_any (λ (x : Gathered). is_made_by l.origins j x.link) l.gathers && l.reader == n));
    }
