use Rattle.smk_laws_turns.proofs.Events.{failed_wait_is_told, halting_is_told, kept_marks_tell_nothing, leaving_is_told, reading_is_told, waiting_is_told}
use Rattle.smk_laws_turns.proofs.steps_are_told.Goals as goal

pub returns : goal.returns
returns c =
    record {
      kept = kept_marks_tell_nothing;
      halt = halting_is_told;
      reading = reading_is_told;
      leave = leaving_is_told;
      waiting = waiting_is_told;
      failing = failed_wait_is_told;
    }
