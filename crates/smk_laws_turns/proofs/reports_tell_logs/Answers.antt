use Rattle.smk_laws_turns.proofs.Telling.{done_is_run_text, fault_has_lines, front_has_starts, refusal_has_starts, report_is_front}
use Rattle.smk_laws_turns.proofs.reports_tell_logs.Goals as goal

pub returns : goal.returns
returns c = record { done = done_is_run_text; front = report_is_front; starts = front_has_starts; refusal = refusal_has_starts; lines = fault_has_lines }
