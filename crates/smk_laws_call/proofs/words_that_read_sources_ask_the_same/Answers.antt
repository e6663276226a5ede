use Rattle.smk_laws_call.proofs.Asking.{asked_by_sources, next_run_starts_nothing, run_keeps_asked}
use Rattle.smk_laws_call.proofs.words_that_read_sources_ask_the_same.Goals as goal

pub returns : goal.returns
returns c = record { sources = asked_by_sources; run = run_keeps_asked; next = next_run_starts_nothing }
