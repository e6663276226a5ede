use Rattle.smk_cli_calls.proofs.Ended.{early, later_on}
use Rattle.smk_cli_calls.proofs.Went.{only_looked}
use Rattle.smk_cli.proofs.ServingOf.{run_of, unasked_run}
use Rattle.smk_cli.proofs.top.serve_run.Goals as goal

pub returns-in-Err-clause-ended : goal.returns-in-Err-clause-ended
returns-in-Err-clause-ended g c = early c.in-Err.fault _ c.in-Err.ensures.looked c.requires.none_runs c.in-Err.ensures.no_sink

pub returns-in-Err-clause-ran : goal.returns-in-Err-clause-ran
returns-in-Err-clause-ran g c = λ w at read reads.
    unasked_run g.W.Files.act read c.args.words.now w c.in-Err.fault _ _ _ _ c.in-Err.ensures.no_sink (c.in-Err.ensures.told w at)
    (only_looked _ c.in-Err.ensures.looked)

pub returns-in-Ok-clause-ended : goal.returns-in-Ok-clause-ended
returns-in-Ok-clause-ended g c = later_on g.W.Files.act c.make_asked.result _ _ _ _ _ c.in-Ok.ensures.looked c.make_asked.ensures.ended

pub returns-in-Ok-clause-ran : goal.returns-in-Ok-clause-ran
returns-in-Ok-clause-ran g c = λ w at read reads.
    run_of g.W.Files.act read c.args.words.now w c.in-Ok.asked c.make_asked.result _ _ _ _ _ c.in-Ok.ensures.looked at (c.in-Ok.ensures.told w at)
    (λ e v told. c.make_asked.ensures.unheeded e v told read reads) (λ e v told. c.make_asked.ensures.heeded e v told read reads)
