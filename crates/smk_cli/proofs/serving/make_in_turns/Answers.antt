use Rattle.std.proofs.Common.{refl, ◌∙◌}
use Rattle.smk_cli_calls.specs.Serving.{IsRefusedPlan, IsServed, IsThat, Worked}
use Rattle.smk_cli_calls.proofs.Ended.{early, later_on, made_end}
use Rattle.smk_cli_calls.proofs.Went.{only_looked, refused_or_stopped}
use Rattle.smk_cli.proofs.serving.make_in_turns.Goals as goal

pub make-requires : goal.make-requires
make-requires g c = (c.type_bounds.sync-Rt, (c.in-Ok.ensures.looked.acted.running ∙ c.requires.none_runs, c.in-Ok.ensures.fit))

pub returns-in-Err-clause-ended : goal.returns-in-Err-clause-ended
returns-in-Err-clause-ended g c = early c.in-Err.fault _ c.in-Err.ensures.looked c.requires.none_runs c.in-Err.ensures.no_sink

pub returns-in-Err-clause-went : goal.returns-in-Err-clause-went
returns-in-Err-clause-went g c = λ w at read reads.
    refused_or_stopped g.W.Files.act c.args.words.now (IsRefusedPlan read c.args.asked.now c.args.words.now w) (IsThat c.args.asked.now)
    (IsServed read c.args.asked.now c.args.words.now w) c.in-Err.fault _ _ _ _
    c.in-Err.ensures.no_sink (c.in-Err.ensures.told w at read reads) (only_looked _ c.in-Err.ensures.looked)

pub returns-in-Ok-clause-ended : goal.returns-in-Ok-clause-ended
returns-in-Ok-clause-ended g c =
    later_on g.W.Files.act c.make.result _ _ _ _ _ c.in-Ok.ensures.looked
    (made_end g.W.Files.act _ _ _ _ _ _ c.make.result _ _ _ _ (c.in-Ok.ensures.looked.acted.running ∙ c.requires.none_runs) c.make.ensures)

pub returns-in-Ok-clause-went : goal.returns-in-Ok-clause-went
returns-in-Ok-clause-went g c = λ w at read reads.
    Worked c.args.asked.now c.in-Ok.plan c.requires.one (refl, c.in-Ok.ensures.told w at read reads)
    (record { looked = g.W.Files.device c.plan_for.new.work; looking = c.in-Ok.ensures.looked; carried = c.make.ensures })
