use Rattle.smk_plan_live.proofs.telling.tell_known.Goals as goal

pub returns-in-Ok-tell_by-clause-ranked : goal.returns-in-Ok-tell_by-clause-ranked
returns-in-Ok-tell_by-clause-ranked c = λ given. c.in-Ok-tell_by.ensures.ranked (λ served. tt) given

pub returns-in-Ok-tell_by-clause-now : goal.returns-in-Ok-tell_by-clause-now
returns-in-Ok-tell_by-clause-now c = λ given. c.in-Ok-tell_by.ensures.now (λ served. tt) given
