use Rattle.smk_cli_calls.specs.Ends.{fault_of}
use Rattle.smk_cli.proofs.Outcomes.{ends_as, outcome_refused}
use Rattle.smk_cli.proofs.top.smk.Goals as goal

pub returns-clause-unread : goal.returns-clause-unread
returns-clause-unread g c = λ f refused.
    let h = c.serve-answer.ensures.unread f refused in
    (outcome_refused f c.serve-answer.result c.tell.result.fault c.tell.ensures.fault h.0, h.1, h.2)

pub returns-clause-ended : goal.returns-clause-ended
returns-clause-ended g c = ends_as (fault_of c.serve-answer.result) c.tell.result.fault _ _ _ _ c.tell.ensures.fault c.serve-answer.ensures.ended

pub returns-clause-serves : goal.returns-clause-serves
returns-clause-serves g c = λ request asked built makes w at read reads.
    record { built = built; answer = c.serve-answer.result; told_is = c.tell.ensures.fault; serves = c.serve-answer.ensures.serves request asked built makes w at read reads }

pub returns-clause-keeps : goal.returns-clause-keeps
returns-clause-keeps g c = λ request asked built kept w at.
    record { answer = c.serve-answer.result; told_is = c.tell.ensures.fault; keeps = c.serve-answer.ensures.keeps request asked built kept w at }
