use Rattle.smk_world_mem.specs.Work.{world_in}
use Rattle.smk_trial.specs.Telling.{Tried}
use Rattle.smk_trial.proofs.telling.tell_trial.Goals as goal

pub returns-in-Ok : goal.returns-in-Ok
returns-in-Ok g c =
    let trial = c.in-Ok.trial in Tried trial.first trial.second trial.third trial.total (world_in trial.work) c.in-Ok.ensures c.put_lines.ensures
