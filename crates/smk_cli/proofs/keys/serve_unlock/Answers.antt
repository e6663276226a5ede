use Rattle.smk_cli.proofs.Kept.{acted_end, unlock_device, unlock_output}
use Rattle.smk_cli.proofs.keys.serve_unlock.Goals as goal

pub returns-clause-ended : goal.returns-clause-ended
returns-clause-ended g c =
    let r = c.unlock_folder-answer.result in
    acted_end c.of_unlocked.result _ _ _ c.of_unlocked.ensures (unlock_device r) (unlock_output r) c.unlock_folder-answer.ensures.acted c.unlock_folder-answer.ensures.put.cause c.requires.none_runs

pub returns-clause-unlocked : goal.returns-clause-unlocked
returns-clause-unlocked g c = record {
  result = c.unlock_folder-answer.result;
  answer_is = c.of_unlocked.ensures;
  acted = c.unlock_folder-answer.ensures.acted;
  told = c.unlock_folder-answer.ensures.told;
}
