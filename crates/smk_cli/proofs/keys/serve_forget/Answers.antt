use Rattle.smk_cli.proofs.Kept.{acted_end, forget_device, forget_output}
use Rattle.smk_cli.proofs.keys.serve_forget.Goals as goal

pub returns-clause-ended : goal.returns-clause-ended
returns-clause-ended g c =
    let r = c.forget_paths-answer.result in
    acted_end c.of_forgotten.result _ _ _ c.of_forgotten.ensures (forget_device r) (forget_output r) c.forget_paths-answer.ensures.acted c.forget_paths-answer.ensures.put.cause c.requires.none_runs

pub returns-clause-forgotten : goal.returns-clause-forgotten
returns-clause-forgotten g c = λ w at. record {
  result = c.forget_paths-answer.result;
  answer_is = c.of_forgotten.ensures;
  acted = c.forget_paths-answer.ensures.acted;
  told = c.forget_paths-answer.ensures.told w at;
  unput = λ heeded locked. c.forget_paths-answer.ensures.nothing heeded w at locked;
}
