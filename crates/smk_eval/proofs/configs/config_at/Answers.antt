use Rattle.std.proofs.Common.{ap, sym}
use Rattle.smk_world.proofs.Devices.{looked_nothing, looked_as}
use Rattle.smk_eval.specs.Faults.{and_then}
use Rattle.smk_eval.specs.Loading.{config_file}
use Rattle.smk_eval.proofs.configs.config_at.Goals as goal

pub returns-in-Err-clause-looked : goal.returns-in-Err-clause-looked
returns-in-Err-clause-looked g c = looked_as (sym c.in-Err.ensures.no_device) (looked_nothing g.W.Files.act (g.W.Files.device c.args.work.now))

pub returns-in-Err-clause-told : goal.returns-in-Err-clause-told
returns-in-Err-clause-told g c = λ w here told. ap (λ r. and_then r (config_file w.nodes)) (c.in-Err.ensures.is told)
