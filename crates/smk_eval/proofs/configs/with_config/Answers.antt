use Rattle.std.proofs.Common.{Ok, ap, sym, subst}
use Rattle.smk_world.proofs.Devices.{looked_as}
use Rattle.smk_config.specs.Settings.{members, over}
use Rattle.smk_eval.specs.Faults.{and_then}
use Rattle.smk_eval.specs.Configured.{Configures}
use Rattle.smk_eval.proofs.configs.with_config.Goals as goal

pub returns-in-Err-clause-told : goal.returns-in-Err-clause-told
returns-in-Err-clause-told g c = λ w here told. ap (λ r. and_then r (λ m. Ok (over m (members c.args.was)))) (c.in-Err.ensures.told w here told)

pub returns-in-Ok-clause-looked : goal.returns-in-Ok-clause-looked
returns-in-Ok-clause-looked g c = looked_as (sym c.over.ensures.no_device) c.in-Ok.ensures.looked

pub returns-in-Ok-clause-told : goal.returns-in-Ok-clause-told
returns-in-Ok-clause-told g c = λ w here.
    subst (λ m. Configures c.over.result m) (ap (λ s. and_then s (λ m. Ok (over m (members c.args.was)))) (sym (c.in-Ok.ensures.told w here))) c.over.ensures.is
