use Rattle.std.proofs.Common.{Ok, ap, sym, subst, ◌∙◌}
use Rattle.smk_world.proofs.Devices.{looked_as}
use Rattle.smk_eval_files.specs.Reading.{bytes_at}
use Rattle.smk_eval.specs.Faults.{from_files, and_then}
use Rattle.smk_eval.specs.Loading.{config_in}
use Rattle.smk_eval.specs.Configured.{Configures}
use Rattle.smk_eval.proofs.Merging.{carried_device, carried_config}
use Rattle.smk_eval.proofs.configs.config_file.Goals as goal

pub returns-in_err-source-clause-looked : goal.returns-in_err-source-clause-looked
returns-in_err-source-clause-looked g c = looked_as (carried_device _ c.in_err-source.was c.from_residual.ensures.1) c.read_bytes.ensures.looked

pub returns-in_err-source-clause-told : goal.returns-in_err-source-clause-told
returns-in_err-source-clause-told g c = λ w here.
    let path = c.args.path.now in
    carried_config (bytes_at w.nodes path) (config_in path) c.read_bytes.result _ _ c.in_err-source.was c.from_residual.ensures.1 (c.read_bytes.ensures.told w here)

pub returns-clause-looked : goal.returns-clause-looked
returns-clause-looked g c = looked_as (sym c.config_in.ensures.no_device) c.in_ok-source.ensures.looked

pub returns-clause-told : goal.returns-clause-told
returns-clause-told g c = λ w here.
    let path = c.args.path.now in
    subst (λ m. Configures c.config_in.result m) (ap (λ s. and_then (from_files s) (config_in path)) (sym (c.in_ok-source.ensures.told w here ∙ ap Ok (sym c.as_slice.ensures)))) c.config_in.ensures.is
