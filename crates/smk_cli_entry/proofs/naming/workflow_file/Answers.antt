use Rattle.std.proofs.Common.{Ok, ap, sym}
use Rattle.smk_world.proofs.Devices.{looked_as}
use Rattle.smk_cli_entry.specs.Faults.{and_then}
use Rattle.smk_cli_entry.specs.Names.{first_file, file_names, or_no_file}
use Rattle.smk_cli_entry.proofs.Stats.{answers_then}
use Rattle.smk_cli_entry.proofs.naming.workflow_file.Goals as goal

pub returns-in-Err-clause-told : goal.returns-in-Err-clause-told
returns-in-Err-clause-told g c = λ w here told. ap (λ r. and_then r (λ o. or_no_file o)) (c.in-Err.ensures.told w here told)

pub returns-in-Ok-clause-looked : goal.returns-in-Ok-clause-looked
returns-in-Ok-clause-looked g c = looked_as (sym c.or_no_file.ensures.no_device) c.in-Ok.ensures.looked

pub returns-in-Ok-clause-told : goal.returns-in-Ok-clause-told
returns-in-Ok-clause-told g c = λ w here.
    answers_then (Ok (first_file w.nodes file_names)) c.in-Ok.found (λ o. or_no_file o) c.or_no_file.result (c.in-Ok.ensures.told w here) c.or_no_file.ensures.is
