use Rattle.std.proofs.Common.{sym, subst}
use Rattle.smk_world.proofs.Devices.{looked_as, looked_nothing}
use Rattle.smk_cli_entry.specs.Faults.{Answers}
use Rattle.smk_cli_entry.specs.Names as spec
use Rattle.smk_cli_entry.proofs.naming.file_of.Goals as goal

pub returns-in-Some-clause-looked : goal.returns-in-Some-clause-looked
returns-in-Some-clause-looked g c = looked_as (sym c.copy_of.ensures.no_device) (looked_nothing g.W.Files.act _)

pub returns-in-Some-clause-told : goal.returns-in-Some-clause-told
returns-in-Some-clause-told g c = λ w here.
    subst (λ o. Answers (spec.file_of w.nodes o) c.copy_of.result) (sym c.in-Some.is) c.copy_of.ensures.is

pub returns-in-None-clause-told : goal.returns-in-None-clause-told
returns-in-None-clause-told g c = λ w here.
    subst (λ o. Answers (spec.file_of w.nodes o) c.workflow_file.result) (sym c.in-None.is) (c.workflow_file.ensures.told w here)
