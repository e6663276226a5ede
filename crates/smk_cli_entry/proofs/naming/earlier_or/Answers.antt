use Rattle.std.proofs.Common.{Ok, ap, sym, subst}
use Rattle.smk_cli_entry.specs.Faults.{Answers}
use Rattle.smk_cli_entry.specs.Names.{or_else}
use Rattle.smk_cli_entry.specs.Names.{file_at}
use Rattle.smk_cli_entry.proofs.naming.earlier_or.Goals as goal

pub returns-in-Some-clause-told : goal.returns-in-Some-clause-told
returns-in-Some-clause-told g c = λ w here. ap (λ o. Ok (or_else o (file_at w.nodes c.args.name.now))) c.in-Some.is

pub returns-in-None-clause-told : goal.returns-in-None-clause-told
returns-in-None-clause-told g c = λ w here.
    subst (λ o. Answers (Ok (or_else o (file_at w.nodes c.args.name.now))) c.file_named.result) (sym c.in-None.is) (c.file_named.ensures.told w here)
