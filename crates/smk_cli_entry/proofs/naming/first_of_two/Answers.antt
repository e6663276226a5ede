use Rattle.std.proofs.Common.{Ok, [], ◌∷◌, ap, sym, ◌∙◌}
use Rattle.std.specs.Prelude.{codes}
use Rattle.smk_world.proofs.Devices.{looked_then}
use Rattle.smk_eval_files.proofs.Looking.{told_then}
use Rattle.smk_cli_entry.specs.Faults.{Answers}
use Rattle.smk_cli_entry.specs.Names.{or_else}
use Rattle.smk_cli_entry.specs.Names.{file_at, first_file}
use Rattle.smk_cli_entry.proofs.Stats.{unread}
use Rattle.smk_cli_entry.proofs.Firsts.{first_one, next_file}
use Rattle.smk_cli_entry.proofs.naming.first_of_two.Goals as goal

pub returns-in-Err-clause-told : goal.returns-in-Err-clause-told
returns-in-Err-clause-told g c = λ w here.
    unread (file_at w.nodes (codes "Snakefile")) (first_file w.nodes (codes "Snakefile" ∷ codes "snakefile" ∷ [])) c.in-Err.fault (c.in-Err.ensures.told w here)

pub returns-in-Ok-clause-looked : goal.returns-in-Ok-clause-looked
returns-in-Ok-clause-looked g c = looked_then c.in-Ok.ensures.looked c.earlier_or.ensures.looked

pub returns-in-Ok-clause-told : goal.returns-in-Ok-clause-told
returns-in-Ok-clause-told g c = λ w here.
    let o = c.in-Ok.earlier in
    let s = c.earlier_or.result in
    next_file w.nodes (codes "Snakefile" ∷ []) (codes "snakefile") o s (ap Ok (sym (first_one w.nodes (codes "Snakefile"))) ∙ c.in-Ok.ensures.told w here)
    (told_then (λ nodes. Answers (Ok (or_else o (file_at nodes (codes "snakefile")))) s) c.in-Ok.ensures.looked c.earlier_or.ensures.told w here)
