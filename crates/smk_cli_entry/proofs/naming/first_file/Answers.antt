use Rattle.std.proofs.Common.{Ok, [], ◌∷◌}
use Rattle.std.specs.Prelude.{codes}
use Rattle.smk_world.proofs.Devices.{looked_then}
use Rattle.smk_eval_files.proofs.Looking.{told_then}
use Rattle.smk_cli_entry.specs.Faults.{Answers}
use Rattle.smk_cli_entry.specs.Names.{or_else}
use Rattle.smk_cli_entry.specs.Names.{file_at, first_file, file_names}
use Rattle.smk_cli_entry.proofs.Stats.{unread}
use Rattle.smk_cli_entry.proofs.Firsts.{next_file}
use Rattle.smk_cli_entry.proofs.naming.first_file.Goals as goal

pub returns-in-Err-clause-told : goal.returns-in-Err-clause-told
returns-in-Err-clause-told g c = λ w here.
    unread (first_file w.nodes (codes "Snakefile" ∷ codes "snakefile" ∷ codes "workflow/Snakefile" ∷ [])) (first_file w.nodes file_names) c.in-Err.fault (c.in-Err.ensures.told w here)

pub returns-in-Ok-clause-looked : goal.returns-in-Ok-clause-looked
returns-in-Ok-clause-looked g c = looked_then c.in-Ok.ensures.looked c.earlier_or.ensures.looked

pub returns-in-Ok-clause-told : goal.returns-in-Ok-clause-told
returns-in-Ok-clause-told g c = λ w here.
    let o = c.in-Ok.earlier in
    let s = c.earlier_or.result in
    next_file w.nodes (codes "Snakefile" ∷ codes "snakefile" ∷ codes "workflow/Snakefile" ∷ []) (codes "workflow/snakefile") o s (c.in-Ok.ensures.told w here)
    (told_then (λ nodes. Answers (Ok (or_else o (file_at nodes (codes "workflow/snakefile")))) s) c.in-Ok.ensures.looked c.earlier_or.ensures.told w here)
