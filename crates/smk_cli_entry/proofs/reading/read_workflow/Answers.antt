use Rattle.std.proofs.Common.{inl}
use Rattle.smk_world.proofs.Devices.{looked_then}
use Rattle.smk_eval_files.proofs.Looking.{told_then}
use Rattle.smk_cli_entry.specs.Entry.{IsReadIn}
use Rattle.smk_cli_entry.proofs.Joins.{read_both}
use Rattle.smk_cli_entry.proofs.reading.read_workflow.Goals as goal

pub returns-in-Err-clause-told : goal.returns-in-Err-clause-told
returns-in-Err-clause-told g c = λ w here told. inl (c.in-Err.ensures.told w here told)

pub returns-in-Ok-clause-looked : goal.returns-in-Ok-clause-looked
returns-in-Ok-clause-looked g c = looked_then c.in-Ok.ensures.looked c.read_in.ensures.looked

pub returns-in-Ok-clause-told : goal.returns-in-Ok-clause-told
returns-in-Ok-clause-told g c = λ w here.
    let words = c.args.words.now in
    let file = c.in-Ok.file in
    let r = c.read_in.result in
    read_both words w.nodes file r (c.in-Ok.ensures.told w here)
    (told_then (λ nodes. IsReadIn nodes file words.sets r) c.in-Ok.ensures.looked c.read_in.ensures.told w here)
