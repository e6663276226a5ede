use Rattle.std.proofs.Common.{◌≡◌, List, ℕ, Ok, ap, subst}
use Rattle.smk_world.proofs.Devices.{looked_as, looked_then}
use Rattle.smk_eval_files.specs.Reading.{Answers, files_at}
use Rattle.smk_eval_files.proofs.Looking.{told_then}
use Rattle.smk_eval.specs.Faults.{from_files}
use Rattle.smk_eval.specs.Loading.{said_by, Gives}
use Rattle.smk_eval.proofs.Merging.{carried_device, carried_flow}
use Rattle.smk_eval.proofs.Giving.{gives_both}
use Rattle.smk_eval.proofs.loading.load.Goals as goal

pub returns-in_err-files-clause-looked : goal.returns-in_err-files-clause-looked
returns-in_err-files-clause-looked g c = looked_as (carried_device _ c.in_err-files.was c.from_residual.ensures.1) c.read_files.ensures.looked

pub returns-in_err-files-clause-told : goal.returns-in_err-files-clause-told
returns-in_err-files-clause-told g c = λ w here.
    let r = c.read_files.result in
    carried_flow (files_at w.nodes c.args.file.now) (said_by w.nodes c.args.sets.now) r _ _ c.in_err-files.was c.from_residual.ensures.1
    (subst (λ (p : List ℕ). Answers (files_at w.nodes p) r) c.in-Ok.ensures (c.read_files.ensures.told w here))

pub returns-clause-looked : goal.returns-clause-looked
returns-clause-looked g c = looked_then c.in_ok-files.ensures.looked c.said_by.ensures.looked

pub returns-clause-told : goal.returns-clause-told
returns-clause-told g c = λ w here.
    let sets = c.args.sets.now in
    let files = c.in_ok-files.files in
    let r = c.said_by.result in
    gives_both (from_files (files_at w.nodes c.args.file.now)) files (said_by w.nodes sets) r
    (ap from_files (subst (λ (p : List ℕ). files_at w.nodes p ≡ Ok files) c.in-Ok.ensures (c.in_ok-files.ensures.told w here)))
    (told_then (λ nodes. Gives (said_by nodes sets files) r) c.in_ok-files.ensures.looked c.said_by.ensures.told w here)
