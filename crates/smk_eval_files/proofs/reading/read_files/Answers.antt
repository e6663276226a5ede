use Rattle.std.proofs.Common.{ap, ◌∙◌, subst}
use Rattle.smk_eval_files.specs.Reading.{Answers, onto, files_at}
use Rattle.smk_eval_files.proofs.Opening.{onto_nothing}
use Rattle.smk_eval_files.proofs.reading.read_files.Goals as goal

pub returns-clause-told : goal.returns-clause-told
returns-clause-told g c = λ w here.
    let files = files_at w.nodes c.args.file in
    subst (λ m. Answers m c.with_file.result) (ap (λ made. onto made files) c.new.ensures ∙ onto_nothing files) (c.with_file.ensures.told w here)
