use Rattle.std.proofs.Common.{Ok, Err, List, ℕ, ap, sym, subst, ◌∙◌, true≢false}
use Rattle.smk_cli_entry.specs.Faults.{Answers}
use Rattle.smk_cli_entry.specs.Names as spec
use Rattle.smk_cli_entry.proofs.naming.file_named.Goals as goal

pub returns-in-Ok-clause-told : goal.returns-in-Ok-clause-told
returns-in-Ok-clause-told g c = λ w here.
    subst (λ (q : List ℕ). Answers (Ok (spec.file_at w.nodes q)) c.file_at.result) c.in-Ok.ensures.path (c.file_at.ensures.told w here)

pub returns-in-Err-BadPath-clause-told : goal.returns-in-Err-BadPath-clause-told
returns-in-Err-BadPath-clause-told g c = absurd (true≢false (sym c.requires.named ∙ c.in-Err-BadPath.ensures.bad_path (ap (λ e. Err e) c.in-Err-BadPath.field-0-is)))
