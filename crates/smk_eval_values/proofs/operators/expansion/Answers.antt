use Rattle.std.proofs.Common.{[], ap, sym, ◌∙◌}
use Rattle.std.specs.Prelude.{Err}
use Rattle.smk_eval_values.specs.Expanding.{expanded}
use Rattle.smk_eval_values.proofs.Calls.{call_fault}
use Rattle.smk_eval_values.proofs.operators.expansion.Goals as goal

pub returns-in-Err : goal.returns-in-Err
returns-in-Err c = λ h.
    call_fault c.in-Err.fault (expanded c.args.zip c.args.allow_missing c.args.choices.now [] c.args.patterns.now) c.in-Err.ensures.fault
    (λ e. h (c.of_expand.ensures ∙ e))
    ∙ ap Err (sym c.of_expand.ensures)
