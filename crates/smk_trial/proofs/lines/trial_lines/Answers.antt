use Rattle.std.proofs.Common.{◌≡◌, IfOk, subst, ◌∙◌}
use Rattle.smk_trial.proofs.Five.{five_added}
use Rattle.smk_trial.proofs.lines.trial_lines.Goals as goal

pub returns : goal.returns
returns c =
    subst (λ t. IfOk c.of.result (λ text. text ≡ t))
    (c.as_str.ensures.value
    ∙ five_added _ _ _ _ _ _ _ _ _ _ _ c.new-text.ensures.bytes c.in_ok-push_line.ensures c.in_ok-push_line-2.ensures c.in_ok-push_line-3.ensures c.in_ok-push_line-4.ensures c.in_ok-push_line-5.ensures)
    c.of.ensures
