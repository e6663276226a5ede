use Rattle.std.proofs.Common.{◌∙◌}
use Rattle.smk_plan_facts.proofs.Copied.{held_again}
use Rattle.smk_plan_facts.proofs.copies.record_again.Goals as goal

pub returns : goal.returns
returns c =
    let path = c.in_ok-path.ensures ∙ c.path.ensures in
    let recipe = c.in_ok-recipe.ensures ∙ c.recipe.ensures in
    let stamps = c.in_ok-stamps.ensures ∙ c.as_slice.ensures ∙ c.stamps.ensures in
    let members = c.in_ok-members.ensures ∙ c.as_slice-2.ensures ∙ c.members.ensures in
    c.kept_by.ensures
    ∙ held_again c.of.result c.args.held.now _
    (λ i. record { format = c.format.ensures i; path = path i; made = c.made.ensures i; recipe = recipe i; stamps = stamps i; members = members i })
    c.of.ensures.valid c.of.ensures.value
