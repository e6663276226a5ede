use Rattle.std.proofs.Common.{◌≡◌, ap, ◌∙◌}
use Rattle.smk_flow.specs.Numbers.{parts_of}
use Rattle.smk_cli_entry.proofs.Joins.{parts_again}
use Rattle.smk_cli_calls.specs.OneByOne.{has_marks}
use Rattle.smk_cli.proofs.marks.has_marks.Goals as goal

pub returns : goal.returns
returns c =
    let same : c.as_slice.result.now ≡ _ = c.as_slice.ensures ∙ c.rules.ensures.rules in
    c.some_has_marks.ensures ∙ ap has_marks (ap parts_of same ∙ parts_again c.args.flow.now.rules)
