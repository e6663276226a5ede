-- grows
use Rattle.std.proofs.Common.{◌≡◌, ap, ◌∙◌}
use Rattle.smk_flow.specs.Numbers.{parts_of}
use Rattle.smk_cli_entry.proofs.Joins.{parts_again}
use Rattle.smk_cli_calls.specs.OneByOne.{grows}
use Rattle.smk_cli.proofs.growing.grows.Goals as goal

pub returns : goal.returns
returns c =
    let same : c.as_slice.result.now ≡ _ = c.as_slice.ensures ∙ c.rules.ensures.rules in
    c.some_may_grow.ensures ∙ ap grows (ap parts_of same ∙ parts_again c.args.flow.now.rules)
