use Rattle.std.proofs.Common.{◌∙◌, sym}
use Rattle.smk_format.proofs.Numbered.{name_at}
use Rattle.smk_format.proofs.names.rule_name.Goals as goal

pub returns : goal.returns
returns c = c.name_at.ensures ∙ sym (name_at c.args.flow.now c.args.number)
