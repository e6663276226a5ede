use Rattle.std.proofs.Common.{ap, refl, ◌∙◌}
use Rattle.serde_json.specs.View.{members_view}
use Rattle.serde_json.proofs.Views.{members_view-insert_entry}
use Rattle.smk_config.proofs.Keys.{view_text}
use Rattle.smk_config.proofs.config.Config.set.Goals as goal

pub returns-clause-ok : goal.returns-clause-ok
returns-clause-ok c =
    ap members_view c.in_ok-insert.ensures.entries
    ∙ members_view-insert_entry c.args.self.now.members.entries c.in_ok-key.key _
    ∙ rw (c.in_ok-key.ensures.ok, view_text c.in_ok-from_str.field-0, c.in_ok-from_str.ensures.ok) refl
