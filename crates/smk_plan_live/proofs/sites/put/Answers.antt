use Rattle.std.proofs.Common.{[], Some, ap, ◌∙◌, string_bytes, bytes_eq}
use Rattle.std.specs.Prelude.{if◌then◌else◌}
use Rattle.std.specs.BTreeMap.{get_by_text}
use Rattle.std.proofs.lemmas.Map.Text.{btree_map_updates_text}
use Rattle.smk_plan_live.proofs.Tables.{never_empty}
use Rattle.smk_plan_live.proofs.sites.put.Goals as goal

pub returns-clause-put : goal.returns-clause-put
returns-clause-put c = λ q.
    btree_map_updates_text (string_bytes c.in_ok-key.key) c.args.sites.now c.insert.new.self (Some c.args.site) c.in_ok-insert.ensures.updates q
    ∙ ap (λ p. if bytes_eq p q then Some c.args.site else get_by_text c.args.sites.now q) (c.in_ok-key.ensures.ok ∙ c.as_str.ensures.text)

pub returns-clause-named : goal.returns-clause-named
returns-clause-named c =
    btree_map_updates_text (string_bytes c.in_ok-key.key) c.args.sites.now c.insert.new.self (Some c.args.site) c.in_ok-insert.ensures.updates []
    ∙ ap (λ p. if bytes_eq p [] then Some c.args.site else get_by_text c.args.sites.now []) (c.in_ok-key.ensures.ok ∙ c.as_str.ensures.text)
    ∙ ap (λ b. if b then Some c.args.site else get_by_text c.args.sites.now []) (never_empty c.args.path.now c.as_str.ensures.is_path)
