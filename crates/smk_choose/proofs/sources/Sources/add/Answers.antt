use Rattle.std.proofs.Common.{Some, ap, ◌∙◌, string_bytes, bytes_eq}
use Rattle.std.specs.Prelude.{if◌then◌else◌}
use Rattle.std.proofs.lemmas.Map.Text.{btree_map_updates_text}
use Rattle.smk_choose.specs.Told.{standing_of}
use Rattle.smk_choose.proofs.sources.Sources.add.Goals as goal

pub returns-clause-ok : goal.returns-clause-ok
returns-clause-ok c = λ q.
    btree_map_updates_text (string_bytes c.in_ok-key.key) c.args.self.now.standings c.insert.new.self (Some (record { source = c.args.source; holds = c.args.holds }))
    c.in_ok-insert.ensures.updates q
    ∙ ap (λ p. if bytes_eq p q then Some (record { source = c.args.source; holds = c.args.holds }) else standing_of c.args.self.now q)
    (c.in_ok-key.ensures.ok ∙ c.as_str.ensures.text)
