use Rattle.std.proofs.Common.{Some, ap, ◌∙◌, string_bytes, bytes_eq}
use Rattle.std.specs.Prelude.{if◌then◌else◌}
use Rattle.std.specs.BTreeMap.{get_by_text}
use Rattle.std.proofs.lemmas.Map.Text.{btree_map_updates_text}
use Rattle.smk_choose_wants.proofs.places.put.Goals as goal

pub returns : goal.returns
returns c = λ q.
    btree_map_updates_text (string_bytes c.in_ok-key.key) c.args.numbers.now c.insert.new.self (Some c.args.number) c.in_ok-insert.ensures.updates q
    ∙ ap (λ p. if bytes_eq p q then Some c.args.number else get_by_text c.args.numbers.now q) (c.in_ok-key.ensures.ok ∙ c.as_str.ensures.text)
