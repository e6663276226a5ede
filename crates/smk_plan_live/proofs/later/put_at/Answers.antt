use Rattle.std.proofs.Common.{Some, sym, ap, ◌∙◌, string_bytes, bytes_eq}
use Rattle.std.specs.Prelude.{if◌then◌else◌}
use Rattle.std.specs.BTreeMap.{get_by_text}
use Rattle.std.proofs.lemmas.Map.Text.{btree_map_updates_text}
use Rattle.smk_plan_live.specs.Carried.{told_upon}
use Rattle.smk_plan_live.proofs.Grown.{upon_some}
use Rattle.smk_plan_live.proofs.later.put_at.Goals as goal

pub returns-in_ok-insert-in-Some : goal.returns-in_ok-insert-in-Some
returns-in_ok-insert-in-Some c = λ q.
    let old = get_by_text c.args.seen.now q in
    btree_map_updates_text (string_bytes c.in_ok-key-in-Some.key) c.args.seen.now c.insert.new.self (Some c.in-Some.sight) c.in_ok-insert-in-Some.ensures.updates q
    ∙ ap (λ p. if bytes_eq p q then Some c.in-Some.sight else old) (c.in_ok-key-in-Some.ensures.ok ∙ c.as_str.ensures.text)
    ∙ upon_some c.args.path.now q c.in-Some.sight old ∙ sym (ap (λ s. told_upon (bytes_eq q c.args.path.now) s old) c.in-Some.is)
