use Rattle.std.proofs.Common.{Some, ap, ◌∙◌, bytes_eq}
use Rattle.std.specs.Prelude.{if◌then◌else◌}
use Rattle.std.proofs.lemmas.Map.Text.{btree_map_updates_str}
use Rattle.smk_plan_states.specs.Keys.{at_key}
use Rattle.smk_plan_states.proofs.ways.put_link.Goals as goal

pub returns : goal.returns
returns c = λ q.
    btree_map_updates_str c.as_str.result.now c.args.links.now c.insert.new.self (Some c.args.number) c.in_ok-insert.ensures.updates q
    ∙ ap (λ p. if bytes_eq p q then Some c.args.number else at_key c.args.links.now q) c.as_str.ensures.text
