use Rattle.std.proofs.Common.{◌∙◌, ◌||◌, ap, is_some, bytes_eq}
use Rattle.std.proofs.lemmas.Map.Text.{btree_map_updates_str}
use Rattle.smk_base.proofs.Places.{same_flipped}
use Rattle.smk_plan_states.specs.Keys.{at_key, has_key}
use Rattle.smk_plan_states.proofs.Tests.{some_by}
use Rattle.smk_plan_states.proofs.ways.put_key.Goals as goal

pub returns : goal.returns
returns c = λ q.
    ap is_some (btree_map_updates_str c.as_str.result.now c.args.keys.now c.insert.new.self _ c.in_ok-insert.ensures.updates q)
    ∙ some_by (bytes_eq c.as_str.result.now q) _ (at_key c.args.keys.now q)
    ∙ ap (λ b. b || has_key c.args.keys.now q) (ap (λ p. bytes_eq p q) c.as_str.ensures.text ∙ same_flipped c.args.path.now q)
