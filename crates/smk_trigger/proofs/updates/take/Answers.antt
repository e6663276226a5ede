use Rattle.std.proofs.Common.{None, ◌∙◌}
use Rattle.std.specs.BTreeMap.{get_by_text}
use Rattle.std.proofs.lemmas.Map.Text.{btree_map_updates_text}
use Rattle.smk_trigger.proofs.Differing.{one_taken}
use Rattle.smk_trigger.proofs.updates.take.Goals as goal

pub returns-clause-left : goal.returns-clause-left
returns-clause-left c = λ q.
    btree_map_updates_text c.as_str.result.now c.args.recorded.now c.remove.new.self None c.remove.ensures.updates q
    ∙ one_taken c.as_str.result.now c.args.path.now q (get_by_text c.args.recorded.now q) c.as_str.ensures.text
