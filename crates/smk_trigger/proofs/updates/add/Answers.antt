use Rattle.std.proofs.Common.{Some, ◌∙◌}
use Rattle.std.specs.BTreeMap.{get_by_text}
use Rattle.std.proofs.lemmas.Map.Text.{btree_map_updates_text}
use Rattle.smk_trigger.proofs.Differing.{one_added, put_back}
use Rattle.smk_trigger.proofs.updates.add.Goals as goal

pub returns : goal.returns
returns c = λ q now.
    let key = c.in_ok-key.ensures.ok ∙ c.as_str.ensures.text in
    one_added (get_by_text c.args.recorded.now) (get_by_text c.insert.new.self) c.args.path.now _ c.args.stamp c.take-earlier.result c.in_ok-stamps.stamps
    key c.take-earlier.ensures.taken c.in_ok-stamps.ensures
    (put_back (get_by_text c.args.recorded.now) (get_by_text c.take-earlier.new.recorded) (get_by_text c.insert.new.self) c.args.path.now _ c.in_ok-stamps.stamps key c.take-earlier.ensures.left
    (btree_map_updates_text _ c.take-earlier.new.recorded c.insert.new.self (Some c.in_ok-stamps.stamps) c.in_ok-insert.ensures.updates)) q now
