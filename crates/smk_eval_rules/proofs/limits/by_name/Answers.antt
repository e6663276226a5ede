use Rattle.std.proofs.Common.{◌<◌, length, arith}
use Rattle.std.proofs.lemmas.Map.Text.{btree_map_updates_str}
use Rattle.smk_eval_rules.proofs.Kept.{kept_more}
use Rattle.smk_eval_rules.proofs.limits.by_name.Goals as goal

pub loop-limit-preserved : goal.loop-limit-preserved
loop-limit-preserved c =
    let i = c.loop-limit.limit-index in
    let lt : i < length c.args.limits.now = omega arith in
    kept_more c.loop-limit.kept c.insert.new.self c.args.limits.now i c.limit-item.result _ c.as_str.result.now lt c.limit-item.is c.as_str.ensures
    (λ q. btree_map_updates_str c.as_str.result.now c.loop-limit.kept c.insert.new.self _ c.in_ok-insert.ensures.updates q)
    c.loop-limit.invariant
