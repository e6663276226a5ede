use Rattle.std.proofs.lemmas.Map.Text.{btree_map_updates_str}
use Rattle.smk_flow_build.proofs.RulesByName.{rule_more}
use Rattle.smk_flow_build.proofs.named.add_rule.Goals as goal

pub returns : goal.returns
returns c =
    rule_more c.args.rules.now c.insert.new.self c.as_str.result.now c.args.part c.as_str.ensures c.requires
    (λ q. btree_map_updates_str c.as_str.result.now c.args.rules.now c.insert.new.self _ c.in_ok-insert.ensures.updates q)
