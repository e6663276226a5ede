use Rattle.std.proofs.lemmas.Map.Text.{btree_map_updates_str}
use Rattle.smk_eval.proofs.state.State.with_constant.Goals as goal

pub returns : goal.returns
returns c = λ i. record {
  constant = λ q. btree_map_updates_str c.args.name.now c.args.self.constants c.insert.new.self _ c.in_ok-insert.ensures.updates q i;
  rules = c.args.self.rules;
  limits = c.args.self.limits;
  orders = c.args.self.orders;
}
