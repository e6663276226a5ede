use Rattle.std.proofs.Common.{◌∙◌}
use Rattle.smk_store.proofs.Loads.{text_added}
use Rattle.smk_chain.proofs.sets.put.Goals as goal

pub returns : goal.returns
returns c = λ q. text_added c.args.set.now c.insert.new.self _ c.args.path.now (c.in_ok-text.ensures.ok ∙ c.as_str.ensures.text) c.in_ok-insert.ensures.updates q
