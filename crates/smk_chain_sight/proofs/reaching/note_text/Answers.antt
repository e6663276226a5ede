use Rattle.std.proofs.Common.{◌∙◌}
use Rattle.smk_chain_sight.proofs.Keys.{key_added}
use Rattle.smk_chain_sight.proofs.reaching.note_text.Goals as goal

pub returns : goal.returns
returns c = λ q. key_added c.args.known.now c.insert.new.self _ c.args.path.now (c.in_ok-key.ensures.ok ∙ c.as_str.ensures.text) c.in_ok-insert.ensures.updates q
