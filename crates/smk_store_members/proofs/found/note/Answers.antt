use Rattle.std.proofs.Common.{[]}
use Rattle.smk_store.proofs.Walks.{added}
use Rattle.smk_store_members.proofs.found.note.Goals as goal

pub returns : goal.returns
returns c = λ q. added c.args.names.now c.insert.new.self _ [] c.args.name.now c.in_ok-text.ensures.ok c.in_ok-insert.ensures.updates q
