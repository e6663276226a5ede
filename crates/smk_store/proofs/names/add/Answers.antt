use Rattle.std.proofs.Common.{◌∙◌, ap, ◌++◌}
use Rattle.smk_store.proofs.Walks.{added}
use Rattle.smk_store.proofs.names.add.Goals as goal

pub returns : goal.returns
returns c =
    λ q. added c.args.found.now c.insert.new.self _ c.args.front.now c.args.part.now
    (c.in_ok-push_str.ensures.bytes ∙ ap (λ t. t ++ c.args.part.now) c.in_ok-path.ensures.ok) c.in_ok-insert.ensures.updates q
