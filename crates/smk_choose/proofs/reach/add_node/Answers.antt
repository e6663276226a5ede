use Rattle.std.proofs.Common.{◌∙◌, [], refl, sym, ap, arith}
use Rattle.std.proofs.lemmas.List.{get_or_read}
use Rattle.smk_choose.specs.Told.{told_by}
use Rattle.smk_choose.specs.Reach.{path_at}
use Rattle.smk_choose.proofs.Spanning.{known_pushed}
use Rattle.smk_choose.proofs.reach.add_node.Goals as goal

pub returns-clause-known : goal.returns-clause-known
returns-clause-known c =
    let old = c.args.reach.now in
    let mid = c.node.new.reach in
    let one = c.in_ok-made.ensures in
    let count = c.len.ensures ∙ old.nodes.ok.0 in
    let at = c.in_ok-path.ensures
    ∙ get_or_read old.paths.items c.len.result c.index.result.now (omega (arith, c.requires.left, count)) c.index.ensures []
    ∙ ap (path_at old.paths.items) count in
    known_pushed c.args.flow.now (told_by c.args.sources.now) old mid (record { numbers = mid.numbers; paths = mid.paths; nodes = c.push.new.self }) c.in_ok-made.made c.in_ok-path.path
    c.requires.known one.grows one.nodes refl refl c.in_ok-push.ensures.items one.is (sym at) c.requires.left
