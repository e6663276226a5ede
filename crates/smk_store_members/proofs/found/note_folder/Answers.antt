use Rattle.std.proofs.Common.{[], ap, sym, ◌∙◌, ◌&&◌, ◌||◌, bytes_eq}
use Rattle.std.specs.BTreeSet.{contains_text}
use Rattle.smk_store.proofs.Walks.{added}
use Rattle.smk_store_members.proofs.found.note_folder.Goals as goal

pub returns-in_ok-insert : goal.returns-in_ok-insert
returns-in_ok-insert c = λ q.
    added c.args.folders.now c.insert.new.self _ [] c.args.name.now c.in_ok-text.ensures.ok c.in_ok-insert.ensures.updates q
    ∙ ap (λ b. (b && bytes_eq c.args.name.now q) || contains_text c.args.folders.now q) (sym c.if-folder.true)
