use Rattle.std.proofs.Common.{◌||◌, ◌&&◌, ap, ◌∙◌, bytes_eq}
use Rattle.std.specs.BTreeSet.{contains_text}
use Rattle.smk_store_members.proofs.Sets.{kept_more, on_ok}
use Rattle.smk_store_members.proofs.found.keep.Goals as goal

pub returns-clause-kept : goal.returns-clause-kept
returns-clause-kept c =
    on_ok c.push.result _ _
    (kept_more c.args.walk.now.found c.push.new.self c.args.walk.now.names c.args.walk.now.folders c.note.new.names c.note_folder.new.folders c.args.name c.args.folder c.requires.kept c.requires.few c.requires.path
    (λ q. c.in_ok-note.ensures q ∙ ap (λ t. bytes_eq t q || contains_text c.args.walk.now.names q) c.as_str.ensures.text)
    (λ q. c.in_ok-note_folder.ensures q ∙ ap (λ t. (c.args.folder && bytes_eq t q) || contains_text c.args.walk.now.folders q) c.as_str-2.ensures.text))
    c.push.ensures.ok
