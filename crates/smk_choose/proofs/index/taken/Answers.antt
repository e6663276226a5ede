use Rattle.std.proofs.Common.{None, bytes_eq}
use Rattle.std.specs.BTreeMap.{get_by_text}
use Rattle.std.proofs.lemmas.Map.Text.{btree_map_updates_text}
use Rattle.smk_choose.proofs.Indexed.{text_taken}
use Rattle.smk_choose.proofs.index.taken.Goals as goal

pub returns-in-Some-clause-left : goal.returns-in-Some-clause-left
returns-in-Some-clause-left c = λ q.
    text_taken (bytes_eq c.args.text.now q) (get_by_text c.remove.new.self q) (get_by_text c.args.texts.now q)
    (btree_map_updates_text c.args.text.now c.args.texts.now c.remove.new.self None c.remove.ensures.updates q)
