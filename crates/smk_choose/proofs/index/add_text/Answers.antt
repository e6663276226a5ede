use Rattle.std.proofs.Common.{Some, ap, ◌∙◌, List, ℕ, cond, string_bytes, bytes_eq}
use Rattle.std.specs.BTreeMap.{get_by_text}
use Rattle.std.proofs.lemmas.Map.Text.{btree_map_updates_text}
use Rattle.smk_choose.specs.Index.{or_no}
use Rattle.smk_choose.proofs.Indexed.{text_added, text_put}
use Rattle.smk_choose.proofs.index.add_text.Goals as goal

pub returns : goal.returns
returns c =
    let left = c.taken-numbers.new.texts in
    let numbers = c.add_number.new.numbers in
    text_added c.args.text.now c.args.number c.taken-numbers.result numbers (λ q. or_no (get_by_text c.args.texts.now q)) (λ q. or_no (get_by_text left q)) (λ q. or_no (get_by_text c.insert.new.self q))
    c.taken-numbers.ensures.taken c.in_ok-add_number.ensures c.taken-numbers.ensures.left
    (λ q. text_put (bytes_eq c.args.text.now q) numbers (get_by_text c.insert.new.self q) (get_by_text left q)
    (btree_map_updates_text (string_bytes c.in_ok-key.key) left c.insert.new.self (Some numbers) c.in_ok-insert.ensures.updates q
    ∙ ap (λ (p : List ℕ). cond (bytes_eq p q) (Some numbers) (get_by_text left q)) c.in_ok-key.ensures.ok))
