use Rattle.std.proofs.lemmas.Map.Text.{btree_map_updates_str}
use Rattle.smk_pattern.proofs.Kept.{text_kept}
use Rattle.smk_pattern.proofs.by_name.keep_text.Goals as goal

pub returns : goal.returns
returns c =
    text_kept c.args.texts.now c.insert.new.self c.args.name.now c.args.text
    (λ q. btree_map_updates_str c.args.name.now c.args.texts.now c.insert.new.self _ c.in_ok-insert.ensures.updates q)
