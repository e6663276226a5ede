use Rattle.std.proofs.Common.{take, ◌∙◌, ap, sym, ◌++◌, ◌∷◌, []}
use Rattle.std.proofs.lemmas.List.{take_more}
use Rattle.smk_world.specs.Trees.{is_text}
use Rattle.smk_run.proofs.Seen.{all_step, text_seen}
use Rattle.smk_run.proofs.wording.see_words.Goals as goal

pub loop-word-preserved : goal.loop-word-preserved
loop-word-preserved c =
    let word = c.word-item.result in
    let words = c.args.words.now in
    let i = c.loop-word.word-index in
    let e = take_more words i word c.loop-word-test.true ∙ ap (λ w. take i words ++ w ∷ []) (sym c.word-item.is) in
    all_step is_text (take i words) word _ e c.loop-word.invariant (text_seen _ word c.as_str-text.ensures c.as_str-text.utf8)
