use Rattle.std.proofs.Common.{List, ℕ, ap, ◌∙◌}
use Rattle.smk_base.specs.declared.tree.Pair.{Pair}
use Rattle.smk_eval_values.specs.Letters.{letters_of, filled}
use Rattle.smk_eval_values.specs.Expanding.{row}
use Rattle.smk_eval_values.proofs.Pairs.{row_added}
use Rattle.smk_eval_values.proofs.pairing.pair.Goals as goal

pub loop-place-preserved : goal.loop-place-preserved
loop-place-preserved c =
    let ls = letters_of c.args.pieces.now in
    let choices = c.args.choices.now in
    row_added (λ (i : ℕ). filled (row i choices) ls) c.push.new.self c.loop-place.texts c.args.texts.now c.in_ok-fill.field-0 c.loop-place.place
    c.in_ok-push.ensures.ok
    (c.in_ok-fill.ensures ∙ ap (λ (b : List Pair). filled b ls) (c.as_slice.ensures ∙ c.in_ok-bound.ensures))
    c.loop-place.invariant
