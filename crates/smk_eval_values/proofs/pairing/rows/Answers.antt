use Rattle.std.proofs.Common.{◌+◌, Bool, List, ℕ, drop, cond, length, ap, sym, ◌∙◌, arith}
use Rattle.smk_eval_values.specs.Letters.{stands, letters_of}
use Rattle.smk_eval_values.specs.Expanding.{rows}
use Rattle.smk_eval_values.proofs.Pairs.{rows_here}
use Rattle.smk_eval_values.proofs.pairing.rows.Goals as goal

pub returns-then-stands : goal.returns-then-stands
returns-then-stands c =
    let ls = letters_of c.args.pieces.now in
    let choices = c.args.choices.now in
    let i = c.loop-choice.choice-index in
    let d = c.choice-item.result in
    c.len.ensures
    ∙ ap (λ (v : Bool). cond v (length d.values) (rows ls (drop (i + 1) choices))) (sym c.if-stands.true)
    ∙ rows_here ls choices i (rows ls choices) d c.stands.result (omega arith) c.choice-item.is (c.stands.ensures ∙ ap (λ (n : List ℕ). stands ls n) c.as_str.ensures) c.loop-choice.invariant

pub loop-choice-preserved : goal.loop-choice-preserved
loop-choice-preserved c =
    let ls = letters_of c.args.pieces.now in
    let choices = c.args.choices.now in
    let i = c.loop-choice.choice-index in
    let d = c.choice-item.result in
    ap (λ (v : Bool). cond v (length d.values) (rows ls (drop (i + 1) choices))) (sym c.if-stands.false)
    ∙ rows_here ls choices i (rows ls choices) d c.stands.result (omega arith) c.choice-item.is (c.stands.ensures ∙ ap (λ (n : List ℕ). stands ls n) c.as_str.ensures) c.loop-choice.invariant
