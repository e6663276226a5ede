use Rattle.std.proofs.Common.{◌≡◌, ◌-◌, ℕ, take, ap, ◌∙◌, arith}
use Rattle.smk_template.specs.Templates.{first_brace}
use Rattle.smk_eval_values.specs.Letters.{letters, letters_of}
use Rattle.smk_eval_values.proofs.Read.{read_last, read_more}
use Rattle.smk_eval_values.proofs.reading.read.Goals as goal

pub returns-then-plain-rest : goal.returns-then-plain-rest
returns-then-plain-rest c =
    let rest = c.reading.rest.now in
    let k = c.first_brace-plain.result in
    let less_none : k - 0 ≡ k = omega arith in
    read_last (letters_of c.push_text.new.pieces) (letters_of c.reading.pieces) (letters c.args.pattern.now) rest c.range.result.now k
    c.in_ok-push_text.ensures
    (c.range.ensures.value ∙ ap (λ (n : ℕ). take n rest) less_none)
    (c.first_brace-plain.ensures.value ∙ ap first_brace c.as_bytes.ensures.value)
    c.if-plain-rest.true
    c.reading.invariant.so_far

pub reading-preserved : goal.reading-preserved
reading-preserved c =
    let rest = c.reading.rest.now in
    let k = c.first_brace-plain.result in
    let less_none : k - 0 ≡ k = omega arith in
    record {
      so_far = read_more _ (letters_of c.push_text.new.pieces) (letters_of c.reading.pieces) (letters c.args.pattern.now) rest c.range.result.now c.range_from.result.now k
          c.in_ok-rest.ensures.read
          c.range_from.ensures.value
          c.in_ok-push_text.ensures
          (c.range.ensures.value ∙ ap (λ (n : ℕ). take n rest) less_none)
          (c.first_brace-plain.ensures.value ∙ ap first_brace c.as_bytes.ensures.value)
          c.reading.invariant.so_far;
      utf8 = c.in_ok-rest.ensures.utf8;
    }
