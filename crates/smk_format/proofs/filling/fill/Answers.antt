use Rattle.std.proofs.Common.{◌≡◌, ◌-◌, ℕ, take, ap, sym, ◌∙◌, arith}
use Rattle.smk_template.specs.Templates.{first_brace}
use Rattle.smk_format.specs.Commands.{filled}
use Rattle.smk_template.specs.Symbols.{symbol_of}
use Rattle.smk_format.proofs.Filled.{missing_end, filled_end, missing_found, missing_more, filled_more}
use Rattle.smk_format.proofs.filling.fill.Goals as goal

pub returns-then-plain-rest-clause-missing : goal.returns-then-plain-rest-clause-missing
returns-then-plain-rest-clause-missing c =
    let rest = c.filling.rest.now in
    let k = c.first_brace-plain.result in
    sym (c.filling.invariant.missing ∙ missing_end c.args.job.now rest k (c.first_brace-plain.ensures.value ∙ ap first_brace c.as_bytes.ensures.value) c.if-plain-rest.true)

pub returns-then-plain-rest-clause-filled : goal.returns-then-plain-rest-clause-filled
returns-then-plain-rest-clause-filled c = λ _.
    let rest = c.filling.rest.now in
    let k = c.first_brace-plain.result in
    let less_none : k - 0 ≡ k = omega arith in
    filled_end c.args.job.now c.args.threads _ _ _ c.range.result.now rest k
    c.in_ok-push_str.ensures.bytes
    (c.range.ensures.value ∙ ap (λ (n : ℕ). take n rest) less_none)
    (c.first_brace-plain.ensures.value ∙ ap first_brace c.as_bytes.ensures.value)
    c.if-plain-rest.true
    c.filling.invariant.so_far

pub returns-in-Some-clause-missing : goal.returns-in-Some-clause-missing
returns-in-Some-clause-missing c =
    let rest = c.filling.rest.now in
    let k = c.first_brace-plain.result in
    missing_found c.args.job.now rest c.range_from.result.now c.symbol_in.result.1.now k (symbol_of c.symbol_in.result.0) c.in-Some.word
    (c.first_brace-plain.ensures.value ∙ ap first_brace c.as_bytes.ensures.value)
    c.range_from.ensures.value
    c.symbol_in.ensures.read
    (rw c.in-Some.is at c.in_ok-word.ensures.missing)
    ∙ sym c.filling.invariant.missing

pub filling-preserved : goal.filling-preserved
filling-preserved c =
    let rest = c.filling.rest.now in
    let k = c.first_brace-plain.result in
    let less_none : k - 0 ≡ k = omega arith in
    let first = c.first_brace-plain.ensures.value ∙ ap first_brace c.as_bytes.ensures.value in
    record {
      so_far = filled_more c.args.job.now c.args.threads _ _ _ _ c.range.result.now rest c.range_from.result.now c.symbol_in.result.1.now k (symbol_of c.symbol_in.result.0)
          (c.in_ok-word.ensures.filled)
          c.in_ok-push_str.ensures.bytes
          (c.range.ensures.value ∙ ap (λ (n : ℕ). take n rest) less_none)
          first
          c.range_from.ensures.value
          c.symbol_in.ensures.read
          c.filling.invariant.so_far;
      missing = c.filling.invariant.missing ∙ missing_more c.args.job.now rest c.range_from.result.now c.symbol_in.result.1.now k (symbol_of c.symbol_in.result.0)
          first
          c.range_from.ensures.value
          c.symbol_in.ensures.read
          (rw c.in-None.is at c.in_ok-word.ensures.missing);
      utf8 = c.symbol_in.ensures.utf8;
    }
