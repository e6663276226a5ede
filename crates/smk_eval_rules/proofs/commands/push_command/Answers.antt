use Rattle.std.proofs.Common.{◌≡◌, ◌-◌, ℕ, take, ap, sym, ◌∙◌, arith}
use Rattle.smk_template.specs.Templates.{first_brace}
use Rattle.smk_template.specs.Symbols.{symbol_of}
use Rattle.smk_eval_rules.proofs.Placed.{placed_end, placed_more, placed_stop}
use Rattle.smk_eval_rules.proofs.commands.push_command.Goals as goal

pub returns-then-plain-rest : goal.returns-then-plain-rest
returns-then-plain-rest c =
    let rest = c.reading.rest.now in
    let k = c.first_brace-plain.result in
    let less_none : k - 0 ≡ k = omega arith in
    placed_end c.args.items.now _ _ _ c.range.result.now rest k
    c.in_ok-push_str.ensures.bytes
    (c.range.ensures.value ∙ ap (λ (n : ℕ). take n rest) less_none)
    (c.first_brace-plain.ensures.value ∙ ap first_brace c.as_bytes.ensures.value)
    c.if-plain-rest.true
    c.reading.invariant.so_far

pub returns-then-not-is_closed : goal.returns-then-not-is_closed
returns-then-not-is_closed c =
    let rest = c.reading.rest.now in
    let k = c.first_brace-plain.result in
    let less_none : k - 0 ≡ k = omega arith in
    placed_stop c.args.items.now _ _ _ _ _ c.range.result.now rest c.range_from-at.result.now c.symbol_in.result.1.now k (symbol_of c.symbol_in.result.0)
    c.in_ok-push_str-2.ensures.bytes
    c.in_ok-is_closed.ensures.added
    c.in_ok-push_str.ensures.bytes
    (c.range.ensures.value ∙ ap (λ (n : ℕ). take n rest) less_none)
    (c.first_brace-plain.ensures.value ∙ ap first_brace c.as_bytes.ensures.value)
    c.range_from-at.ensures.value
    c.symbol_in.ensures.read
    (sym c.in_ok-is_closed.ensures.told ∙ c.if-not-is_closed.true)
    c.reading.invariant.so_far

pub reading-preserved : goal.reading-preserved
reading-preserved c =
    let rest = c.reading.rest.now in
    let k = c.first_brace-plain.result in
    let less_none : k - 0 ≡ k = omega arith in
    record {
      so_far = placed_more c.args.items.now _ _ _ _ c.range.result.now rest c.range_from-at.result.now c.symbol_in.result.1.now k (symbol_of c.symbol_in.result.0)
          c.in_ok-is_closed.ensures.added
          c.in_ok-push_str.ensures.bytes
          (c.range.ensures.value ∙ ap (λ (n : ℕ). take n rest) less_none)
          (c.first_brace-plain.ensures.value ∙ ap first_brace c.as_bytes.ensures.value)
          c.range_from-at.ensures.value
          c.symbol_in.ensures.read
          (sym c.in_ok-is_closed.ensures.told ∙ c.if-not-is_closed.false)
          c.reading.invariant.so_far;
      utf8 = c.symbol_in.ensures.utf8;
    }
