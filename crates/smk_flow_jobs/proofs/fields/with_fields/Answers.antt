use Rattle.std.proofs.Common.{List, ℕ, Option, Bor, ◌++◌, option_map, string_bytes, ap, sym, ◌∙◌}
use Rattle.smk_pattern.specs.Reading.{fill_words}
use Rattle.smk_flow.specs.Begun.{from_brace}
use Rattle.smk_flow_jobs.proofs.FieldTexts.{front_plain, one_more}
use Rattle.smk_flow_jobs.proofs.fields.with_fields.Goals as goal

pub braces-init : goal.braces-init
braces-init c =
    let rest = option_map (λ (t : Bor (List ℕ)). t.now) c.cut.result.1 in
    ap (λ (u : List ℕ). u ++ fill_words c.args.binding.now (from_brace rest)) c.in_ok-made.ensures.ok
    ∙ front_plain c.args.binding.now c.args.text.now c.cut.result.0.now rest c.cut.ensures.text c.cut.ensures.lacks

pub braces-preserved : goal.braces-preserved
braces-preserved c =
    let b = c.args.binding.now in
    let made = string_bytes c.braces.made in
    one_more b made (string_bytes c.push_str-in-Some.new.self) (fill_words b c.args.text.now) c.braced.result.0.now c.braced.result.1.now c.in-Some.behind.now
    c.cut-in-Some.result.0.now (option_map (λ (t : Bor (List ℕ)). t.now) c.cut-in-Some.result.1)
    (ap (λ (o : Option (Bor (List ℕ))). made ++ fill_words b (from_brace (option_map (λ (t : Bor (List ℕ)). t.now) o))) (sym c.in-Some.is) ∙ c.braces.invariant)
    c.cut-in-Some.ensures.text c.braced.ensures
    (c.in_ok-push_str-2.ensures.bytes ∙ ap (λ (u : List ℕ). u ++ c.braced.result.1.now) c.in_ok-push_str.ensures.bytes)
