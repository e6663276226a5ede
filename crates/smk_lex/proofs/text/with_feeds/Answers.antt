use Rattle.std.proofs.Common.{rules, ◌≡◌, ◌++◌, ◌∙◌, ap, string_bytes, arith, List, ℕ}
use Rattle.std.proofs.lemmas.Str.Pattern.{split_parts}
use Rattle.smk_lex.specs.Spelling.{byte_before, with_feeds}
use Rattle.smk_lex.proofs.Texts.{feeds-next, feeds-last}
use Rattle.smk_lex.proofs.text.with_feeds.Goals as goal

pub returns-in_default : goal.returns-in_default
returns-in_default c =
    let rest = c.returns.rest.now in
    let none = rw c.in_default.is at (split_parts 13 rest c.split_once.result c.split_once.ensures.cases (omega arith)) in
    feeds-last (string_bytes c.returns.value) rest (string_bytes c.push_str.new.self) (with_feeds c.args.text.now) none c.in_ok-push_str.ensures.bytes c.returns.invariant.1

pub returns-preserved : goal.returns-preserved
returns-preserved c =
    let rest = c.returns.rest.now in
    let parts = rw c.in-Some.is at (split_parts 13 rest c.split_once.result c.split_once.ensures.cases (omega arith)) in
    let before : string_bytes c.push_str-in-returns-2.new.self ≡ string_bytes c.push_str-in-returns.new.self ++ byte_before 13 c.in-Some.later.now =
    c.in_ok-push_str-3.ensures.bytes ∙ ap (λ (v : List ℕ). string_bytes c.push_str-in-returns.new.self ++ v) c.return_before.ensures in (
      search rules,
      feeds-next (string_bytes c.returns.value) c.in-Some.plain.now c.in-Some.later.now rest (string_bytes c.push_str-in-returns.new.self) (string_bytes c.push_str-in-returns-2.new.self) (with_feeds c.args.text.now)
          parts.0 parts.1 c.in_ok-push_str-2.ensures.bytes before c.returns.invariant.1,
    )
