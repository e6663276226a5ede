use Rattle.std.proofs.Common.{sym, ◌∙◌}
use Rattle.smk_pattern.proofs.Kept.{inline_same, inline_more, inline_twice}
use Rattle.smk_pattern.proofs.by_name.add_inline.Goals as goal

pub returns-in_default : goal.returns-in_default
returns-in_default c = λ ps h. inline_same c.args.texts.now ps _ h c.in_default.ensures

pub returns-then-has_text : goal.returns-then-has_text
returns-then-has_text c = λ ps h.
    (c.in-Some.name.now, rw c.in-Some.ensures (inline_twice c.args.texts.now ps c.in-Some.name.now c.in-Some.limit.now h (sym c.has_text.ensures ∙ c.if-has_text.true)))

pub returns : goal.returns
returns c = λ ps h.
    rw c.in-Some.ensures (inline_more c.args.texts.now c.keep_text.new.texts ps c.in-Some.name.now c.in-Some.limit.now h (sym c.has_text.ensures ∙ c.if-has_text.false) c.in_ok-keep_text.ensures)
