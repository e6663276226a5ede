use Rattle.std.proofs.Common.{◌∙◌, ℕ, sym, ap, refl, drop}
use Rattle.std.proofs.lemmas.List.{get_or_default, drop_all}
use Rattle.smk_choose.proofs.Preferred.{wildcards_close, close_here, closes_in}
use Rattle.smk_choose.proofs.precedence.has_wildcards.Goals as goal

pub returns-then-depth-eq1 : goal.returns-then-depth-eq1
returns-then-depth-eq1 c =
    let text = c.args.text.now in
    let i = c.loop-byte.byte-index in
    sym (wildcards_close text ∙ c.loop-byte.invariant.rest ∙ ap (λ (d : ℕ). closes_in d (drop i text)) c.if-depth-eq1.true
    ∙ close_here text i 125 c.loop-byte-test.true (sym (get_or_default text i 125 0 c.loop-byte-test.true ∙ c.if-byte-eq125.true)) refl)

pub returns : goal.returns
returns c =
    let text = c.args.text.now in
    let i = c.loop-byte.byte-index in
    sym (wildcards_close text ∙ c.loop-byte.invariant.rest ∙ ap (closes_in c.loop-byte.depth) (drop_all i text c.loop-byte-test.false))
