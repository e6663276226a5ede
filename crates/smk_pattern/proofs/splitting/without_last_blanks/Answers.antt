use Rattle.std.proofs.Common.{◌≡◌, ◌<◌, ◌+◌, ◌-◌, ℕ, List, get_or, length, reverse, take, true, false, refl, sym, ap, subst, arith, ◌∙◌}
use Rattle.std.proofs.lemmas.Str.{IsCharBoundary-start, IsCharBoundary-before_ascii}
use Rattle.smk_pattern.specs.Grammar.{is_blank}
use Rattle.smk_pattern.specs.Reading.{trimmed}
use Rattle.smk_pattern.proofs.Split.{blank_last, no_blank_last, blank_small, cut_last}
use Rattle.smk_pattern.proofs.splitting.without_last_blanks.Goals as goal
use Rattle.smk_pattern.proofs.splitting.without_last_blanks.Goals.{then-loop-end-test+else-is_blank, else-loop-end-test}

pub cut-requires-clause-from : goal.cut-requires-clause-from
cut-requires-clause-from c = IsCharBoundary-start _ c.utf8.text

pub loop-end-preserved : goal.loop-end-preserved
loop-end-preserved c =
    let text = c.args.text.now in
    let i = c.loop-end.end - 1 in
    let within = c.loop-end.invariant.within in
    let same = c.as_bytes-bytes.ensures.value in
    let lt : i < length text = omega arith in
    let one : i + 1 ≡ c.loop-end.end = omega arith in
    let e : is_blank (get_or text i 0) ≡ true = sym (ap (λ (t : List ℕ). is_blank (get_or t i 0)) same) ∙ sym c.is_blank.ensures ∙ c.if-is_blank.true in
    record {
      within = omega arith;
      boundary = IsCharBoundary-before_ascii text i lt (blank_small _ e);
      rest = blank_last text i lt e ∙ ap (λ (k : ℕ). trimmed (reverse (take k text))) one ∙ c.loop-end.invariant.rest;
    }

pub returns : goal.returns
returns c =
    let text = c.args.text.now in
    let end = c.loop-end.end in
    let within = c.loop-end.invariant.within in
    let same = c.as_bytes-bytes.ensures.value in
    let rest : trimmed (reverse (take end text)) ≡ reverse (take end text) =
    elim c.loop-end-test.branch [
      | then-loop-end-test+else-is_blank w ↦ (
          let some = w.loop-end-test.true in
          let lt : end - 1 < length text = omega arith in
          let one : end - 1 + 1 ≡ end = omega arith in
          let e : is_blank (get_or text (end - 1) 0) ≡ false = sym (ap (λ (t : List ℕ). is_blank (get_or t (end - 1) 0)) same) ∙ sym w.is_blank.ensures ∙ w.if-is_blank.false in
          subst (λ (k : ℕ). trimmed (reverse (take k text)) ≡ reverse (take k text)) one (no_blank_last text (end - 1) lt e))
      | else-loop-end-test w ↦ (
          let none = w.loop-end-test.false in
          let zero : 0 ≡ end = omega arith in
          subst (λ (k : ℕ). trimmed (reverse (take k text)) ≡ reverse (take k text)) zero refl)
    ] in
    c.cut.ensures.value ∙ cut_last text end c.loop-end.invariant.rest rest
