use Rattle.std.proofs.Common.{◌≡◌, ◌<◌, ℕ, List, get_or, length, true, refl, sym, ap, arith, ◌∙◌}
use Rattle.std.proofs.lemmas.Str.{IsCharBoundary-start, IsCharBoundary-after_ascii}
use Rattle.smk_pattern.specs.Grammar.{is_blank}
use Rattle.smk_pattern.proofs.Split.{blank_first, blank_small}
use Rattle.smk_pattern.proofs.splitting.without_blanks.Goals as goal

pub loop-start-init : goal.loop-start-init
loop-start-init c = record { within = omega arith; boundary = IsCharBoundary-start _ c.utf8.text; rest = refl }

pub loop-start-preserved : goal.loop-start-preserved
loop-start-preserved c =
    let text = c.args.text.now in
    let i = c.loop-start.start in
    let same = c.as_bytes-bytes.ensures.value in
    let lt : i < length text = omega (arith, ap length same) in
    let e : is_blank (get_or text i 0) ≡ true = sym (ap (λ (t : List ℕ). is_blank (get_or t i 0)) same) ∙ sym c.is_blank.ensures ∙ c.if-is_blank.true in
    record {
      within = omega arith;
      boundary = IsCharBoundary-after_ascii text i c.utf8.text lt (blank_small _ e);
      rest = blank_first text i lt e ∙ c.loop-start.invariant.rest;
    }
