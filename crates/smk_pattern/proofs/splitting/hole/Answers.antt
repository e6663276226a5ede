use Rattle.std.proofs.Common.{◌<◌, ℕ, List, get_or, length, ap, subst, arith}
use Rattle.std.proofs.lemmas.Str.{IsCharBoundary-start, IsCharBoundary-after_ascii}
use Rattle.smk_pattern.proofs.splitting.hole.Goals as goal

pub cut-requires-clause-from : goal.cut-requires-clause-from
cut-requires-clause-from c = IsCharBoundary-start _ c.utf8.inside

pub cut-requires-then-comma-inside-clause-from : goal.cut-requires-then-comma-inside-clause-from
cut-requires-then-comma-inside-clause-from c =
    let same = c.as_bytes.ensures.value in
    let at = c.comma_place-comma.result in
    let lt : at < length c.args.inside.now = omega arith in
    let e = c.comma_place-comma.ensures.comma (omega (arith, ap length same)) in
    IsCharBoundary-after_ascii c.args.inside.now at c.utf8.inside lt (subst (λ (t : List ℕ). get_or t at 0 < 128) same (omega (arith, e)))
