-- What one more bracket leaves.
use Rattle.std.proofs.Common.{◌≡◌, ℕ, zero, suc, ◌-◌, ◌<◌, Some, None, refl, sym, ap, arith}
use Rattle.smk_parse_expr.specs.Exprs.{expr, level, inner_of}

pub expr_level : (depth : ℕ) → expr depth ≡ level (inner_of depth)
unfolding expr inner_of
expr_level zero = refl
expr_level (suc depth) = refl

pub inner_none : (depth : ℕ) → depth ≡ 0 → inner_of depth ≡ None
unfolding inner_of
inner_none zero e = refl
inner_none (suc depth) e = absurd (omega arith)

pub inner_some : (depth : ℕ) → 0 < depth → inner_of depth ≡ Some (expr (depth - 1))
unfolding inner_of
inner_some zero h = absurd (omega arith)
inner_some (suc depth) h = let e : suc depth - 1 ≡ depth = omega arith in ap (λ n. Some (expr n)) (sym e)
