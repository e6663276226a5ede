use Rattle.std.proofs.Common.{◌≡◌, ℕ, get_or, false}
use Rattle.smk_pattern.proofs.table.sign.Given as goal

abbrev pub invariant-loop : goal.invariant-loop
invariant-loop l = (left : ℕ) → get_or l.row.items left false ≡ get_or l.initial.row.items left false
