use Rattle.std.proofs.Common.{◌≡◌, ℕ}
use Rattle.smk_pattern.specs.Tables.{is_signed}
use Rattle.smk_pattern.proofs.table.sign_row.Given as goal

abbrev pub invariant-loop : goal.invariant-loop
invariant-loop l = (parts left : ℕ) → is_signed l.rows.items parts left ≡ is_signed l.initial.rows.items parts left
