use Rattle.std.proofs.Common.{◌≡◌, ℕ, ◌-◌, ◌<◌, ◌≤◌, ◌⊎◌, ◌&&◌, inl, inr, ⊎_elim, Bool, true, nat_le, true≢false, arith}
use Rattle.std.proofs.lemmas.Bool.Decides.{nat_tests}
use Rattle.std.proofs.lemmas.Bool.{and_parts, and_from}
use Rattle.smk_pattern.specs.Tables.{is_signed}
use Rattle.smk_pattern.proofs.table.Vain.note.Goals as goal

at_most : (m n : ℕ) → nat_le m n ≡ true → m ≤ n
at_most m n e = grind (arith, nat_tests)

noted : (old new : ℕ → ℕ → Bool) (from pieces bytes : ℕ) → pieces ≤ from →
    ((other left : ℕ) → new other left ≡ true → (old other left ≡ true) ⊎ ((other ≡ from - pieces) × (left ≡ bytes))) → (parts left : ℕ) →
    nat_le parts from && new (from - parts) left ≡ true → (nat_le parts from && old (from - parts) left ≡ true) ⊎ ((parts ≡ pieces) × (left ≡ bytes))
noted old new from pieces bytes le h parts left e =
    let b = and_parts (nat_le parts from) (new (from - parts) left) e in
    let within = at_most parts from b.0 in
    ⊎_elim
    (λ was. inl (and_from (nat_le parts from) (old (from - parts) left) b.0 was))
    (λ now. let same = now.0 in inr (omega (arith, le, within, same), now.1))
    (h (from - parts) left b.1)

pub returns : goal.returns
returns c =
    noted (is_signed c.args.self.now.rows.items) (is_signed c.sign_row.new.rows.items) c.args.self.now.from c.args.pieces c.args.bytes (omega arith) c.sign_row.ensures
