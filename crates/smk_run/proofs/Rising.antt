-- Counts that rise.
use Rattle.std.proofs.Common.{◌≡◌, ◌≤◌, ℕ, Bool, true, false, refl, inl, inr, arith}
use Rattle.std.specs.Prelude.{nat_lt}
use Rattle.smk_world.specs.Calls.{Rose}

pub rose_earlier : (a b c : ℕ) → a ≤ b → Rose b c → Rose a c
rose_earlier a b c le (inl lt) = inl (omega (arith, le, lt))
rose_earlier a b c le (inr e) = inr e

pub rose_later : (a b c : ℕ) → a ≤ b → b ≤ c → Rose a b → Rose a c
rose_later a b c le more (inl lt) = inl (omega (arith, lt, more))
rose_later a b c le more (inr e) = go (nat_lt a c) refl
  where
    go : (less : Bool) → nat_lt a c ≡ less → Rose a c
    go true h = inl (grind (arith, h))
    go false h = inr (grind (arith, h, le, more, e))
