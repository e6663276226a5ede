-- Serials that are drawn: the first one comes after the greatest, or there is none left.
use Rattle.std.proofs.Common.{◌≡◌, ◌<◌, ℕ, suc, ◌+◌, Bool, true, false, List, refl, ap, sym, ◌∙◌, arith, Option, Some, None}
use Rattle.std.specs.Prelude.{nat_lt, if◌then◌else◌, slice_get}
use Rattle.std.specs.Option.{option_and_then}
use Rattle.smk_store.specs.Serials.{after_serial}
use Rattle.smk_plan.specs.declared.duty.Duty.{Duty}
use Rattle.smk_run.specs.Duties.{drawn_before, serial_at, serial_by, serial_of}
use Rattle.std.proofs.lemmas.Bool.{lt-ltb, ltb-true}
use Rattle.smk_base.proofs.Under.{false_unless}

none_left : (top count : ℕ) → nat_lt top 18446744073709551615 ≡ false → nat_lt (suc top + count) 18446744073709551616 ≡ false
none_left top count h = false_unless (nat_lt (suc top + count) 18446744073709551616) wrong
  where
    wrong : nat_lt (suc top + count) 18446744073709551616 ≡ true → ⊥
    wrong e =
        let less : suc top + count < 18446744073709551616 = ltb-true (suc top + count) 18446744073709551616 e in
        let small : top < 18446744073709551615 = omega (arith, less) in
        true_false (sym (lt-ltb top 18446744073709551615 small) ∙ h)
      where
        true_false : true ≡ false → ⊥
        true_false x = cc

serial_same : (top count : ℕ) → serial_at (after_serial top) count ≡ serial_at (Some (suc top)) count
serial_same top count = go (nat_lt top 18446744073709551615) refl
  where
    go : (b : Bool) → nat_lt top 18446744073709551615 ≡ b → serial_at (if b then Some (suc top) else None) count ≡ serial_at (Some (suc top)) count
    go true e = refl
    go false e = sym (ap (λ b. if b then Some (suc top + count) else None) (none_left top count e))

abbrev by_serials : (ℕ → Option ℕ) → List Duty → ℕ → Option ℕ
by_serials at duties number = option_and_then (serial_by (at (drawn_before duties number))) (slice_get duties number)

-- where no serial is left, it is as if the first were too great
pub firsts_same : (top : ℕ) (duties : List Duty) → serial_of (after_serial top) duties ≡ serial_of (Some (suc top)) duties
firsts_same top duties = λ i. by_serials (λ count. serial_same top count i) duties
