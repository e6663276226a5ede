-- Counts of a run, and places, as the loop goes on.
use Rattle.std.proofs.Common.{◌≡◌, ◌<◌, ◌≤◌, ◌+◌, ℕ, zero, suc, Bool, true, List, arith, refl, sym, ap, subst, ◌∙◌, Option}
use Rattle.std.specs.Prelude.{is_none}
use Rattle.std.specs.List.{list_all}
use Rattle.smk_run.specs.declared.tally.Tally.{Tally}
use Rattle.smk_drive_step.specs.declared.children.Child.{Child}
use Rattle.smk_laws_turns.specs.Hubs.{Parts}
use Rattle.smk_drive_hub.specs.Turned.{IsBarelyMore, IsTakenFrom}
use Rattle.smk_laws_begins.specs.Standing.{taken}
use Rattle.smk_laws_begins.specs.Stepping.{IsFor, IsWithin}
use Rattle.smk_laws_begins.proofs.Stepping.{counts_from, taken_less, within_for}
use Rattle.smk_drive_run.specs.LoopKeeping.{KeepsCounts}

-- ## Limits

pub within_up : (n m : ℕ) (h : Parts) → n ≤ m → IsWithin n h → IsWithin m h
within_up n m h le within =
    record {
      started = up h.tally.started within.started;
      done = up h.tally.done within.done;
      failed = up h.tally.failed within.failed;
      places = up (taken h.places) within.places;
    }
  where
    up : (x : ℕ) → x ≤ n → x ≤ m
    up x less = omega (arith, less, le)

pub some_started : (n : ℕ) → (n ≡ 0 → ⊥) → 0 < n
some_started zero none = absurd (none refl)
some_started (suc n) none = omega arith

pub for_all : (h : Parts) → IsWithin 4611686018427387904 h → IsFor 9223372036854775808 h
for_all h within = within_for 4611686018427387904 h within

-- ## Counts that stay

pub counts_stay : (h : Parts) → KeepsCounts h h
counts_stay h = record { places = refl; tally = refl }

pub counts_then : {h k m : Parts} → KeepsCounts h k → KeepsCounts k m → KeepsCounts h m
counts_then first second = record { places = second.places ∙ first.places; tally = second.tally ∙ first.tally }

module _ {h k : Parts} (kept : KeepsCounts h k) where
  pub kept_within : {n : ℕ} → IsWithin n h → IsWithin n k
  kept_within {n} within =
      record {
        started = subst (λ (t : Tally). t.started ≤ n) (sym kept.tally) within.started;
        done = subst (λ (t : Tally). t.done ≤ n) (sym kept.tally) within.done;
        failed = subst (λ (t : Tally). t.failed ≤ n) (sym kept.tally) within.failed;
        places = subst (λ ps. taken ps ≤ n) (sym kept.places) within.places;
      }

  pub kept_for : {n : ℕ} → IsFor n h → IsFor n k
  kept_for {n} within =
      record {
        done = subst (λ (t : Tally). t.done + taken k.places ≤ n) (sym kept.tally) (subst (λ ps. h.tally.done + taken ps ≤ n) (sym kept.places) within.done);
        failed =
            subst (λ (t : Tally). t.failed + taken k.places ≤ n) (sym kept.tally) (subst (λ ps. h.tally.failed + taken ps ≤ n) (sym kept.places) within.failed);
      }

  pub kept_free : {are : Bool} → list_all is_none h.places ≡ are → list_all is_none k.places ≡ are
  kept_free free = ap (list_all is_none) kept.places ∙ free

  pub kept_more : {t : Tally} → IsBarelyMore k.tally t → IsBarelyMore h.tally t
  kept_more {t} more = counts_from h.tally k.tally t kept.tally more

  -- and a child is taken from its place after that
  pub kept_less :
      {are : List (Option Child)} {waited : Bool} →
      (waited ≡ true → (c : Child) × IsTakenFrom c k.places are) → waited ≡ true → (c : Child) × IsTakenFrom c h.places are
  kept_less {are} {waited} less = subst (λ ps. waited ≡ true → (c : Child) × IsTakenFrom c ps are) kept.places less

-- ## Places

-- a child was taken from its place
pub less_taken :
    (were are : List (Option Child)) (waited : Bool) →
    waited ≡ true → (waited ≡ true → (c : Child) × IsTakenFrom c were are) → taken were ≡ taken are + 1
less_taken were are waited is less = let c = less is in taken_less c.0 were are c.1

pub one_less : (a b : ℕ) → a ≡ b + 1 → b < a
one_less a b is = omega (arith, is)
