-- The stamps that are known of inputs.
use Rattle.std.proofs.Common.{◌≡◌, ℕ, zero, suc, ◌+◌, ◌<◌, Bool, true, false, List, [], ◌∷◌, ◌++◌, length, map, take, get_or, refl, sym, ap, subst, ◌∙◌, arith, Option, Some, None}
use Rattle.std.specs.Prelude.{if◌then◌else◌}
use Rattle.std.specs.List.{list_all}
use Rattle.std.proofs.lemmas.Bool.{and_from}
use Rattle.std.proofs.lemmas.List.{map_push}
use Rattle.std.proofs.lemmas.List.Folds.{list_all-append}
use Rattle.std.proofs.lemmas.Option.{none-some, same_Some}
use Rattle.smk_base.proofs.Places.{and_first, and_second}
use Rattle.smk_world.proofs.Devices.{next}
use Rattle.smk_record.specs.declared.record.Stamp.{Stamp}
use Rattle.smk_record.specs.Records.{is_earlier}
use Rattle.smk_drive_step.specs.Stamping.{AreStampsFor, stamp_for}

earlier_some : (made : ℕ) (s : Stamp) (b : Bool) → b ≡ true → (if b then Some s else None) ≡ Some s
earlier_some made s true h = refl
earlier_some made s false h = cc

none_in : (made : ℕ) (stamps : List Stamp) (i : ℕ) (k : Option Stamp)
    → i < length (map Some stamps) → k ≡ get_or (map Some stamps) i k → list_all (is_earlier made) stamps ≡ true
    → stamp_for made k ≡ None → ⊥
none_in made [] i k lt is earlier none = absurd (omega (arith, lt))
none_in made (s ∷ stamps) zero k lt is earlier none =
    none-some s
    (sym none ∙ ap (stamp_for made) is
    ∙ earlier_some made s (is_earlier made s) (and_first (is_earlier made s) (list_all (is_earlier made) stamps) earlier))
none_in made (s ∷ stamps) (suc i) k lt is earlier none =
    none_in made stamps i k (omega (arith, lt)) is (and_second (is_earlier made s) (list_all (is_earlier made) stamps) earlier) none

-- what is in a place, is there whatever is told where there is no such place
there : (known : List (Option Stamp)) (i : ℕ) (d k : Option Stamp) → i < length known → get_or known i d ≡ k → k ≡ get_or known i k
there [] i d k lt is = absurd (omega (arith, lt))
there (x ∷ known) zero d k lt is = sym is
there (x ∷ known) (suc i) d k lt is = there known i d k (omega (arith, lt)) is

-- where one isn't known, or a record may not have it, there are no such stamps
none_for : (made : ℕ) (known : List (Option Stamp)) (i : ℕ) (k : Option Stamp) → i < length known → k ≡ get_or known i k → stamp_for made k ≡ None
    → (stamps : List Stamp) → AreStampsFor made known stamps → ⊥
none_for made known i k lt is none stamps h =
    none_in made stamps i k (subst (λ (ks : List (Option Stamp)). i < length ks) (sym h.all) lt)
    (subst (λ (ks : List (Option Stamp)). k ≡ get_or ks i k) (sym h.all) is) h.earlier none

stamp_is : (made : ℕ) (k : Option Stamp) (s : Stamp) → stamp_for made k ≡ Some s → (k ≡ Some s) × (is_earlier made s ≡ true)
stamp_is made None s h = absurd (none-some s h)
stamp_is made (Some t) s h = go (is_earlier made t) refl h
  where
    go : (b : Bool) → is_earlier made t ≡ b → (if b then Some t else None) ≡ Some s → (Some t ≡ Some s) × (is_earlier made s ≡ true)
    go true e k = (k, ap (is_earlier made) (sym (same_Some t s k)) ∙ e)
    go false e k = absurd (none-some s k)

-- one stamp more
one_more : (made : ℕ) (known : List (Option Stamp)) (i : ℕ) (k : Option Stamp) (s : Stamp) (old new : List Stamp)
    → take (i + 1) known ≡ take i known ++ k ∷ [] → stamp_for made k ≡ Some s
    → new ≡ old ++ s ∷ [] → AreStampsFor made (take i known) old → AreStampsFor made (take (i + 1) known) new
one_more made known i k s old new taken is pushed h =
    let one = stamp_is made k s is in
    record {
      all = ap (map Some) pushed ∙ map_push Some old s
          ∙ ap (λ (ks : List (Option Stamp)). ks ++ Some s ∷ []) h.all
          ∙ ap (λ (x : Option Stamp). take i known ++ x ∷ []) (sym one.0) ∙ sym taken;
      earlier = ap (list_all (is_earlier made)) pushed ∙ list_all-append (is_earlier made) old (s ∷ [])
          ∙ and_from (list_all (is_earlier made) old) (list_all (is_earlier made) (s ∷ [])) h.earlier (and_from (is_earlier made s) true one.1 refl);
    }

-- the same, of what is in a place
pub none_at : (made : ℕ) (known : List (Option Stamp)) (i : ℕ) (d r : Option Stamp) → i < length known → r ≡ stamp_for made (get_or known i d) → r ≡ None
    → (stamps : List Stamp) → AreStampsFor made known stamps → ⊥
none_at made known i d r lt is none = none_for made known i (get_or known i d) lt (there known i d (get_or known i d) lt refl) (sym is ∙ none)

pub one_at : (made : ℕ) (known : List (Option Stamp)) (i : ℕ) (d r : Option Stamp) (s : Stamp) (old new : List Stamp)
    → i < length known → r ≡ stamp_for made (get_or known i d)
    → r ≡ Some s → new ≡ old ++ s ∷ [] → AreStampsFor made (take i known) old → AreStampsFor made (take (i + 1) known) new
one_at made known i d r s old new lt is some pushed h =
    one_more made known i (get_or known i d) s old new
    (next known i (get_or known i d) lt (there known i d (get_or known i d) lt refl)) (sym is ∙ some) pushed h
