-- Flags of makers, told anew of one job.
use Rattle.std.proofs.Common.{◌≡◌, ℕ, zero, suc, ◌≤◌, Bool, true, false, ◌||◌, ◌==◌, List, [], ◌∷◌, length, take, Option, Some, None, refl, sym, ap, ap₂, ◌∙◌, arith, true≢false}
use Rattle.std.specs.Prelude.{if◌then◌else◌, option_map, slice_set}
use Rattle.std.specs.List.{list_any, slice_get}
use Rattle.std.proofs.lemmas.Bool.{eqb-true, eqb-false}
use Rattle.std.proofs.lemmas.Option.{same_Some, none-some}
use Rattle.smk_chain.specs.declared.jobs.Maker.{Maker}
use Rattle.smk_plan_facts.specs.Telling.{flag_in, flags_at, flags_but, flags_each, is_number, put_some, AreNumbersOf}

-- ## Lists

-- there is nothing to be put beyond the end
pub set_beyond : {A : Type 0} (xs : List A) (n : ℕ) (x : A) → length xs ≤ n → slice_set xs n x ≡ xs
set_beyond [] n x h = refl
set_beyond (y ∷ xs) zero x h = absurd (omega arith)
set_beyond (y ∷ xs) (suc n) x h = ap (λ ys. y ∷ ys) (set_beyond xs n x (omega arith))

set_here : (xs : List Bool) (n : ℕ) (x y : Bool) → slice_get xs n ≡ Some y → slice_get (slice_set xs n x) n ≡ Some x
set_here [] n x y e = absurd (none-some y e)
set_here (z ∷ xs) zero x y e = refl
set_here (z ∷ xs) (suc n) x y e = set_here xs n x y e

set_other : (xs : List Bool) (n m : ℕ) (x : Bool) → (n ≡ m → ⊥) → slice_get (slice_set xs n x) m ≡ slice_get xs m
set_other [] n m x other = refl
set_other (y ∷ xs) zero zero x other = absurd (other refl)
set_other (y ∷ xs) zero (suc m) x other = refl
set_other (y ∷ xs) (suc n) zero x other = refl
set_other (y ∷ xs) (suc n) (suc m) x other = set_other xs n m x (λ e. other (ap suc e))

same_gets : (xs ys : List Bool) → ((i : ℕ) → slice_get xs i ≡ slice_get ys i) → xs ≡ ys
same_gets [] [] h = refl
same_gets [] (y ∷ ys) h = absurd (none-some y (h zero))
same_gets (x ∷ xs) [] h = absurd (none-some x (sym (h zero)))
same_gets (x ∷ xs) (y ∷ ys) h = ap₂ (λ z zs. z ∷ zs) (same_Some x y (h zero)) (same_gets xs ys (λ i. h (suc i)))

-- ## Flags

module _ (fresh : Maker → Bool) (n : ℕ) where
  abbrev flag_of : Maker → Bool → Bool
  flag_of k b = if is_number n k.job then fresh k else b

  -- the flag in a place, where this is the maker there
  abbrev told_in : Option Maker → Option Bool → Option Bool
  told_in None flag = flag
  told_in (Some k) flag = option_map (flag_of k) flag

  -- the same where it is told anew
  abbrev told_if : Bool → Option Maker → Option Bool → Option Bool
  told_if true o flag = told_in o flag
  told_if false o flag = flag

  flag_twice : (k : Maker) (b : Bool) → flag_of k (flag_of k b) ≡ flag_of k b
  flag_twice k b = go (is_number n k.job)
    where
      go : (c : Bool) → (if c then fresh k else (if c then fresh k else b)) ≡ (if c then fresh k else b)
      go true = refl
      go false = refl

  told_twice : (o : Option Maker) (f : Option Bool) → told_in o (told_in o f) ≡ told_in o f
  told_twice None f = refl
  told_twice (Some k) None = refl
  told_twice (Some k) (Some b) = ap Some (flag_twice k b)

  told_more : (here later : Bool) (o : Option Maker) (f : Option Bool) → told_if later o (told_if here o f) ≡ told_if (here || later) o f
  told_more true true o f = told_twice o f
  told_more true false o f = refl
  told_more false later o f = refl

  -- no flag without a maker
  no_flag : (o : Option Maker) → told_in o None ≡ None
  no_flag None = refl
  no_flag (Some k) = refl

  -- what is told of all makers, place by place
  but_at : (makers : List Maker) (flags : List Bool) (m : ℕ) → slice_get (flags_but fresh n makers flags) m ≡ told_in (slice_get makers m) (slice_get (take (length makers) flags) m)
  but_at [] flags m = refl
  but_at (k ∷ makers) [] m = sym (no_flag (slice_get (k ∷ makers) m))
  but_at (k ∷ makers) (b ∷ flags) zero = refl
  but_at (k ∷ makers) (b ∷ flags) (suc m) = but_at makers flags m

  -- what is told in one place
  at_one :
      (makers : List Maker) (flags : List Bool) (i m : ℕ) → slice_get (flags_at fresh n makers flags i) m ≡ told_if (i == m) (slice_get makers m) (slice_get flags m)
  at_one makers flags i m = go (slice_get makers i) refl (slice_get flags i) refl (i == m) refl
    where
      go :
          (o : Option Maker) → slice_get makers i ≡ o → (f : Option Bool) → slice_get flags i ≡ f → (c : Bool) → (i == m) ≡ c →
          slice_get (put_some flags i (flag_in fresh n o f)) m ≡ told_if c (slice_get makers m) (slice_get flags m)
      go None maker f flag true e = ap (λ (o : Option Maker). told_in o (slice_get flags m)) (sym maker ∙ ap (slice_get makers) (eqb-true i m e))
      go None maker f flag false e = refl
      go (Some k) maker None flag true e =
          let same = eqb-true i m e in
          let none : slice_get flags m ≡ None = sym (ap (slice_get flags) same) ∙ flag in
          none ∙ ap₂ told_in (sym maker ∙ ap (slice_get makers) same) (sym none)
      go (Some k) maker None flag false e = refl
      go (Some k) maker (Some b) flag true e =
          let same = eqb-true i m e in
          sym (ap (slice_get (slice_set flags i (flag_of k b))) same) ∙ set_here flags i (flag_of k b) b flag
          ∙ ap₂ told_in (sym maker ∙ ap (slice_get makers) same) (sym flag ∙ ap (slice_get flags) same)
      go (Some k) maker (Some b) flag false e = set_other flags i m (flag_of k b) (eqb-false i m e)

  -- what is told in these places
  at_each :
      (makers : List Maker) (numbers : List ℕ) (flags : List Bool) (m : ℕ) →
      slice_get (flags_each fresh n makers numbers flags) m ≡ told_if (list_any (λ (x : ℕ). x == m) numbers) (slice_get makers m) (slice_get flags m)
  at_each makers [] flags m = refl
  at_each makers (i ∷ numbers) flags m =
      at_each makers numbers (flags_at fresh n makers flags i) m
      ∙ ap (told_if (list_any (λ (x : ℕ). x == m) numbers) (slice_get makers m)) (at_one makers flags i m)
      ∙ told_more (i == m) (list_any (λ (x : ℕ). x == m) numbers) (slice_get makers m) (slice_get flags m)

  -- the flags that have a maker
  abbrev whole : List Maker → List Bool → List Bool
  whole makers flags = take (length makers) flags

  -- all is told where the numbers of the makers that name the job are among these
  pub each_told :
      (makers : List Maker) (numbers : List ℕ) (flags : List Bool) → AreNumbersOf n makers numbers →
      flags_each fresh n makers numbers (take (length makers) flags) ≡ flags_but fresh n makers flags
  each_told makers numbers flags are = same_gets (flags_each fresh n makers numbers (whole makers flags)) (flags_but fresh n makers flags) each
    where
      stays : (k : Maker) (f : Option Bool) (c : Bool) → is_number n k.job ≡ c → (c ≡ true → ⊥) → f ≡ told_in (Some k) f
      stays k f true e other = absurd (other refl)
      stays k None false e other = refl
      stays k (Some b) false e other = ap (λ (c : Bool). Some (if c then fresh k else b)) (sym e)

      go :
          (m : ℕ) (o : Option Maker) → slice_get makers m ≡ o → (c : Bool) → list_any (λ (x : ℕ). x == m) numbers ≡ c →
          told_if c o (slice_get (whole makers flags) m) ≡ told_in o (slice_get (whole makers flags) m)
      go m o at true e = refl
      go m None at false e = refl
      go m (Some k) at false e =
          stays k (slice_get (whole makers flags) m) (is_number n k.job) refl (λ named. absurd (true≢false (sym (are m k at named) ∙ e)))

      each : (m : ℕ) → slice_get (flags_each fresh n makers numbers (whole makers flags)) m ≡ slice_get (flags_but fresh n makers flags) m
      each m =
          at_each makers numbers (whole makers flags) m ∙ go m (slice_get makers m) refl (list_any (λ (x : ℕ). x == m) numbers) refl ∙ sym (but_at makers flags m)
