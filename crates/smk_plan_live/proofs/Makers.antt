-- Which makers name which job.
use Rattle.std.proofs.Common.{◌≡◌, ℕ, ◌+◌, ◌<◌, ◌≤◌, Bool, true, false, ◌||◌, ◌&&◌, ◌==◌, List, [], length, Some, refl, sym, ap, ◌∙◌, arith, nat_eq}
use Rattle.std.specs.Prelude.{slice_index_or}
use Rattle.std.specs.List.{slice_get}
use Rattle.std.proofs.lemmas.Bool.{eqb-true, eqb-false, eq-eqb}
use Rattle.std.proofs.lemmas.Option.{get_or_from_slice_get, slice_get_within}
use Rattle.std.proofs.Math.ListN.{get_or}
use Rattle.smk_flow.specs.declared.job.Job.{Job}
use Rattle.smk_chain.specs.declared.jobs.Maker.{Maker}
use Rattle.smk_plan_facts.specs.Telling.{is_number}
use Rattle.smk_plan_states.specs.Stays.{has_number}
use Rattle.smk_plan_live.specs.Making.{AreMadeBy}

-- of the makers before this number it is told whom they name
abbrev pub AreMadeBefore : ℕ → List Maker → ℕ → List (List ℕ) → Type 0
AreMadeBefore count makers number made =
    (m : ℕ) (k : Maker) → m < number → slice_get makers m ≡ Some k → (n : ℕ) → n < count → is_number n k.job ≡ true → has_number m (slice_index_or made n []) ≡ true

or_true : (b : Bool) → (b || true) ≡ true
or_true true = refl
or_true false = refl

-- of one maker more
pub made_more :
    (count : ℕ) (makers : List Maker) (number : ℕ) (maker : Maker) (made new : List (List ℕ)) → maker ≡ get_or makers number maker →
    length made ≡ count →
    ((j n : ℕ) → j < length made → has_number n (slice_index_or new j []) ≡ (has_number n (slice_index_or made j []) || (is_number j maker.job && number == n))) →
    AreMadeBefore count makers number made → AreMadeBefore count makers (number + 1) new
made_more count makers number maker made new is long set so_far m k lt at n within named = go (nat_eq m number) refl
  where
    go : (b : Bool) → nat_eq m number ≡ b → has_number m (slice_index_or new n []) ≡ true
    go false d =
        set n m (omega (arith, within, long))
        ∙ ap (λ b. b || (is_number n maker.job && number == m)) (so_far m k (omega (arith, lt, eqb-false m number d)) at n within named)
    go true d =
        let same : m ≡ number = eqb-true m number d in
        let here : k ≡ maker = sym (get_or_from_slice_get makers m k maker at) ∙ ap (λ i. get_or makers i maker) same ∙ sym is in
        set n m (omega (arith, within, long))
        ∙ ap (λ b. has_number m (slice_index_or made n []) || (b && number == m)) (ap (λ (x : Maker). is_number n x.job) (sym here) ∙ named)
        ∙ ap (λ b. has_number m (slice_index_or made n []) || b) (eq-eqb number m (sym same))
        ∙ or_true (has_number m (slice_index_or made n []))

-- of all
pub made_done :
    (jobs : List Job) (makers : List Maker) (number : ℕ) (made : List (List ℕ)) → length makers ≤ number → AreMadeBefore (length jobs) makers number made →
    AreMadeBy jobs makers made
made_done jobs makers number made done so_far n within m k at named =
    let lt = slice_get_within makers m k at in so_far m k (omega (arith, lt, done)) at n within named
