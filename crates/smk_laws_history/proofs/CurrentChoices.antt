-- Choice looks at sources alone, and what is available stays so at a greater depth.
use Rattle.std.proofs.Common.{◌≡◌, ℕ, zero, suc, Bool, true, false, refl, sym, ap, true≢false}
use Rattle.std.specs.List.{list_any, list_all}
use Rattle.smk_base.specs.Path.{is_path}
use Rattle.smk_pattern.specs.Shapes.{Text}
use Rattle.smk_flow.specs.Flows.{Flow, Candidate, first_wants}
use Rattle.smk_choose.specs.Choose.{Sources, avail, candidates, choose}
use Rattle.smk_chain.specs.Derive.{sources_of}
use Rattle.smk_laws_history.specs.Choices.{StaysAvailable, SameChoice}
use Rattle.smk_laws_plan.proofs.CurrentLists.{any_in, any_from, all_in, all_from, and_left, and_right}

module _ (flow : Flow) (sources : Sources) where
  abbrev wanted : ℕ → Candidate → Bool
  wanted n c = list_all (avail flow sources n) (first_wants flow c)

  abbrev avail_by : ℕ → Text → Bool → Bool → Bool
  avail_by n p b c =
      elim b as (λ _. Bool) [
        | false ↦ false
        | true ↦ elim c as (λ _. Bool) [
          | true ↦ true
          | false ↦ list_any (λ c. list_all (avail flow sources n) (first_wants flow c)) (candidates flow sources p)
        ]
      ]

  is_source_at : (n : ℕ) (p : Text) (b c : Bool) → b ≡ true → c ≡ true → avail_by n p b c ≡ true
  is_source_at n p true true h k = refl
  is_source_at n p true false h k = absurd (true≢false (sym k))
  is_source_at n p false c h k = absurd (true≢false (sym h))

  deeper :
      (n m : ℕ) (p : Text) → ((q : Text) → avail flow sources n q ≡ true → avail flow sources m q ≡ true) →
      (b c : Bool) → avail_by n p b c ≡ true → avail_by m p b c ≡ true
  deeper n m p ih true true h = refl
  deeper n m p ih true false h =
      let r = any_in (wanted n) (candidates flow sources p) h in
      any_from (wanted m) (candidates flow sources p) r.0 r.1
      (all_from (avail flow sources m) (first_wants flow r.0) (λ q i. ih q (all_in (avail flow sources n) (first_wants flow r.0) q r.2 i)))
  deeper n m p ih false c h = h

  stays : (n : ℕ) (p : Text) → avail flow sources n p ≡ true → avail flow sources (suc n) p ≡ true
  stays zero p h = is_source_at zero p (is_path p) (sources.is p) (and_left (is_path p) (sources.is p) h) (and_right (is_path p) (sources.is p) h)
  stays (suc n) p h = deeper n (suc n) p (stays n) (is_path p) (sources.is p) h

pub stays_available : StaysAvailable
stays_available flow sources n p h = stays flow sources n p h

pub same_choice : SameChoice
same_choice flow a b is holds p =
    let same : sources_of a ≡ sources_of b = λ i. record { is = λ q. is q i; holds = λ q. holds q i } in
    ap (λ sources. choose flow sources p) same
