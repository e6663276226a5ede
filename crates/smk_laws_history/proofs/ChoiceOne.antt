-- A path has one choice.
use Rattle.std.proofs.Common.{◌≡◌, ◌≢◌, ◌⊎◌, ℕ, Bool, true, false, not, ◌&&◌, ◌||◌, List, [], ◌∷◌, refl, sym, ap, subst, inl, inr, ◌∙◌, arith, Option, Some, None, true≢false, eqb, eqb-true, false-eqb}
use Rattle.std.specs.List.{list_any, list_all, enumerate_from}
use Rattle.smk_world.specs.Trees.{Path}
use Rattle.smk_flow.specs.declared.rule.RulePart.{RulePart}
use Rattle.smk_flow.specs.Flows.{Flow, Candidate, has_wildcards_in}
use Rattle.smk_choose.specs.Choose.{Sources, Choice, Source, Make, Nothing, Ambiguous, Lack, choose, choice, orders, precedes, viable, leader, lack_of_first, candidates}
use Rattle.smk_laws_history.specs.Choices.{OneChoice, OrdersOneWay, Leads}
use Rattle.smk_laws_plan.proofs.CurrentLists.{In, all_in, all_from, find_in, find_some, or_cases}
use Rattle.smk_laws_plan.proofs.CurrentMeaning.{contains_from, in_from}
use Rattle.smk_laws_plan.proofs.CurrentChosen.{make_inj}
use Rattle.smk_laws_plan.proofs.CurrentWalked.{numbered_once}

-- by whether clauses have a before b, whether some have b before a, and which of the two has wildcards
one_way :
    (x y v w : Bool) → (x ≡ true → y ≡ false) → (x || (not y && (not v && w))) ≡ true → (y || (not x && (not w && v))) ≡ true → ⊥
one_way true true v w h a b = true≢false (h refl)
one_way true false v w h a b = true≢false (sym b)
one_way false true v w h a b = true≢false (sym a)
one_way false false true w h a b = true≢false (sym a)
one_way false false false true h a b = true≢false (sym b)
one_way false false false false h a b = true≢false (sym a)

module _ (flow : Flow) (one : OrdersOneWay flow) where
  precedes_once : (a b : RulePart) → precedes flow a b ≡ true → precedes flow b a ≡ true → ⊥
  precedes_once a b h k =
      one_way (list_any (orders a.name b.name) flow.orders) (list_any (orders b.name a.name) flow.orders) (has_wildcards_in a) (has_wildcards_in b)
      (one a.name b.name) h k

  module _ (sources : Sources) (p : Path) where
    abbrev vs : List Candidate
    vs = viable flow sources p

    abbrev all : List (ℕ × Candidate)
    all = enumerate_from 0 vs

    abbrev wins : ℕ × Candidate → Bool
    wins c = list_all (λ (d : ℕ × Candidate). eqb c.0 d.0 || precedes flow c.1.part d.1.part) all

    abbrev by_leader : Option (ℕ × Candidate) → Choice
    by_leader o = choice o vs (lack_of_first flow sources (candidates flow sources p))

    abbrev by_source : Bool → Choice
    by_source b = elim b as (λ _. Choice) [ true ↦ Source | false ↦ by_leader (leader flow all) ]

    unsourced : sources.is p ≡ false → choose flow sources p ≡ by_leader (leader flow all)
    unsourced h = ap by_source h

    leads_wins : (n : ℕ) (c : Candidate) → Leads flow sources p n c → wins (n, c) ≡ true
    leads_wins n c l = all_from (λ (d : ℕ × Candidate). eqb n d.0 || precedes flow c.part d.1.part) all (λ d i. go d i (eqb n d.0) refl)
      where
        go : (d : ℕ × Candidate) → In d all → (b : Bool) → eqb n d.0 ≡ b → (b || precedes flow c.part d.1.part) ≡ true
        go d i true e = refl
        go d i false e = l.is_first d.0 d.1 (contains_from all d i) (λ s. false-eqb n d.0 (sym e) (sym s))

    -- the leader that is found is this one
    found_is : (n : ℕ) (c : Candidate) → Leads flow sources p n c → leader flow all ≡ Some (n, c)
    found_is n c l =
        let here = in_from all (n, c) l.is_viable in
        let f = find_some wins all (n, c) here (leads_wins n c l) in
        let g = find_in wins all f.0 f.1 in
        f.1 ∙ go f.0 g.0 (or_cases (eqb f.0.0 n) (precedes flow f.0.1.part c.part) (all_in (λ (d : ℕ × Candidate). eqb f.0.0 d.0 || precedes flow f.0.1.part d.1.part) all (n, c) g.1 here))
      where
        same_one : (d : ℕ × Candidate) → In d all → eqb d.0 n ≡ true → Some d ≡ Some (n, c)
        same_one d i e =
            let s = eqb-true d.0 n e in
            let t = numbered_once vs 0 n d.1 c (subst (λ m. In (m, d.1) all) s i) (in_from all (n, c) l.is_viable) in
            λ i. Some (s i, t i)

        other_one : (d : ℕ × Candidate) → In d all → precedes flow d.1.part c.part ≡ true → (b : Bool) → eqb d.0 n ≡ b → Some d ≡ Some (n, c)
        other_one d i e true s = same_one d i s
        other_one d i e false s = absurd (precedes_once d.1.part c.part e (l.is_first d.0 d.1 (contains_from all d i) (false-eqb d.0 n (sym s))))

        go : (d : ℕ × Candidate) → In d all → (eqb d.0 n ≡ true) ⊎ (precedes flow d.1.part c.part ≡ true) → Some d ≡ Some (n, c)
        go d i (inl e) = same_one d i e
        go d i (inr e) = other_one d i e (eqb d.0 n) refl

    leads_by : (d : ℕ × Candidate) → leader flow all ≡ Some d → Leads flow sources p d.0 d.1
    leads_by d h =
        let g = find_in wins all d h in
        record {
          is_viable = contains_from all d g.0;
          is_first = λ m e i other. go m e (or_cases (eqb d.0 m) (precedes flow d.1.part e.part) (all_in (λ (x : ℕ × Candidate). eqb d.0 x.0 || precedes flow d.1.part x.1.part) all (m, e) g.1 (in_from all (m, e) i))) other;
        }
      where
        go : (m : ℕ) (e : Candidate) → (eqb d.0 m ≡ true) ⊎ (precedes flow d.1.part e.part ≡ true) → m ≢ d.0 → precedes flow d.1.part e.part ≡ true
        go m e (inl s) other = absurd (other (sym (eqb-true d.0 m s)))
        go m e (inr k) other = k

    alone : (c : Candidate) → vs ≡ c ∷ [] → Leads flow sources p 0 c
    alone c e =
        let only : all ≡ (0, c) ∷ [] = ap (enumerate_from 0) e in
        record {
          is_viable = contains_from all (0, c) (subst (In {A = ℕ × Candidate} (0, c)) (sym only) (inl refl));
          is_first = λ m d i other. go m d (subst (In {A = ℕ × Candidate} (m, d)) only (in_from all (m, d) i)) other;
        }
      where
        go : (m : ℕ) (d : Candidate) → In {A = ℕ × Candidate} (m, d) ((0, c) ∷ []) → m ≢ 0 → precedes flow c.part d.part ≡ true
        go m d (inl s) other = absurd (other (ap (λ (x : ℕ × Candidate). x.0) s))
        go m d (inr i) other = absurd i

    chosen_leads : (c : Candidate) → by_leader (leader flow all) ≡ Make c → (n : ℕ) × Leads flow sources p n c
    chosen_leads c h = go (leader flow all) refl vs refl h
      where
        go : (o : Option (ℕ × Candidate)) → leader flow all ≡ o → (cs : List Candidate) → vs ≡ cs → choice o cs (lack_of_first flow sources (candidates flow sources p)) ≡ Make c → (n : ℕ) × Leads flow sources p n c
        go (Some d) e cs s h = (d.0, subst (Leads flow sources p d.0) (make_inj d.1 c h) (leads_by d e))
        go None e (a ∷ b ∷ rest) s h = absurd (differ a b c h)
          where
            differ : (a b c : Candidate) → Ambiguous a.rule b.rule ≡ Make c → ⊥
            differ a b c h = grind arith
        go None e (a ∷ []) s h = (0, subst (Leads flow sources p 0) (make_inj a c h) (alone a s))
        go None e [] s h = absurd (nothing (lack_of_first flow sources (candidates flow sources p)) c h)
          where
            nothing : (lack : Option Lack) (c : Candidate) → Nothing lack ≡ Make c → ⊥
            nothing lack c h = grind arith

pub one_choice : OneChoice
one_choice flow sources p c one no_source = (
  λ h. chosen_leads flow one sources p c (sym (unsourced flow one sources p no_source) ∙ h),
  λ l. unsourced flow one sources p no_source ∙ ap (by_leader flow one sources p) (found_is flow one sources p l.0 c l.1),
)
