-- Chains of plans, computed: the plan in force, and that nothing of it is refused.
use Rattle.std.proofs.Common.{◌≡◌, ℕ, zero, suc, Bool, true, false, ◌&&◌, List, [], ◌∷◌, ◌++◌, map, Option, Some, None, refl, sym, subst, ◌∙◌, true≢false}
use Rattle.smk_world.specs.World.{World, IsFormed}
use Rattle.smk_flow.specs.declared.job.Job.{Job}
use Rattle.smk_chain.specs.declared.jobs.Known.{Known}
use Rattle.smk_chain.specs.Derive.{Listings, Derivation, Derived, Refused, Refusal, derivation}
use Rattle.smk_plan.specs.States.{Plan, IsPlan, LastPlan, Last, Then, state_of, new_listings}
use Rattle.smk_plan.proofs.Plans.{settle, from_jobs}
use Rattle.smk_report.specs.declared.fault.Fault.{Fault}
use Rattle.smk_drive.specs.Moments.{Rules, Begun, IsInForce, seen, progress_of}
use Rattle.smk_drive.specs.Refusals.{ChainRefuses, DerivationRefuses, PlanRefuses, NextRefuses, IsFault, refused_of}
use Rattle.smk_laws_plan.proofs.PlanOne.{one_plan}
use Rattle.smk_laws_history.proofs.CurrentComplete.{seen_is_complete}
use Rattle.smk_drive_rows.proofs.Truth.{and_left, and_right}

no_refusal : (r : Refusal) (jobs : List Job) → Refused r ≡ Derived jobs → ⊥
no_refusal r jobs h = cc

no_fault : (f : Fault) (fs : List Fault) → [] ≡ f ∷ fs → ⊥
no_fault f fs h = cc

no_listing : (l : Known) (ls : Listings) → l ∷ ls ≡ [] → ⊥
no_listing l ls h = cc

abbrev pub is_empty : {A : Type 0} → List A → Bool
is_empty [] = true
is_empty (x ∷ xs) = false

pub empty_so : {A : Type 0} (xs : List A) → is_empty xs ≡ true → xs ≡ []
empty_so [] h = refl
empty_so (x ∷ xs) h = absurd (true≢false (sym h))

module _ (rules : Rules) (w : World) (begun : List Begun) where
  -- the plan of these jobs, its states by the table, four times from Clean on
  abbrev pub plan_of : Listings → List Job → Plan
  plan_of lists jobs = settle (seen rules w) rules.settings (progress_of w begun) 4 (from_jobs lists jobs)

  abbrev pub fresh : Plan → Listings
  fresh plan = new_listings (seen rules w) rules.settings (progress_of w begun) plan

  abbrev pub derived_with : Listings → Derivation
  derived_with lists = derivation rules.flow (seen rules w) lists rules.settings.targets

  -- ## The plan in force

  abbrev pub on_plan : (Listings → Option Plan) → Plan → Listings → Option Plan
  on_plan more plan [] = Some plan
  on_plan more plan (l ∷ ls) = more (plan.lists ++ l ∷ ls)

  abbrev pub on_derived : (Listings → Option Plan) → Listings → Derivation → Option Plan
  on_derived more lists (Derived jobs) = on_plan more (plan_of lists jobs) (fresh (plan_of lists jobs))
  on_derived more lists (Refused r) = None

  -- the last plan of the chain of at most n plans from these listings, or none where one is refused
  abbrev pub chain : ℕ → Listings → Option Plan
  chain zero lists = None
  chain (suc n) lists = on_derived (chain n) lists (derived_with lists)

  -- ## It is one

  abbrev pub HasTable : Plan → Type 0
  HasTable plan = plan.states ≡ map (state_of (seen rules w) rules.settings (progress_of w begun) plan) plan.jobs

  abbrev pub SettledPlan : (Listings → Type 0) → Plan → Listings → Type 0
  SettledPlan More plan [] = HasTable plan
  SettledPlan More plan (l ∷ ls) = HasTable plan × More (plan.lists ++ l ∷ ls)

  abbrev pub SettledDerived : (Listings → Type 0) → Listings → Derivation → Type 0
  SettledDerived More lists (Derived jobs) = SettledPlan More (plan_of lists jobs) (fresh (plan_of lists jobs))
  SettledDerived More lists (Refused r) = Unit {0}

  -- the states of each plan of the chain are those of the table
  abbrev pub IsSettled : ℕ → Listings → Type 0
  IsSettled zero lists = ⊥
  IsSettled (suc n) lists = SettledDerived (IsSettled n) lists (derived_with lists)

  abbrev Plans : Plan → Type 0
  Plans plan = IsPlan rules.flow (seen rules w) rules.settings (progress_of w begun) plan

  abbrev Lasts : Listings → Plan → Type 0
  Lasts lists plan = LastPlan rules.flow (seen rules w) rules.settings (progress_of w begun) lists plan

  abbrev Refuses : Listings → Fault → Type 0
  Refuses lists f = ChainRefuses rules (seen rules w) (progress_of w begun) lists f

  is_derived : (L : Listings) (plan : Plan) → Lasts L plan → (jobs : List Job) × (derived_with L ≡ Derived jobs)
  is_derived L plan (Last p is done) = (p.jobs, is.derived)
  is_derived L plan (Then p last is more rest) = (p.jobs, is.derived)

  module _ (formed : IsFormed w) where
    same_plan : (p q : Plan) → Plans p → Plans q → p.lists ≡ q.lists → p ≡ q
    same_plan p q a b e = one_plan rules.flow (seen rules w) rules.settings (progress_of w begun) p q (seen_is_complete rules.read w formed) a b e

    -- where listings have become known, the last plan is that of the longer chain
    last_is_later : (plan : Plan) → Plans plan → (fresh plan ≡ [] → ⊥) → (L : Listings) (last : Plan) → Lasts L last → L ≡ plan.lists → Lasts (plan.lists ++ fresh plan) last
    last_is_later plan is more L last (Last p isp done) e = absurd (more (subst (λ q. fresh q ≡ []) (same_plan p plan isp is e) done))
    last_is_later plan is more L last (Then p l isp some rest) e = subst (λ q. Lasts (q.lists ++ fresh q) l) (same_plan p plan isp is e) rest

    go_further : (plan : Plan) → Plans plan → (fresh plan ≡ [] → ⊥) → (x : Option Plan) → IsInForce rules w begun (plan.lists ++ fresh plan) x → IsInForce rules w begun plan.lists x
    go_further plan is more (Some last) f = Then plan last is more f
    go_further plan is more None f = λ last l. f last (last_is_later plan is more plan.lists last l refl)

    on_fresh :
        (n : ℕ) → ((K : Listings) → IsSettled n K → IsInForce rules w begun K (chain n K)) →
        (plan : Plan) → derived_with plan.lists ≡ Derived plan.jobs →
        (ls : Listings) → fresh plan ≡ ls → SettledPlan (IsSettled n) plan ls → IsInForce rules w begun plan.lists (on_plan (chain n) plan ls)
    on_fresh n deeper plan is [] e s = Last plan (record { derived = is; states = s }) e
    on_fresh n deeper plan is (l ∷ ls) e s =
        go_further plan (record { derived = is; states = s.0 }) (λ none. no_listing l ls (sym e ∙ none)) (chain n (plan.lists ++ l ∷ ls))
        (subst (λ k. IsInForce rules w begun (plan.lists ++ k) (chain n (plan.lists ++ l ∷ ls))) (sym e) (deeper (plan.lists ++ l ∷ ls) s.1))

    in_force_by :
        (n : ℕ) → ((K : Listings) → IsSettled n K → IsInForce rules w begun K (chain n K)) →
        (L : Listings) (d : Derivation) → derived_with L ≡ d → SettledDerived (IsSettled n) L d → IsInForce rules w begun L (on_derived (chain n) L d)
    in_force_by n deeper L (Derived jobs) is s = on_fresh n deeper (plan_of L jobs) is (fresh (plan_of L jobs)) refl s
    in_force_by n deeper L (Refused r) is s = λ plan last. let d = is_derived L plan last in no_refusal r d.0 (sym is ∙ d.1)

    pub in_force : (n : ℕ) (L : Listings) → IsSettled n L → IsInForce rules w begun L (chain n L)
    in_force zero L s = absurd s
    in_force (suc n) L s = in_force_by n (in_force n) L (derived_with L) refl s

  -- ## Nothing is refused

  abbrev pub refused_now : Plan → List Fault
  refused_now plan = refused_of rules (seen rules w) (progress_of w begun) plan

  abbrev pub free_plan : (Listings → Bool) → Plan → Listings → Bool
  free_plan more plan [] = is_empty (refused_now plan)
  free_plan more plan (l ∷ ls) = is_empty (refused_now plan) && more (plan.lists ++ l ∷ ls)

  abbrev pub free_derived : (Listings → Bool) → Listings → Derivation → Bool
  free_derived more lists (Derived jobs) = free_plan more (plan_of lists jobs) (fresh (plan_of lists jobs))
  free_derived more lists (Refused r) = false

  -- nothing of any plan of the chain is refused
  abbrev pub is_free : ℕ → Listings → Bool
  is_free zero lists = false
  is_free (suc n) lists = free_derived (is_free n) lists (derived_with lists)

  module _ (formed : IsFormed w) where
    -- the first refusal is not this plan's: it is one of the longer chain
    refused_later :
        (plan : Plan) → Plans plan → refused_now plan ≡ [] → (L : Listings) (f : Fault) → Refuses L f → L ≡ plan.lists →
        ((fresh plan ≡ []) → ⊥) × Refuses (plan.lists ++ fresh plan) f
    refused_later plan is none L f (DerivationRefuses K r g refused fault) e =
        absurd (no_refusal r plan.jobs (sym (subst (λ x. derived_with x ≡ Refused r) e refused) ∙ is.derived))
    refused_later plan is none L f (PlanRefuses p g rest isp h) e =
        absurd (no_fault g rest (sym none ∙ subst (λ q. refused_now q ≡ g ∷ rest) (same_plan formed p plan isp is e) h))
    refused_later plan is none L f (NextRefuses p g isp unrefused more rest) e =
        let same = same_plan formed p plan isp is e in
        ((λ h. more (subst (λ q. fresh q ≡ []) (sym same) h)), subst (λ q. Refuses (q.lists ++ fresh q) g) same rest)

    free_fresh :
        (n : ℕ) → ((K : Listings) → IsSettled n K → is_free n K ≡ true → (f : Fault) → Refuses K f → ⊥) →
        (plan : Plan) → derived_with plan.lists ≡ Derived plan.jobs →
        (ls : Listings) → fresh plan ≡ ls → SettledPlan (IsSettled n) plan ls → free_plan (is_free n) plan ls ≡ true → (f : Fault) → Refuses plan.lists f → ⊥
    free_fresh n deeper plan is [] e s t f r =
        (refused_later plan (record { derived = is; states = s }) (empty_so (refused_now plan) t) plan.lists f r refl).0 e
    free_fresh n deeper plan is (l ∷ ls) e s t f r =
        let none = empty_so (refused_now plan) (and_left (is_empty (refused_now plan)) (is_free n (plan.lists ++ l ∷ ls)) t) in
        let later = (refused_later plan (record { derived = is; states = s.0 }) none plan.lists f r refl).1 in
        deeper (plan.lists ++ l ∷ ls) s.1 (and_right (is_empty (refused_now plan)) (is_free n (plan.lists ++ l ∷ ls)) t) f
        (subst (λ k. Refuses (plan.lists ++ k) f) e later)

    free_by :
        (n : ℕ) → ((K : Listings) → IsSettled n K → is_free n K ≡ true → (f : Fault) → Refuses K f → ⊥) →
        (L : Listings) (d : Derivation) → derived_with L ≡ d → SettledDerived (IsSettled n) L d → free_derived (is_free n) L d ≡ true → (f : Fault) → Refuses L f → ⊥
    free_by n deeper L (Derived jobs) is s t f r = free_fresh n deeper (plan_of L jobs) is (fresh (plan_of L jobs)) refl s t f r
    free_by n deeper L (Refused x) is s t f r = absurd (true≢false (sym t))

    pub none_refused : (n : ℕ) (L : Listings) → IsSettled n L → is_free n L ≡ true → (f : Fault) → Refuses L f → ⊥
    none_refused zero L s t f r = absurd s
    none_refused (suc n) L s t f r = free_by n (none_refused n) L (derived_with L) refl s t f r

  -- ## Something is refused

  some_fresh : (ls : Listings) → is_empty ls ≡ false → ls ≡ [] → ⊥
  some_fresh [] h e = true≢false h
  some_fresh (l ∷ ls) h e = no_listing l ls e

  -- the first plan isn't refused; its listings lead to a derivation that is
  pub refused_next :
      (L : Listings) (jobs : List Job) (r : Refusal) (f : Fault) →
      derived_with L ≡ Derived jobs → HasTable (plan_of L jobs) → refused_now (plan_of L jobs) ≡ [] →
      is_empty (fresh (plan_of L jobs)) ≡ false → derived_with (L ++ fresh (plan_of L jobs)) ≡ Refused r → IsFault rules.flow r f → Refuses L f
  refused_next L jobs r f is states none more refused fault =
      NextRefuses (plan_of L jobs) f (record { derived = is; states = states }) none (some_fresh (fresh (plan_of L jobs)) more)
      (DerivationRefuses (L ++ fresh (plan_of L jobs)) r f refused fault)

  -- something is refused of the first plan
  pub refused_at_once :
      (L : Listings) (jobs : List Job) (f : Fault) (rest : List Fault) →
      derived_with L ≡ Derived jobs → HasTable (plan_of L jobs) → refused_now (plan_of L jobs) ≡ f ∷ rest → Refuses L f
  refused_at_once L jobs f rest is states h = PlanRefuses (plan_of L jobs) f rest (record { derived = is; states = states }) h
