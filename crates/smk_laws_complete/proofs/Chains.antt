-- Each chain of plans ends: a plan after which another one comes lists something that stands and wasn't listed before.
use Rattle.std.proofs.Common.{◌≡◌, ◌⊎◌, ◌≢◌, ℕ, zero, suc, ◌≤◌, ◌<◌, arith, List, [], ◌∷◌, ◌++◌, refl, sym, subst, inl, inr, ◌∙◌}
use Rattle.smk_flow.specs.Flows.{rule_name}
use Rattle.smk_store.specs.Images.{Image}
use Rattle.smk_chain.specs.Derive.{Clash, Deep, Derivation, Derived, Listings, MissingMember, NoCommand, NoInput, NoRule, Refusal, Refused, TooManyPaths, TwoJobs, derivation}
use Rattle.smk_plan.specs.States.{Plan, Progress, IsPlan, LastPlan, Last, Then, new_listings}
use Rattle.smk_report.specs.declared.fault.Fault.{Fault}
use Rattle.smk_report.specs.declared.fault.Fault.TheVariants as fault
use Rattle.smk_drive.specs.Moments.{Rules}
use Rattle.smk_drive.specs.Refusals.{ChainRefuses, DerivationRefuses, IsFault, NextRefuses, PlanRefuses, refused_of}
use Rattle.smk_laws_plan.specs.Current.{IsComplete}
use Rattle.smk_laws_plan.proofs.CurrentLists.{cons_nil}
use Rattle.smk_laws_plan.proofs.PlanOne.{has_plan}
use Rattle.smk_laws_history.proofs.Listed.{left, left_less}
use Rattle.smk_laws_complete.specs.Planned.{ChainsEnd}

module _ (rules : Rules) (image : Image) (progress : Progress) (complete : IsComplete image) where
  -- each refusal is told by some fault
  fault_for : (r : Refusal) → (f : Fault) × IsFault rules.flow r f
  fault_for TooManyPaths = (fault.TooManyPaths 100001, (100001, above, refl))
    where
      above : 100000 < 100001
      above = omega arith
  fault_for (Deep p) = (fault.Deep p, refl)
  fault_for (NoRule p) = (fault.NoRule p, refl)
  fault_for (NoInput p rule wanted) = (fault.NoInput p (rule_name rules.flow rule) wanted, refl)
  fault_for (TwoJobs p a b) = (fault.Ambiguous p (rule_name rules.flow a) (rule_name rules.flow b), refl)
  fault_for (MissingMember p) = (fault.MissingMember p, refl)
  fault_for (NoCommand rule) = (fault.NoCommand (rule_name rules.flow rule), refl)
  fault_for (Clash p q) = (fault.Clash p q, refl)

  abbrev Ends : Listings → Type 0
  Ends L = ((f : Fault) × ChainRefuses rules image progress L f) ⊎ ((plan : Plan) × LastPlan rules.flow image rules.settings progress L plan)

  -- a plan that isn't refused, and isn't the last one
  goes_on :
      (plan : Plan) → IsPlan rules.flow image rules.settings progress plan → refused_of rules image progress plan ≡ [] →
      new_listings image rules.settings progress plan ≢ [] → Ends (plan.lists ++ new_listings image rules.settings progress plan) → Ends plan.lists
  goes_on plan is calm more (inl (f, c)) = inl (f, NextRefuses plan f is calm more c)
  goes_on plan is calm more (inr (last, l)) = inr (last, Then plan last is more l)

  with_plan :
      (plan : Plan) → IsPlan rules.flow image rules.settings progress plan →
      ((M : Listings) → suc (left image M) ≤ left image plan.lists → Ends M) → Ends plan.lists
  with_plan plan is again = go (refused_of rules image progress plan) refl (new_listings image rules.settings progress plan) refl
    where
      go : (fs : List Fault) → refused_of rules image progress plan ≡ fs → (ks : Listings) → new_listings image rules.settings progress plan ≡ ks → Ends plan.lists
      go (f ∷ rest) e ks n = inl (f, PlanRefuses plan f rest is e)
      go [] e [] n = inr (plan, Last plan is n)
      go [] e (k ∷ ks) n =
          let more : new_listings image rules.settings progress plan ≢ [] = λ none. cons_nil k ks (sym n ∙ none) in
          goes_on plan is e more (again (plan.lists ++ new_listings image rules.settings progress plan) (left_less image rules.settings progress complete plan more))

  step : (L : Listings) → ((M : Listings) → suc (left image M) ≤ left image L → Ends M) → Ends L
  step L again = go (derivation rules.flow image L rules.settings.targets) refl
    where
      go : (d : Derivation) → derivation rules.flow image L rules.settings.targets ≡ d → Ends L
      go (Refused r) e = let f = fault_for r in inl (f.0, DerivationRefuses L r f.0 e f.1)
      go (Derived js) e =
          let p = has_plan rules.flow image rules.settings progress L js complete e in
          subst Ends p.2 (with_plan p.0 p.1 (λ M low. again M (subst (λ K. suc (left image M) ≤ left image K) p.2 low)))

  ends : (k : ℕ) (L : Listings) → left image L ≤ k → Ends L
  ends zero L few = step L (λ M low. absurd (omega arith))
  ends (suc k) L few = step L (λ M low. ends k M (omega arith))

pub chains_end : ChainsEnd
chains_end rules image progress L complete = ends rules image progress complete (left image L) L (let same : left image L ≤ left image L = omega arith in same)
