-- What is so of the chain of plans from the listings to which another chain comes is so of that one.
use Rattle.std.proofs.Common.{◌≡◌, ◌≢◌, zero, suc, List, [], ◌∷◌, ◌++◌, length, refl, sym, ap, subst, ◌∙◌, arith}
use Rattle.smk_flow.specs.declared.job.Job.{Job}
use Rattle.smk_store.specs.Images.{Image}
use Rattle.smk_chain.specs.Derive.{Derived, Listings, Refusal, Refused, derivation}
use Rattle.smk_plan.specs.States.{IsPlan, LastPlan, Plan, Progress, Then, new_listings}
use Rattle.smk_report.specs.declared.fault.Fault.{Fault}
use Rattle.smk_drive.specs.Moments.{Rules}
use Rattle.smk_drive.specs.Refusals.{ChainRefuses, ComesTo, DerivationRefuses, Here, NextRefuses, Onward, PlanRefuses, refused_of}
use Rattle.smk_laws_plan.specs.Current.{IsComplete}
use Rattle.smk_laws_plan.proofs.PlanOne.{one_plan}

derived_refused : (js : List Job) (r : Refusal) → Derived js ≡ Refused r → ⊥
derived_refused js r h = grind arith

nil_cons : {A : Type 0} (x : A) (xs : List A) → [] ≡ x ∷ xs → ⊥
nil_cons x xs h =
    let e : zero ≡ suc (length xs) = ap length h in
    absurd (omega (arith, e))

module _ (rules : Rules) (image : Image) (progress : Progress) where
  abbrev IsOf : Plan → Type 0
  IsOf plan = IsPlan rules.flow image rules.settings progress plan

  abbrev news : Plan → Listings
  news plan = new_listings image rules.settings progress plan

  -- one plan more, of which nothing is refused
  pub comes_then :
      (A B : Listings) (plan : Plan) → ComesTo rules image progress A B → plan.lists ≡ B → IsOf plan → refused_of rules image progress plan ≡ [] → news plan ≢ [] →
      ComesTo rules image progress A (plan.lists ++ news plan)
  comes_then _ _ plan (Here lists) same is fine more =
      subst (λ X. ComesTo rules image progress X (plan.lists ++ news plan)) same (Onward plan (plan.lists ++ news plan) is fine more (Here (plan.lists ++ news plan)))
  comes_then _ _ plan (Onward before lists was free some rest) same is fine more =
      Onward before (plan.lists ++ news plan) was free some (comes_then (before.lists ++ news before) lists plan rest same is fine more)

  pub refuses_from : (A B : Listings) (f : Fault) → ComesTo rules image progress A B → ChainRefuses rules image progress B f → ChainRefuses rules image progress A f
  refuses_from _ _ f (Here lists) refuses = refuses
  refuses_from _ _ f (Onward plan lists is fine more rest) refuses =
      NextRefuses plan f is fine more (refuses_from (plan.lists ++ news plan) lists f rest refuses)

  pub last_from :
      (A B : Listings) (last : Plan) → ComesTo rules image progress A B → LastPlan rules.flow image rules.settings progress B last →
      LastPlan rules.flow image rules.settings progress A last
  last_from _ _ last (Here lists) chain = chain
  last_from _ _ last (Onward plan lists is fine more rest) chain = Then plan last is more (last_from (plan.lists ++ news plan) lists last rest chain)

  module _ (complete : IsComplete image) where
    -- a plan of these listings is this one
    one : (plan other : Plan) → IsOf plan → IsOf other → other.lists ≡ plan.lists → plan ≡ other
    one plan other is too same = sym (one_plan rules.flow image rules.settings progress other plan complete too is same)

    -- nothing is refused of the plan: so what is refused of the chain is refused behind it
    passes :
        (plan : Plan) → IsOf plan → refused_of rules image progress plan ≡ [] → (X : Listings) (f : Fault) → X ≡ plan.lists → ChainRefuses rules image progress X f →
        ChainRefuses rules image progress (plan.lists ++ news plan) f
    passes plan is fine _ _ same (DerivationRefuses lists r f refused is_fault) =
        absurd
        (derived_refused plan.jobs r
        (sym is.derived ∙ ap (λ l. derivation rules.flow image l rules.settings.targets) (sym same) ∙ refused))
    passes plan is fine _ _ same (PlanRefuses other f rest too refused) =
        absurd (nil_cons f rest (sym fine ∙ ap (refused_of rules image progress) (one plan other is too same) ∙ refused))
    passes plan is fine _ _ same (NextRefuses other f too free more rest) =
        subst (λ (p : Plan). ChainRefuses rules image progress (p.lists ++ news p) f) (sym (one plan other is too same)) rest

    pub unrefused_from :
        (A B : Listings) (f : Fault) → ComesTo rules image progress A B → (ChainRefuses rules image progress B f → ⊥) → ChainRefuses rules image progress A f → ⊥
    unrefused_from _ _ f (Here lists) never refuses = never refuses
    unrefused_from _ _ f (Onward plan lists is fine more rest) never refuses =
        unrefused_from (plan.lists ++ news plan) lists f rest never (passes plan is fine plan.lists f refl refuses)
