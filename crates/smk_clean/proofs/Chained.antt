-- There is one first refusal of a chain of plans; and a chain of plans of plain jobs has one plan.
use Rattle.std.proofs.Common.{◌≡◌, inl, inr, List, [], ◌∷◌, ◌++◌, map, flat_map, filter, refl, ap, sym, subst, ◌∙◌, bytes_eq, is_none, ◌&&◌}
use Rattle.smk_world.specs.World.{World, IsFormed, in_paths}
use Rattle.smk_world.specs.Trees.{Path, IsIn}
use Rattle.smk_flow.specs.declared.job.Job.{Job}
use Rattle.smk_flow.specs.declared.job.Gather.{Gather}
use Rattle.smk_flow.specs.Flows.{Flow}
use Rattle.smk_store.specs.Images.{Image, seen}
use Rattle.smk_store.specs.Soundness.{Outside}
use Rattle.smk_chain.specs.Derive.{Derived, Refused, Listings, Refusal, TooManyPaths, Deep, NoRule, NoInput, TwoJobs, MissingMember, NoCommand, Clash, derivation, distinct, listing}
use Rattle.smk_plan.specs.States.{Plan, IsPlan, LastPlan, Last, Then, nothing_done, awaited, awaits, directory_over, files_listed, gathers_from, is_ready, new_listings}
use Rattle.smk_laws_protocol.proofs.Basics.{each_in}
use Rattle.smk_laws_history.proofs.CurrentComplete.{seen_is_complete}
use Rattle.smk_laws_plan.proofs.PlanOne.{one_plan}
use Rattle.smk_report.specs.declared.fault.Fault.{Fault}
use Rattle.smk_drive.specs.Moments.{Rules}
use Rattle.smk_drive.specs.Refusals.{IsFault, ChainRefuses, DerivationRefuses, PlanRefuses, NextRefuses, refused_of}
use Rattle.smk_cli_calls.specs.OneByOne.{IsPlainFlow}
use Rattle.smk_safe.specs.Planned.{IsPlain}
use Rattle.smk_safe.proofs.Planned.{flat_none, no_directory}
use Rattle.smk_clean.specs.Standing.{IsSameFault}
use Rattle.smk_clean.proofs.Plain.{planned_plain}

refused_derived : (r : Refusal) (js : List Job) → Refused r ≡ Derived js → ⊥
refused_derived r js e = cc

refused_same : (r s : Refusal) → Refused r ≡ Refused s → r ≡ s
refused_same r s e = cc

none_some : (f : Fault) (rest : List Fault) → f ∷ rest ≡ [] → ⊥
none_some f rest e = cc

firsts : (f g : Fault) (a b : List Fault) → f ∷ a ≡ g ∷ b → f ≡ g
firsts f g a b e = cc

-- one refusal is one fault
fault_same : (flow : Flow) (r : Refusal) (f g : Fault) → IsFault flow r f → IsFault flow r g → IsSameFault f g
fault_same flow TooManyPaths f g (m, large, is) (n, larger, also) = inr (m, n, is, also)
fault_same flow (Deep p) f g h k = inl (h ∙ sym k)
fault_same flow (NoRule p) f g h k = inl (h ∙ sym k)
fault_same flow (NoInput p rule wanted) f g h k = inl (h ∙ sym k)
fault_same flow (TwoJobs p a b) f g h k = inl (h ∙ sym k)
fault_same flow (MissingMember p) f g h k = inl (h ∙ sym k)
fault_same flow (NoCommand rule) f g h k = inl (h ∙ sym k)
fault_same flow (Clash p q) f g h k = inl (h ∙ sym k)

module _ (o : Outside) (w : World) (formed : IsFormed w) (rules : Rules) where
  abbrev image : Image
  image = seen o.read w

  abbrev IsOf : Plan → Type 0
  IsOf plan = IsPlan rules.flow image rules.settings nothing_done plan

  same_plan : (a b : Plan) → IsOf a → IsOf b → a.lists ≡ b.lists → a ≡ b
  same_plan a b ia ib e = one_plan rules.flow image rules.settings nothing_done a b (seen_is_complete o.read w formed) ia ib e

  abbrev Refuses : Listings → Fault → Type 0
  Refuses L f = ChainRefuses rules image nothing_done L f

  -- a derivation isn't both refused and done
  not_both : (L : Listings) (plan : Plan) (r : Refusal) → L ≡ plan.lists → derivation rules.flow image L rules.settings.targets ≡ Refused r → IsOf plan → ⊥
  not_both L plan r e refused is =
      refused_derived r plan.jobs (sym refused ∙ (ap (λ K. derivation rules.flow image K rules.settings.targets) e ∙ is.derived))

  -- a plan isn't both refused and followed by another one
  not_next : (p q : Plan) (f : Fault) (rest : List Fault) → IsOf p → IsOf q → p.lists ≡ q.lists → refused_of rules image nothing_done p ≡ f ∷ rest →
      refused_of rules image nothing_done q ≡ [] → ⊥
  not_next p q f rest is also e refused none =
      none_some f rest (sym refused ∙ (ap (refused_of rules image nothing_done) (same_plan p q is also e) ∙ none))

  -- there is one first refusal
  pub one_refusal : (L M : Listings) (f g : Fault) → Refuses L f → Refuses M g → L ≡ M → IsSameFault f g
  one_refusal L M f g (DerivationRefuses _ r _ refused is) (DerivationRefuses _ s _ also are) e =
      fault_same rules.flow r f g is
      (subst (λ x. IsFault rules.flow x g)
      (refused_same s r (sym also ∙ (ap (λ K. derivation rules.flow image K rules.settings.targets) (sym e) ∙ refused))) are)
  one_refusal L M f g (DerivationRefuses _ r _ refused is) (PlanRefuses p _ rest here faults) e = absurd (not_both L p r e refused here)
  one_refusal L M f g (PlanRefuses p _ rest here faults) (DerivationRefuses _ r _ refused is) e = absurd (not_both M p r (sym e) refused here)
  one_refusal L M f g (PlanRefuses p _ rest here faults) (PlanRefuses q _ more there others) e =
      inl (firsts f g rest more (sym faults ∙ (ap (refused_of rules image nothing_done) (same_plan p q here there e) ∙ others)))
  one_refusal L M f g (NextRefuses p _ here calm more later) (DerivationRefuses _ r _ refused is) e = absurd (not_both M p r (sym e) refused here)
  one_refusal L M f g (NextRefuses p _ here calm more later) (PlanRefuses q _ rest is faults) e = absurd (not_next q p g rest is here (sym e) faults calm)
  one_refusal L M f g (NextRefuses p _ here calm more later) (NextRefuses q _ there also some after) e =
      one_refusal (p.lists ++ new_listings image rules.settings nothing_done p) (q.lists ++ new_listings image rules.settings nothing_done q) f g later after
      (ap (λ (x : Plan). x.lists ++ new_listings image rules.settings nothing_done x) (same_plan p q here there e))
  one_refusal L M f g (DerivationRefuses _ r _ refused is) (NextRefuses p _ here calm more later) e = absurd (not_both L p r e refused here)
  one_refusal L M f g (PlanRefuses q _ rest is faults) (NextRefuses p _ here calm more later) e = absurd (not_next q p f rest is here e faults calm)

  -- ## Plain jobs

  module _ (plain : IsPlainFlow rules.flow) where
    -- no listing becomes known of plain jobs
    pub none_new : (plan : Plan) → IsOf plan → new_listings image rules.settings nothing_done plan ≡ []
    none_new plan is =
        let plainly = planned_plain rules.flow image rules.settings nothing_done plan (seen_is_complete o.read w formed) plain is in
        let over : (q : Path) → directory_over plan q ≡ [] = no_directory o w rules.flow rules.settings plan formed is plainly in
        let each : (j : Job) → IsIn plan.jobs j → awaits plan j ≡ [] =
        λ j i.
        ap (λ l. l ++ flat_map (directory_over plan) (in_paths j.recipe ++ gathers_from j)) (ap (map (λ (g : Gather). g.folder)) (each_in IsPlain plan.jobs j plainly i).gathers_none)
        ∙ flat_none (directory_over plan) (in_paths j.recipe ++ gathers_from j) (λ q k. over q) in
        let none : awaited image rules.settings nothing_done plan ≡ [] =
        ap (λ l. distinct bytes_eq (l ++ flat_map (directory_over plan) rules.settings.targets)) (flat_none (awaits plan) plan.jobs each)
        ∙ ap (distinct bytes_eq) (flat_none (directory_over plan) rules.settings.targets (λ q k. over q)) in
        ap (λ ds. map (λ d. record { folder = d; files = files_listed image d }) (filter (λ d. is_ready image rules.settings nothing_done plan d && is_none (listing plan.lists d)) ds)) none

    -- the last plan has the listings that the chain begins with
    pub lists_stay : (L : Listings) (plan : Plan) → LastPlan rules.flow image rules.settings nothing_done L plan → plan.lists ≡ L
    lists_stay L plan (Last _ is none) = refl
    lists_stay L plan (Then first _ is more rest) = absurd (more (none_new first is))

    -- where the last plan isn't refused, nothing of the chain is
    pub unrefused : (L M : Listings) (f : Fault) (plan : Plan) → Refuses L f → LastPlan rules.flow image rules.settings nothing_done M plan → L ≡ M → refused_of rules image nothing_done plan ≡ [] → ⊥
    unrefused L M f plan (DerivationRefuses _ r _ refused is) (Last _ here done) e none = not_both L plan r e refused here
    unrefused L M f plan (PlanRefuses p _ rest is refused) (Last _ here done) e none =
        none_some f rest (sym refused ∙ (ap (refused_of rules image nothing_done) (same_plan p plan is here e) ∙ none))
    unrefused L M f plan (NextRefuses p _ is calm more later) (Last _ here done) e none = more (none_new p is)
    unrefused L M f plan refuses (Then p _ is more rest) e none = more (none_new p is)
