-- What a moment of a run may refuse whose folder has the sources of the entry, and besides those signs that stood there just ones of the run's own jobs.
use Rattle.std.proofs.Common.{◌≡◌, inl, inr, true, List, [], refl, sym, ap, subst, ◌∙◌, arith, Option, Some, None, is_none, true≢false}
use Rattle.smk_world.specs.World.{World, IsFormed}
use Rattle.smk_world.specs.Trees.{Act, Each, IsIn}
use Rattle.smk_pattern.specs.Shapes.{Text}
use Rattle.smk_flow.specs.declared.job.Job.{Job}
use Rattle.smk_flow.specs.Flows.{Candidate, folders_of, gathered_folders}
use Rattle.smk_store.specs.Soundness.{SameSources}
use Rattle.smk_chain.specs.Derive.{Derived, Listings, Refusal, Refused, chosen, derivation, job, sources_of}
use Rattle.smk_chain.specs.Mean.{Setting, setting_of}
use Rattle.smk_plan.specs.States.{IsPlan, Plan, Progress, nothing_done}
use Rattle.smk_laws_plan.specs.Signs.{HasOwnSigns}
use Rattle.smk_laws_plan.proofs.CurrentLists.{map_in, zip_first}
use Rattle.smk_laws_history.proofs.CurrentComplete.{seen_is_complete}
use Rattle.smk_laws_complete.specs.Derived.{AllHaveValues, GathersAlone, IsGoodJob}
use Rattle.smk_laws_complete.specs.Planned.{MayStop}
use Rattle.smk_laws_complete.proofs.Calm.{no_listing_is_right}
use Rattle.smk_laws_complete.proofs.Goods.{derived_jobs_are_good}
use Rattle.smk_laws_protocol.proofs.Basics.{each_in}
use Rattle.smk_laws_turns.proofs.Deriving.{derivation_goes_on}
use Rattle.smk_laws_moments.specs.Staying.{derived_by}
use Rattle.smk_report.specs.declared.fault.Fault.{Fault}
use Rattle.smk_safe.specs.Planned.{IsPlain}
use Rattle.smk_laws_driven.specs.Completing.{LongRecord as TooLongRecord, NoSerial as NoneLeft}
use Rattle.smk_drive.specs.Moments.{Moment, Rules, progress_of, seen}
use Rattle.smk_drive.specs.Refusals.{ChainRefuses, DerivationRefuses, NextRefuses, PlanRefuses}
use Rattle.smk_drive_course.specs.Refusals.{LongRecord, MomentRefuses, NoSerial, PlansAreRefused}
use Rattle.smk_laws_driven.specs.Ended.{PlansArePlain}
use Rattle.smk_laws_driven.proofs.Unlisted.{none_new}
use Rattle.smk_laws_driven.specs.Named.{IsNamed}
use Rattle.smk_laws_driven.proofs.Stopping.{plan_stops}

none_of : (o : Option Text) → is_none o ≡ true → o ≡ None
none_of None h = refl
none_of (Some word) h = absurd (true≢false (sym h))

same_jobs : (js ks : List Job) → Derived js ≡ Derived ks → js ≡ ks
same_jobs js ks h = cc

not_refused : (js : List Job) (r : Refusal) → Derived js ≡ Refused r → ⊥
not_refused js r h = grind arith

module _ (act : Act) (rules : Rules) (entry : World) (plain : PlansArePlain rules) (alone : GathersAlone rules.flow)
    (values : AllHaveValues (setting_of rules.flow act (λ j. is_none (rules.missing j)) (seen rules entry)) rules.settings.targets) (formed : IsFormed entry)
    (plainly : Each IsPlain (derived_by rules entry []))
    (derives : derivation rules.flow (seen rules entry) [] rules.settings.targets ≡ Derived (derived_by rules entry [])) where
  abbrev S : Setting
  S = setting_of rules.flow act (λ j. is_none (rules.missing j)) (seen rules entry)

  abbrev js : List Job
  js = derived_by rules entry []

  -- each field of a derived job's command has a value
  field_known : (j : Job) → IsIn js j → rules.missing j ≡ None
  field_known j i =
      let by : (c : Candidate) × IsIn (chosen S.flow S.sources [] rules.settings.targets) c × (j ≡ job S.flow [] c) =
      map_in (job rules.flow []) (chosen rules.flow (sources_of (seen rules entry)) [] rules.settings.targets) j i in
      let none : gathered_folders S.flow by.0 ≡ [] =
      ap folders_of (ap (λ (x : Job). x.gathers) (sym by.2) ∙ (each_in IsPlain js j plainly i).gathers_none) in
      let good : IsGoodJob S [] by.0 =
      derived_jobs_are_good S [] rules.settings.targets alone values (no_listing_is_right S rules.settings.targets) by.0 by.1
      (λ f k. absurd (subst (λ fs. IsIn fs f) none k)) in
      none_of (rules.missing j) (ap (λ x. is_none (rules.missing x)) by.2 ∙ good.fields)

  module _ (v : World) (formed_now : IsFormed v) (same : SameSources (seen rules entry) (seen rules v))
      (own : HasOwnSigns (seen rules entry) (seen rules v) (derived_by rules entry [])) where
    -- the same jobs are derived
    pub derives_now : derivation rules.flow (seen rules v) [] rules.settings.targets ≡ Derived js
    derives_now =
        derivation_goes_on rules.flow (seen rules entry) (seen rules v) [] rules.settings.targets js (seen_is_complete rules.read entry formed)
        (seen_is_complete rules.read v formed_now) same own derives

    -- those of any plan
    pub its_jobs : (progress : Progress) (plan : Plan) → IsPlan rules.flow (seen rules v) rules.settings progress plan → plan.lists ≡ [] → plan.jobs ≡ js
    its_jobs progress plan is none =
        same_jobs plan.jobs js
        (sym (subst (λ L. derivation rules.flow (seen rules v) L rules.settings.targets ≡ Derived plan.jobs) none is.derived) ∙ derives_now)

    chain_stops :
        (progress : Progress) (L : Listings) (f : Fault) → L ≡ [] → ChainRefuses rules (seen rules v) progress L f →
        MayStop rules (seen rules entry) nothing_done f
    chain_stops progress L f none (DerivationRefuses lists r g e is) =
        absurd
        (not_refused js r
        (sym derives_now ∙ subst (λ M. derivation rules.flow (seen rules v) M rules.settings.targets ≡ Refused r) none e))
    chain_stops progress L f none (PlanRefuses plan g rest is e) =
        plan_stops rules (seen rules entry) nothing_done (seen rules v) progress plan f
        (λ k i shut. field_known k.0 (subst (λ ks. IsIn ks k.0) (its_jobs progress plan is none) (zip_first plan.jobs plan.states k.0 k.1 i)))
        (subst (λ fs. IsIn fs f) (sym e) (inl refl))
    chain_stops progress L f none (NextRefuses plan g is clear more later) =
        absurd (more (none_new rules plain (seen rules v) progress plan (seen_is_complete rules.read v formed_now) is))

  -- So it is with what a moment refuses.
  pub moment_named :
      (m : Moment) (f : Fault) → IsFormed m.world → SameSources (seen rules entry) (seen rules m.world) →
      HasOwnSigns (seen rules entry) (seen rules m.world) (derived_by rules entry []) → m.from ≡ [] → MomentRefuses rules entry m f → IsNamed rules entry f
  moment_named m f formed_now same own none (PlansAreRefused g rest chain) =
      inl (chain_stops m.world formed_now same own (progress_of m.world m.begun) m.from f none chain)
  moment_named m f formed_now same own none (NoSerial e rest next full) = inr NoneLeft
  moment_named m f formed_now same own none (LongRecord e o before after rest next fits split short long) = inr (TooLongRecord _ _)
