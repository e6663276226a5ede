-- A run meets one first refusal, and so does a chain of plans.
use Rattle.std.proofs.Common.{◌≡◌, ◌⊎◌, ◌<◌, ◌^◌, ℕ, arith, List, [], ◌∷◌, ◌++◌, refl, sym, ap, subst, inl, inr, ◌∙◌}
use Rattle.smk_world.specs.declared.recipe.Out.{Out}
use Rattle.smk_world.specs.World.{World}
use Rattle.smk_world.specs.Trees.{Each, outs_of}
use Rattle.smk_flow.specs.declared.job.Job.{Job}
use Rattle.smk_flow.specs.Flows.{Flow, rule_name}
use Rattle.smk_store.specs.Images.{Image}
use Rattle.smk_chain.specs.Derive.{Clash, Deep, Derived, Listings, MissingMember, NoCommand, NoInput, NoRule, Refusal, Refused, TooManyPaths, TwoJobs, derivation}
use Rattle.smk_trigger.specs.declared.reason.State.{State}
use Rattle.smk_plan.specs.States.{Plan, Progress, IsPlan, new_listings}
use Rattle.smk_report.specs.declared.fault.Fault.{Fault}
use Rattle.smk_report.specs.declared.fault.Fault.TheVariants as fault
use Rattle.smk_laws_plan.specs.Current.{IsComplete}
use Rattle.smk_laws_plan.proofs.CurrentLists.{cons_nil, some_inj}
use Rattle.smk_laws_plan.proofs.PlanOne.{one_plan}
use Rattle.smk_laws_history.proofs.CurrentComplete.{seen_is_complete}
use Rattle.smk_drive.specs.Moments.{Rules, Moment, IsMoment, begun_of, progress_of, seen, serial_of}
use Rattle.smk_drive.specs.Refusals.{ChainRefuses, DerivationRefuses, IsFault, NextRefuses, PlanRefuses, record_length, refused_of}
use Rattle.smk_drive_course.specs.Refusals.{IsSameFault, MomentRefuses, PlansAreRefused, NoSerial, LongRecord, OneChainRefusal, OneRefusal}
use Rattle.smk_drive_course.proofs.Fronts.{GoesOn, fronts, head_same, tail_same}
use Rattle.smk_drive_course.proofs.OneMoment.{formed_at, one_moment}

-- ## Derivations

refusal_same : (a b : Refusal) → Refused a ≡ Refused b → a ≡ b
refusal_same a b h = cc

derived_refused : (js : List Job) (r : Refusal) → Derived js ≡ Refused r → ⊥
derived_refused js r h = grind arith

-- a refusal is told by one fault
told_one : (flow : Flow) (r : Refusal) (f g : Fault) → IsFault flow r f → IsFault flow r g → IsSameFault f g
told_one flow TooManyPaths f g x y = inr (x.0, y.0, x.2, y.2)
told_one flow (Deep p) f g x y = inl (x ∙ sym y)
told_one flow (NoRule p) f g x y = inl (x ∙ sym y)
told_one flow (NoInput p rule wanted) f g x y = inl (x ∙ sym y)
told_one flow (TwoJobs p a b) f g x y = inl (x ∙ sym y)
told_one flow (MissingMember p) f g x y = inl (x ∙ sym y)
told_one flow (NoCommand rule) f g x y = inl (x ∙ sym y)
told_one flow (Clash p q) f g x y = inl (x ∙ sym y)

-- ## Chains

module _ (rules : Rules) (image : Image) (progress : Progress) (complete : IsComplete image) where
  abbrev Plans : Plan → Type 0
  Plans plan = IsPlan rules.flow image rules.settings progress plan

  same_plan : (p q : Plan) → Plans p → Plans q → p.lists ≡ q.lists → p ≡ q
  same_plan p q is is2 e = one_plan rules.flow image rules.settings progress p q complete is is2 e

  -- with the same listings jobs are derived or refused, not both
  derives : (plan : Plan) (L : Listings) (r : Refusal) → Plans plan → derivation rules.flow image L rules.settings.targets ≡ Refused r → plan.lists ≡ L → ⊥
  derives plan L r is e same =
      derived_refused plan.jobs r (sym is.derived ∙ (ap (λ M. derivation rules.flow image M rules.settings.targets) same ∙ e))

  one :
      (K M : Listings) (f g : Fault) → ChainRefuses rules image progress K f → K ≡ M → ChainRefuses rules image progress M g → IsSameFault f g
  one K M f g (DerivationRefuses L r f1 e is) same (DerivationRefuses N s g1 e2 is2) =
      let one_refusal = refusal_same r s (sym e ∙ (ap (λ X. derivation rules.flow image X rules.settings.targets) same ∙ e2)) in
      told_one rules.flow s f g (subst (λ x. IsFault rules.flow x f) one_refusal is) is2
  one K M f g (DerivationRefuses L r f1 e is) same (PlanRefuses q g1 rest is2 e2) = absurd (derives q K r is2 e (sym same))
  one K M f g (DerivationRefuses L r f1 e is) same (NextRefuses q g1 is2 calm more later) = absurd (derives q K r is2 e (sym same))
  one K M f g (PlanRefuses p f1 rest is e) same (DerivationRefuses N s g1 e2 is2) = absurd (derives p M s is e2 same)
  one K M f g (NextRefuses p f1 is calm more later) same (DerivationRefuses N s g1 e2 is2) = absurd (derives p M s is e2 same)
  one K M f g (PlanRefuses p f1 rest is e) same (PlanRefuses q g1 rest2 is2 e2) =
      inl (head_same f g rest rest2 (sym e ∙ (ap (refused_of rules image progress) (same_plan p q is is2 same) ∙ e2)))
  one K M f g (PlanRefuses p f1 rest is e) same (NextRefuses q g1 is2 calm more later) =
      absurd (cons_nil f rest (sym e ∙ (ap (refused_of rules image progress) (same_plan p q is is2 same) ∙ calm)))
  one K M f g (NextRefuses p f1 is calm more later) same (PlanRefuses q g1 rest is2 e) =
      absurd (cons_nil g rest (sym e ∙ (ap (refused_of rules image progress) (sym (same_plan p q is is2 same)) ∙ calm)))
  one K M f g (NextRefuses p f1 is calm more later) same (NextRefuses q g1 is2 calm2 more2 later2) =
      one (p.lists ++ new_listings image rules.settings progress p) (q.lists ++ new_listings image rules.settings progress q) f g later
      (ap (λ (x : Plan). x.lists ++ new_listings image rules.settings progress x) (same_plan p q is is2 same)) later2

pub one_chain_refusal : OneChainRefusal
one_chain_refusal rules image progress lists f g complete x y = one rules image progress complete lists lists f g x refl y

-- ## Moments

not_full : (n top : ℕ) → n ≡ top → n < top → ⊥
not_full n top e low = omega arith

-- the first of which P holds is one
first_same :
    {A : Type 0} (P : A → Type 0) (before after before2 after2 : List A) (x y : A) → before ++ x ∷ after ≡ before2 ++ y ∷ after2 →
    Each (λ z. ¬ P z) before → P x → Each (λ z. ¬ P z) before2 → P y → x ≡ y
first_same P [] after [] after2 x y h none px none2 py = head_same x y after after2 h
first_same P [] after (z ∷ before2) after2 x y h none px none2 py =
    absurd (none2.0 (subst P (head_same x z after (before2 ++ y ∷ after2) h) px))
first_same P (z ∷ before) after [] after2 x y h none px none2 py =
    absurd (none.0 (subst P (sym (head_same z y (before ++ x ∷ after) after2 h)) py))
first_same P (z ∷ before) after (w ∷ before2) after2 x y h none px none2 py =
    first_same P before after before2 after2 x y (tail_same z w (before ++ x ∷ after) (before2 ++ y ∷ after2) h) none.1 px none2.1 py

module _ (rules : Rules) (entry : World) (m : Moment) where
  abbrev length_of : Job × State → Out → ℕ
  length_of e o = record_length rules m (begun_of rules entry m e) o

  abbrev IsLong : Job × State → Out → Type 0
  IsLong e o = 1048576 < length_of e o

  -- it is the first output of the job with too long a record
  abbrev IsFirst : Job × State → Out → Type 0
  IsFirst e o = (before : List Out) × (after : List Out) × (outs_of e.0.recipe ≡ before ++ o ∷ after) × Each (λ p. ¬ IsLong e p) before × IsLong e o

  abbrev told : Job × State → Out → Fault
  told e o = fault.TooLong (rule_name rules.flow e.0.rule) (length_of e o)

  long_here : (e : Job × State) (o p : Out) → IsFirst e o → IsFirst e p → told e o ≡ told e p
  long_here e o p (before, after, split, none, long) (before2, after2, split2, none2, long2) =
      ap (told e) (first_same (IsLong e) before after before2 after2 o p (sym split ∙ split2) none long none2 long2)

  long_one : (e k : Job × State) (o p : Out) → e ≡ k → IsFirst e o → IsFirst k p → told e o ≡ told k p
  long_one e k o p same x = subst (λ z. IsFirst z p → told e o ≡ told z p) same (λ y. long_here e o p x y)

  drawn : (e k : Job × State) → e ≡ k → serial_of rules entry m e.0 e.1 ≡ serial_of rules entry m k.0 k.1
  drawn e k same = ap (λ (z : Job × State). serial_of rules entry m z.0 z.1) same

  moment_one : (f g : Fault) → IsComplete (seen rules m.world) → MomentRefuses rules entry m f → MomentRefuses rules entry m g → IsSameFault f g
  moment_one f g complete (PlansAreRefused f1 rest x) (PlansAreRefused g1 rest2 y) =
      one_chain_refusal rules (seen rules m.world) (progress_of m.world m.begun) m.from f g complete x y
  moment_one f g complete (PlansAreRefused f1 rest x) (NoSerial k rest2 next full) = absurd (next.unrefused f x)
  moment_one f g complete (PlansAreRefused f1 rest x) (LongRecord k p before after rest2 next low split none long) = absurd (next.unrefused f x)
  moment_one f g complete (NoSerial e rest next full) (PlansAreRefused g1 rest2 y) = absurd (next.unrefused g y)
  moment_one f g complete (LongRecord e o before after rest next low split none long) (PlansAreRefused g1 rest2 y) = absurd (next.unrefused g y)
  moment_one f g complete (NoSerial e rest next full) (NoSerial k rest2 next2 full2) = inl refl
  moment_one f g complete (NoSerial e rest next full) (LongRecord k p before after rest2 next2 low split none long) =
      absurd (not_full (serial_of rules entry m k.0 k.1) (2 ^ 64) (sym (drawn e k (some_inj e k (sym next.first ∙ next2.first))) ∙ full) low)
  moment_one f g complete (LongRecord e o before after rest next low split none long) (NoSerial k rest2 next2 full) =
      absurd (not_full (serial_of rules entry m e.0 e.1) (2 ^ 64) (drawn e k (some_inj e k (sym next.first ∙ next2.first)) ∙ full) low)
  moment_one f g complete (LongRecord e o before after rest next low split none long) (LongRecord k p before2 after2 rest2 next2 low2 split2 none2 long2) =
      inl
      (long_one e k o p (some_inj e k (sym next.first ∙ next2.first)) (before, after, split, none, long) (before2, after2, split2, none2, long2))

-- ## Runs

pub one_refusal : OneRefusal
one_refusal rules entry log f g formed x y = go (fronts x.events y.events x.rest y.rest (sym x.split ∙ y.split))
  where
    at_one : x.events ≡ y.events → IsSameFault f g
    at_one e =
        let moments = one_moment rules entry y.events x.moment y.moment formed (subst (λ es. IsMoment rules entry es x.moment) e x.is_moment) y.is_moment in
        moment_one rules entry y.moment f g (seen_is_complete rules.read y.moment.world (formed_at rules entry y.events y.moment formed y.is_moment))
        (subst (λ m. MomentRefuses rules entry m f) moments x.refuses) y.refuses

    go : (x.events ≡ y.events) ⊎ GoesOn x.events y.events ⊎ GoesOn y.events x.events → IsSameFault f g
    go (inl e) = at_one e
    go (inr (inl (z, zs, h))) = absurd (y.none_before x.events z zs x.moment h x.is_moment f x.refuses)
    go (inr (inr (z, zs, h))) = absurd (x.none_before y.events z zs y.moment h y.is_moment g y.refuses)
