-- What the run learnt of the end of a job, and what followed on its closing, from the calls.
use Rattle.std.proofs.Common.{◌≡◌, ◌≢◌, ◌⊎◌, ℕ, Bool, true, false, List, [], ◌∷◌, refl, sym, ap, subst, ◌∙◌, inl, inr, Option, Some, None, Result, Ok, Err}
use Rattle.std.specs.Prelude.{IfErr, OnOk, is_none}
use Rattle.smk_plan.specs.declared.fault.PlanFault.{PlanFault}
use Rattle.smk_plan.specs.declared.fault.PlanFault.TheVariants.{OutOfMemory as NoMemory}
use Rattle.smk_plan_live.specs.Changes.{HasClosed}
use Rattle.smk_plan_live.specs.Lives.{IsLive, IsRefusedNow}
use Rattle.std.specs.List.{slice_get}
use Rattle.std.proofs.lemmas.Option.{same_Some}
use Rattle.smk_world.specs.declared.event.Event.{Event}
use Rattle.smk_world.specs.Devices.{AreLooks, Device, HasActed, HasLooked, WhereTold}
use Rattle.smk_world.specs.Trees.{Act, Path}
use Rattle.smk_world.specs.World.{World, run}
use Rattle.smk_world.proofs.Devices.{acted_as, acted_nothing, acted_then}
use Rattle.smk_flow.specs.declared.job.Job.{Job}
use Rattle.smk_flow.specs.Flows.{Flow}
use Rattle.smk_pick.specs.declared.settings.Settings.{Settings}
use Rattle.smk_report.specs.declared.fault.Fault.{Fault}
use Rattle.smk_report.specs.declared.fault.Fault.TheVariants as fault
use Rattle.smk_keep.specs.declared.fault.KeepFault.{KeepFault}
use Rattle.smk_keep.specs.declared.fault.KeepFault.TheVariants as keep
use Rattle.smk_keep.specs.Keeping.{keep_failed, protect_requests}
use Rattle.smk_world.specs.Requests.{IsCutShort}
use Rattle.smk_plan_live.specs.Live.{LivePlan}
use Rattle.smk_run.specs.declared.ending.Ending.{Ending as End}
use Rattle.smk_run.specs.declared.ending.Ending.TheVariants.{BadMember, Good, NoOutput, Status, WrongKind}
use Rattle.smk_run.specs.Turns.{is_good}
use Rattle.smk_drive_course.specs.Driven.{device_failed}
use Rattle.smk_drive_course.specs.Steps as steps
use Rattle.smk_drive_course.specs.Steps.{guards_of}
use Rattle.smk_drive_outcome.specs.declared.outcome.Outcome.{Outcome}
use Rattle.smk_drive_step.specs.Crews.{is_device}
use Rattle.smk_drive_step.specs.Telling.{HasGuarded, keep_fault}
use Rattle.smk_laws_turns.specs.Resting.{IsReplyOf, IsTold}
use Rattle.smk_laws_turns.specs.Hubs.{Parts}
use Rattle.smk_laws_closes.specs.Closes.{GuardFails, HasTended, IsUnguarded, Learns, WasHalted}
use Rattle.smk_laws_closes.specs.Learning.{HasLearnt, HasLearntOf, IsOutcomeIn, IsSamePlan, IsToldOf, LookFails, LooksShort, closed_base}
use Rattle.smk_laws_closes.specs.Tending.{HasTendedOf, guards_if}
use Rattle.smk_laws_closes.proofs.Halts.{same_device}

no_job : {A : Type 0} (o : Option Job) (j : Job) → o ≡ None → o ≡ Some j → A
no_job o j none some = absurd (never (sym none ∙ some))
  where
    never : None ≡ Some j → ⊥
    never e = cc

-- what is so of the world before, too
pub acted_with :
    (act : Act) (P : World → List Event → Type 0) (X : World → Type 0) (a b : Device) (f : Bool) → WhereTold a X → HasActed act P a b f → HasActed act (λ w es. P w es × X w) a b f
acted_with act P X a b f told h =
    record {
      did = λ w1 e. let d = h.did w1 e in (d.0, d.1, (d.2.0, d.2.1, (d.2.2, told d.0 d.1), d.2.3));
      stays = h.stays;
      cause = h.cause;
      running = h.running;
      children = h.children;
    }

-- ## Learning

module _ (act : Act) (flow : Flow) (settings : Settings) (number : ℕ) (old : LivePlan) where
  abbrev Learnt : LivePlan → Result (Unit {0}) Fault → World → List Event → Type 0
  Learnt new answer w es = HasLearntOf flow settings number old new answer w es

  pub learnt_none : (a : Device) → slice_get old.base.jobs.jobs number ≡ None → HasActed act (Learnt old (Err fault.OutOfMemory)) a a (device_failed {T = Unit {0}} (Err fault.OutOfMemory))
  learnt_none a none = acted_nothing act (Learnt old (Err fault.OutOfMemory)) a (λ w j is. no_job (slice_get old.base.jobs.jobs number) j none is)

  pub learnt_fault :
      (f : Fault) (a b : Device) → (f ≡ fault.Device) ⊎ (f ≡ fault.OutOfMemory) → HasLooked act a b (device_failed {T = Outcome} (Err f)) →
      HasActed act (Learnt old (Err f)) a b (device_failed {T = Unit {0}} (Err f))
  learnt_fault f a b (inl e) looked =
      subst (λ (g : Fault). HasActed act (Learnt old (Err g)) a b (device_failed {T = Unit {0}} (Err g))) (sym e)
      (acted_as act (λ w es. AreLooks true es) (Learnt old (Err fault.Device)) a b true true refl (λ w es looks j is. LookFails looks)
      (subst (λ (x : Bool). HasActed act (λ w es. AreLooks x es) a b x) (ap (λ (g : Fault). device_failed {T = Outcome} (Err g)) e) looked.acted))
  learnt_fault f a b (inr e) looked =
      subst (λ (g : Fault). HasActed act (Learnt old (Err g)) a b (device_failed {T = Unit {0}} (Err g))) (sym e)
      (acted_as act (λ w es. AreLooks false es) (Learnt old (Err fault.OutOfMemory)) a b false false refl (λ w es looks j is. LooksShort looks)
      (subst (λ (x : Bool). HasActed act (λ w es. AreLooks x es) a b x) (ap (λ (g : Fault). device_failed {T = Outcome} (Err g)) e) looked.acted))

  quiet_answer : (answer : Result (Unit {0}) Fault) → IfErr answer (λ f. (is_device f ≡ false) × (f ≢ fault.Output)) → device_failed answer ≡ false
  quiet_answer (Ok u) h = refl
  quiet_answer (Err f) h = same_device f ∙ h.0

  other_answer : (answer : Result (Unit {0}) Fault) → IfErr answer (λ f. (is_device f ≡ false) × (f ≢ fault.Output)) → IfErr answer (λ f. is_device f ≡ false)
  other_answer (Ok u) h = tt
  other_answer (Err f) h = h.0

  pub learnt_told :
      (new : LivePlan) (job : Job) (o : Outcome) (answer : Result (Unit {0}) Fault) (a b : Device) →
      slice_get old.base.jobs.jobs number ≡ Some job → HasLooked act a b false → WhereTold a (IsOutcomeIn job o) →
      (old.settings ≡ settings → IsReplyOf flow settings (closed_base number o old.base) new answer) →
      IfErr answer (λ f. (is_device f ≡ false) × (f ≢ fault.Output)) → HasActed act (Learnt new answer) a b (device_failed answer)
  learnt_told new job o answer a b is looked told answers quiet =
      acted_as act (λ w es. AreLooks false es × IsOutcomeIn job o w) (Learnt new answer) a b false (device_failed answer) (sym (quiet_answer answer quiet))
      (λ w es h j other.
      IsToldOf o answer h.0 (subst (λ (x : Job). IsOutcomeIn x o w) (same_Some job j (sym is ∙ other)) h.1) answers (other_answer answer quiet))
      (acted_with act (λ w es. AreLooks false es) (IsOutcomeIn job o) a b false told looked.acted)

pub faults_other : (answer : Result (Unit {0}) Fault) → IfErr answer (λ f. (is_device f ≡ false) × (f ≢ fault.Output)) → IfErr answer (λ f. f ≢ fault.Output)
faults_other (Ok u) h = tt
faults_other (Err f) h = h.1

pub work_other : (f : Fault) → (f ≡ fault.Device) ⊎ (f ≡ fault.OutOfMemory) → f ≢ fault.Output
work_other f (inl e) = λ x. never (sym e ∙ x)
  where
    never : fault.Device ≡ fault.Output → ⊥
    never y = cc
work_other f (inr e) = λ x. never (sym e ∙ x)
  where
    never : fault.OutOfMemory ≡ fault.Output → ⊥
    never y = cc

-- ## Tending

guards_same : (j : Job) (how : End) → guards_of j how ≡ guards_if (is_good how) (Some j)
guards_same j Good = refl
guards_same j (Status n) = refl
guards_same j (NoOutput p) = refl
guards_same j (WrongKind p) = refl
guards_same j (BadMember p) = refl

guarded_well : (guards : List Path) (w : World) (es : List Event) → HasGuarded guards (Ok tt) w es → steps.HasGuarded guards es
guarded_well [] w es h = h.1
guarded_well (p ∷ ps) w es h = h

ok_err : {A : Type 0} (f : KeepFault) → ◌≡◌ {A = Result (Unit {0}) KeepFault} (Err f) (Ok tt) → A
ok_err f h = absurd (go h)
  where
    go : ◌≡◌ {A = Result (Unit {0}) KeepFault} (Err f) (Ok tt) → ⊥
    go e = cc

module _ (act : Act) (flow : Flow) (settings : Settings) (number : ℕ) (done : Bool) (came : Option Fault) (old : LivePlan) where
  abbrev Tended : LivePlan → Result (Unit {0}) Fault → World → List Event → Type 0
  Tended new answer w es = HasTendedOf flow settings number done came old new answer w es

  abbrev guards : List Path
  guards = guards_if done (slice_get old.base.jobs.jobs number)

  -- those of the job
  guards_are : (j : Job) (how : End) → slice_get old.base.jobs.jobs number ≡ Some j → is_good how ≡ done → guards ≡ guards_of j how
  guards_are j how is good = ap (λ o. guards_if done o) is ∙ (ap (λ d. guards_if d (Some j)) (sym good) ∙ sym (guards_same j how))

  -- the plan that is kept is the same
  same_live : (n : Parts) (j : Job) (how : End) (answer : Result (Unit {0}) Fault) (w : World) (es : List Event) → n.live ≡ old →
      HasTended flow settings number j how n w n.live answer es → HasTended flow settings number j how n w old answer es
  same_live n j how answer w es same h = subst (λ p. HasTended flow settings number j how n w p answer es) same h

  unguarded_by : (why : KeepFault) (gs : List Path) (n : Parts) (j : Job) (how : End) (w : World) (es : List Event) → guards_of j how ≡ gs →
      HasGuarded gs (Err why) w es → HasTended flow settings number j how n w n.live (Err (keep_fault why)) es
  unguarded_by why [] n j how w es are h = ok_err why h.0
  unguarded_by keep.Device (p ∷ ps) n j how w es are h = GuardFails es (subst (λ gs. IsCutShort (protect_requests gs) es) (sym are) h)
  unguarded_by keep.OutOfMemory (p ∷ ps) n j how w es are h = subst (HasTended flow settings number j how n w n.live (Err fault.OutOfMemory)) (sym h) IsUnguarded

  keep_same : (why : KeepFault) → keep_failed {T = Unit {0}} (Err why) ≡ device_failed {T = Unit {0}} (Err (keep_fault why))
  keep_same keep.Device = refl
  keep_same keep.OutOfMemory = refl

  pub unguarded : (why : KeepFault) (a b : Device) → HasActed act (HasGuarded guards (Err why)) a b (keep_failed {T = Unit {0}} (Err why)) →
      HasActed act (Tended old (Err (keep_fault why))) a b (device_failed {T = Unit {0}} (Err (keep_fault why)))
  unguarded why a b guarded =
      acted_as act (HasGuarded guards (Err why)) (Tended old (Err (keep_fault why))) a b _ _ (keep_same why)
      (λ w es h j how n is good live fault_is.
      same_live n j how (Err (keep_fault why)) w es live (unguarded_by why guards n j how w es (sym (guards_are j how is good)) h)) guarded

  some_fault : (o : Option Fault) → is_none o ≡ false → (f : Fault) × (o ≡ Some f)
  some_fault None h = absurd (never h)
    where
      never : true ≡ false → ⊥
      never e = cc
  some_fault (Some f) h = (f, refl)

  pub was_halted : (a b : Device) → is_none came ≡ false → HasActed act (HasGuarded guards (Ok tt)) a b false → HasActed act (Tended old (Ok tt)) a b false
  was_halted a b some guarded =
      let f = some_fault came some in
      acted_as act (HasGuarded guards (Ok tt)) (Tended old (Ok tt)) a b false false refl
      (λ w es h j how n is good live fault_is.
      same_live n j how (Ok tt) w es live
      (WasHalted es f.0 (subst (λ gs. steps.HasGuarded gs es) (guards_are j how is good) (guarded_well guards w es h)) (fault_is ∙ f.1))) guarded

  none_fault : (o : Option Fault) → is_none o ≡ true → o ≡ None
  none_fault None h = refl
  none_fault (Some f) h = absurd (never h)
    where
      never : false ≡ true → ⊥
      never e = cc

  pub learnt_then :
      (new : LivePlan) (answer : Result (Unit {0}) Fault) (a b c : Device) (f : Bool) → is_none came ≡ true → IsSamePlan old new → HasActed act (HasGuarded guards (Ok tt)) a b false →
      HasActed act (HasLearntOf flow settings number old new answer) b c f → HasActed act (Tended new answer) a c f
  learnt_then new answer a b c f none same guarded learnt =
      acted_then act (HasGuarded guards (Ok tt)) (HasLearntOf flow settings number old new answer) (Tended new answer) a b c f
      (λ w es fs follows h later learns j how n is good live fault_is.
      Learns es fs new answer (subst (λ gs. steps.HasGuarded gs es) (guards_are j how is good) (guarded_well guards w es h)) (fault_is ∙ none_fault came none)
      (subst (λ (p : LivePlan). IsSamePlan p new) (sym live) same)
      (subst (λ (p : LivePlan). HasLearnt flow settings number j p new (run w es) fs answer) (sym live) (learns j is))) guarded learnt

-- ## Telling

pub told_base :
    (settings : Settings) (number : ℕ) (o : Outcome) (old new : LivePlan) (told : Result (Unit {0}) PlanFault) → old.settings ≡ settings → IsLive new →
    OnOk told (HasClosed number o.entries o.sights old new) → OnOk told (IsTold settings (closed_base number o old.base) new)
told_base settings number o old new (Ok u) same alive h = record { alive = alive; settings_are = h.settings ∙ same; base_is = h.base }
told_base settings number o old new (Err f) same alive h = tt

pub refused_base :
    (settings : Settings) (number : ℕ) (o : Outcome) (old : LivePlan) (told : Result (Unit {0}) PlanFault) → old.settings ≡ settings →
    IfErr told (λ f. f ≢ NoMemory → IsRefusedNow old.settings (closed_base number o old.base) f) →
    IfErr told (λ f. f ≢ NoMemory → IsRefusedNow settings (closed_base number o old.base) f)
refused_base settings number o old (Ok u) same h = tt
refused_base settings number o old (Err f) same h = subst (λ t. f ≢ NoMemory → IsRefusedNow t (closed_base number o old.base) f) same h
