-- The refusals that a run meets, at its entry and at rests.
use Rattle.std.specs.Prelude.{◌≡◌, ◌⊎◌, ◌<◌, ℕ, List, [], ◌∷◌, ◌++◌, ◌^◌, IsTrue, Some}
use Rattle.smk_world.specs.World.{World, IsFormed}
use Rattle.smk_world.specs.Trees.{Each, outs_of}
use Rattle.smk_world.specs.declared.recipe.Out.{Out}
use Rattle.smk_world.specs.declared.event.Event.{Event}
use Rattle.smk_flow.specs.declared.job.Job.{Job}
use Rattle.smk_flow.specs.Flows.{rule_name}
use Rattle.smk_store.specs.Images.{Image}
use Rattle.smk_chain.specs.Derive.{Listings}
use Rattle.smk_trigger.specs.declared.reason.State.{State}
use Rattle.smk_plan.specs.States.{Progress}
use Rattle.smk_report.specs.declared.fault.Fault.{Fault}
use Rattle.smk_report.specs.declared.fault.Fault.TheVariants as fault
use Rattle.smk_drive.specs.Moments.{Rules, Moment, IsMoment, seen, is_rest, progress_of, serial_of, begun_of, begins, staged_now}
use Rattle.smk_drive.specs.Lawful.{goes_on, first_of}
use Rattle.smk_drive.specs.Refusals.{ChainRefuses, ClashingChainRefuses, PlansRefuse, record_length}
use Rattle.smk_laws_plan.specs.Current.{IsComplete}
use Rattle.smk_drive_course.specs.Moments.{AtEachEvent}
use Rattle.smk_drive_course.specs.Lawful.{may_start}

-- the same fault; where there are too many paths the count may be another
abbrev pub IsSameFault : Fault → Fault → Type 0
IsSameFault f g = (f ≡ g) ⊎ ((m : ℕ) × (n : ℕ) × (f ≡ fault.TooManyPaths m) × (g ≡ fault.TooManyPaths n))

-- ## At a rest

-- the job that is to begin, in a run that goes on and whose plans aren't refused
pub record IsNext (rules : Rules) (m : Moment) (e : Job × State) : Type 0 where
  pub going : IsTrue (goes_on rules m)
  pub first : first_of (may_start rules m) ≡ Some e
  pub unrefused : (f : Fault) → ¬ PlansRefuse rules m f

-- At the entry or a rest of a run: a refusal of its plans; or the job that is to begin has no serial left, or too long a record.
pub data MomentRefuses (rules : Rules) (entry : World) (m : Moment) : Fault → Type 0 where
  PlansAreRefused : (f : Fault) → IsTrue (is_rest m.world m.begun) → PlansRefuse rules m f → MomentRefuses rules entry m f
  NoSerial :
      (e : Job × State) →
      IsTrue (is_rest m.world m.begun) → IsNext rules m e → serial_of rules entry m e.0 e.1 ≡ 2 ^ 64 → MomentRefuses rules entry m fault.Serials
  LongRecord :
      (e : Job × State) (o : Out) (before after : List Out) →
      IsTrue (is_rest m.world m.begun) →
      IsNext rules m e →
      serial_of rules entry m e.0 e.1 < 2 ^ 64 →
      outs_of e.0.recipe ≡ before ++ o ∷ after →
      Each (λ (p : Out). ¬ (1048576 < record_length rules m (begun_of rules entry m e) p)) before →
      1048576 < record_length rules m (begun_of rules entry m e) o →
      MomentRefuses rules entry m (fault.TooLong (rule_name rules.flow e.0.rule) (record_length rules m (begun_of rules entry m e) o))

-- ## In a run

-- no earlier moment refuses anything
abbrev pub NoneBefore : Rules → World → List Event → Type 0
NoneBefore rules entry events = AtEachEvent rules entry events (λ m e. (f : Fault) → ¬ MomentRefuses rules entry m f)

-- This is the first refusal that the run meets.
pub record RunRefuses (rules : Rules) (entry : World) (log : List Event) (f : Fault) : Type 0 where
  pub events : List Event
  pub rest : List Event
  pub split : log ≡ events ++ rest
  pub moment : Moment
  pub is_moment : IsMoment rules entry events moment
  pub none_before : NoneBefore rules entry events
  pub refuses : MomentRefuses rules entry moment f

-- No job begins at or after a moment that refuses something.
abbrev pub BeginsUnrefused : Rules → World → List Event → Type 0
BeginsUnrefused rules entry log =
    AtEachEvent rules entry log (λ m e.
    Each (λ (k : Job × State). IsTrue (begins rules m e k.0) → ((f : Fault) → ¬ MomentRefuses rules entry m f) × NoneBefore rules entry m.events) (staged_now m.plan))

-- ## One refusal

-- A chain of plans of a complete image is refused in one way;
abbrev pub OneChainRefusal : Type 0
OneChainRefusal =
    (rules : Rules) (image : Image) (progress : Progress) (lists : Listings) (f g : Fault) →
    IsComplete image → ChainRefuses rules image progress lists f → ChainRefuses rules image progress lists g → IsSameFault f g

-- and of a run there is one first refusal.
abbrev pub OneRefusal : Type 0
OneRefusal =
    (rules : Rules) (entry : World) (log : List Event) (f g : Fault) →
    IsFormed entry → RunRefuses rules entry log f → RunRefuses rules entry log g → IsSameFault f g

-- ## Clashes

-- At a rest of the run a derivation of the chain is refused so, and its own jobs clash.
pub record ClashingRunRefuses (rules : Rules) (entry : World) (log : List Event) (f : Fault) : Type 0 where
  pub events : List Event
  pub rest : List Event
  pub split : log ≡ events ++ rest
  pub moment : Moment
  pub is_moment : IsMoment rules entry events moment
  pub at_rest : IsTrue (is_rest moment.world moment.begun)
  pub chain : ClashingChainRefuses rules (seen rules moment.world) (progress_of moment.world moment.begun) moment.from f
