-- What a run makes of a stand at which something is refused, or memory is wanting.
use Rattle.std.proofs.Common.{◌≡◌, ◌⊎◌, inl, inr, List, refl, sym, ap, subst, ◌∙◌, Option, Result, Ok, Err}
use Rattle.smk_world.specs.declared.event.Event.{Event}
use Rattle.smk_world.specs.World.{World}
use Rattle.smk_plan.specs.States.{Plan}
use Rattle.smk_plan_live.specs.declared.base.Base.{Base}
use Rattle.smk_plan_live.specs.Live.{LivePlan}
use Rattle.smk_report.specs.declared.fault.Fault.{Fault}
use Rattle.smk_report.specs.declared.fault.Fault.TheVariants as fault
use Rattle.smk_drive.specs.Moments.{Rules, progress_of, seen}
use Rattle.smk_drive.specs.Refusals.{ChainRefuses, PlanRefuses}
use Rattle.smk_drive_course.specs.Refusals.{PlansAreRefused}
use Rattle.smk_drive_course.specs.Stands.{AtRest, GoesBy, IsRefused, LacksMemory, Stand, first_fault, halted_by, lists, replanned}
use Rattle.smk_laws_turns.specs.Resting.{HasGoneBy, IsFirstRefused, IsResting}
use Rattle.smk_laws_turns.proofs.Rests.{in_force}

err_not_ok : (f : Fault) → ◌≡◌ {A = Result (Unit {0}) Fault} (Err f) (Ok tt) → ⊥
err_not_ok f h = cc

same_err : (f g : Fault) → ◌≡◌ {A = Result (Unit {0}) Fault} (Err f) (Err g) → g ≡ f
same_err f g h = cc

module _ (rules : Rules) (entry w : World) (u : Stand) (events : List Event) (base : Base) (live : LivePlan) (is : IsResting rules w u base) where
  -- the fault comes at the stand, whichever plan is in force
  halted_there :
      (f : Fault) → ((plan : Option Plan) → GoesBy rules entry (replanned plan u) w events (halted_by f (replanned plan u))) →
      (f ≡ fault.OutOfMemory) ⊎ IsFirstRefused rules w u.begun base.jobs f → HasGoneBy rules entry w u events base live (Err f)
  halted_there f goes refused =
      let p = in_force rules w u.begun (lists u) is.formed in
      record {
        next = replanned p.0 u;
        to = halted_by f (replanned p.0 u);
        replanned = AtRest p.0 is.at_rest p.1;
        goes_by = goes p.0;
        same = record { begun = refl; runs = refl; broken = refl };
        halted = ap (λ (o : Option Fault). first_fault o f) is.unhalted;
        plan = λ h. absurd (err_not_ok f h);
        clear = λ h. absurd (err_not_ok f h);
        refused = λ g h. subst (λ x. (x ≡ fault.OutOfMemory) ⊎ IsFirstRefused rules w u.begun base.jobs x) (sym (same_err f g h)) refused;
      }

  pub lacks_memory : HasGoneBy rules entry w u events base live (Err fault.OutOfMemory)
  lacks_memory = halted_there fault.OutOfMemory (λ plan. LacksMemory) (inl refl)

  -- the first plan of the chain is refused
  pub first_refused : (f : Fault) → IsFirstRefused rules w u.begun base.jobs f → HasGoneBy rules entry w u events base live (Err f)
  first_refused f r =
      let chain : ChainRefuses rules (seen rules w) (progress_of w u.begun) (lists u) f =
      subst (λ L. ChainRefuses rules (seen rules w) (progress_of w u.begun) L f) (r.lists ∙ sym is.listed) (PlanRefuses r.plan f r.rest r.is r.first) in
      halted_there f (λ plan. IsRefused f is.unhalted (PlansAreRefused f is.at_rest chain)) (inr r)
