-- Ends of commands on what is kept.
use Rattle.std.proofs.Common.{◌≡◌, ◌⊎◌, Bool, true, false, List, [], inl, inr, refl, sym, subst, ◌∙◌, Result, Ok, Err}
use Rattle.std.specs.Prelude.{IsSome}
use Rattle.smk_world.specs.World.{World}
use Rattle.smk_world.specs.Calls.{HasCause, Rose}
use Rattle.smk_world.specs.Devices.{Device, Sunk, HasActed}
use Rattle.smk_world.specs.declared.event.Event.{Event}
use Rattle.smk_world.specs.Trees.{Act}
use Rattle.smk_keep_lock.specs.declared.fault.UnlockFault.{UnlockFault}
use Rattle.smk_keep_lock.specs.declared.fault.UnlockFault.TheVariants as unlock
use Rattle.smk_keep_lock.specs.Unlocking.{of_unlock}
use Rattle.smk_keep_lock.specs.Unlocking as unlocking
use Rattle.smk_keep_forget.specs.declared.fault.ForgetFault.{ForgetFault}
use Rattle.smk_keep_forget.specs.declared.fault.ForgetFault.TheVariants as forget
use Rattle.smk_keep_forget.specs.Answers.{of_forget}
use Rattle.smk_keep_forget.specs.Answers as forgetting
use Rattle.smk_report.specs.declared.fault.Fault.{Fault}
use Rattle.smk_plan_preview.specs.Faults.{as_call}
use Rattle.smk_cli_calls.specs.Ends.{EndsWith, fault_of, of_device, of_sink}

-- ## Kinds of faults

pub unlock_device : (r : Result (Unit {0}) UnlockFault) → unlocking.is_device r ≡ of_device (fault_of (as_call of_unlock r))
unlock_device (Ok u) = refl
unlock_device (Err unlock.Device) = refl
unlock_device (Err unlock.Output) = refl
unlock_device (Err unlock.OutOfMemory) = refl

pub unlock_output : (r : Result (Unit {0}) UnlockFault) → unlocking.is_output r ≡ of_sink (fault_of (as_call of_unlock r))
unlock_output (Ok u) = refl
unlock_output (Err unlock.Device) = refl
unlock_output (Err unlock.Output) = refl
unlock_output (Err unlock.OutOfMemory) = refl

pub forget_device : (r : Result (Unit {0}) ForgetFault) → forgetting.is_device r ≡ of_device (fault_of (as_call of_forget r))
forget_device (Ok u) = refl
forget_device (Err forget.Locked) = refl
forget_device (Err (forget.StampSeen p)) = refl
forget_device (Err forget.Device) = refl
forget_device (Err forget.Output) = refl
forget_device (Err forget.OutOfMemory) = refl

pub forget_output : (r : Result (Unit {0}) ForgetFault) → forgetting.is_output r ≡ of_sink (fault_of (as_call of_forget r))
forget_output (Ok u) = refl
forget_output (Err forget.Locked) = refl
forget_output (Err (forget.StampSeen p)) = refl
forget_output (Err forget.Device) = refl
forget_output (Err forget.Output) = refl
forget_output (Err forget.OutOfMemory) = refl

-- ## Ends

stays_or_rose : {act : Act} {P : World → List Event → Type 0} {a b : Device} (f : Bool) → HasActed act P a b f → (IsSome a.world → IsSome b.world) ⊎ Rose a.faults b.faults
stays_or_rose true h = inr (h.cause.rose refl)
stays_or_rose false h = inl (h.stays refl)

-- calls of the device, and puts, each fault with its cause
pub acted_end :
    {act : Act} {P : World → List Event → Type 0} {a b : Device} {p q : Sunk} (answer mapped : Result (Unit {0}) Fault) (device output : Bool) → answer ≡ mapped →
    device ≡ of_device (fault_of mapped) → output ≡ of_sink (fault_of mapped) → HasActed act P a b device → HasCause p.faults q.faults output → a.running ≡ [] →
    EndsWith (fault_of answer) a b p q
acted_end {a = a} {b = b} {p = p} {q = q} answer mapped device output is of_d of_o acted put none =
    subst (λ r. EndsWith (fault_of r) a b p q) (sym is)
    (record {
      device = subst (HasCause a.faults b.faults) of_d acted.cause;
      output = subst (HasCause p.faults q.faults) of_o put;
      children = inl (acted.running ∙ none);
      stays = stays_or_rose device acted;
    })
