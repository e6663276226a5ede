-- The kinds of faults with which a round ends.
use Rattle.std.proofs.Common.{◌≡◌, ◌≢◌, ◌⊎◌, inl, inr, true, false, refl, sym, ap, ◌∙◌, Result, Ok, Err, true≢false}
use Rattle.std.specs.Prelude.{IfErr}
use Rattle.smk_report.specs.declared.fault.Fault.{Fault}
use Rattle.smk_report.specs.declared.fault.Fault.TheVariants as fault
use Rattle.smk_plan_preview.specs.Faults.{device_failed, is_sink, is_told}
use Rattle.smk_plan_preview.specs.Faults as preview
use Rattle.smk_drive_step.specs.Crews.{is_device}

pub same_device : (f : Fault) → is_device f ≡ preview.is_device f
same_device fault.Device = refl
same_device f = refl

kind_or_sink : (f : Fault) → (is_sink f ≡ true) ⊎ ((f ≡ fault.Device) ⊎ ((f ≡ fault.OutOfMemory) ⊎ (is_told f ≡ true)))
kind_or_sink fault.Device = inr (inl refl)
kind_or_sink fault.OutOfMemory = inr (inr (inl refl))
kind_or_sink fault.Output = inl refl
kind_or_sink f = inr (inr (inr refl))

-- a fault of looks is of the device or for want of memory, or it is a refusal
pub kinds : (f : Fault) → is_sink f ≡ false → (f ≡ fault.Device) ⊎ ((f ≡ fault.OutOfMemory) ⊎ (is_told f ≡ true))
kinds f none = go (kind_or_sink f)
  where
    go : (is_sink f ≡ true) ⊎ ((f ≡ fault.Device) ⊎ ((f ≡ fault.OutOfMemory) ⊎ (is_told f ≡ true))) → (f ≡ fault.Device) ⊎ ((f ≡ fault.OutOfMemory) ⊎ (is_told f ≡ true))
    go (inl e) = absurd (true≢false (sym e ∙ none))
    go (inr k) = k

told_or_not : (f : Fault) → (is_told f ≡ false) ⊎ (is_device f ≡ false)
told_or_not fault.Device = inl refl
told_or_not f = inr refl

-- a refusal is none of the device
pub told_quiet : (f : Fault) → is_told f ≡ true → is_device f ≡ false
told_quiet f told = go (told_or_not f)
  where
    go : (is_told f ≡ false) ⊎ (is_device f ≡ false) → is_device f ≡ false
    go (inl e) = absurd (true≢false (sym told ∙ e))
    go (inr e) = e

pub no_output : (f : Fault) → is_sink f ≡ false → f ≢ fault.Output
no_output f none is = true≢false (sym (ap is_sink is) ∙ none)

-- where no fault is of the device no call has failed
pub quiet_failed : (r : Result (Unit {0}) Fault) → IfErr r (λ f. (is_device f ≡ false) × (f ≢ fault.Output)) → device_failed r ≡ false
quiet_failed (Ok u) quiet = refl
quiet_failed (Err f) quiet = sym (same_device f) ∙ quiet.0

pub quiet_other : (r : Result (Unit {0}) Fault) → IfErr r (λ f. (is_device f ≡ false) × (f ≢ fault.Output)) → IfErr r (λ f. f ≢ fault.Output)
quiet_other (Ok u) quiet = tt
quiet_other (Err f) quiet = quiet.1
