-- What faults make of why no job begins any more.
use Rattle.std.proofs.Common.{◌≡◌, Bool, true, false, ◌||◌, refl, sym, ap, subst, ◌∙◌, inl, inr, Option, Some, None, Result, Ok, Err}
use Rattle.std.proofs.Math.Bool.{or-false, or_assoc}
use Rattle.smk_report.specs.declared.fault.Fault.{Fault}
use Rattle.smk_report.specs.declared.fault.Fault.TheVariants as fault
use Rattle.smk_drive_course.specs.Driven.{device_failed}
use Rattle.smk_drive_course.specs.Reports as reports
use Rattle.smk_drive_step.specs.declared.halt.Halt.{Halt}
use Rattle.smk_drive_step.specs.Crews.{halted_by, is_device, or_later}
use Rattle.smk_laws_turns.specs.Hubs.{Parts}
use Rattle.smk_drive_hub.specs.Keeping.{heeded}
use Rattle.smk_laws_turns.specs.GrownIn.{IsHaltedOnce}
use Rattle.smk_laws_closes.specs.Turns.{IsHaltedOn}

pub device_is : (f : Fault) → reports.is_device f ≡ true → f ≡ fault.Device
device_is fault.Device h = refl
device_is f h = absurd (never h)
  where
    never : false ≡ true → ⊥
    never e = cc

pub same_device : (f : Fault) → reports.is_device f ≡ is_device f
same_device fault.Device = refl
same_device f = refl

one_fault : (f g : Fault) → Some f ≡ Some g → f ≡ g
one_fault f g h = cc

first_stays : (o : Option Fault) (g f : Fault) → o ≡ Some f → Some (or_later o g) ≡ Some f
first_stays None g f h = absurd (never h)
  where
    never : None ≡ Some f → ⊥
    never e = cc
first_stays (Some x) g f h = h

first_sound : (o : Option Fault) (waits : Bool) (g : Fault) → (o ≡ Some fault.Device → waits ≡ true) → Some (or_later o g) ≡ Some fault.Device → (waits || is_device g) ≡ true
first_sound None waits g sound h = ap (λ f. waits || is_device f) (one_fault g fault.Device h) ∙ either waits
  where
    either : (b : Bool) → (b || true) ≡ true
    either true = refl
    either false = refl
first_sound (Some x) waits g sound h = ap (λ b. b || is_device g) (sound h)

pub on_same : (h : Halt) → IsHaltedOn h h false
on_same h = record { waits = sym (or-false h.only_waits); stays = λ f e. e; sound = λ s. s }

pub on_fault : (g : Fault) (h : Halt) → IsHaltedOn h (halted_by g h) (is_device g)
on_fault g h =
    record {
      waits = refl;
      stays = λ f e. first_stays h.fault g f e;
      sound = λ s. record { some = λ waits none. never (or_later h.fault g) none; device = λ e. first_sound h.fault h.only_waits g s.device e };
    }
  where
    never : (f : Fault) → Some f ≡ None → ⊥
    never f e = cc

pub on_then : (a b c : Halt) (f g : Bool) → IsHaltedOn a b f → IsHaltedOn b c g → IsHaltedOn a c (f || g)
on_then a b c f g x y =
    record {
      waits = y.waits ∙ (ap (λ w. w || g) x.waits ∙ or_assoc a.only_waits f g);
      stays = λ k e. y.stays k (x.stays k e);
      sound = λ s. y.sound (x.sound s);
    }

pub on_answer : (a : Result (Unit {0}) Fault) (h : Parts) → IsHaltedOn h.halt (heeded a h).halt (device_failed a)
on_answer (Ok u) h = on_same h.halt
on_answer (Err f) h = subst (IsHaltedOn h.halt (halted_by f h.halt)) (sym (same_device f)) (on_fault f h.halt)

-- the same where a fault came at most once
pub on_once : (a b : Halt) (f : Bool) → IsHaltedOnce a b f → IsHaltedOn a b f
on_once a b f (inl h) = subst (λ x. IsHaltedOn a x f) (sym h.1) (subst (IsHaltedOn a a) (sym h.0) (on_same a))
on_once a b f (inr h) = subst (λ x. IsHaltedOn a x f) (sym h.3) (subst (IsHaltedOn a (halted_by h.0 a)) h.1 (on_fault h.0 a))
