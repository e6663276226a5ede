-- The outcome by the answer.
use Rattle.std.proofs.Common.{◌≡◌, ◌⊎◌, false, inl, inr, refl, sym, ap, subst, ◌∙◌, Option, Some, Result, Err}
use Rattle.smk_world.specs.Devices.{Device, Sunk}
use Rattle.smk_report.specs.declared.fault.Fault.{Fault}
use Rattle.smk_report.specs.declared.fault.Fault.TheVariants as fault
use Rattle.smk_cli_calls.specs.Ends.{EndsWith, fault_of}
use Rattle.smk_cli_calls.proofs.Ended.{no_cause}
use Rattle.smk_cli_calls.specs.Lines.{IsOutcome}

-- an end with this fault is one with that of the outcome
pub ends_as : (answer told : Option Fault) (a b : Device) (p q : Sunk) → IsOutcome answer told → EndsWith answer a b p q → EndsWith told a b p q
ends_as answer told a b p q (inl same) h = subst (λ x. EndsWith x a b p q) (sym same) h
ends_as answer told a b p q (inr memory) h =
    subst (λ x. EndsWith x a b p q) (sym memory.1) (record {
      device = no_cause a.faults b.faults false h.device.later refl;
      output = no_cause p.faults q.faults false h.output.later refl;
      children = h.children;
      stays = h.stays;
    })

-- an answer with this fault, or for want of memory, has such an outcome
pub outcome_refused : (f : Fault) (r : Result (Unit {0}) Fault) (told : Option Fault) → IsOutcome (fault_of r) told → (r ≡ Err f) ⊎ (r ≡ Err fault.OutOfMemory) → (told ≡ Some f) ⊎ (told ≡ Some fault.OutOfMemory)
outcome_refused f r told (inr memory) h = inr memory.1
outcome_refused f r told (inl same) (inl e) = inl (same ∙ ap fault_of e)
outcome_refused f r told (inl same) (inr e) = inr (same ∙ ap fault_of e)
