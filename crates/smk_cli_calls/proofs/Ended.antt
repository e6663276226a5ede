-- Ends of calls, one after another.
use native.Mathlib.Omega.{arith}
use Rattle.std.proofs.Common.{◌≡◌, ◌⊎◌, ◌≤◌, ℕ, Bool, true, false, List, [], inl, inr, refl, sym, ap, ◌∙◌, Result, Ok, Err, true≢false}
use Rattle.std.specs.Prelude.{IsSome, IfErr, is_ok}
use Rattle.smk_world.specs.Calls.{HasCause, Rose}
use Rattle.smk_world.specs.Devices.{Device, Sunk, HasLooked}
use Rattle.smk_world.specs.Trees.{Path, Act}
use Rattle.smk_flow.specs.Flows.{Flow}
use Rattle.smk_chain.specs.declared.jobs.Jobs.{Jobs}
use Rattle.smk_store.specs.Stores.{Known}
use Rattle.smk_trigger.specs.declared.reason.State.{State}
use Rattle.smk_report.specs.declared.fault.Fault.{Fault}
use Rattle.smk_report.specs.Lines.{Text}
use Rattle.smk_cli_entry.specs.Faults.{is_device, is_sink, device_failed}
use Rattle.smk_run.specs.Reports.{HasReported}
use Rattle.smk_run.specs.Runs as run
use Rattle.smk_run.proofs.Rising.{rose_earlier}
use Rattle.smk_make.specs.Making.{HasCarriedOut}
use Rattle.smk_make.proofs.Ends.{carried_children, carried_stays, carried_cause, carried_output, carried_quiet}
use Rattle.smk_cli_calls.specs.Ends.{EndsAs, fault_of, of_device, of_sink}
use Rattle.smk_cli_calls.specs.Listing.{IsFault}
use Rattle.smk_cli_calls.proofs.SameKinds.{device_as, output_as}

cause_as : (a b : ℕ) (F G : Bool) → F ≡ G → HasCause a b F → HasCause a b G
cause_as a b F G same h = record { later = h.later; rose = λ g. h.rose (same ∙ g) }

-- what didn't happen has a cause
pub no_cause : (a b : ℕ) (F : Bool) → a ≤ b → F ≡ false → HasCause a b F
no_cause a b F le never = record { later = le; rose = λ f. absurd (true≢false (sym f ∙ never)) }

-- an answer's fault is the device's exactly where the device failed
failed_of : {T : Type 0} (r : Result T Fault) → device_failed r ≡ of_device (fault_of r)
failed_of (Ok t) = refl
failed_of (Err f) = refl

unless_rose : (P : Type 0) (a b c : ℕ) → a ≤ b → P ⊎ Rose b c → P ⊎ Rose a c
unless_rose P a b c le (inl p) = inl p
unless_rose P a b c le (inr r) = inr (rose_earlier a b c le r)

-- what is told on unless the device failed
looked_stays : {act : Act} {a b : Device} (f : Bool) → HasLooked act a b f → (IsSome a.world → IsSome b.world) ⊎ Rose a.faults b.faults
looked_stays true h = inr (h.acted.cause.rose refl)
looked_stays false h = inl (h.acted.stays refl)

-- what is well has no fault of the sink
ok_quiet : {T : Type 0} (r : Result T Fault) → is_ok r ≡ true → of_sink (fault_of r) ≡ false
ok_quiet (Ok t) e = refl
ok_quiet (Err f) e = absurd (true≢false (sym e))

-- a fault of a step that looks, and puts nothing
pub early : {act : Act} {a b : Device} (f : Fault) (p : Sunk) → HasLooked act a b (is_device f) → a.running ≡ [] → is_sink f ≡ false → EndsAs (Err f) a b p p
early f p looked none quiet = record {
  ends = record {
    device = looked.acted.cause;
    output = no_cause p.faults p.faults (is_sink f) (omega arith) quiet;
    children = inl (looked.acted.running ∙ none);
    stays = looked_stays (is_device f) looked;
  };
  quiet = λ e. refl;
}

stays_then : (a b c : Device) → (IsSome a.world → IsSome b.world) → (IsSome b.world → IsSome c.world) ⊎ Rose b.faults c.faults → (IsSome a.world → IsSome c.world) ⊎ Rose b.faults c.faults
stays_then a b c first (inl h) = inl (λ some. h (first some))
stays_then a b c first (inr r) = inr r

-- looks, and then an end
pub later_on : (act : Act) (r : Result (Unit {0}) Fault) (a b c : Device) (p q : Sunk) → HasLooked act a b false → EndsAs r b c p q → EndsAs r a c p q
later_on act r a b c p q looked h =
    let le = looked.acted.cause.later in
    record {
      ends = record {
        device = record { later = (let more = h.ends.device.later in omega (arith, le, more)); rose = λ e. rose_earlier a.faults b.faults c.faults le (h.ends.device.rose e) };
        output = h.ends.output;
        children = unless_rose (c.running ≡ []) a.faults b.faults c.faults le h.ends.children;
        stays = unless_rose (IsSome a.world → IsSome c.world) a.faults b.faults c.faults le (stays_then a b c (looked.acted.stays refl) h.ends.stays);
      };
      quiet = h.quiet;
    }

-- the end of what was made
pub made_end : (act : Act) (flow : Flow) (cores : ℕ) (targets : List Path) (jobs : Jobs) (states : List State) (stored : List Known) (r : Result (Unit {0}) Fault) (a b : Device) (p q : Sunk)
    → a.running ≡ [] → HasCarriedOut act flow cores targets jobs states stored r a b p q → EndsAs r a b p q
made_end act flow cores targets jobs states stored r a b p q none h = record {
  ends = record {
    device = cause_as a.faults b.faults (run.is_device r) (of_device (fault_of r)) (device_as r) (carried_cause act flow cores targets jobs states stored r a b p q h);
    output = cause_as p.faults q.faults (run.is_output r) (of_sink (fault_of r)) (output_as r) (carried_output act flow cores targets jobs states stored r a b p q h);
    children = carried_children act flow cores targets jobs states stored r a b p q h none;
    stays = carried_stays act flow cores targets jobs states stored r a b p q h;
  };
  quiet = λ e. carried_quiet act flow cores targets jobs states stored r a b p q h (output_as r ∙ ok_quiet r e);
}

-- a listing's fault isn't the device's
pub listing_calm : (r : Result (Unit {0}) Fault) → IfErr r IsFault → device_failed r ≡ false
listing_calm (Ok u) h = refl
listing_calm (Err f) (inl e) = ap is_device e
listing_calm (Err f) (inr e) = ap is_device e

-- looks, and then text was put
pub put_end : {act : Act} {a b : Device} {p q : Sunk} (P : Text → Type 0) (r : Result (Unit {0}) Fault) → IfErr r IsFault → HasLooked act a b false → a.running ≡ [] → HasReported P p q (run.is_output r) → EndsAs r a b p q
put_end {act} {a} {b} {p} {q} P r faults looked none told = record {
  ends = record {
    device = no_cause a.faults b.faults (of_device (fault_of r)) looked.acted.cause.later (sym (failed_of r) ∙ listing_calm r faults);
    output = cause_as p.faults q.faults (run.is_output r) (of_sink (fault_of r)) (output_as r) told.cause;
    children = inl (looked.acted.running ∙ none);
    stays = inl (looked.acted.stays refl);
  };
  quiet = λ e. told.quiet (output_as r ∙ ok_quiet r e);
}
