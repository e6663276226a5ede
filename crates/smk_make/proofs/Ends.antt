-- What is left of the device and the sink once what was planned is made.
use Rattle.std.proofs.Common.{◌≡◌, ◌⊎◌, ◌≤◌, ℕ, Bool, true, false, List, [], inl, inr, refl, sym, ap, subst, ◌∙◌, Result, Ok, Err, arith, true≢false}
use Rattle.std.specs.Prelude.{IsSome}
use Rattle.smk_world.specs.Calls.{HasCause, Rose}
use Rattle.smk_world.specs.Devices.{Device, Sunk}
use Rattle.smk_world.specs.Trees.{Path, Act}
use Rattle.smk_flow.specs.Flows.{Flow}
use Rattle.smk_chain.specs.declared.jobs.Jobs.{Jobs}
use Rattle.smk_store.specs.declared.fault.StoreFault.{StoreFault}
use Rattle.smk_store.specs.declared.fault.StoreFault.TheVariants as store
use Rattle.smk_store.specs.Faults.{store_failed}
use Rattle.smk_store.specs.Stores.{Known}
use Rattle.smk_trigger.specs.declared.reason.State.{State}
use Rattle.smk_report.specs.declared.fault.Fault.{Fault}
use Rattle.smk_report.specs.declared.fault.Fault.TheVariants as fault
use Rattle.smk_run.specs.declared.tally.Tally.{Tally}
use Rattle.smk_run.specs.Duties.{Due}
use Rattle.smk_run.specs.Turns.{Turn}
use Rattle.smk_run.specs.Runs.{IsOutcome, is_output, is_device, is_output_fault, is_device_fault}
use Rattle.smk_run.proofs.Rising.{rose_earlier}
use Rattle.smk_run.proofs.Running.{device_outcome}
use Rattle.smk_report.specs.Faults.{of_store}
use Rattle.smk_make.specs.Making.{Concludes, HasCarriedOut, GoesOn, NotFirm, NoMemory, Made}
use Rattle.smk_make.proofs.Counting.{first_status}
use Rattle.smk_make.proofs.Made.{verdict, of_report_quiet}

-- ## A run

device_made : (flow : Flow) (dues : List Due) (turns : List Turn) (failed : Bool) (ended : Result Tally Fault) (result : Result (Unit {0}) Fault)
    → is_device result ≡ true → Concludes ended result → IsOutcome flow dues turns failed ended → failed ≡ true
device_made flow dues turns failed (Err f) result e same answer = device_outcome flow dues turns failed (Err f) (sym (ap is_device same) ∙ e) answer
device_made flow dues turns failed (Ok tally) result e (inl same) answer =
    absurd (true≢false (sym e ∙ (verdict tally result same (λ f first. first_status flow turns f (sym answer.1.first ∙ first))).device))
device_made flow dues turns failed (Ok tally) result e (inr (f, same, kind)) answer = absurd (true≢false (sym e ∙ ap is_device same ∙ of_report_quiet f kind))

-- what holds unless it rose, by whether a call failed
unless : (failed : Bool) (P R : Type 0) → (failed ≡ true → R) → (failed ≡ false → P) → P ⊎ R
unless true P R bad well = inr (bad refl)
unless false P R bad well = inl (well refl)

-- ## Faults of the store

device_of_store : (f : StoreFault) → is_device_fault (of_store f) ≡ store_failed {T = Unit {0}} (Err f)
device_of_store (store.StampSeen p) = refl
device_of_store store.Device = refl
device_of_store store.OutOfMemory = refl

output_of_store : (f : StoreFault) → is_output_fault (of_store f) ≡ false
output_of_store (store.StampSeen p) = refl
output_of_store store.Device = refl
output_of_store store.OutOfMemory = refl

still_later : (a b : Device) → b ≡ a → a.faults ≤ b.faults
still_later a b same = subst (λ (d : Device). a.faults ≤ d.faults) (sym same) (omega arith)

module _ (act : Act) (flow : Flow) (cores : ℕ) (targets : List Path) (jobs : Jobs) (states : List State) (stored : List Known) (result : Result (Unit {0}) Fault) where
  -- ## Once all is firm

  goes_later : (a b : Device) (p q : Sunk) (settled : Result (Unit {0}) StoreFault) → GoesOn act flow cores targets jobs states stored result a b p q settled → a.faults ≤ b.faults
  goes_later a b p q _ (NotFirm f is same unput) = still_later a b same
  goes_later a b p q _ (NoMemory u is same unput) = still_later a b same
  goes_later a b p q _ (Made u duties for meant made) = made.ran.cause.later

  goes_children : (a b : Device) (p q : Sunk) (settled : Result (Unit {0}) StoreFault) → a.running ≡ [] → GoesOn act flow cores targets jobs states stored result a b p q settled → (b.running ≡ []) ⊎ Rose a.faults b.faults
  goes_children a b p q _ none (NotFirm f is same unput) = inl (ap (λ (d : Device). d.running) same ∙ none)
  goes_children a b p q _ none (NoMemory u is same unput) = inl (ap (λ (d : Device). d.running) same ∙ none)
  goes_children a b p q _ none (Made u duties for meant made) = unless made.failed (b.running ≡ []) (Rose a.faults b.faults) made.ran.cause.rose made.ran.idle

  goes_stays : (o a b : Device) (p q : Sunk) (settled : Result (Unit {0}) StoreFault) → (store_failed settled ≡ false → IsSome o.world → IsSome a.world) → HasCause o.faults a.faults (store_failed settled)
      → GoesOn act flow cores targets jobs states stored result a b p q settled → (IsSome o.world → IsSome b.world) ⊎ Rose o.faults b.faults
  goes_stays o a b p q _ stays cause (NotFirm f is same unput) =
      unless (store_failed {T = Unit {0}} (Err f)) (IsSome o.world → IsSome b.world) (Rose o.faults b.faults)
      (λ e. subst (λ (d : Device). Rose o.faults d.faults) (sym same) (cause.rose e))
      (λ e some. subst (λ (d : Device). IsSome d.world) (sym same) (stays e some))
  goes_stays o a b p q _ stays cause (NoMemory u is same unput) = inl (λ some. subst (λ (d : Device). IsSome d.world) (sym same) (stays refl some))
  goes_stays o a b p q _ stays cause (Made u duties for meant made) =
      unless made.failed (IsSome o.world → IsSome b.world) (Rose o.faults b.faults) (λ e. rose_earlier o.faults a.faults b.faults cause.later (made.ran.cause.rose e)) (λ e some. made.ran.stays e (stays refl some))

  goes_rose : (o a b : Device) (p q : Sunk) (settled : Result (Unit {0}) StoreFault) → HasCause o.faults a.faults (store_failed settled) → is_device result ≡ true
      → GoesOn act flow cores targets jobs states stored result a b p q settled → Rose o.faults b.faults
  goes_rose o a b p q _ cause e (NotFirm f is same unput) =
      subst (λ (d : Device). Rose o.faults d.faults) (sym same) (cause.rose (sym (device_of_store f) ∙ sym (ap is_device is) ∙ e))
  goes_rose o a b p q _ cause e (NoMemory u is same unput) = absurd (true≢false (sym e ∙ ap is_device is))
  goes_rose o a b p q _ cause e (Made u duties for meant made) =
      rose_earlier o.faults a.faults b.faults cause.later (made.ran.cause.rose (device_made flow _ made.turns made.failed made.ended result e made.concluded made.answer))

  goes_output : (a b : Device) (p q : Sunk) (settled : Result (Unit {0}) StoreFault) → GoesOn act flow cores targets jobs states stored result a b p q settled → HasCause p.faults q.faults (is_output result)
  goes_output a b p q _ (NotFirm f is same unput) =
      subst (λ (s : Sunk). HasCause p.faults s.faults (is_output result)) (sym unput) (record { later = omega arith; rose = λ e. absurd (true≢false (sym e ∙ ap is_output is ∙ output_of_store f)) })
  goes_output a b p q _ (NoMemory u is same unput) =
      subst (λ (s : Sunk). HasCause p.faults s.faults (is_output result)) (sym unput) (record { later = omega arith; rose = λ e. absurd (true≢false (sym e ∙ ap is_output is)) })
  goes_output a b p q _ (Made u duties for meant made) = made.text.cause

  goes_quiet : (a b : Device) (p q : Sunk) (settled : Result (Unit {0}) StoreFault) → GoesOn act flow cores targets jobs states stored result a b p q settled → is_output result ≡ false → q.faults ≡ p.faults
  goes_quiet a b p q _ (NotFirm f is same unput) e = ap (λ (s : Sunk). s.faults) unput
  goes_quiet a b p q _ (NoMemory u is same unput) e = ap (λ (s : Sunk). s.faults) unput
  goes_quiet a b p q _ (Made u duties for meant made) e = made.text.quiet e

  -- ## All of it

  module _ (a b : Device) (p q : Sunk) (h : HasCarriedOut act flow cores targets jobs states stored result a b p q) where
    -- no child runs at the end, unless a call of the device failed
    pub carried_children : a.running ≡ [] → (b.running ≡ []) ⊎ Rose a.faults b.faults
    carried_children none = go (goes_children h.firm b p q h.settled (h.settling.running ∙ none) h.goes_on)
      where
        go : (b.running ≡ []) ⊎ Rose h.firm.faults b.faults → (b.running ≡ []) ⊎ Rose a.faults b.faults
        go (inl idle) = inl idle
        go (inr rose) = inr (rose_earlier a.faults h.firm.faults b.faults h.settling.cause.later rose)

    -- what was told is told on, unless one did
    pub carried_stays : (IsSome a.world → IsSome b.world) ⊎ Rose a.faults b.faults
    carried_stays = goes_stays a h.firm b p q h.settled h.settling.stays h.settling.cause h.goes_on

    -- a fault of the device comes only where one did
    pub carried_cause : HasCause a.faults b.faults (is_device result)
    carried_cause = record {
      later = (let first = h.settling.cause.later in let second = goes_later h.firm b p q h.settled h.goes_on in omega (arith, first, second));
      rose = λ e. goes_rose a h.firm b p q h.settled h.settling.cause e h.goes_on;
    }

    -- and one of the sink only where a put failed
    pub carried_output : HasCause p.faults q.faults (is_output result)
    carried_output = goes_output h.firm b p q h.settled h.goes_on

    pub carried_quiet : is_output result ≡ false → q.faults ≡ p.faults
    carried_quiet e = goes_quiet h.firm b p q h.settled h.goes_on e
