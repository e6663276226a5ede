-- The end of what was driven.
use Rattle.std.proofs.Common.{◌≡◌, ◌⊎◌, ℕ, ◌==◌, Bool, true, false, List, [], inl, inr, refl, sym, ap, subst, ◌∙◌, Option, Result, Ok, Err, true≢false}
use Rattle.std.specs.Prelude.{IsSome, IfErr, is_ok}
use Rattle.smk_world.specs.Calls.{HasCause, Rose}
use Rattle.smk_world.specs.Devices.{Device, Sunk}
use Rattle.smk_world.specs.Trees.{Act}
use Rattle.smk_world.proofs.Devices.{looked_nothing}
use Rattle.smk_record.specs.declared.record.Record.{Record}
use Rattle.smk_record.specs.Reading.{record_in}
use Rattle.smk_record.specs.Spelling.{ReadsRecords}
use Rattle.smk_record.proofs.Exact.{reads_records}
use Rattle.smk_flow.specs.Flows.{Flow}
use Rattle.smk_pick.specs.declared.settings.Settings.{Settings}
use Rattle.smk_report.specs.declared.fault.Fault.{Fault}
use Rattle.smk_report.specs.declared.fault.Fault.TheVariants as fault
use Rattle.smk_report.specs.Faults.{fault_status}
use Rattle.smk_drive.specs.Moments.{Rules}
use Rattle.smk_drive_course.specs.declared.ending.End.{End}
use Rattle.smk_drive_course.specs.Driven.{HasDriven, is_output}
use Rattle.smk_drive_course.specs.Driven as course
use Rattle.smk_drive_course.specs.Reports as reports
use Rattle.smk_drive_first.specs.Opening.{AreRules}
use Rattle.smk_plan_preview.specs.Previewing.{rules_for}
use Rattle.smk_plan_preview.specs.declared.previewing.Previewed.{Previewed}
use Rattle.smk_words_reading.specs.declared.asked.RunWords.{RunWords}
use Rattle.smk_cli_entry.specs.declared.asking.Asked.{Asked}
use Rattle.smk_cli_entry.specs.Faults.{is_device, is_sink}
use Rattle.smk_cli_calls.specs.Ends.{EndsAs, fault_of, of_device, of_sink}
use Rattle.smk_cli_calls.specs.OneByOne.{is_one_by_one}
use Rattle.smk_cli_calls.specs.Serving.{Drove, IsThat, Went, answer_of, settings_of}

-- ## Kinds of faults

device_alike : (f : Fault) → is_device f ≡ true → reports.is_device f ≡ true
device_alike fault.Device e = refl
device_alike f e = absurd (true≢false (sym e))

sink_alike : (f : Fault) → is_sink f ≡ true → is_output {T = End} (Err f) ≡ true
sink_alike fault.Output e = refl
sink_alike f e = absurd (true≢false (sym e))

-- a fault of a job is neither the device's nor the sink's
pub not_device : (f : Fault) → fault_status f ≡ 1 → is_device f ≡ false
not_device f e = ap (λ n. n == 4) e

pub not_sink : (f : Fault) → fault_status f ≡ 1 → is_sink f ≡ false
not_sink f e = ap (λ n. n == 6) e

-- ## Answers

-- The answer has a fault of the device or of the sink only where the run has, and none only where the run has none.
pub record IsCalm (driven : Result End Fault) (r : Result (Unit {0}) Fault) : Type 0 where
  pub device : of_device (fault_of r) ≡ true → course.device_failed driven ≡ true
  pub sink : of_sink (fault_of r) ≡ true → is_output driven ≡ true
  pub well : is_ok r ≡ true → is_ok driven ≡ true

pub calm_fault : (f : Fault) → IsCalm (Err f) (Err f)
calm_fault f = record { device = device_alike f; sink = sink_alike f; well = λ e. e }

pub calm_end : (end : End) (r : Result (Unit {0}) Fault) → IfErr r (λ f. (is_device f ≡ false) × (is_sink f ≡ false)) → IsCalm (Ok end) r
calm_end end (Ok u) h = record { device = λ e. absurd (true≢false (sym e)); sink = λ e. absurd (true≢false (sym e)); well = λ e. refl }
calm_end end (Err f) h = record { device = λ e. absurd (true≢false (sym e ∙ h.0)); sink = λ e. absurd (true≢false (sym e ∙ h.1)); well = λ e. refl }

-- ## The end

pub rules_are :
    (read : List ℕ → Option Record) → ReadsRecords read → (flow : Flow) (settings : Settings) → AreRules flow settings (rules_for read flow settings)
rules_are read reads flow settings = record { flow_is = refl; settings_are = refl; reads = reads; fields = refl; texts = refl }

unless_failed : (P : Type 0) (m n : ℕ) (failure : Bool) → HasCause m n failure → (failure ≡ false → P) → P ⊎ Rose m n
unless_failed P m n true cause h = inr (cause.rose refl)
unless_failed P m n false cause h = inl (h refl)

driven_end :
    (act : Act) (rules : Rules) (driven : Result End Fault) (r : Result (Unit {0}) Fault) (a b : Device) (p q : Sunk) → IsCalm driven r →
    HasDriven act rules driven a b p q → EndsAs r a b p q
driven_end act rules driven r a b p q calm h = record {
  ends = record {
    device = record { later = h.ran.cause.later; rose = λ e. h.ran.cause.rose (h.tells (calm.device e)) };
    output = record { later = h.text.cause.later; rose = λ e. h.text.cause.rose (h.loses (calm.sink e)) };
    children = unless_failed (b.running ≡ []) a.faults b.faults h.failure h.ran.cause h.ran.idle;
    stays = unless_failed (IsSome a.world → IsSome b.world) a.faults b.faults h.failure h.ran.cause h.ran.stays;
  };
  quiet = λ e. h.text.quiet (h.whole (calm.well e));
}

pub drove_end :
    (act : Act) (flow : Flow) (settings : Settings) (driven : Result End Fault) (r : Result (Unit {0}) Fault) (a b : Device) (p q : Sunk) → IsCalm driven r →
    ((rules : Rules) → AreRules flow settings rules → HasDriven act rules driven a b p q) → EndsAs r a b p q
drove_end act flow settings driven r a b p q calm h =
    driven_end act (rules_for record_in flow settings) driven r a b p q calm (h (rules_for record_in flow settings) (rules_are record_in reads_records flow settings))

-- what was driven by these settings is what is done for what is asked
pub went_driven :
    (act : Act) (words : RunWords) (r : Result (Unit {0}) Fault) (Refuses : Fault → Type 0) (Plans : Asked → Previewed → Type 0) (asked : Asked)
    (settings : Settings) (driven : Result End Fault) (a b : Device) (p q : Sunk) →
    is_one_by_one asked.flow words ≡ false → settings ≡ settings_of asked words → (r ≡ answer_of driven) ⊎ (r ≡ Err fault.OutOfMemory) →
    ((rules : Rules) → AreRules asked.flow settings rules → HasDriven act rules driven a b p q) → Went act words r Refuses (IsThat asked) Plans a b p q
went_driven act words r Refuses Plans asked settings driven a b p q apart same answers h =
    Drove asked apart refl
    (record {
      looked = a;
      looking = looked_nothing act a;
      driven = driven;
      answers = answers;
      drove = λ rules are. h rules (subst (λ s. AreRules asked.flow s rules) (sym same) are);
    })
