-- How a call ends where each target has a clean value.
use Rattle.std.specs.Prelude.{◌≡◌, ◌⊎◌, ℕ, true, List, [], Option, Some, Result, Ok, Err, is_none}
use Rattle.smk_world.specs.World.{World}
use Rattle.smk_world.specs.Calls.{Rose}
use Rattle.smk_world.specs.Devices.{Device, Sunk}
use Rattle.smk_world.specs.Trees.{Act}
use Rattle.smk_format.specs.Commands.{missing}
use Rattle.smk_record.specs.declared.record.Record.{Record}
use Rattle.smk_store.specs.Images.{seen}
use Rattle.smk_store.specs.Trust.{Versions, SumsDiffer}
use Rattle.smk_store.specs.Soundness.{SoundWorld}
use Rattle.smk_chain.specs.Mean.{Setting, setting_of}
use Rattle.smk_plan.specs.States.{Plan, LastPlan, nothing_done}
use Rattle.smk_words_reading.specs.declared.asked.RunWords.{RunWords}
use Rattle.smk_report.specs.declared.fault.Fault.{Fault}
use Rattle.smk_record.specs.Spelling.{ReadsRecords}
use Rattle.smk_cli_entry.specs.declared.asking.Asked.{Asked}
use Rattle.smk_plan_preview.specs.declared.previewing.Previewed.{Previewed}
use Rattle.smk_plan_preview.specs.Previewing.{rules_for}
use Rattle.smk_cli_calls.specs.OneByOne.{grows}
use Rattle.smk_cli_calls.specs.Serving.{HasListed, HasWorked, IsPlanFor, IsRefusedPlan, IsServed, IsThat, WasDriven, Went, settings_of}
use Rattle.smk_laws_complete.specs.Derived.{AllHaveValues, GathersAlone}
use Rattle.smk_laws_complete.specs.Planned.{MayStop}
use Rattle.smk_laws_driven.specs.Grown.{GrowsToClash}
use Rattle.smk_laws_driven.specs.Completing.{MayBreakOff}
use Rattle.smk_laws_driven.specs.Planning.{IsPlainPlan}

-- the setting that the sources of a world give to what is asked
abbrev pub setting_in : Act → (List ℕ → Option Record) → Asked → World → Setting
setting_in act read asked w = setting_of asked.flow act (λ j. is_none (missing j)) (seen read w)

-- What is asked has clean values, by the sources of a world that is sound for versions of which no two different contents have the same SHA-256.
pub record IsCleanAsked (act : Act) (read : List ℕ → Option Record) (asked : Asked) (w : World) (H : Versions) : Type 0 where
  pub differ : SumsDiffer H
  pub sound : SoundWorld (record { read = read; act = act }) w H
  pub alone : GathersAlone asked.flow
  pub values : AllHaveValues (setting_in act read asked w) asked.targets

-- Then a plan is refused only for how the folder stands, or for what clashes.
abbrev pub RefusedPlansMayStop : Type 0
RefusedPlansMayStop =
    (act : Act) (read : List ℕ → Option Record) (asked : Asked) (words : RunWords) (w : World) (H : Versions) (f : Fault) →
    IsCleanAsked act read asked w H →
    IsRefusedPlan read asked words w f → MayStop (rules_for read asked.flow (settings_of asked words)) (seen read w) nothing_done f

-- all is well, or the run broke off
abbrev pub EndsComplete : Result (Unit {0}) Fault → Type 0
EndsComplete (Ok u) = Unit {0}
EndsComplete (Err f) = MayBreakOff f

-- And a run by the plan, of jobs that make plain files and gather nothing, has no job that fails, and finds no input gone, where the world is told
-- at its end and no count of faults rose.
abbrev pub WorkIsComplete : Type 0
WorkIsComplete =
    (act : Act) (read : List ℕ → Option Record) (asked : Asked) (told : Previewed) (words : RunWords) (w v : World) (H : Versions) (result : Result (Unit {0}) Fault)
    (old new : Device) (out_old out_new : Sunk) →
    old.world ≡ Some w →
    new.world ≡ Some v →
    IsCleanAsked act read asked w H →
    IsPlanFor read asked words w told →
    ((plan : Plan) → LastPlan asked.flow (seen read w) (settings_of asked words) nothing_done [] plan → IsPlainPlan plan) →
    (Rose old.faults new.faults → ⊥) → HasWorked act words.cores result asked told old new out_old out_new → EndsComplete result

-- ## What is served

-- The call ends well; or it is refused so, or broke off.
abbrev pub IsCompleteAnswer : (List ℕ → Option Record) → Asked → RunWords → World → Result (Unit {0}) Fault → Type 0
IsCompleteAnswer read asked words w (Ok u) = Unit {0}
IsCompleteAnswer read asked words w (Err f) = MayStop (rules_for read asked.flow (settings_of asked words)) (seen read w) nothing_done f ⊎ MayBreakOff f

-- So it is of a run; and of one whose plans may grow it may also be that they grow to a clash.
abbrev pub IsRunAnswer : Act → (List ℕ → Option Record) → Asked → RunWords → World → Result (Unit {0}) Fault → Type 0
IsRunAnswer act read asked words w (Ok u) = Unit {0}
IsRunAnswer act read asked words w (Err f) =
    IsCompleteAnswer read asked words w (Err f)
    ⊎ ((grows asked.flow.rules ≡ true) × GrowsToClash act (rules_for read asked.flow (settings_of asked words)) (seen read w) f)

-- So a run ends that is driven, of any workflow, with checkpoints and directories too, be outputs temporary or not.
abbrev pub DroveIsComplete : Type 0
DroveIsComplete =
    (act : Act) (read : List ℕ → Option Record) (asked : Asked) (words : RunWords) (w v : World) (H : Versions) (result : Result (Unit {0}) Fault)
    (old new : Device) (out_old out_new : Sunk) →
    old.world ≡ Some w →
    new.world ≡ Some v →
    ReadsRecords read →
    IsCleanAsked act read asked w H →
    (Rose old.faults new.faults → ⊥) → WasDriven act words result asked old new out_old out_new → IsRunAnswer act read asked words w result

-- And so does each run for what is asked, be its jobs made one after another or driven.
abbrev pub ServedRunsAreComplete : Type 0
ServedRunsAreComplete =
    (act : Act) (read : List ℕ → Option Record) (asked : Asked) (words : RunWords) (w v : World) (H : Versions) (result : Result (Unit {0}) Fault)
    (old new : Device) (out_old out_new : Sunk) →
    old.world ≡ Some w →
    new.world ≡ Some v →
    ReadsRecords read →
    IsCleanAsked act read asked w H →
    (Rose old.faults new.faults → ⊥) →
    Went act words result (IsRefusedPlan read asked words w) (IsThat asked) (IsServed read asked words w) old new out_old out_new →
    IsRunAnswer act read asked words w result

-- And so does a listing.
abbrev pub ServedListingsAreComplete : Type 0
ServedListingsAreComplete =
    (act : Act) (read : List ℕ → Option Record) (asked : Asked) (words : RunWords) (w : World) (H : Versions) (result : Result (Unit {0}) Fault)
    (out_old out_new : Sunk) →
    IsCleanAsked act read asked w H →
    HasListed (IsRefusedPlan read asked words w) (IsServed read asked words w) out_old out_new result → IsCompleteAnswer read asked words w result
