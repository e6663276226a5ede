-- What is done for what is asked: why nothing is run or listed, or what is.
use Rattle.std.specs.Prelude.{◌≡◌, ◌⊎◌, ℕ, Bool, true, false, List, [], Option, Result, Ok, Err, is_ok}
use Rattle.smk_world.specs.World.{World}
use Rattle.smk_world.specs.Devices.{Device, Sunk, HasLooked}
use Rattle.smk_world.specs.Trees.{Act}
use Rattle.smk_record.specs.declared.record.Record.{Record}
use Rattle.smk_store.specs.Images.{seen}
use Rattle.smk_pick.specs.declared.settings.Settings.{Settings}
use Rattle.smk_plan.specs.States.{nothing_done}
use Rattle.smk_words_reading.specs.declared.asked.RunWords.{RunWords}
use Rattle.smk_report.specs.declared.fault.Fault.{Fault}
use Rattle.smk_report.specs.declared.fault.Fault.TheVariants as fault
use Rattle.smk_drive.specs.Moments.{Rules}
use Rattle.smk_drive.specs.Refusals.{ChainRefuses}
use Rattle.smk_drive.specs.Reports.{listing_text}
use Rattle.smk_drive_course.specs.declared.ending.End.{End}
use Rattle.smk_drive_course.specs.Driven.{HasDriven}
use Rattle.smk_drive_first.specs.Opening.{AreRules}
use Rattle.smk_make.specs.Closing.{verdict_of}
use Rattle.smk_make.specs.Making.{HasCarriedOut}
use Rattle.smk_plan_preview.specs.declared.previewing.Previewed.{Previewed}
use Rattle.smk_plan_preview.specs.Previewing.{plan_of, rules_for, IsPreviewed, HasPreviewed}
use Rattle.smk_cli_entry.specs.declared.asking.Asked.{Asked}
use Rattle.smk_cli_entry.specs.Faults.{is_device}
use Rattle.smk_run.specs.Reports.{HasReported, IsReport}
use Rattle.smk_run.specs.Runs.{is_output}
use Rattle.smk_cli_calls.specs.OneByOne.{is_one_by_one}

-- what a plan for what is asked goes by: the words, with the paths that their targets stand for
abbrev pub settings_of : Asked → RunWords → Settings
settings_of asked words =
    record {
      targets = asked.targets;
      cores = words.cores;
      bounds = words.bounds;
      keep_going = words.keep_going;
      rerun_incomplete = words.rerun_incomplete;
      force = words.force;
    }

-- ## Plans

module _ (read : List ℕ → Option Record) (asked : Asked) (words : RunWords) (w : World) where
  -- this is the first refusal of the plan for what is asked
  abbrev pub IsRefusedPlan : Fault → Type 0
  IsRefusedPlan f = ChainRefuses (rules_for read asked.flow (settings_of asked words)) (seen read w) nothing_done [] f

  -- this is the plan for what is asked
  abbrev pub IsPlanFor : Previewed → Type 0
  IsPlanFor told = IsPreviewed read asked.flow (settings_of asked words) (seen read w) told

  -- this is asked, and this is the plan for it
  abbrev pub IsServed : Asked → Previewed → Type 0
  IsServed served told = (served ≡ asked) × IsPlanFor told

  abbrev pub IsPlanned : Result Previewed Fault → Type 0
  IsPlanned result = HasPreviewed read asked.flow (settings_of asked words) (seen read w) result

-- this is what is asked
abbrev pub IsThat : Asked → Asked → Type 0
IsThat asked served = served ≡ asked

-- ## What is done

-- of the device, or of memory
abbrev pub IsWant : Fault → Type 0
IsWant f = (f ≡ fault.Device) ⊎ (f ≡ fault.OutOfMemory)

-- Nothing is done but looks, which leave all as it stands, and nothing is put.
pub record HasOnlyLooked (act : Act) (old new : Device) (failure : Bool) (out_old out_new : Sunk) : Type 0 where
  pub looked : HasLooked act old new failure
  pub unput : out_new ≡ out_old

-- After looks that leave all as it stands, what was planned is made.
pub record HasWorked (act : Act) (cores : ℕ) (result : Result (Unit {0}) Fault) (asked : Asked) (told : Previewed) (old new : Device) (out_old out_new : Sunk) : Type 0 where
  -- the device after the looks
  pub looked : Device
  pub looking : HasLooked act old looked false
  pub carried : HasCarriedOut act asked.flow cores asked.targets told.jobs told.plan.states told.store result looked new out_old out_new

-- what a call answers whose run came to this: the fault of the first job that failed, if any did
abbrev pub answer_of : Result End Fault → Result (Unit {0}) Fault
answer_of (Ok end) = verdict_of end.first
answer_of (Err f) = Err f

module _ (act : Act) (words : RunWords) (result : Result (Unit {0}) Fault) where
  -- After looks that leave all as it stands, a run was driven, by whatever rules that have this workflow and these words, and its answer was given.
  pub record WasDriven (asked : Asked) (old new : Device) (out_old out_new : Sunk) : Type 0 where
    -- the device after the looks
    pub looked : Device
    pub looking : HasLooked act old looked false
    pub driven : Result End Fault
    pub answers : (result ≡ answer_of driven) ⊎ (result ≡ Err fault.OutOfMemory)
    pub drove : (rules : Rules) → AreRules asked.flow (settings_of asked words) rules → HasDriven act rules driven looked new out_old out_new

  -- What a run does where this refuses it, this is asked, and this is what is asked with its plan.
  pub data Went (Refuses : Fault → Type 0) (Asks : Asked → Type 0) (Plans : Asked → Previewed → Type 0) (old new : Device) (out_old out_new : Sunk) : Type 0 where
    -- it is refused
    Refused :
        (f : Fault) → result ≡ Err f → Refuses f → HasOnlyLooked act old new (is_device f) out_old out_new → Went Refuses Asks Plans old new out_old out_new
    -- a call of the device failed, or memory was wanting, before all was looked at
    Stopped :
        (f : Fault) → result ≡ Err f → IsWant f → HasOnlyLooked act old new (is_device f) out_old out_new → Went Refuses Asks Plans old new out_old out_new
    -- its jobs are run one after another
    Worked :
        (asked : Asked) (told : Previewed) →
        is_one_by_one asked.flow words ≡ true →
        Plans asked told →
        HasWorked act words.cores result asked told old new out_old out_new → Went Refuses Asks Plans old new out_old out_new
    -- it is driven
    Drove :
        (asked : Asked) →
        is_one_by_one asked.flow words ≡ false →
        Asks asked → WasDriven asked old new out_old out_new → Went Refuses Asks Plans old new out_old out_new

-- What a listing puts where this refuses it and this is what is asked with its plan.
pub data HasListed (Refuses : Fault → Type 0) (Plans : Asked → Previewed → Type 0) (out_old out_new : Sunk) : Result (Unit {0}) Fault → Type 0 where
  NotListed : (f : Fault) → Refuses f → out_new ≡ out_old → HasListed Refuses Plans out_old out_new (Err f)
  Stopped : (f : Fault) → IsWant f → out_new ≡ out_old → HasListed Refuses Plans out_old out_new (Err f)
  -- all of the listing, or a front of it where the sink failed, or nothing where memory was wanting
  Listed :
      (asked : Asked) (told : Previewed) (result : Result (Unit {0}) Fault) →
      Plans asked told →
      ((f : Fault) → result ≡ Err f → (f ≡ fault.Output) ⊎ (f ≡ fault.OutOfMemory)) →
      HasReported (IsReport (is_ok result) (listing_text asked.flow (plan_of told))) out_old out_new (is_output result) → HasListed Refuses Plans out_old out_new result
