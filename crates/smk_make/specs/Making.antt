-- What is done to make what was planned, and what of it is reported.
use Rattle.std.specs.Prelude.{◌≡◌, ◌⊎◌, ℕ, Bool, List, [], ◌++◌, length, Option, None, Result, Ok, Err}
use Rattle.std.specs.List.{zip}
use Rattle.smk_world.specs.Devices.{Device, Sunk, HasActed, HasEnded}
use Rattle.smk_world.specs.Trees.{Path, Act, Each}
use Rattle.smk_flow.specs.Flows.{Flow}
use Rattle.smk_chain.specs.declared.jobs.Jobs.{Jobs}
use Rattle.smk_chain_walk.specs.Links.{AreLower}
use Rattle.smk_format.specs.Refused.{command_fault}
use Rattle.smk_store.specs.declared.fault.StoreFault.{StoreFault}
use Rattle.smk_store.specs.Faults.{store_failed}
use Rattle.smk_store.specs.Images.{Image}
use Rattle.smk_store.specs.Loading.{IsStoreOf}
use Rattle.smk_store.specs.Stores.{Known}
use Rattle.smk_store.specs.Serials.{next_serial}
use Rattle.smk_store.specs.Steadying.{HasTried, steady_requests}
use Rattle.smk_pick.specs.declared.settings.Settings.{Settings}
use Rattle.smk_trigger.specs.declared.reason.State.{State}
use Rattle.smk_plan_duties.specs.Meaning.{IsPlanned, AreMeant}
use Rattle.smk_report.specs.declared.fault.Fault.{Fault}
use Rattle.smk_report.specs.declared.fault.Fault.TheVariants as fault
use Rattle.smk_report.specs.Lines.{Text}
use Rattle.smk_plan.specs.declared.duty.Duty.{Duty}
use Rattle.smk_run.specs.declared.tally.Tally.{Tally}
use Rattle.smk_run.specs.Duties.{due, serials}
use Rattle.smk_plan.specs.Duties.{AreFor}
use Rattle.smk_plan.specs.Runnable.{AreRunnable}
use Rattle.smk_run.specs.Statuses.{HasGiven}
use Rattle.smk_run.specs.Turns.{Turn, AreTurns}
use Rattle.smk_run.specs.Reports.{report_of, HasReported, IsReport}
use Rattle.smk_run.specs.Runs.{AreInOrder, IsOutcome, Fits, is_whole, is_output}
use Rattle.smk_make.specs.After.{AreCurrent}
use Rattle.smk_make.specs.Closing.{is_current, closing_text, answer_of}
use Rattle.smk_report.specs.Faults.{of_store}
use Rattle.smk_make.specs.Faults.{IsOfReport}

-- The call answers as the run did: the fault of the first job that failed, or none; or the last lines couldn't be put.
abbrev pub Concludes : Result Tally Fault → Result (Unit {0}) Fault → Type 0
Concludes (Ok tally) result = (result ≡ answer_of tally) ⊎ ((f : Fault) × (result ≡ Err f) × IsOfReport f)
Concludes (Err f) result = result ≡ Err f

-- The last lines, for which of the jobs are current after the run: a line for each target, and the counts. Without memory for that nothing is put.
abbrev pub IsClosing : Jobs → List Path → Tally → (List Bool → Type 0) → Result (Unit {0}) Fault → Text → Type 0
IsClosing jobs targets tally Current result text =
    ((result ≡ Err fault.OutOfMemory) × (text ≡ []))
    ⊎ ((after : List Bool) × Current after × IsReport (is_whole result) (closing_text (is_current after) jobs.makers targets tally) text)

module _ (act : Act) (flow : Flow) (cores : ℕ) (targets : List Path) (jobs : Jobs) (first : Option ℕ) where
  -- What is put: the lines of the turns; and where the run came to its end, the last lines.
  abbrev pub IsText : List Duty → List Turn → Result Tally Fault → Result (Unit {0}) Fault → Text → Type 0
  IsText duties turns (Err f) result text = IsReport (is_whole result) (report_of flow turns) text
  IsText duties turns (Ok tally) result text =
      (last : Text) × (text ≡ report_of flow turns ++ last) × IsClosing jobs targets tally (AreCurrent jobs.befores duties turns) result last

  -- The jobs were run by these duties, one after another, and reported.
  pub record HasMade (duties : List Duty) (result : Result (Unit {0}) Fault) (old new : Device) (out_old out_new : Sunk) : Type 0 where
    pub turns : List Turn
    -- a call of the device failed
    pub failed : Bool
    -- how the run ended
    pub ended : Result Tally Fault
    pub in_order : AreInOrder cores (due first duties jobs.jobs) turns
    pub answer : IsOutcome flow (due first duties jobs.jobs) turns failed ended
    pub concluded : Concludes ended result
    pub fits : Each Fits turns
    pub ran : HasEnded act (AreTurns (serials jobs.makers first duties) turns) old new failed
    pub given : HasGiven act old new
    pub text : HasReported (IsText duties turns ended result) out_old out_new (is_output result)

-- The duties are those that the states mean, where the store is that of the folder and the states are those of the table.
abbrev pub AreWhatIsMeant : Jobs → List State → List Known → List Duty → Type 0
AreWhatIsMeant jobs states stored duties =
    (image : Image) (settings : Settings) (ran asked : List Path) →
    IsStoreOf image stored → IsPlanned image settings ran jobs asked states → AreMeant image jobs.jobs states duties

module _ (act : Act) (flow : Flow) (cores : ℕ) (targets : List Path) (jobs : Jobs) (states : List State) (stored : List Known) where
  -- What comes once all marks and notes that were found are firm: the run; or nothing, where the device failed or memory was wanting.
  pub data GoesOn (result : Result (Unit {0}) Fault) (old new : Device) (out_old out_new : Sunk) : Result (Unit {0}) StoreFault → Type 0 where
    NotFirm : (f : StoreFault) → result ≡ Err (of_store f) → new ≡ old → out_new ≡ out_old → GoesOn result old new out_old out_new (Err f)
    NoMemory : (u : Unit {0}) → result ≡ Err fault.OutOfMemory → new ≡ old → out_new ≡ out_old → GoesOn result old new out_old out_new (Ok u)
    Made :
        (u : Unit {0}) (duties : List Duty) →
        AreFor states duties →
        AreWhatIsMeant jobs states stored duties →
        HasMade act flow cores targets jobs (next_serial stored) duties result old new out_old out_new → GoesOn result old new out_old out_new (Ok u)

  -- All marks and notes that were found are made firm, and then the jobs that must be run are run, and reported with these targets.
  pub record HasCarriedOut (result : Result (Unit {0}) Fault) (old new : Device) (out_old out_new : Sunk) : Type 0 where
    pub settled : Result (Unit {0}) StoreFault
    -- the device once they are firm
    pub firm : Device
    pub settling : HasActed act (HasTried (steady_requests stored) settled) old firm (store_failed settled)
    pub goes_on : GoesOn result firm new out_old out_new settled

-- Jobs that can be made, whatever the folder is: they can be run, and come after those that they need; there is a state for each, and the commands of those that
-- are to run have no fault.
pub record IsFit (flow : Flow) (cores : ℕ) (jobs : Jobs) (with_states : List State) : Type 0 where
  pub runnable : AreRunnable jobs
  pub lower : AreLower 0 jobs.befores
  pub befores : length jobs.befores ≡ length jobs.jobs
  pub states : length with_states ≡ length jobs.jobs
  pub commands : command_fault flow cores (zip jobs.jobs with_states) ≡ None
