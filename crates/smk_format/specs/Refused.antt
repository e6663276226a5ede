-- The commands of jobs, and what is refused of them.
use Rattle.std.specs.Prelude.{◌≡◌, ◌⊎◌, ℕ, List, [], ◌∷◌, min, Option, Some, None, Result, Ok, Err}
use Rattle.smk_flow.specs.declared.job.Job.{Job}
use Rattle.smk_flow.specs.Flows.{Flow, rule_name}
use Rattle.smk_format.specs.Commands as format
use Rattle.smk_format.specs.declared.fault.FormatFault.{FormatFault}
use Rattle.smk_format.specs.declared.fault.FormatFault.TheVariants as formatting
use Rattle.smk_trigger.specs.declared.reason.State.{State}
use Rattle.smk_trigger.specs.declared.reason.State.TheVariants.{Open, Dirty, Restore, Clean}
use Rattle.smk_report.specs.Lines.{Text}
use Rattle.smk_report.specs.declared.fault.Fault.{Fault}
use Rattle.smk_report.specs.declared.fault.Fault.TheVariants as fault

-- ## Commands

-- the job's threads, cut to the cores
abbrev pub threads_of : ℕ → Job → ℕ
threads_of cores job = min job.threads cores

-- the text of the job's command
abbrev pub command_of : ℕ → Job → Text
command_of cores job = format.command job (threads_of cores job)

-- ## What is refused

-- a field without a value, or a text that is no command
abbrev pub fault_at : Text → Option Text → Option ℕ → Option Fault
fault_at rule (Some word) excess = Some (fault.UnknownField rule word)
fault_at rule None (Some bytes) = Some (fault.TooLong rule bytes)
fault_at rule None None = None

-- the fault of the job's command
abbrev pub job_fault : Flow → ℕ → Job → Option Fault
job_fault flow cores job = fault_at (rule_name flow job.rule) (format.missing job) (format.excess (command_of cores job))

-- In a plan a field without a value is refused in each job that isn't Open, a text that is no command in each job that is to run.
abbrev pub fault_in : State → Text → Option Text → Option ℕ → Option Fault
fault_in Open rule missing excess = None
fault_in (Dirty reasons) rule missing excess = fault_at rule missing excess
fault_in Restore rule missing excess = fault_at rule missing excess
fault_in Clean rule missing excess = fault_at rule missing None

-- the fault of the command of a job that has this state
abbrev pub state_fault : Flow → ℕ → Job → State → Option Fault
state_fault flow cores job state = fault_in state (rule_name flow job.rule) (format.missing job) (format.excess (command_of cores job))

abbrev pub or_later : Option Fault → Option Fault → Option Fault
or_later (Some f) later = Some f
or_later None later = later

-- the first fault of a job's command
abbrev pub command_fault : Flow → ℕ → List (Job × State) → Option Fault
command_fault flow cores [] = None
command_fault flow cores (e ∷ staged) = or_later (state_fault flow cores e.0 e.1) (command_fault flow cores staged)

-- ## Steps

-- the fault of a command of this rule, or want of memory for its texts
abbrev pub IsFormatFault : Text → FormatFault → Fault → Type 0
IsFormatFault rule (formatting.UnknownField word) f = (f ≡ fault.UnknownField rule word) ⊎ (f ≡ fault.OutOfMemory)
IsFormatFault rule (formatting.TooLong bytes) f = (f ≡ fault.TooLong rule bytes) ⊎ (f ≡ fault.OutOfMemory)
IsFormatFault rule formatting.OutOfMemory f = f ≡ fault.OutOfMemory

-- the fault of a field of a command of this rule, or want of memory; nothing of a text that is no command
abbrev pub IsFieldFault : Text → FormatFault → Result (Unit {0}) Fault → Type 0
IsFieldFault rule (formatting.UnknownField word) r = (r ≡ Err (fault.UnknownField rule word)) ⊎ (r ≡ Err fault.OutOfMemory)
IsFieldFault rule (formatting.TooLong bytes) r = r ≡ Ok tt
IsFieldFault rule formatting.OutOfMemory r = r ≡ Err fault.OutOfMemory
