-- What a job begins with, by what is kept of a run.
use Rattle.std.specs.Prelude.{◌≡◌, ◌⊎◌, ◌<◌, ◌+◌, ◌^◌, ℕ, Bool, true, false, not, List, nat_lt, if◌then◌else◌, Option, Some, None, Result, Ok, Err, option_map}
use Rattle.std.specs.List.{slice_get}
use Rattle.std.specs.Option.{option_and_then}
use Rattle.smk_world.specs.World.{out_paths}
use Rattle.smk_world.specs.Trees.{Path, first}
use Rattle.smk_record.specs.declared.record.Record.{Record}
use Rattle.smk_record.specs.declared.record.Stamp.{Stamp}
use Rattle.smk_flow.specs.declared.job.Job.{Job}
use Rattle.smk_store.specs.declared.store.Entry.{Entry}
use Rattle.smk_store.specs.Images.{readable}
use Rattle.smk_trigger.specs.declared.facts.JobFacts.{JobFacts}
use Rattle.smk_trigger.specs.JobStates.{is_restore}
use Rattle.smk_pick.specs.declared.room.Ask.{Ask}
use Rattle.smk_pick.specs.declared.settings.Settings.{Settings}
use Rattle.smk_plan.specs.declared.wholes.Wholes.{Wholes}
use Rattle.smk_plan.specs.States.{test_some}
use Rattle.smk_report.specs.Lines.{Text}
use Rattle.smk_report.specs.declared.fault.Fault.{Fault}
use Rattle.smk_report.specs.declared.fault.Fault.TheVariants as fault
use Rattle.smk_format.specs.Refused.{command_of}
use Rattle.smk_drive.specs.Lawful.{ask_of}
use Rattle.smk_plan_live.specs.Kept.{facts_kept}
use Rattle.smk_plan_live.specs.Live.{LivePlan}
use Rattle.smk_plan_live.specs.declared.phase.Phase.TheVariants.{Waiting}
use Rattle.smk_plan_live.specs.Lives.{AreWhole}
use Rattle.smk_plan_live.specs.Now.{output_entry}
use Rattle.smk_drive_pick.specs.Picking.{IsNextIn}
use Rattle.smk_drive_step.specs.Stamping.{AreStampsFor}
use Rattle.smk_laws_turns.specs.Hubs.{Parts}

-- The job of this number is the one that begins next by the plan that is kept, in the room that is left, by what is whole.
pub record IsPicked (h : Parts) (number : ℕ) : Type 0 where
  pub wholes : Wholes
  pub whole : AreWhole h.live.base wholes
  pub next : IsNextIn h.live wholes h.room (Some number)

-- ## Serials

-- the serial that is drawn after this one, where there is one
abbrev pub serial_after : Option ℕ → Option ℕ
serial_after None = None
serial_after (Some n) = if nat_lt (n + 1) (2 ^ 64) then Some (n + 1) else None

-- the next serial once the job has begun, which has drawn one or keeps its own
abbrev pub next_after : Bool → Option ℕ → Option ℕ
next_after true next = serial_after next
next_after false next = next

-- the serial of the record that is known of the output
abbrev pub kept_serial : LivePlan → Path → Option ℕ
kept_serial live p = option_map (λ (r : Record). r.made) (option_and_then (λ (e : Entry). readable e.kept) (output_entry live.base p))

-- a serial, or this fault where there is none
abbrev pub serial_or : Fault → Option ℕ → Result ℕ Fault
serial_or f None = Err f
serial_or f (Some n) = Ok n

-- the serial of a job that draws the next one, or keeps that of its records
abbrev pub serial_of : LivePlan → Bool → Option ℕ → Path → Result ℕ Fault
serial_of live true next p = serial_or fault.Serials next
serial_of live false next p = serial_or fault.OutOfMemory (kept_serial live p)

-- the job of the number is to be restored
abbrev pub is_restored : LivePlan → ℕ → Bool
is_restored live n = test_some is_restore (slice_get live.plan.states n)

-- ## What it begins with

-- The job of the number waits; it draws a serial unless it is to be restored, and has this one; these stamps are known of its inputs; and this is the
-- text of its command, and what it asks for.
pub record IsFit
    (settings : Settings) (h : Parts) (number : ℕ) (j : Job) (known : List Stamp) (made : ℕ) (draws : Bool) (command : Text) (ask : Ask) : Type 0 where
  pub is : slice_get h.live.base.jobs.jobs number ≡ Some j
  pub waiting : slice_get h.live.base.phases number ≡ Some Waiting
  pub name : Path
  pub named : first (out_paths j.recipe) ≡ Some name
  pub draws_are : draws ≡ not (is_restored h.live number)
  pub serial : serial_of h.live draws h.next name ≡ Ok made
  pub fits : made < 2 ^ 64
  pub facts : JobFacts
  pub has_facts : facts_kept h.live.base h.live.flags.forced number ≡ Some facts
  pub stamps : AreStampsFor made facts.stamps known
  pub text : command ≡ command_of settings.cores j
  pub asks : ask ≡ ask_of j

-- Why it doesn't begin, before anything is done: it is to draw a serial, and none is left; or memory is wanting.
abbrev pub IsUnfit : Parts → ℕ → Fault → Type 0
IsUnfit h number f = (f ≡ fault.OutOfMemory) ⊎ ((f ≡ fault.Serials) × (is_restored h.live number ≡ false) × (h.next ≡ None))
