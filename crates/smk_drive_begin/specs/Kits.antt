-- What a job begins with, and what is kept once it has begun.
use Rattle.std.specs.Prelude.{◌≡◌, ◌⊎◌, ◌≤◌, ◌+◌, ℕ, Bool, true, false, List, [], ◌∷◌, ◌++◌, map, codes, length, is_none, Contains, Option, Some, None, Result, Ok, Err, is_ok}
use Rattle.std.specs.List.{list_any}
use Rattle.smk_base.specs.declared.tree.Amount.{Amount}
use Rattle.smk_base.specs.declared.tree.Pair.{Pair}
use Rattle.smk_world.specs.Devices.{Device, IsSoundDevice, Sunk}
use Rattle.smk_world.specs.Trees.{Act, Path}
use Rattle.smk_world.specs.World.{in_paths}
use Rattle.smk_record.specs.declared.record.Stamp.{Stamp}
use Rattle.smk_record.specs.Records.{are_rising}
use Rattle.smk_flow.specs.declared.job.Job.{Job}
use Rattle.smk_flow.specs.Flows.{Flow, rule_name}
use Rattle.smk_format.specs.Refused.{command_of}
use Rattle.smk_trigger.specs.declared.facts.JobFacts.{JobFacts}
use Rattle.smk_pick.specs.declared.room.Ask.{Ask}
use Rattle.smk_pick.specs.declared.settings.Settings.{Settings}
use Rattle.smk_pick.specs.Shares.{Holds, fits_in}
use Rattle.smk_report.specs.Lines.{done_line, job_text, start_line}
use Rattle.smk_report.specs.declared.fault.Fault.{Fault}
use Rattle.smk_report.specs.declared.fault.Fault.TheVariants as fault
use Rattle.smk_job.specs.Jobs.{Underway}
use Rattle.smk_run.specs.Reports.{HasReported}
use Rattle.smk_run.specs.Runs.{is_output}
use Rattle.smk_drive.specs.Lawful.{ask_of}
use Rattle.smk_drive.specs.Reports.{named_job}
use Rattle.smk_plan_live.specs.Kept.{facts_kept}
use Rattle.smk_plan_live.specs.Live.{LivePlan}
use Rattle.smk_drive_step.specs.declared.children.Child.{Child}
use Rattle.smk_drive_step.specs.Crews.{IsPutFor}
use Rattle.smk_drive_step.specs.Stamping.{AreStampsFor}
use Rattle.smk_drive_step.specs.Telling.{IsPutIf}
use Rattle.smk_laws_turns.specs.Hubs.{Parts}
use Rattle.smk_laws_begins.specs.Fitting.{IsFit}
use Rattle.smk_laws_begins.specs.Noting.{HasNoted, child_of}
use Rattle.smk_laws_begins.specs.Turns.{IsTakenUp}
use Rattle.smk_drive_begin.specs.declared.kit.Kit.{Kit}

-- ## Before it begins

-- These stamps are known of the inputs of the job of the number, one for each, which records with this serial may have.
pub record HasStamps (live : LivePlan) (number : ℕ) (j : Job) (made : ℕ) (known : List Stamp) : Type 0 where
  pub facts : JobFacts
  pub has_facts : facts_kept live.base live.flags.forced number ≡ Some facts
  pub stamps : AreStampsFor made facts.stamps known
  pub each : length known ≡ length (in_paths j.recipe)

-- With this serial, and with p as its first output, the job of the number has this to begin with, and fits into the room.
pub record IsPackedFor (flow : Flow) (settings : Settings) (h : Parts) (number : ℕ) (j : Job) (p : Path) (draws : Bool) (made : ℕ) (kit : Kit) : Type 0 where
  pub made_is : kit.made ≡ made
  pub draws_is : kit.draws ≡ draws
  pub positive : 1 ≤ made
  pub known : HasStamps h.live number j made kit.known
  pub text : kit.command ≡ command_of settings.cores j
  pub asks : kit.ask ≡ ask_of j
  pub fits : fits_in h.room kit.ask ≡ true
  pub start : kit.start ≡ job_text (codes "start") (rule_name flow j.rule) p []
  pub done : kit.done ≡ job_text (codes "done") (rule_name flow j.rule) p []

-- The job of the number may begin with this; there is a place for its child, and room for what it asks for.
pub record IsKitOf (flow : Flow) (settings : Settings) (h : Parts) (number : ℕ) (j : Job) (kit : Kit) : Type 0 where
  pub fit : IsFit settings h number j kit.known kit.made kit.draws kit.command kit.ask
  pub each : length kit.known ≡ length (in_paths j.recipe)
  pub positive : 1 ≤ kit.made
  pub rising : are_rising (map (λ (w : Pair). w.name) j.recipe.wildcards) ≡ true
  pub fits : fits_in h.room kit.ask ≡ true
  pub free : list_any is_none h.places ≡ true
  pub start : kit.start ≡ start_line (named_job flow j)
  pub done : kit.done ≡ done_line (named_job flow j)

-- The device has begun it, and its child has a number that none has.
pub record IsBegunWith (act : Act) (settings : Settings) (h : Parts) (number : ℕ) (j : Job) (kit : Kit) (going : Underway) (old new : Device) : Type 0 where
  pub taken : IsTakenUp act settings h number j kit.known kit.made kit.draws kit.command kit.ask (Ok going) old new
  pub sound : IsSoundDevice old
  pub fresh : ¬ (Contains old.running going.number)

-- ## Once it has begun

-- The child has a place, what it asks for is taken of the room, and its start is counted; all else is as it was.
pub record IsSeated (h k : Parts) (child : Child) : Type 0 where
  pub placed : IsPutFor None (Some child) h.places k.places
  pub room : (cores : ℕ) (bounds : List Amount) (asks : List Ask) → Holds cores bounds h.room asks → Holds cores bounds k.room (asks ++ child.ask ∷ [])
  pub counted : k.tally ≡ record h.tally { started = h.tally.started + 1 }
  pub live : k.live ≡ h.live
  pub next : k.next ≡ h.next
  pub halt : k.halt ≡ h.halt
  pub telling : k.telling ≡ h.telling

-- The job has begun, its child runs, and that is noted: the plan was told, and the line put, each with an answer.
pub record IsNoted (flow : Flow) (settings : Settings) (h k : Parts) (number : ℕ) (kit : Kit) (going : Underway) (o p : Sunk) : Type 0 where
  pub told : Result (Unit {0}) Fault
  pub put : Result (Unit {0}) Fault
  pub noted : HasNoted flow settings h k number kit.draws (child_of going number kit.ask kit.done) told put
  pub text : HasReported (IsPutIf h.telling (is_ok put) kit.start) o p (is_output put)

-- what is answered where a line was put, or wasn't
abbrev pub put_answer : Bool → Result (Unit {0}) Fault
put_answer true = Ok tt
put_answer false = Err fault.Output

-- the fault where it wasn't: memory is wanting where the plan isn't gone by either
abbrev pub lost_fault : Result (Unit {0}) Fault → Fault
lost_fault (Ok u) = fault.Output
lost_fault (Err f) = fault.OutOfMemory

-- the same children are in their places, or one more
abbrev pub ArePlaced : List (Option Child) → List (Option Child) → Type 0
ArePlaced were are = (are ≡ were) ⊎ ((c : Child) × IsPutFor None (Some c) were are)
