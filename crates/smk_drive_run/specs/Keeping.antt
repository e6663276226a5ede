-- What the parts of a run answer.
use Rattle.std.specs.Prelude.{◌≡◌, Bool, true, ◌&&◌, List, ◌++◌, None, Result, Ok, Err}
use Rattle.std.specs.List.{list_all}
use Rattle.smk_world.specs.Devices.{Sunk}
use Rattle.smk_world.specs.Trees.{Path}
use Rattle.smk_trigger.specs.declared.reason.State.{State}
use Rattle.smk_trigger.specs.JobStates.{is_clean}
use Rattle.smk_pick.specs.declared.settings.Settings.{Settings}
use Rattle.smk_report.specs.declared.fault.Fault.{Fault}
use Rattle.smk_report.specs.Lines.{Text, summary_line}
use Rattle.smk_run.specs.declared.tally.Tally.{Tally}
use Rattle.smk_plan_live.specs.Live.{LivePlan}
use Rattle.smk_drive_course.specs.declared.ending.End.{End}
use Rattle.smk_drive_course.specs.Reports.{target_lines}
use Rattle.smk_drive_first.specs.declared.opening.Opened.{Opened}
use Rattle.smk_laws_turns.specs.Hubs.{Parts}
use Rattle.smk_drive_hub.specs.declared.hub.Hub.{Hub}
use Rattle.smk_drive_hub.specs.Keeping.{IsAtStart, parts_of}
use Rattle.smk_laws_begins.specs.Sources.{are_made_or_seen}
use Rattle.smk_laws_begins.specs.Whole.{HasConcluded}

-- ## The start

-- It is the start of a run that has opened so, in which all that no job makes was seen as sources.
pub record IsStartOf (settings : Settings) (found : Opened) (h : Parts) : Type 0 where
  pub seen_so : are_made_or_seen found.live.base ≡ true
  pub start : IsAtStart settings found.live found.next h

-- what is kept, where it is
abbrev pub parts_in : Result Hub Fault → Result Parts Fault
parts_in (Ok hub) = Ok (parts_of hub)
parts_in (Err f) = Err f

-- ## The last lines

abbrev pub closing_text : List Path → List Bool → Tally → Text
closing_text targets current tally = target_lines targets current ++ summary_line tally.started tally.done tally.failed

abbrev pub is_all_made : List State → List Bool → Bool
is_all_made states current = list_all is_clean states && list_all (λ (b : Bool). b) current

-- what is told of the end, with these counts
abbrev pub end_by : Tally → List Bool → End
end_by tally current = record { started = tally.started; done = tally.done; failed = tally.failed; first = tally.first; current = current }

-- the same where it is which targets are current
abbrev pub ended_as : Tally → Result (List Bool) Fault → Result End Fault
ended_as tally (Ok current) = Ok (end_by tally current)
ended_as tally (Err f) = Err f

-- it was told how a run ends that keeps this plan and these counts, and in which no fault has come
abbrev pub HasTold : List Path → LivePlan → Tally → Result End Fault → Sunk → Sunk → Type 0
HasTold targets live tally result old new =
    (k : Parts) → k.live ≡ live → k.tally ≡ tally → k.halt.fault ≡ None → HasConcluded targets k result old new
