-- What a run tells of what it has done: lines, counts and the fault of the first job that failed.
use Rattle.std.specs.Prelude.{◌≡◌, Bool, true, false, List, [], ◌∷◌, ◌++◌, map, filter, length, Option, Some, None, Result, Ok, Err}
use Rattle.std.specs.List.{flat_map, list_any}
use Rattle.smk_world.specs.Trees.{Path, first}
use Rattle.smk_pattern.specs.Shapes.{Text}
use Rattle.smk_flow.specs.Flows.{Flow}
use Rattle.smk_report.specs.Lines.{Good, Status, NoOutput, WrongKind, BadMember, start_line, done_line, failed_line, target_line, summary_line}
use Rattle.smk_report.specs.declared.fault.Fault.{Fault}
use Rattle.smk_report.specs.declared.fault.Fault.TheVariants as fault
use Rattle.smk_drive.specs.Moments.{Rules, Moment}
use Rattle.smk_drive.specs.Reports.{named_job, is_current_by}
use Rattle.smk_drive_course.specs.declared.ending.End.{End}
use Rattle.smk_drive_course.specs.Steps.{Deed, Started, Closed}

-- ## Counts

abbrev pub is_started : Deed → Bool
is_started (Started j) = true
is_started (Closed j e) = false

abbrev pub is_done : Deed → Bool
is_done (Started j) = false
is_done (Closed j Good) = true
is_done (Closed j (Status n)) = false
is_done (Closed j (NoOutput p)) = false
is_done (Closed j (WrongKind p)) = false
is_done (Closed j (BadMember p)) = false

-- the fault of a job that failed
abbrev pub deed_faults : Flow → Deed → List Fault
deed_faults flow (Started j) = []
deed_faults flow (Closed j Good) = []
deed_faults flow (Closed j (Status n)) = fault.JobFailed (named_job flow j).rule (named_job flow j).path n ∷ []
deed_faults flow (Closed j (NoOutput p)) = fault.NoOutput (named_job flow j).rule (named_job flow j).path p ∷ []
deed_faults flow (Closed j (WrongKind p)) = fault.WrongKind (named_job flow j).rule (named_job flow j).path p ∷ []
deed_faults flow (Closed j (BadMember p)) = fault.BadMember (named_job flow j).rule (named_job flow j).path p ∷ []

-- the faults of the jobs that failed, in order
abbrev pub failures : Flow → List Deed → List Fault
failures flow deeds = flat_map (deed_faults flow) deeds

-- What a run tells at its end, of what it did: how many jobs were started, done and failed, the fault of the first that failed, and which targets are
-- current by the plan of the moment.
pub record IsTold (rules : Rules) (deeds : List Deed) (m : Moment) (end : End) : Type 0 where
  pub started : end.started ≡ length (filter is_started deeds)
  pub done : end.done ≡ length (filter is_done deeds)
  pub failed : end.failed ≡ length (failures rules.flow deeds)
  pub first_one : end.first ≡ first (failures rules.flow deeds)
  pub current : end.current ≡ map (is_current_by rules m) rules.settings.targets

-- ## Lines

abbrev pub deed_line : Flow → Deed → Text
deed_line flow (Started j) = start_line (named_job flow j)
deed_line flow (Closed j Good) = done_line (named_job flow j)
deed_line flow (Closed j (Status n)) = failed_line (named_job flow j) (Status n)
deed_line flow (Closed j (NoOutput p)) = failed_line (named_job flow j) (NoOutput p)
deed_line flow (Closed j (WrongKind p)) = failed_line (named_job flow j) (WrongKind p)
deed_line flow (Closed j (BadMember p)) = failed_line (named_job flow j) (BadMember p)

-- the lines of what was done, in order
abbrev pub lines_of : Flow → List Deed → Text
lines_of flow deeds = flat_map (deed_line flow) deeds

-- the lines of targets, which are current or not
abbrev pub target_lines : List Path → List Bool → Text
target_lines [] flags = []
target_lines (p ∷ paths) [] = []
target_lines (p ∷ paths) (b ∷ flags) = target_line b p ++ target_lines paths flags

-- the last lines, of a run that came to tell this at its end
abbrev pub closing_lines : Rules → Option End → Text
closing_lines rules None = []
closing_lines rules (Some end) = target_lines rules.settings.targets end.current ++ summary_line end.started end.done end.failed

-- ## The whole report, and fronts of it

-- a fault with which lines may be missing
abbrev pub may_lose : Fault → Bool
may_lose fault.Output = true
may_lose fault.OutOfMemory = true
may_lose f = false

abbrev pub is_device : Fault → Bool
is_device fault.Device = true
is_device f = false

-- the text is a front of the report that has all that this fault leaves: after a refusal all up to the last start, and after a fault of the device
-- all of what was done
pub record IsFrontFor (flow : Flow) (deeds : List Deed) (f : Fault) (closing text : Text) : Type 0 where
  pub before : List Deed
  pub later : List Deed
  pub more : Text
  pub rest : Text
  pub split : deeds ≡ before ++ later
  pub text_is : text ≡ lines_of flow before ++ more
  pub is_front : lines_of flow later ++ closing ≡ more ++ rest
  pub has_starts : may_lose f ≡ false → list_any is_started later ≡ false
  pub has_all : is_device f ≡ true → later ≡ []

-- What a run put that did this, and came to tell that at its end, if it did: all lines; or a front of them, where a fault came.
abbrev pub IsReport : Rules → List Deed → Option End → Result End Fault → Text → Type 0
IsReport rules deeds told (Ok end) text = text ≡ lines_of rules.flow deeds ++ closing_lines rules told
IsReport rules deeds told (Err f) text = IsFrontFor rules.flow deeds f (closing_lines rules told) text
