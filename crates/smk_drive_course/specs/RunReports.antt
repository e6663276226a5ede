-- The text of a run's report, by its log and its targets.
use Rattle.std.specs.Prelude.{◌≡◌, ◌⊎◌, false, List, [], ◌∷◌, ◌++◌, filter, length, IsTrue}
use Rattle.smk_world.specs.declared.event.Event.{Event}
use Rattle.smk_world.specs.World.{World}
use Rattle.smk_world.specs.Calls.{failed}
use Rattle.smk_world.specs.Trees.{Each}
use Rattle.smk_pattern.specs.Shapes.{Text}
use Rattle.smk_report.specs.Lines.{summary_line}
use Rattle.smk_drive.specs.Moments.{Rules, Moment, IsMoment, is_closed_well, is_closed_badly}
use Rattle.smk_drive.specs.Reports.{HasLines, start_line_of, target_lines}
use Rattle.smk_drive_course.specs.Moments.{started}

-- how many jobs were started, done and failed
abbrev pub summary : Rules → Moment → Text
summary rules m =
    summary_line (length (started m)) (length (filter (is_closed_well rules m.world) m.begun)) (length (filter (is_closed_badly rules m.world) m.begun))

-- The whole text of a run with status 0 or 1: the lines of its events, a line for each target, and the summary. The targets are
-- judged by the plan in force at the exit.
pub record IsRunText (rules : Rules) (entry : World) (log : List Event) (text : Text) : Type 0 where
  pub lines : Text
  pub last : Moment
  pub has_lines : HasLines rules entry log lines
  pub is_last : IsMoment rules entry log last
  pub text_is : text ≡ lines ++ (target_lines rules last ++ summary rules last)

-- ## Fronts

abbrev pub IsPrefix : Text → Text → Type 0
IsPrefix text whole = (rest : Text) × (whole ≡ text ++ rest)

-- the text is a front of the lines of the log's events, or of the whole report
abbrev pub IsFront : Rules → World → List Event → Text → Type 0
IsFront rules entry log text =
    ((lines : Text) × HasLines rules entry log lines × IsPrefix text lines) ⊎ ((whole : Text) × IsRunText rules entry log whole × IsPrefix text whole)

-- the text has this line
abbrev pub HasLine : Text → Text → Type 0
HasLine text l = (before : Text) × (after : Text) × (text ≡ before ++ (l ++ after)) × ((before ≡ []) ⊎ ((front : Text) × (before ≡ front ++ 10 ∷ [])))

-- the text has the line of each start of the log
abbrev pub HasStarts : Rules → World → List Event → Text → Type 0
HasStarts rules entry log text = (m : Moment) → IsMoment rules entry log m → Each (λ b. HasLine text (start_line_of rules b)) (started m)

-- where an event was answered Failed, the text has the lines of all that came before the first
abbrev pub HasLinesBefore : Rules → World → List Event → Text → Type 0
HasLinesBefore rules entry log text =
    (events : List Event) (e : Event) (rest : List Event) (lines : Text) →
    log ≡ events ++ e ∷ rest →
    Each (λ (d : Event). failed d.call ≡ false) events → IsTrue (failed e.call) → HasLines rules entry events lines → IsPrefix lines text
