-- The text of a report: of a listing by its plan, of a run by its log and its targets.
use Rattle.std.specs.Prelude.{◌≡◌, Bool, ◌&&◌, not, List, [], ◌∷◌, ◌++◌, map, filter, length, bytes_eq, if◌then◌else◌, Ok}
use Rattle.std.specs.List.{flat_map}
use Rattle.smk_world.specs.declared.event.Call.{Call}
use Rattle.smk_world.specs.declared.event.Call.TheVariants.{Started}
use Rattle.smk_world.specs.declared.event.Event.{Event}
use Rattle.smk_world.specs.World.{World, out_paths}
use Rattle.smk_world.specs.Trees.{Path, first}
use Rattle.smk_pattern.specs.Shapes.{Text}
use Rattle.smk_pattern.specs.Reading.{or_empty}
use Rattle.smk_flow.specs.declared.job.Job.{Job}
use Rattle.smk_flow.specs.Flows.{Flow, rule_name}
use Rattle.smk_trigger.specs.declared.reason.State.{State}
use Rattle.smk_plan.specs.States.{Plan, job_path, staged, is_current, test_some}
use Rattle.smk_report.specs.Lines.{Named, listing_lines, start_line, done_line, failed_line, target_line, summary_line}
use Rattle.smk_drive.specs.Moments.{Rules, Moment, IsMoment, Begun, is_closed, is_closed_well, is_closed_badly, seen, progress_of, or_good}

-- a job is named by its rule and its first output
abbrev pub named_job : Flow → Job → Named
named_job flow j = record { rule = rule_name flow j.rule; path = job_path j }

-- the text of a listing
abbrev pub listing_text : Flow → Plan → Text
listing_text flow plan = listing_lines (map (λ (e : Job × State). (named_job flow e.0, e.1)) (staged plan))

module _ (rules : Rules) where
  abbrev pub start_line_of : Begun → Text
  start_line_of b = start_line (named_job rules.flow b.job)

  -- the line that a start makes
  abbrev pub start_lines : Moment → Call → Text
  start_lines m (Started recipe logs command (Ok number)) =
      flat_map start_line_of (filter (λ (b : Begun). bytes_eq (or_empty (first (out_paths recipe))) (job_path b.job)) m.begun)
  start_lines m c = []

  abbrev pub close_line : World → Begun → Text
  close_line w b =
      if is_closed_well rules w b then done_line (named_job rules.flow b.job)
      else failed_line (named_job rules.flow b.job) (or_good b.ended)

  -- the lines of the jobs that are closed now and were not at the moment before
  abbrev pub close_lines : Moment → Moment → Text
  close_lines before now =
      flat_map (close_line now.world) (filter (λ (b : Begun). is_closed now.world b && not (is_closed before.world b)) now.begun)

  -- current by the plan in force
  abbrev pub is_current_by : Moment → Path → Bool
  is_current_by m p =
      test_some (λ (plan : Plan). is_current (seen rules m.world) rules.settings (progress_of m.world m.begun) plan p) m.plan

  abbrev pub target_lines : Moment → Text
  target_lines m = flat_map (λ p. target_line (is_current_by m p) p) rules.settings.targets

  -- how many jobs were started, done and failed
  abbrev pub summary : Moment → Text
  summary m =
      summary_line (length m.begun) (length (filter (is_closed_well rules m.world) m.begun)) (length (filter (is_closed_badly rules m.world) m.begun))

-- The lines that the events of a log make, in order: one for each start, one for each close.
pub data HasLines (rules : Rules) (entry : World) : List Event → Text → Type 0 where
  NoLines : HasLines rules entry [] []
  AndThen :
      (events : List Event) (text : Text) (e : Event) (before now : Moment) →
      HasLines rules entry events text →
      IsMoment rules entry events before →
      IsMoment rules entry (events ++ e ∷ []) now →
      HasLines rules entry (events ++ e ∷ []) (text ++ (start_lines rules now e.call ++ close_lines rules before now))

-- The whole text of a run with status 0 or 1: the lines of its events, a line for each target, and the summary. The targets are
-- judged by the plan in force at the exit.
pub record IsRunText (rules : Rules) (entry : World) (log : List Event) (text : Text) : Type 0 where
  pub lines : Text
  pub last : Moment
  pub has_lines : HasLines rules entry log lines
  pub is_last : IsMoment rules entry log last
  pub text_is : text ≡ lines ++ (target_lines rules last ++ summary rules last)
