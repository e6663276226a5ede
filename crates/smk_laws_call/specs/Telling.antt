-- What a run tells of its targets.
use Rattle.std.specs.Prelude.{◌≡◌, Bool, true, List, [], ◌++◌, zip, Option, Some, None, Ok}
use Rattle.smk_world.specs.World.{World}
use Rattle.smk_world.specs.Devices.{Sunk}
use Rattle.smk_world.specs.Trees.{Path, Each, IsIn}
use Rattle.smk_store.specs.Images.{seen}
use Rattle.smk_store.specs.Soundness.{Outside}
use Rattle.smk_laws_plan.specs.Current.{IsClean}
use Rattle.smk_report.specs.Lines.{Text, summary_line}
use Rattle.smk_words_reading.specs.declared.asked.RunWords.{RunWords}
use Rattle.smk_cli_entry.specs.declared.asking.Asked.{Asked}
use Rattle.smk_cli_entry.specs.Entry.{IsAskedIn}
use Rattle.smk_run.specs.declared.tally.Tally.{Tally}
use Rattle.smk_run.specs.Reports.{IsFront, report_of}
use Rattle.smk_run.specs.Turns.{Turn}
use Rattle.smk_drive_course.specs.declared.ending.End.{End}
use Rattle.smk_drive_course.specs.Reports.{lines_of, target_lines}
use Rattle.smk_drive_course.specs.Steps.{Deed}
use Rattle.smk_make.specs.Closing.{counts_line, lines_by}
use Rattle.smk_clean.specs.Clean.{setting_in}

-- the lines of the targets and of the counts, where a run that is driven came to tell how it ended
abbrev pub end_lines : List Path → Option End → Text
end_lines targets None = []
end_lines targets (Some end) = target_lines targets end.current ++ summary_line end.started end.done end.failed

-- The text of a run: nothing; or a front of the lines of its jobs, of a line for each target and of the counts, in which a target that is called
-- current holds at the end what a clean run from the sources makes of it.
pub data Tells (o : Outside) (words : RunWords) (w v : World) (text : Text) : Type 0 where
  Nothing : text ≡ [] → Tells o words w v text
  Lines :
      (asked : Asked) (turns : List Turn) (current : Path → Bool) (tally : Tally) →
      IsAskedIn words w.nodes (Ok asked) →
      IsFront text (report_of asked.flow turns ++ (lines_by current asked.targets ++ counts_line tally)) →
      ((p : Path) → IsIn asked.targets p → current p ≡ true → IsClean (setting_in o w asked.flow) (seen o.read v) p) → Tells o words w v text
  -- of a run that is driven
  DrivenLines :
      (asked : Asked) (deeds : List Deed) (told : Option End) →
      IsAskedIn words w.nodes (Ok asked) →
      IsFront text (lines_of asked.flow deeds ++ end_lines asked.targets told) →
      ((end : End) →
      told ≡ Some end →
      Each (λ (x : Path × Bool). x.1 ≡ true → IsClean (setting_in o w asked.flow) (seen o.read v) x.0) (zip asked.targets end.current)) → Tells o words w v text

-- what was put, where it is told
abbrev pub HasPutSo : Sunk → Sunk → (Text → Type 0) → Type 0
HasPutSo old new P = (now : Text) → new.put ≡ Some now → (before : Text) × (old.put ≡ Some before) × ((text : Text) × P text × (now ≡ before ++ text))
