-- How the run whose job fails ends: with status 1; and it may not call its target current.
use Rattle.std.proofs.Common.{◌≡◌, true, false, List, [], ◌∷◌, ◌++◌, codes, Option, Some, is_some, refl, sym, ap, ◌∙◌, IsTrue, arith, true≢false}
use Rattle.smk_base.specs.declared.tree.Tree.{Tree}
use Rattle.smk_world.specs.declared.event.Event.{Event}
use Rattle.smk_world.specs.World.{run}
use Rattle.smk_pattern.specs.Shapes.{Text}
use Rattle.smk_report.specs.declared.fault.Fault.TheVariants as fault
use Rattle.smk_report.specs.Lines.{target_line}
use Rattle.smk_drive.specs.Lawful.{has_failed}
use Rattle.smk_flow.proofs.Examples.{commands}
use Rattle.smk_drive_course.specs.RunReports.{HasLine}
use Rattle.smk_drive_rows.proofs.Logs.{IsSettled, last, last_is, last_whole, at_the_end}
use Rattle.smk_drive_rows.proofs.Telling.{no_line}
use Rattle.smk_drive_rows.proofs.Events.{of_job, marking, start, ends}
use Rattle.smk_drive_rows.proofs.CopyRow.{entry, formed, out}
use Rattle.smk_drive_rows.proofs.FailRow.{rules, log, settled, the_jobs, its_text, its_report}
use Rattle.smk_cli_target.specs.Ends.{EndsWell, CurrentIsClean, FailedSo}
use Rattle.smk_drive_rows.proofs.CopyEnd.{none_marked}

pub ends_well : EndsWell commands rules entry log 1 its_text
ends_well =
    record {
      report = its_report;
      clean = ((λ has. absurd (no_line its_text (target_line true out) refl has)), tt);
      all_told = λ zero. absurd (omega arith);
      done = λ zero. absurd (omega arith);
      failed_one = λ one. at_the_end rules entry formed log settled (λ m. IsTrue (has_failed m)) refl;
      no_mark = none_marked entry (last rules entry log).world (last_whole rules entry formed log settled).formed refl;
      no_lock = λ no. absurd (true≢false no);
    }

-- ## The fault that is told

abbrev until_failed : List Event
until_failed = of_job the_jobs 0 (λ j. marking out ++ (start 1 j ∷ ends 1 1 [] ∷ []))

until_settled : IsSettled rules entry until_failed
until_settled = record { start = refl; rests = (refl, (refl, tt)) }

pub its_fault : FailedSo rules entry log (fault.JobFailed (codes "copy") out 1)
its_fault =
    record {
      events = until_failed;
      rest = _;
      split = refl;
      moment = last rules entry until_failed;
      is_moment = last_is rules entry formed until_failed until_settled;
      failed = _;
      alone = refl;
      of_rule = refl;
      of_path = refl;
      so = refl;
    }

-- no status 0 is told of a failed job
pub no_good_status : FailedSo rules entry log (fault.JobFailed (codes "copy") out 0) → ⊥
no_good_status h = h

-- ## Wrong reports

no_tree : (t : Option Tree) (tree : Tree) → is_some t ≡ false → t ≡ Some tree → ⊥
no_tree t tree h e = true≢false (sym (ap is_some e) ∙ h)

-- a report that calls the target current is refused, whatever else it says
pub never_current : (text : Text) → CurrentIsClean commands rules (run entry log) text → HasLine text (target_line true out) → ⊥
never_current text clean has = let is = clean.0 has in no_tree _ is.0 refl is.1
