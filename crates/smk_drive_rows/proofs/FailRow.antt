-- A run whose one job fails, held against every clause; and the same run with its report or its log turned.
use Rattle.std.proofs.Common.{ℕ, List, [], ◌∷◌, ◌++◌, codes, refl, sym, inl, true≢false}
use Rattle.std.specs.Fmt.{digits}
use Rattle.hex.specs.Hex.{encode_with}
use Rattle.sha2.specs.Sha256.{digest_bytes, sha256}
use Rattle.smk_world.specs.declared.event.Event.{Event}
use Rattle.smk_pattern.specs.Shapes.{Text}
use Rattle.smk_flow.specs.declared.job.Job.{Job}
use Rattle.smk_flow.specs.Flows.{Flow}
use Rattle.smk_drive.specs.Moments.{Rules}
use Rattle.smk_flow.proofs.Examples.{copy_with}
use Rattle.smk_chain.proofs.Folders.{jobs_in}
use Rattle.smk_plan.proofs.Plans.{out_txt, before_copy}
use Rattle.smk_drive.proofs.Turns.{reader, put}
use Rattle.smk_drive_course.specs.Lawful.{Lawful}
use Rattle.smk_drive_course.specs.RunReports.{IsRunText}
use Rattle.smk_drive_rows.proofs.Truth.{nil_right}
use Rattle.smk_drive_rows.proofs.Logs.{IsSettled, last, last_is}
use Rattle.smk_drive_rows.proofs.Checker.{IsChecked, started}
use Rattle.smk_drive_rows.proofs.Keeping.{Keeps}
use Rattle.smk_drive_rows.proofs.Telling.{lines_of, is_report}
use Rattle.smk_drive_rows.proofs.Events.{rules_by, marking, start, ends, losing, of_job, IsGood, good}
use Rattle.smk_drive_rows.proofs.CopyRow.{entry, formed, out}

abbrev pub flow : Flow
flow = copy_with (codes "fail {input}")

abbrev pub rules : Rules
rules = rules_by flow out_txt (reader [])

abbrev pub the_jobs : List Job
the_jobs = jobs_in flow before_copy [] (out ∷ [])

-- its child ends with this status, and leaves nothing
abbrev pub ended_with : ℕ → List Event
ended_with status = of_job the_jobs 0 (λ j. marking out ++ (start 1 j ∷ (ends 1 status [] ∷ losing out)))

abbrev pub log : List Event
log = ended_with 1

pub settled : IsSettled rules entry log
settled = record { start = refl; rests = (refl, (refl, (refl, tt))) }

is_checked : IsChecked rules entry log 1
is_checked =
    record {
      settled = settled;
      events = refl;
      end = refl;
      starts = ((_, inl refl, refl, refl, refl, started rules entry _ _ refl), tt);
      writes = tt;
      waited = inl refl;
    }

kept : Keeps rules entry log
kept = record { late = refl; settled = tt; protected = refl }

pub is_good : IsGood rules entry log 1
unfolding digits encode_with digest_bytes sha256
is_good = good rules entry log 1 formed is_checked refl kept

abbrev pub its_text : Text
its_text =
    lines_of
    (codes "start copy out.txt" ∷ codes "failed copy out.txt: status 1" ∷ codes "not current out.txt" ∷ codes "summary: 1 started, 0 done, 1 failed" ∷ [])

pub its_report : IsRunText rules entry log its_text
unfolding digits
its_report = is_report rules entry formed log settled its_text refl

-- ## Wrong runs

-- the child ended well and left its output, and the job is closed as if it had failed
abbrev lost : List Event
lost = of_job the_jobs 0 (λ j. marking out ++ (start 1 j ∷ (ends 1 0 (put out (codes "hello\n") ∷ []) ∷ losing out)))

lost_settled : IsSettled rules entry lost
lost_settled = record { start = refl; rests = (refl, (refl, (refl, tt))) }

pub loses_without_cause : (status : ℕ) → Lawful rules entry lost status → ⊥
loses_without_cause status l =
    true≢false ((l.closed_with_cause lost [] (last rules entry lost) (sym (nil_right lost)) (last_is rules entry formed lost lost_settled)).0 refl)
