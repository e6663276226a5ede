-- Two jobs on one core, of which the first fails: the run ends there, or goes on with the other where it is told to keep going.
use Rattle.std.proofs.Common.{ℕ, Bool, true, false, List, [], ◌∷◌, ◌++◌, codes, take, refl, sym, inl, inr, true≢false, arith}
use Rattle.std.specs.Fmt.{digits}
use Rattle.hex.specs.Hex.{encode_with}
use Rattle.sha2.specs.Sha256.{digest_bytes, sha256}
use Rattle.smk_world.specs.declared.event.Event.{Event}
use Rattle.smk_world.specs.Trees.{Path}
use Rattle.smk_flow.specs.declared.job.Job.{Job}
use Rattle.smk_flow.specs.Flows.{Flow}
use Rattle.smk_record.specs.declared.record.Record.{Record}
use Rattle.smk_record.specs.declared.record.Stamp.TheVariants.{Sum}
use Rattle.smk_store.specs.Trust.{sum_of}
use Rattle.smk_pick.specs.declared.settings.Settings.{Settings}
use Rattle.smk_drive.specs.Moments.{Rules}
use Rattle.smk_flow.proofs.Examples.{rule, input, output, flow_of, cat}
use Rattle.smk_chain.proofs.Folders.{jobs_in, recorded}
use Rattle.smk_plan.proofs.Plans.{with_targets, before_copy}
use Rattle.smk_drive.proofs.Turns.{reader}
use Rattle.smk_drive_course.specs.Lawful.{Lawful}
use Rattle.smk_drive_course.specs.RunReports.{IsRunText}
use Rattle.smk_drive_rows.proofs.Truth.{not_empty}
use Rattle.smk_drive_rows.proofs.Logs.{IsSettled, last, last_is}
use Rattle.smk_drive_rows.proofs.Checker.{IsChecked, started}
use Rattle.smk_drive_rows.proofs.Keeping.{Keeps}
use Rattle.smk_drive_rows.proofs.Telling.{lines_of, is_report}
use Rattle.smk_drive_rows.proofs.Events.{rules_by, marking, start, ends, losing, doing, of_job, IsGood, good}
use Rattle.smk_drive_rows.proofs.CopyRow.{entry, formed}

abbrev pub a : Path
a = codes "a.txt"

abbrev pub b : Path
b = codes "b.txt"

abbrev pub flow : Flow
flow =
    flow_of
    (rule false (codes "one") (input (codes "in.txt") ∷ []) (output [] a) (codes "fail {input}")
    ∷ rule false (codes "two") (input (codes "in.txt") ∷ []) (output [] b) cat
    ∷ [])

abbrev pub the_jobs : List Job
the_jobs = jobs_in flow before_copy [] (a ∷ b ∷ [])

-- the second job draws the second serial, if the first one drew one
abbrev pub records : List Record
records =
    recorded the_jobs
    ((1, Sum 1000 (sum_of (codes "hello\n")) ∷ [], []) ∷ (2, Sum 1000 (sum_of (codes "hello\n")) ∷ [], []) ∷ [])

abbrev pub settings : Bool → Settings
settings keep_going = record (with_targets (a ∷ b ∷ [])) { keep_going = keep_going }

abbrev pub rules : Bool → Rules
rules keep_going = rules_by flow (settings keep_going) (reader records)

-- the first job fails
abbrev pub failing : List Event
failing = of_job the_jobs 0 (λ j. marking a ++ (start 1 j ∷ (ends 1 1 [] ∷ losing a)))

-- the second one is done
abbrev pub going_on : List Event
going_on = of_job the_jobs 1 (doing 2 b (codes "hello\n"))

-- ## The run ends

pub settled : IsSettled (rules false) entry failing
settled = record { start = refl; rests = (refl, (refl, (refl, tt))) }

is_checked : IsChecked (rules false) entry failing 1
is_checked =
    record {
      settled = settled;
      events = refl;
      end = refl;
      starts = ((_, inl refl, refl, refl, refl, started (rules false) entry _ _ refl), tt);
      writes = tt;
      waited = inl refl;
    }

kept : Keeps (rules false) entry failing
kept = record { late = refl; settled = tt; protected = refl }

pub is_good : IsGood (rules false) entry failing 1
unfolding digits encode_with digest_bytes sha256
is_good = good (rules false) entry failing 1 formed is_checked refl kept

pub its_report : IsRunText (rules false) entry failing (lines_of
    (codes "start one a.txt"
    ∷ codes "failed one a.txt: status 1"
    ∷ codes "not current a.txt"
    ∷ codes "not current b.txt"
    ∷ codes "summary: 1 started, 0 done, 1 failed"
    ∷ []))
unfolding digits
its_report = is_report (rules false) entry formed failing settled _ refl

-- ## The run keeps going

abbrev pub log : List Event
log = failing ++ going_on

pub going_settled : IsSettled (rules true) entry log
going_settled = record { start = refl; rests = (refl, (refl, (refl, (refl, (refl, (refl, tt)))))) }

going_checked : IsChecked (rules true) entry log 1
going_checked =
    record {
      settled = going_settled;
      events = refl;
      end = refl;
      starts = (
        (_, inl refl, refl, refl, refl, started (rules true) entry _ _ refl),
        ((_, inr (inl refl), refl, refl, refl, started (rules true) entry _ _ refl), tt),
      );
      writes = ((refl, tt), tt);
      waited = inl refl;
    }

going_kept : Keeps (rules true) entry log
going_kept = record { late = refl; settled = tt; protected = refl }

pub going_good : IsGood (rules true) entry log 1
unfolding digits encode_with digest_bytes sha256
going_good = good (rules true) entry log 1 formed going_checked refl going_kept

pub going_report : IsRunText (rules true) entry log (lines_of
    (codes "start one a.txt"
    ∷ codes "failed one a.txt: status 1"
    ∷ codes "start two b.txt"
    ∷ codes "done two b.txt"
    ∷ codes "not current a.txt"
    ∷ codes "current b.txt"
    ∷ codes "summary: 2 started, 1 done, 1 failed"
    ∷ []))
unfolding digits
going_report = is_report (rules true) entry formed log going_settled _ refl

-- ## Wrong runs

stopped_settled : IsSettled (rules true) entry failing
stopped_settled = record { start = refl; rests = (refl, (refl, (refl, tt))) }

-- it is told to keep going, and leaves the second job undone
pub stops_early : Lawful (rules true) entry failing 1 → ⊥
stops_early l =
    not_empty _ _ (l.nothing_left_at_the_end (omega arith) (last (rules true) entry failing) (last_is (rules true) entry formed failing stopped_settled) refl)

-- it isn't, and goes on with the second job: at the second event of that the job begins
abbrev begun_too : List Event
begun_too = failing ++ take 1 going_on

begun_settled : IsSettled (rules false) entry begun_too
begun_settled = record { start = refl; rests = (refl, (refl, (refl, (refl, tt)))) }

pub goes_on_anyway : (status : ℕ) → Lawful (rules false) entry log status → ⊥
goes_on_anyway status l =
    let begins = (l.each begun_too _ _ (last (rules false) entry begun_too) refl (last_is (rules false) entry formed begun_too begun_settled)).begins in
    true≢false (sym (begins.1.0 refl).going)
