-- A checkpoint is closed, and what it lists calls for a file that no rule makes, while another job runs: that one is closed, and nothing begins.
use Rattle.std.proofs.Common.{◌≡◌, ℕ, true, false, List, [], ◌∷◌, ◌++◌, map, codes, take, drop, refl, sym, inl, inr, true≢false}
use Rattle.std.specs.Fmt.{digits}
use Rattle.hex.specs.Hex.{encode_with}
use Rattle.sha2.specs.Sha256.{digest_bytes, sha256}
use Rattle.smk_base.specs.Place.{mark_place}
use Rattle.smk_world.specs.declared.event.Node.TheVariants.{Directory}
use Rattle.smk_world.specs.declared.event.Event.{Event}
use Rattle.smk_world.specs.declared.event.Change.{Change}
use Rattle.smk_world.specs.Trees.{Path}
use Rattle.smk_flow.specs.declared.job.Job.{Job}
use Rattle.smk_flow.specs.declared.rule.Flag.TheVariants.{Folder}
use Rattle.smk_flow.specs.Flows.{Flow}
use Rattle.smk_record.specs.declared.record.Record.{Record}
use Rattle.smk_record.specs.declared.record.Stamp.TheVariants.{Sum}
use Rattle.smk_store.specs.Trust.{sum_of}
use Rattle.smk_plan.specs.States.{job_path}
use Rattle.smk_report.specs.declared.fault.Fault.{Fault}
use Rattle.smk_report.specs.declared.fault.Fault.TheVariants as fault
use Rattle.smk_drive.specs.Moments.{Rules}
use Rattle.smk_flow.proofs.Examples.{rule, input, output, gathering, flow_of, cat, split, copying}
use Rattle.smk_chain.proofs.Folders.{jobs_in, recorded}
use Rattle.smk_plan.proofs.Plans.{with_targets, before_copy, a_member}
use Rattle.smk_drive.proofs.Turns.{reader, put}
use Rattle.smk_drive_course.specs.Lawful.{Lawful}
use Rattle.smk_drive_course.specs.Refusals.{RunRefuses, PlansAreRefused}
use Rattle.smk_drive_course.specs.RunReports.{IsFront}
use Rattle.smk_drive_rows.proofs.Chains.{refused_next}
use Rattle.smk_drive_rows.proofs.Logs.{IsSettled, last, last_is}
use Rattle.smk_drive_rows.proofs.Checker.{IsChecked, started}
use Rattle.smk_drive_rows.proofs.Unrefused.{none_before}
use Rattle.smk_drive_rows.proofs.Keeping.{Keeps}
use Rattle.smk_drive_rows.proofs.Telling.{lines_of, told, has_lines}
use Rattle.smk_drive_rows.proofs.Events.{rules_by, marking, start, ends, keeping, of_job, IsGood, good}
use Rattle.smk_drive_rows.proofs.CopyRow.{entry, formed, out}

abbrev pub d : Path
d = codes "d"

-- `g` gathers files of which no rule makes any
abbrev pub flow : Flow
flow =
    flow_of
    (rule true (codes "c") (input (codes "in.txt") ∷ []) (output (Folder ∷ []) d) split
    ∷ rule false (codes "g") (gathering (codes "c") (codes "{i}.txt") (codes "y/{i}.txt") ∷ []) (output [] (codes "g.txt")) cat
    ∷ copying cat
    ∷ [])

abbrev pub targets : List Path
targets = codes "g.txt" ∷ out ∷ []

abbrev pub the_jobs : List Job
the_jobs = jobs_in flow before_copy [] targets

pub their_order : map job_path the_jobs ≡ d ∷ codes "g.txt" ∷ out ∷ []
their_order = refl

abbrev pub records : List Record
records =
    recorded the_jobs
    ((1, Sum 1000 (sum_of (codes "hello\n")) ∷ [], a_member (codes "1.txt") ∷ []) ∷ (9, [], []) ∷ (2, Sum 1000 (sum_of (codes "hello\n")) ∷ [], []) ∷ [])

abbrev pub rules : Rules
rules = rules_by flow (record (with_targets targets) { cores = 2 }) (reader records)

abbrev pub listing : List Change
listing = record { place = d; node = Directory } ∷ put (codes "d/1.txt") (codes "hello\n") ∷ []

-- the checkpoint is done, while the other job runs
abbrev pub until_refused : List Event
until_refused =
    of_job the_jobs 0 (λ j. marking d ++ start 1 j ∷ [])
    ++ (of_job the_jobs 2 (λ j. marking out ++ start 2 j ∷ []) ++ (ends 1 0 listing ∷ keeping d d))

-- and then that one
abbrev pub closing : List Event
closing = ends 2 0 (put out (codes "hello\n") ∷ []) ∷ keeping out out

abbrev pub log : List Event
log = until_refused ++ closing

settled : IsSettled rules entry log
settled = record { start = refl; rests = (refl, (refl, (refl, (refl, ((refl, tt), ((refl, tt), tt)))))) }

is_checked : IsChecked rules entry log 3
is_checked =
    record {
      settled = settled;
      events = refl;
      end = refl;
      starts = (
        (_, inl refl, refl, refl, refl, started rules entry _ _ refl),
        ((_, inr (inl refl), refl, refl, refl, started rules entry _ _ refl), tt),
      );
      writes = ((refl, tt), ((refl, tt), tt));
      waited = inl refl;
    }

kept : Keeps rules entry log
kept = record { late = refl; settled = tt; protected = refl }

pub is_good : IsGood rules entry log 3
unfolding digits encode_with digest_bytes sha256
is_good = good rules entry log 3 formed is_checked refl kept

-- ## What is refused

until_settled : IsSettled rules entry until_refused
until_settled = record { start = refl; rests = (refl, (refl, (refl, (refl, ((refl, tt), tt))))) }

abbrev refusal : Fault
refusal = fault.NoRule (codes "y/1.txt")

pub is_refused : RunRefuses rules entry log refusal
unfolding digits encode_with digest_bytes sha256
is_refused =
    record {
      events = until_refused;
      rest = closing;
      split = refl;
      moment = last rules entry until_refused;
      is_moment = last_is rules entry formed until_refused until_settled;
      none_before = none_before rules entry formed until_refused until_settled refl;
      refuses = PlansAreRefused refusal refl
          (refused_next rules (last rules entry until_refused).world (last rules entry until_refused).begun [] _ _ refusal refl refl refl refl refl refl);
    }

-- it tells of both jobs
pub its_front : IsFront rules entry log (lines_of
    (codes "start c d" ∷ codes "start copy out.txt" ∷ codes "done c d" ∷ codes "done copy out.txt" ∷ []))
its_front = inl (told rules entry log, has_lines rules entry formed log settled, ([], refl))

-- ## Wrong runs

-- the checkpoint runs alone, and the other job begins after the refusal
abbrev alone : List Event
alone = of_job the_jobs 0 (λ j. marking d ++ (start 1 j ∷ (ends 1 0 listing ∷ keeping d d)))

abbrev begun_then : List Event
begun_then = alone ++ take 1 (marking out)

begun_settled : IsSettled rules entry begun_then
begun_settled = record { start = refl; rests = (refl, (refl, ((refl, tt), ((refl, tt), tt)))) }

pub begins_after_refusal : (status : ℕ) → Lawful rules entry (begun_then ++ drop 1 (marking out)) status → ⊥
begins_after_refusal status l =
    true≢false (sym ((l.each begun_then _ _ (last rules entry begun_then) refl (last_is rules entry formed begun_then begun_settled)).changes (mark_place out) refl))
