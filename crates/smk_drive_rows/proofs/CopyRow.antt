-- A run that copies a file, held against every clause; and wrong runs of the same folder, each refused by one.
use Rattle.std.proofs.Common.{◌≡◌, ℕ, false, List, [], ◌∷◌, ◌++◌, codes, Some, None, Ok, Err, refl, sym, subst, inl, true≢false, arith}
use Rattle.std.specs.Fmt.{digits}
use Rattle.hex.specs.Hex.{encode_with}
use Rattle.sha2.specs.Sha256.{digest_bytes, sha256}
use Rattle.smk_world.specs.declared.event.Node.TheVariants.{Regular}
use Rattle.smk_world.specs.declared.event.Event.{Event}
use Rattle.smk_world.specs.declared.event.Failed.{Failed}
use Rattle.smk_world.specs.declared.event.Call.TheVariants.{Removed, Waited}
use Rattle.smk_world.specs.declared.event.Node.{Node}
use Rattle.smk_world.specs.World.{World, Nodes, IsFormed, world_of, firmly, out_paths}
use Rattle.smk_world.specs.Calls.{IsFirmlyMarked}
use Rattle.smk_world.specs.Trees.{Path, Each}
use Rattle.smk_pattern.specs.Shapes.{Text}
use Rattle.smk_flow.specs.declared.job.Job.{Job}
use Rattle.smk_record.specs.declared.record.Record.{Record}
use Rattle.smk_record.specs.declared.record.Stamp.TheVariants.{Sum}
use Rattle.smk_store.specs.Trust.{sum_of}
use Rattle.smk_drive.specs.Moments.{Rules, Moment, Begun, runs}
use Rattle.smk_flow.proofs.Examples.{copy}
use Rattle.smk_chain.proofs.Folders.{jobs_in, recorded}
use Rattle.smk_plan.proofs.Plans.{out_txt, before_copy}
use Rattle.smk_drive.proofs.Turns.{reader, event, put}
use Rattle.smk_report.specs.declared.fault.Fault.{Fault}
use Rattle.smk_drive_course.specs.Lawful.{Lawful}
use Rattle.smk_drive_course.specs.Refusals.{RunRefuses}
use Rattle.smk_drive_course.specs.RunReports.{IsRunText}
use Rattle.smk_drive_rows.proofs.Truth.{not_empty, nil_right, only}
use Rattle.smk_drive_rows.proofs.Logs.{IsSettled, first_moment, first_is, last, last_is}
use Rattle.smk_drive_rows.proofs.Checker.{IsChecked, started}
use Rattle.smk_drive_rows.proofs.Unrefused.{never_refused}
use Rattle.smk_drive_rows.proofs.Keeping.{Keeps}
use Rattle.smk_drive_rows.proofs.Telling.{lines_of, is_report}
use Rattle.smk_drive_rows.proofs.Events.{formed_of, rules_by, marking, start, ends, unmarking, doing, of_job, IsGood, good}

-- ## The good run

abbrev pub in_txt : Path
in_txt = codes "in.txt"

abbrev pub out : Path
out = codes "out.txt"

abbrev pub nodes : Nodes
nodes = (in_txt, Regular (codes "hello\n") 1000 false) ∷ []

abbrev pub entry : World
entry = world_of nodes

pub formed : IsFormed entry
formed = formed_of nodes refl

abbrev pub the_jobs : List Job
the_jobs = jobs_in copy before_copy [] (out ∷ [])

-- the record that the run writes
abbrev pub records : List Record
records = recorded the_jobs ((1, Sum 1000 (sum_of (codes "hello\n")) ∷ [], []) ∷ [])

abbrev pub rules : Rules
rules = rules_by copy out_txt (reader records)

abbrev pub log : List Event
log = of_job the_jobs 0 (doing 1 out (codes "hello\n"))

-- the plans at the entry, before the mark, at the start and at the end
pub settled : IsSettled rules entry log
settled = record { start = refl; rests = (refl, (refl, (refl, tt))) }

is_checked : IsChecked rules entry log 0
is_checked =
    record {
      settled = settled;
      events = refl;
      end = refl;
      starts = ((_, inl refl, refl, refl, refl, started rules entry _ _ refl), tt);
      writes = ((refl, tt), tt);
      waited = inl refl;
    }

kept : Keeps rules entry log
kept = record { late = refl; settled = tt; protected = refl }

pub is_good : IsGood rules entry log 0
unfolding digits encode_with digest_bytes sha256
is_good = good rules entry log 0 formed is_checked refl kept

abbrev pub its_text : Text
its_text =
    lines_of
    (codes "start copy out.txt" ∷ codes "done copy out.txt" ∷ codes "current out.txt" ∷ codes "summary: 1 started, 1 done, 0 failed" ∷ [])

pub its_report : IsRunText rules entry log its_text
unfolding digits
its_report = is_report rules entry formed log settled its_text refl

-- no refusal is met: in the midst of the job its own mark stands, but that is no rest
pub refuses_nothing : (f : Fault) → RunRefuses rules entry log f → ⊥
unfolding digits encode_with digest_bytes sha256
refuses_nothing f r = never_refused rules entry formed log settled refl refl f r

-- ## Wrong runs

abbrev at_entry : Moment
at_entry = first_moment rules entry

-- a source is taken away
abbrev taking : Event
taking = event (Removed in_txt (Ok tt)) []

pub takes_source : (status : ℕ) → Lawful rules entry (taking ∷ []) status → ⊥
takes_source status l = true≢false (sym ((l.each [] taking [] at_entry refl (first_is rules entry formed refl)).changes in_txt refl))

-- a wait without a child
abbrev waiting : Failed → Event
waiting failed = event (Waited (Err failed)) []

pub waits_alone : (failed : Failed) (status : ℕ) → Lawful rules entry (waiting failed ∷ []) status → ⊥
waits_alone failed status l = (l.each [] (waiting failed) [] at_entry refl (first_is rules entry formed refl)).waits refl

-- nothing is done, and all is said to be
pub does_nothing : Lawful rules entry [] 0 → ⊥
does_nothing l = not_empty _ _ (l.nothing_left_at_the_end (omega arith) at_entry (first_is rules entry formed refl) refl)

-- ## Starting

-- the command is started a second time, while its child runs
abbrev begun_once : List Event
begun_once = of_job the_jobs 0 (λ j. marking out ++ start 1 j ∷ [])

abbrev once_more : List Event
once_more = of_job the_jobs 0 (λ j. start 2 j ∷ [])

once_settled : IsSettled rules entry begun_once
once_settled = record { start = refl; rests = (refl, (refl, tt)) }

pub starts_twice : (status : ℕ) → Lawful rules entry (begun_once ++ once_more) status → ⊥
starts_twice status l =
    let s = (l.each begun_once _ [] (last rules entry begun_once) refl (last_is rules entry formed begun_once once_settled)).starts in
    true≢false (subst (λ (b : Begun). runs (last rules entry begun_once).world b.job ≡ false) (only _ s.0 s.1) s.5.idle)

-- it is started before its mark is there
abbrev unmarked : List Event
unmarked = of_job the_jobs 0 (λ j. start 1 j ∷ [])

not_firm : (n : Node) → firmly None ≡ firmly (Some n) → ⊥
not_firm n h = cc

pub starts_unmarked : (status : ℕ) → Lawful rules entry unmarked status → ⊥
starts_unmarked status l =
    let s = (l.each [] _ [] at_entry refl (first_is rules entry formed refl)).starts in
    let marks = subst (λ (b : Begun). Each (IsFirmlyMarked entry) (out_paths b.job.recipe)) (only _ s.0 s.1) s.5.marks in
    not_firm marks.0.0 marks.0.1

-- ## Closing

-- the mark is removed although no record was written
abbrev unrecorded : List Event
unrecorded = of_job the_jobs 0 (λ j. marking out ++ (start 1 j ∷ (ends 1 0 (put out (codes "hello\n") ∷ []) ∷ unmarking out)))

unrecorded_settled : IsSettled rules entry unrecorded
unrecorded_settled = record { start = refl; rests = (refl, (refl, (refl, tt))) }

pub closes_unrecorded : (status : ℕ) → Lawful rules entry unrecorded status → ⊥
closes_unrecorded status l =
    true≢false ((l.closed_with_cause unrecorded [] (last rules entry unrecorded) (sym (nil_right unrecorded)) (last_is rules entry formed unrecorded unrecorded_settled)).0 refl)
