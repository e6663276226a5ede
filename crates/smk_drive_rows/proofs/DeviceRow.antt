-- Two children run side by side as the device fails: the other one is waited for, and nothing more begins.
use Rattle.std.proofs.Common.{◌≡◌, ◌⊎◌, ℕ, true, false, not, List, [], ◌∷◌, ◌++◌, codes, take, drop, Err, refl, sym, subst, inl, inr, IsTrue, true≢false}
use Rattle.std.specs.Fmt.{digits}
use Rattle.std.specs.List.{list_all}
use Rattle.hex.specs.Hex.{encode_with}
use Rattle.sha2.specs.Sha256.{digest_bytes, sha256}
use Rattle.smk_world.specs.declared.event.Event.{Event}
use Rattle.smk_world.specs.declared.event.Failed.{Failed}
use Rattle.smk_world.specs.declared.event.Call.TheVariants.{Looked, Settled}
use Rattle.smk_world.specs.World.{run}
use Rattle.smk_world.specs.Trees.{IsIn}
use Rattle.smk_flow.specs.declared.job.Job.{Job}
use Rattle.smk_flow.specs.Flows.{Flow}
use Rattle.smk_record.specs.declared.record.Record.{Record}
use Rattle.smk_record.specs.declared.record.Stamp.TheVariants.{Time}
use Rattle.smk_drive.specs.Moments.{Rules}
use Rattle.smk_drive.specs.Lawful.{is_failed_wait}
use Rattle.smk_flow.proofs.Examples.{rule, input, output, flow_of, cat}
use Rattle.smk_chain.proofs.Folders.{jobs_in, recorded}
use Rattle.smk_plan.proofs.Plans.{with_targets, before_copy}
use Rattle.smk_drive.proofs.Turns.{reader, event, put}
use Rattle.smk_drive_course.specs.Lawful.{Lawful}
use Rattle.smk_drive_course.specs.RunReports.{IsFront}
use Rattle.smk_drive_rows.proofs.Truth.{not_both, each_true, at_each}
use Rattle.smk_drive_rows.proofs.Chains.{is_empty}
use Rattle.smk_drive_rows.proofs.Logs.{IsSettled, last, last_is}
use Rattle.smk_drive_rows.proofs.Checker.{IsChecked, started}
use Rattle.smk_drive_rows.proofs.Keeping.{Keeps}
use Rattle.smk_drive_rows.proofs.Telling.{lines_of, told, has_lines}
use Rattle.smk_drive_rows.proofs.Events.{rules_by, marking, start, ends, of_job, IsGood, good}
use Rattle.smk_drive_rows.proofs.CopyRow.{in_txt, entry, formed}
use Rattle.smk_drive_rows.proofs.PairRow.{a, b}

abbrev pub flow : Flow
flow =
    flow_of
    (rule false (codes "one") (input (codes "in.txt") ∷ []) (output [] a) cat
    ∷ rule false (codes "two") (input (codes "in.txt") ∷ []) (output [] b) cat
    ∷ [])

abbrev pub the_jobs : List Job
the_jobs = jobs_in flow before_copy [] (a ∷ b ∷ [])

abbrev pub records : List Record
records = recorded the_jobs ((1, Time 1000 ∷ [], []) ∷ (2, Time 1000 ∷ [], []) ∷ [])

abbrev pub rules : Rules
rules = rules_by flow (record (with_targets (a ∷ b ∷ [])) { cores = 2 }) (reader records)

abbrev pub beginning : List Event
beginning = of_job the_jobs 0 (λ j. marking a ++ start 1 j ∷ []) ++ of_job the_jobs 1 (λ j. marking b ++ start 2 j ∷ [])

-- the first child has ended, and its output can't be settled
abbrev pub log : Failed → List Event
log failed =
    beginning
    ++ (ends 1 0 (put a (codes "hello\n") ∷ [])
    ∷ event (Settled (a ∷ []) (Err failed)) []
    ∷ ends 2 0 (put b (codes "hello\n") ∷ [])
    ∷ [])

settled : (failed : Failed) → IsSettled rules entry (log failed)
settled failed = record { start = refl; rests = (refl, (refl, (refl, (refl, tt)))) }

is_checked : (failed : Failed) → IsChecked rules entry (log failed) 4
is_checked failed =
    record {
      settled = settled failed;
      events = refl;
      end = refl;
      starts = (
        (_, inl refl, refl, refl, refl, started rules entry _ _ refl),
        ((_, inr (inl refl), refl, refl, refl, started rules entry _ _ refl), tt),
      );
      writes = tt;
      waited = inl refl;
    }

kept : (failed : Failed) → Keeps rules entry (log failed)
kept failed = record { late = refl; settled = tt; protected = refl }

pub is_good : (failed : Failed) → IsGood rules entry (log failed) 4
unfolding digits encode_with digest_bytes sha256
is_good failed = good rules entry (log failed) 4 formed (is_checked failed) refl (kept failed)

-- it tells of the starts alone
pub its_lines : (failed : Failed) → told rules entry (log failed) ≡ lines_of (codes "start one a.txt" ∷ codes "start two b.txt" ∷ [])
its_lines failed = refl

pub its_front : (failed : Failed) → IsFront rules entry (log failed) (lines_of (codes "start one a.txt" ∷ codes "start two b.txt" ∷ []))
its_front failed = inl (told rules entry (log failed), has_lines rules entry formed (log failed) (settled failed), ([], refl))

-- ## Wrong runs

-- a look fails, and the second job begins all the same
abbrev after_failure : Failed → List Event
after_failure failed =
    of_job the_jobs 0 (λ j. marking a ++ start 1 j ∷ []) ++ (event (Looked in_txt (Err failed)) [] ∷ take 1 (marking b))

abbrev begun_too : Failed → List Event
begun_too failed = after_failure failed ++ drop 1 (marking b)

after_settled : (failed : Failed) → IsSettled rules entry (after_failure failed)
after_settled failed = record { start = refl; rests = (refl, (refl, (refl, (refl, tt)))) }

pub begins_after_failure : (failed : Failed) (status : ℕ) → Lawful rules entry (begun_too failed) status → ⊥
begins_after_failure failed status l =
    let begins = (l.each (after_failure failed) _ _ (last rules entry (after_failure failed)) refl (last_is rules entry formed (after_failure failed) (after_settled failed))).begins in
    true≢false (sym (begins.1.0 refl).quiet)

-- the second child isn't waited for
abbrev left_running : Failed → List Event
left_running failed = beginning ++ (ends 1 0 (put a (codes "hello\n") ∷ []) ∷ event (Settled (a ∷ []) (Err failed)) [] ∷ [])

some_child : {A : Type 0} (xs : List A) → is_empty xs ≡ false → xs ≡ [] → ⊥
some_child xs t h = true≢false (subst (λ ys. is_empty ys ≡ false) h t)

none_fails : (log : List Event) → list_all (λ (e : Event). not (is_failed_wait e.call)) log ≡ true → (e : Event) → IsIn log e → IsTrue (is_failed_wait e.call) → ⊥
none_fails log t e is f =
    not_both (is_failed_wait e.call)
    (at_each (λ (d : Event). not (is_failed_wait d.call) ≡ true) log e
    (each_true (λ (d : Event). not (is_failed_wait d.call)) (λ (d : Event). not (is_failed_wait d.call) ≡ true) (λ d h. h) log t) is) f

pub leaves_child : (failed : Failed) (status : ℕ) → Lawful rules entry (left_running failed) status → ⊥
leaves_child failed status l = go l.all_waited
  where
    go : ((run entry (left_running failed)).children ≡ []) ⊎ ((e : Event) × IsIn (left_running failed) e × IsTrue (is_failed_wait e.call)) → ⊥
    go (inl none) = some_child (run entry (left_running failed)).children refl none
    go (inr w) = none_fails (left_running failed) refl w.0 w.1 w.2
