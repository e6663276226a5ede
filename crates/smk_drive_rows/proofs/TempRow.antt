-- A temporary file is made, read by a job, and taken away; and a run that takes it away too early.
use Rattle.std.proofs.Common.{◌≡◌, ◌⊎◌, ℕ, true, false, List, [], ◌∷◌, ◌++◌, map, codes, Ok, refl, sym, subst, inl, inr, true≢false}
use Rattle.std.specs.Fmt.{digits}
use Rattle.hex.specs.Hex.{encode_with}
use Rattle.sha2.specs.Sha256.{digest_bytes, sha256}
use Rattle.smk_base.specs.Path.{is_under}
use Rattle.smk_base.proofs.Under.{at_or_under_cases, rest_under}
use Rattle.smk_world.specs.declared.event.Node.TheVariants.{Regular}
use Rattle.smk_world.specs.declared.event.Event.{Event}
use Rattle.smk_world.specs.declared.event.Call.TheVariants.{Removed, Settled}
use Rattle.smk_world.specs.World.{World, Nodes, IsFormed, world_of, run, firmly, reading}
use Rattle.smk_world.specs.Trees.{Path}
use Rattle.smk_flow.specs.declared.job.Job.{Job}
use Rattle.smk_record.specs.declared.record.Record.{Record}
use Rattle.smk_record.specs.declared.record.Stamp.TheVariants.{Sum, Made}
use Rattle.smk_store.specs.Trust.{sum_of}
use Rattle.smk_plan.specs.States.{job_path}
use Rattle.smk_drive.specs.Moments.{Rules}
use Rattle.smk_flow.proofs.Examples.{temporary_with, cat}
use Rattle.smk_chain.proofs.Folders.{jobs_in, recorded, fresh}
use Rattle.smk_plan.proofs.Plans.{with_targets}
use Rattle.smk_drive.proofs.Turns.{reader, event}
use Rattle.smk_drive_course.specs.Lawful.{Lawful}
use Rattle.smk_drive_course.specs.Keeping.{IsSettled as IsSettledAt}
use Rattle.smk_drive_course.specs.RunReports.{IsRunText}
use Rattle.smk_drive_rows.proofs.Logs.{IsSettled, last, last_is}
use Rattle.smk_drive_rows.proofs.Checker.{IsChecked, started}
use Rattle.smk_drive_rows.proofs.Keeping.{Keeps}
use Rattle.smk_drive_rows.proofs.Telling.{lines_of, is_report}
use Rattle.smk_drive_rows.proofs.Events.{formed_of, rules_by, doing, of_job, IsGood, good}

abbrev pub t : Path
t = codes "t"

abbrev pub u : Path
u = codes "u"

abbrev pub nodes : Nodes
nodes = (codes "s", Regular (codes "q") 1 false) ∷ []

abbrev pub entry : World
entry = world_of nodes

formed : IsFormed entry
formed = formed_of nodes refl

abbrev pub the_jobs : List Job
the_jobs = jobs_in (temporary_with cat) (fresh nodes) [] (u ∷ [])

pub their_order : map job_path the_jobs ≡ t ∷ u ∷ []
their_order = refl

abbrev pub records : List Record
records = recorded the_jobs ((1, Sum 1 (sum_of (codes "q")) ∷ [], []) ∷ (2, Made 1 ∷ [], []) ∷ [])

abbrev pub rules : Rules
rules = rules_by (temporary_with cat) (with_targets (u ∷ [])) (reader records)

-- the temporary file is made
abbrev pub half : List Event
half = of_job the_jobs 0 (doing 1 t (codes "q"))

abbrev pub removal : Event
removal = event (Removed t (Ok tt)) []

abbrev pub log : List Event
log = half ++ (of_job the_jobs 1 (doing 2 u (codes "q")) ++ (removal ∷ event (Settled (t ∷ []) (Ok tt)) [] ∷ []))

settled : IsSettled rules entry log
settled = record { start = refl; rests = (refl, (refl, (refl, (refl, (refl, (refl, (refl, (refl, tt)))))))) }

is_checked : IsChecked rules entry log 0
is_checked =
    record {
      settled = settled;
      events = refl;
      end = refl;
      starts = (
        (_, inl refl, refl, refl, refl, started rules entry _ _ refl),
        ((_, inr (inl refl), refl, refl, refl, started rules entry _ _ refl), tt),
      );
      writes = ((refl, tt), ((refl, tt), tt));
      waited = inl refl;
    }

-- nothing at or under it may come back
gone_for_good : IsSettledAt (run entry log) t
gone_for_good q h = go (at_or_under_cases q t h)
  where
    go : (q ≡ t) ⊎ (is_under q t ≡ true) → (run entry log).nodes q ≡ firmly (reading ((run entry log).nodes q))
    go (inl e) = subst (λ x. (run entry log).nodes x ≡ firmly (reading ((run entry log).nodes x))) (sym e) refl
    go (inr u) = let r = rest_under q t u in subst (λ x. (run entry log).nodes x ≡ firmly (reading ((run entry log).nodes x))) (sym r.1) refl

kept : Keeps rules entry log
kept = record { late = refl; settled = ((λ spent. gone_for_good), tt); protected = refl }

pub is_good : IsGood rules entry log 0
unfolding digits encode_with digest_bytes sha256
is_good = good rules entry log 0 formed is_checked refl kept

pub its_report : IsRunText rules entry log (lines_of
    (codes "start t t"
    ∷ codes "done t t"
    ∷ codes "start u u"
    ∷ codes "done u u"
    ∷ codes "current u"
    ∷ codes "summary: 2 started, 2 done, 0 failed"
    ∷ []))
unfolding digits
its_report = is_report rules entry formed log settled _ refl

-- ## Wrong runs

half_settled : IsSettled rules entry half
half_settled = record { start = refl; rests = (refl, (refl, (refl, tt))) }

-- it is taken away while its reader still waits for it
pub removes_early : (status : ℕ) → Lawful rules entry (half ++ removal ∷ []) status → ⊥
removes_early status l =
    true≢false (sym ((l.each half removal [] (last rules entry half) refl (last_is rules entry formed half half_settled)).changes t refl))
