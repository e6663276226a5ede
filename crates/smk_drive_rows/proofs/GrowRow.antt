-- A checkpoint is closed, the plan grows by what it lists, and all is made.
use Rattle.std.proofs.Common.{◌≡◌, false, List, [], ◌∷◌, ◌++◌, map, codes, refl, inl, inr}
use Rattle.std.specs.Fmt.{digits}
use Rattle.hex.specs.Hex.{encode_with}
use Rattle.sha2.specs.Sha256.{digest_bytes, sha256}
use Rattle.smk_world.specs.declared.event.Node.TheVariants.{Regular, Directory}
use Rattle.smk_world.specs.declared.event.Event.{Event}
use Rattle.smk_world.specs.declared.event.Change.{Change}
use Rattle.smk_world.specs.World.{World, Nodes, IsFormed, world_of}
use Rattle.smk_world.specs.Trees.{Path}
use Rattle.smk_flow.specs.declared.job.Job.{Job}
use Rattle.smk_record.specs.declared.record.Record.{Record}
use Rattle.smk_record.specs.declared.record.Stamp.{Stamp}
use Rattle.smk_record.specs.declared.record.Stamp.TheVariants.{Sum, Made}
use Rattle.smk_store.specs.Trust.{sum_of}
use Rattle.smk_chain.specs.Derive.{Listings}
use Rattle.smk_plan.specs.States.{job_path}
use Rattle.smk_drive.specs.Moments.{Rules}
use Rattle.smk_flow.proofs.Examples.{clusters}
use Rattle.smk_chain.proofs.Folders.{jobs_in, recorded, fresh}
use Rattle.smk_plan.proofs.Plans.{aggregated, a_member}
use Rattle.smk_drive.proofs.Turns.{reader, put}
use Rattle.smk_drive_course.specs.RunReports.{IsRunText}
use Rattle.smk_drive_rows.proofs.Logs.{IsSettled}
use Rattle.smk_drive_rows.proofs.Checker.{IsChecked, started}
use Rattle.smk_drive_rows.proofs.Keeping.{Keeps}
use Rattle.smk_drive_rows.proofs.Telling.{lines_of, is_report}
use Rattle.smk_drive_rows.proofs.Events.{formed_of, rules_by, marking, start, ends, keeping, doing, of_job, IsGood, good}

abbrev pub nodes : Nodes
nodes = (codes "samples", Directory) ∷ (codes "samples/a.txt", Regular (codes "x\n") 1 false) ∷ []

abbrev pub entry : World
entry = world_of nodes

formed : IsFormed entry
formed = formed_of nodes refl

abbrev pub folder : Path
folder = codes "clustering/a"

abbrev pub known : Listings
known = record { folder = folder; files = codes "1.txt" ∷ [] } ∷ []

-- the jobs of the plan that has grown; the first of them is the checkpoint
abbrev pub the_jobs : List Job
the_jobs = jobs_in clusters (fresh nodes) known aggregated.targets

pub their_order : map job_path the_jobs ≡ folder ∷ codes "post/a/1.txt" ∷ codes "aggregated/a.txt" ∷ []
their_order = refl

-- the records, of which the first one has this stamp of the sample
abbrev pub records : Stamp → List Record
records sample = recorded the_jobs ((1, sample ∷ [], a_member (codes "1.txt") ∷ []) ∷ (2, Made 1 ∷ [], []) ∷ (3, Made 2 ∷ [], []) ∷ [])

abbrev pub rules : Rules
rules = rules_by clusters aggregated (reader (records (Sum 1 (sum_of (codes "x\n")))))

abbrev pub listing : List Change
listing = record { place = folder; node = Directory } ∷ put (codes "clustering/a/1.txt") (codes "x\n") ∷ []

abbrev pub log : List Event
log =
    of_job the_jobs 0 (λ j. marking folder ++ (start 1 j ∷ (ends 1 0 listing ∷ keeping folder folder)))
    ++ (of_job the_jobs 1 (doing 2 (codes "post/a/1.txt") (codes "x\n")) ++ of_job the_jobs 2 (doing 3 (codes "aggregated/a.txt") (codes "x\n")))

settled : IsSettled rules entry log
settled = record { start = refl; rests = (refl, (refl, ((refl, refl), (refl, (refl, (refl, (refl, (refl, (refl, tt))))))))) }

is_checked : IsChecked rules entry log 0
is_checked =
    record {
      settled = settled;
      events = refl;
      end = refl;
      starts = (
        (_, inl refl, refl, refl, refl, started rules entry _ _ refl),
        (
          (_, inr (inl refl), refl, refl, refl, started rules entry _ _ refl),
          ((_, inr (inr (inl refl)), refl, refl, refl, started rules entry _ _ refl), tt),
        ),
      );
      writes = ((refl, tt), ((refl, tt), ((refl, tt), tt)));
      waited = inl refl;
    }

kept : Keeps rules entry log
kept = record { late = refl; settled = tt; protected = refl }

pub is_good : IsGood rules entry log 0
unfolding digits encode_with digest_bytes sha256
is_good = good rules entry log 0 formed is_checked refl kept

pub its_report : IsRunText rules entry log (lines_of
    (codes "start clustering clustering/a"
    ∷ codes "done clustering clustering/a"
    ∷ codes "start intermediate post/a/1.txt"
    ∷ codes "done intermediate post/a/1.txt"
    ∷ codes "start aggregate aggregated/a.txt"
    ∷ codes "done aggregate aggregated/a.txt"
    ∷ codes "current aggregated/a.txt"
    ∷ codes "summary: 3 started, 3 done, 0 failed"
    ∷ []))
unfolding digits
its_report = is_report rules entry formed log settled _ refl
