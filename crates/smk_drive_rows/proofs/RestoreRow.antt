-- A lost output is wanted back while a child reads the other output of its job: that child is waited for, and then both are made again.
use Rattle.std.proofs.Common.{◌≡◌, ℕ, true, false, List, [], ◌∷◌, ◌++◌, map, codes, take, drop, Some, None, Ok, refl, inl, inr}
use Rattle.std.specs.Fmt.{digits}
use Rattle.hex.specs.Hex.{encode_with}
use Rattle.sha2.specs.Sha256.{digest_bytes, sha256}
use Rattle.smk_base.specs.Place.{mark_place, record_place}
use Rattle.smk_world.specs.declared.event.Node.TheVariants.{Regular, Directory}
use Rattle.smk_world.specs.declared.event.Event.{Event}
use Rattle.smk_world.specs.declared.event.Change.{Change}
use Rattle.smk_world.specs.declared.event.Call.TheVariants.{Written, Created, Removed, MadeParents, Settled}
use Rattle.smk_world.specs.World.{World, Nodes, IsFormed, world_of}
use Rattle.smk_world.specs.Trees.{Path}
use Rattle.smk_flow.specs.declared.job.Job.{Job}
use Rattle.smk_flow.specs.declared.rule.Flag.TheVariants.{Folder}
use Rattle.smk_flow.specs.Flows.{Flow}
use Rattle.smk_record.specs.declared.record.Record.{Record}
use Rattle.smk_record.specs.declared.record.Stamp.TheVariants.{Sum, Made}
use Rattle.smk_store.specs.Trust.{sum_of}
use Rattle.smk_chain.specs.Derive.{Listings}
use Rattle.smk_plan.specs.States.{job_path}
use Rattle.smk_drive.specs.Moments.{Rules}
use Rattle.smk_flow.proofs.Examples.{rule, input, output, gathering, flow_of, cat, split, tee}
use Rattle.smk_chain.proofs.Folders.{jobs_in, recorded, fresh}
use Rattle.smk_plan.proofs.Plans.{with_targets, a_member}
use Rattle.smk_drive.proofs.Turns.{reader, event, put}
use Rattle.smk_drive_course.specs.Lawful.{Lawful}
use Rattle.smk_drive_course.specs.RunReports.{IsFront}
use Rattle.smk_drive_rows.proofs.Logs.{IsSettled, last, last_is}
use Rattle.smk_drive_rows.proofs.Checker.{IsChecked, started}
use Rattle.smk_drive_rows.proofs.Keeping.{Keeps}
use Rattle.smk_drive_rows.proofs.Telling.{lines_of, told, has_lines}
use Rattle.smk_drive_rows.proofs.Events.{formed_of, rules_by, marking, start, ends, keeping, of_job, IsGood, good}

abbrev pub d : Path
d = codes "d"

abbrev pub x : Path
x = codes "x.txt"

abbrev pub o1 : Path
o1 = codes "o1"

abbrev pub o2 : Path
o2 = codes "o2"

abbrev pub flow : Flow
flow =
    flow_of
    (rule true (codes "c") (input (codes "in.txt") ∷ []) (output (Folder ∷ []) d) split
    ∷ record (rule false (codes "pair") [] (output [] o1) tee) {
      outputs = record { name = []; outs = record { text = o1; flags = [] } ∷ record { text = o2; flags = [] } ∷ [] } ∷ [];
    }
    ∷ rule false (codes "x") (input o1 ∷ []) (output [] x) cat
    ∷ rule false (codes "g") (gathering (codes "c") (codes "{i}.txt") (codes "o{i}") ∷ []) (output [] (codes "g.txt")) cat
    ∷ [])

-- `pair` has run, and its second output is gone
abbrev pub nodes : Nodes
nodes =
    (record_place o1, Regular o1 1 false)
    ∷ (record_place o2, Regular o2 1 false)
    ∷ (codes "in.txt", Regular (codes "a\nb\n") 1 false)
    ∷ (o1, Regular (codes "b\n") 2 false)
    ∷ []

abbrev pub entry : World
entry = world_of nodes

formed : IsFormed entry
formed = formed_of nodes refl

abbrev pub targets : List Path
targets = x ∷ codes "g.txt" ∷ []

-- what the checkpoint lists calls for the second output
abbrev pub known : Listings
known = record { folder = d; files = codes "2.txt" ∷ [] } ∷ []

abbrev sources : Nodes
sources = (codes "in.txt", Regular (codes "a\nb\n") 1 false) ∷ []

abbrev pub the_jobs : List Job
the_jobs = jobs_in flow (fresh sources) known targets

pub their_order : map job_path the_jobs ≡ o1 ∷ x ∷ d ∷ codes "g.txt" ∷ []
their_order = refl

abbrev pub records : List Record
records =
    recorded the_jobs
    ((1, [], [])
    ∷ (2, Made 1 ∷ [], [])
    ∷ (3, Sum 1 (sum_of (codes "a\nb\n")) ∷ [], a_member (codes "2.txt") ∷ [])
    ∷ (4, Made 1 ∷ [], [])
    ∷ [])

abbrev pub rules : Rules
rules = rules_by flow (record (with_targets targets) { cores = 2 }) (reader records)

abbrev pub listing : List Change
listing = record { place = d; node = Directory } ∷ put (codes "d/2.txt") (codes "b\n") ∷ []

-- `x` runs, and the checkpoint is done
abbrev pub while_read : List Event
while_read =
    of_job the_jobs 1 (λ j. marking x ++ start 1 j ∷ [])
    ++ of_job the_jobs 2 (λ j. marking d ++ (start 2 j ∷ (ends 2 0 listing ∷ keeping d d)))

-- both outputs of `pair` are made again, under the serial of their records
abbrev pub preparing : List Event
preparing =
    event (MadeParents (mark_place o1) (Ok tt)) []
    ∷ event (Created (mark_place o1) (Ok true)) (put (mark_place o1) [] ∷ [])
    ∷ event (Created (mark_place o2) (Ok true)) (put (mark_place o2) [] ∷ [])
    ∷ event (Settled (mark_place o1 ∷ mark_place o2 ∷ []) (Ok tt)) []
    ∷ event (Removed o1 (Ok tt)) []
    ∷ event (Removed o2 (Ok tt)) []
    ∷ []

abbrev pub restored : List Event
restored =
    ends 3 0 (put o1 (codes "b\n") ∷ put o2 (codes "b\n") ∷ [])
    ∷ event (Settled (o1 ∷ o2 ∷ []) (Ok tt)) []
    ∷ event (Written (record_place o1) o1 (Ok tt)) (put (record_place o1) o1 ∷ [])
    ∷ event (Written (record_place o2) o2 (Ok tt)) (put (record_place o2) o2 ∷ [])
    ∷ event (Settled (record_place o1 ∷ record_place o2 ∷ []) (Ok tt)) []
    ∷ event (Removed (mark_place o1) (Ok tt)) []
    ∷ event (Removed (mark_place o2) (Ok tt)) []
    ∷ event (Settled (mark_place o1 ∷ mark_place o2 ∷ []) (Ok tt)) []
    ∷ []

-- `x` is done, and then `pair`; and memory is wanting
abbrev pub log : List Event
log =
    while_read
    ++ ((ends 1 0 (put x (codes "b\n") ∷ []) ∷ keeping x x)
    ++ of_job the_jobs 0 (λ j. preparing ++ (start 3 j ∷ restored)))

settled : IsSettled rules entry log
settled = record { start = refl; rests = (refl, (refl, (refl, (refl, ((refl, refl), (refl, (refl, (refl, (refl, tt))))))))) }

is_checked : IsChecked rules entry log 5
is_checked =
    record {
      settled = settled;
      events = refl;
      end = refl;
      starts = (
        (_, inl refl, refl, refl, refl, started rules entry _ _ refl),
        (
          (_, inr (inl refl), refl, refl, refl, started rules entry _ _ refl),
          ((_, inr (inr (inl refl)), refl, refl, refl, started rules entry _ _ refl), tt),
        ),
      );
      writes = ((refl, tt), ((refl, tt), ((refl, tt), ((refl, tt), tt))));
      waited = inl refl;
    }

kept : Keeps rules entry log
kept = record { late = refl; settled = tt; protected = refl }

pub is_good : IsGood rules entry log 5
unfolding digits encode_with digest_bytes sha256
is_good = good rules entry log 5 formed is_checked refl kept

pub its_front : IsFront rules entry log (lines_of
    (codes "start x x.txt"
    ∷ codes "start c d"
    ∷ codes "done c d"
    ∷ codes "done x x.txt"
    ∷ codes "start pair o1"
    ∷ codes "done pair o1"
    ∷ []))
its_front = inl (told rules entry log, has_lines rules entry formed log settled, ([], refl))

-- ## A wrong run: it is made again while the child still reads

abbrev begun : List Event
begun = while_read ++ take 1 preparing

begun_settled : IsSettled rules entry begun
begun_settled = record { start = refl; rests = (refl, (refl, (refl, (refl, ((refl, refl), (refl, tt)))))) }

none_first : {A : Type 0} (k : A) → None ≡ Some k → ⊥
none_first k h = cc

pub restores_while_read : (status : ℕ) → Lawful rules entry (begun ++ drop 1 preparing) status → ⊥
restores_while_read status l =
    none_first _ (((l.each begun _ _ (last rules entry begun) refl (last_is rules entry formed begun begun_settled)).begins.0 refl).first)
