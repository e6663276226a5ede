-- The file that was copied is edited, and copied again: the second run has the next serial and the new stamp.
use Rattle.std.proofs.Common.{false, ℕ, List, [], ◌∷◌, ◌++◌, codes, refl, inl}
use Rattle.std.specs.Fmt.{digits}
use Rattle.hex.specs.Hex.{encode_with}
use Rattle.sha2.specs.Sha256.{digest_bytes, sha256}
use Rattle.smk_base.specs.Place.{record_place}
use Rattle.smk_world.specs.declared.event.Node.TheVariants.{Regular, Directory}
use Rattle.smk_world.specs.declared.event.Event.{Event}
use Rattle.smk_world.specs.World.{World, Nodes, IsFormed, world_of}
use Rattle.smk_record.specs.declared.record.Record.{Record}
use Rattle.smk_record.specs.declared.record.Stamp.TheVariants.{Sum, Time}
use Rattle.smk_store.specs.Trust.{sum_of}
use Rattle.smk_drive.specs.Moments.{Rules}
use Rattle.smk_flow.proofs.Examples.{copy}
use Rattle.smk_chain.proofs.Folders.{recorded}
use Rattle.smk_plan.proofs.Plans.{out_txt}
use Rattle.smk_drive.proofs.Turns.{put}
use Rattle.smk_drive_course.specs.RunReports.{IsRunText}
use Rattle.smk_drive_rows.proofs.Logs.{IsSettled}
use Rattle.smk_drive_rows.proofs.Checker.{started}
use Rattle.smk_drive_rows.proofs.Keeping.{Keeps}
use Rattle.smk_drive_rows.proofs.Telling.{lines_of, is_report}
use Rattle.smk_drive_rows.proofs.Events.{formed_of, rules_by, reader_of, marking, start, ends, keeping, of_job, IsGood, good}
use Rattle.smk_drive_rows.proofs.CopyRow.{in_txt, out, the_jobs}

-- as the first run left the folder, and then the source is edited
abbrev pub nodes : Nodes
nodes =
    (codes ".snakemake", Directory)
    ∷ (codes ".snakemake/smk", Directory)
    ∷ (codes ".snakemake/smk/marks", Directory)
    ∷ (codes ".snakemake/smk/records", Directory)
    ∷ (record_place out, Regular (codes "first") 1001 false)
    ∷ (in_txt, Regular (codes "bye\n") 2000 false)
    ∷ (out, Regular (codes "hello\n") 1001 false)
    ∷ []

abbrev pub entry : World
entry = world_of nodes

formed : IsFormed entry
formed = formed_of nodes refl

-- these records, spelled so
abbrev named : List ℕ → List Record → List (List ℕ × Record)
named bytes [] = []
named bytes (r ∷ rs) = (bytes, r) ∷ named bytes rs

-- what the first run recorded, and what the second one has to
abbrev pub table : List (List ℕ × Record)
table =
    named (codes "first") (recorded the_jobs ((1, Time 1000 ∷ [], []) ∷ []))
    ++ named (codes "second") (recorded the_jobs ((2, Sum 2000 (sum_of (codes "bye\n")) ∷ [], []) ∷ []))

abbrev pub rules : Rules
rules = rules_by copy out_txt (reader_of table)

abbrev pub log : List Event
log = of_job the_jobs 0 (λ j. marking out ++ (start 1 j ∷ (ends 1 0 (put out (codes "bye\n") ∷ []) ∷ keeping out (codes "second"))))

settled : IsSettled rules entry log
settled = record { start = refl; rests = (refl, (refl, (refl, tt))) }

kept : Keeps rules entry log
kept = record { late = refl; settled = tt; protected = refl }

pub is_good : IsGood rules entry log 0
unfolding digits encode_with digest_bytes sha256
is_good =
    good rules entry log 0 formed
    (record {
      settled = settled;
      events = refl;
      end = refl;
      starts = ((_, inl refl, refl, refl, refl, started rules entry _ _ refl), tt);
      writes = ((refl, tt), tt);
      waited = inl refl;
    })
    refl kept

pub its_report : IsRunText rules entry log (lines_of
    (codes "start copy out.txt" ∷ codes "done copy out.txt" ∷ codes "current out.txt" ∷ codes "summary: 1 started, 1 done, 0 failed" ∷ []))
unfolding digits
its_report = is_report rules entry formed log settled _ refl
