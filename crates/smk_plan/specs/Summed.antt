-- Which sources have to be digested so that a plan can be told: those that a record has with a SHA-256 and another time.
use Rattle.std.specs.Prelude.{◌≡◌, ℕ, Bool, true, false, ◌&&◌, not, ◌==◌, List, map, bytes_eq, Option, Some, None, is_some}
use Rattle.std.specs.List.{list_any, flat_map}
use Rattle.smk_world.specs.World.{in_paths, out_paths}
use Rattle.smk_world.specs.Trees.{Path, Each}
use Rattle.smk_record.specs.declared.record.Record.{Record}
use Rattle.smk_record.specs.declared.record.Stamp.{Stamp}
use Rattle.smk_record.specs.declared.record.Stamp.TheVariants.{Time, Sum, Made}
use Rattle.smk_record.specs.Records.{stamped}
use Rattle.smk_flow.specs.declared.job.Job.{Job}
use Rattle.smk_store.specs.declared.store.Entry.{Entry}
use Rattle.smk_store.specs.declared.store.Kept.{Kept}
use Rattle.smk_store.specs.declared.store.Kept.TheVariants.{Absent}
use Rattle.smk_store.specs.Images.{Image, Content, source_at}
use Rattle.smk_store.specs.Stores.{Known, entry_of}
use Rattle.smk_store.specs.Trust.{is_summed}
use Rattle.smk_chain.specs.declared.jobs.Jobs.{Jobs}
use Rattle.smk_trigger.specs.Reasons.{held}
use Rattle.smk_plan.specs.declared.seen.Sight.{Sight}
use Rattle.smk_plan.specs.States.{test_some}
use Rattle.smk_plan.specs.Sights.{sight_at}

-- ## Records

-- a SHA-256 is recorded, with another time than this
abbrev pub has_other_time : Stamp → ℕ → Bool
has_other_time (Time u) t = false
has_other_time (Sum u d) t = not (u == t)
has_other_time (Made m) t = false

-- One of the records has the path with a SHA-256 and another time than this: only a digest tells whether the source is as it was.
abbrev pub needs_sum : List Record → Path → ℕ → Bool
needs_sum records q t = list_any (λ (r : Record). list_any (λ (x : Path × Stamp). bytes_eq x.0 q && has_other_time x.1 t) (stamped r)) records

-- what a store keeps at the path
abbrev pub kept_by : Option Entry → Kept
kept_by None = Absent
kept_by (Some e) = e.kept

abbrev pub kept_in : List Known → Path → Kept
kept_in known p = kept_by (entry_of known p)

-- the records of the outputs of a job, where this is kept at paths
abbrev pub records_by : (Path → Kept) → Job → List Record
records_by kept j = flat_map held (map kept (out_paths j.recipe))

-- ## Digests

-- the path was seen with its SHA-256
abbrev pub is_seen_summed : List Sight → Path → Bool
is_seen_summed sights q = test_some (λ (s : Sight). is_some s.sum) (sight_at sights q)

-- The input of the job was seen with its SHA-256, where it is a source that is small enough for one, and a record of the job needs it.
abbrev pub IsSummed : Image → List Sight → Job → Path → Type 0
IsSummed image sights j q =
    (f : Content) → source_at image q ≡ Some f → is_summed f.bytes ≡ true → needs_sum (records_by image.kept j) q f.time ≡ true → is_seen_summed sights q ≡ true

-- so was each input of these jobs
abbrev pub AreSummed : Image → Jobs → List Sight → Type 0
AreSummed image jobs sights = Each (λ (j : Job). Each (IsSummed image sights j) (in_paths j.recipe)) jobs.jobs
