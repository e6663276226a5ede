-- Which files are digested: those that a record of a job has with a SHA-256 and another time.
use Rattle.std.specs.Prelude.{ℕ, Bool, true, false, ◌&&◌, not, List, ◌==◌, bytes_eq, Option, Some, None, ◌≡◌}
use Rattle.std.specs.List.{list_any}
use Rattle.std.specs.Option.{option_and_then}
use Rattle.smk_world.specs.declared.event.Stat.{Stat}
use Rattle.smk_world.specs.declared.event.Stat.TheVariants.{Nothing as NoStat, File as FileStat, Folder as FolderStat}
use Rattle.smk_world.specs.declared.recipe.Item.{Item}
use Rattle.smk_world.specs.declared.recipe.Out.{Out}
use Rattle.smk_world.specs.declared.recipe.OutItem.{OutItem}
use Rattle.smk_world.specs.World.{in_paths}
use Rattle.smk_world.specs.Trees.{Path, among}
use Rattle.smk_record.specs.declared.record.Record.{Record}
use Rattle.smk_record.specs.declared.record.Stamp.{Stamp}
use Rattle.smk_record.specs.declared.record.Stamp.TheVariants.{Time, Sum, Made}
use Rattle.smk_record.specs.Records.{stamped}
use Rattle.smk_flow.specs.declared.job.Job.{Job}
use Rattle.smk_store.specs.Stores.{Known, is_covered_in}
use Rattle.smk_chain.specs.declared.jobs.Jobs.{Jobs}
use Rattle.smk_trigger.specs.Reasons.{held}
use Rattle.smk_plan.specs.declared.seen.Sight.{Sight}
use Rattle.smk_plan.specs.States.{test_some}
use Rattle.smk_plan.specs.Sights.{sight_at}
use Rattle.smk_plan.specs.Summed.{needs_sum, kept_in, records_by, is_seen_summed}

-- ## What is needed

-- the time of a file
abbrev pub time_by : Stat → Option ℕ
time_by NoStat = None
time_by (FileStat time read_only) = Some time
time_by FolderStat = None

-- the time of the file that was seen at the path
abbrev pub time_seen : List Sight → Path → Option ℕ
time_seen sights q = option_and_then (λ (s : Sight). time_by s.stat) (sight_at sights q)

-- the path is an input of the job, and by what is known a record of the job has it with a SHA-256 and another time than this
abbrev pub asks_for : List Known → Path → ℕ → Job → Bool
asks_for known q t j = among (in_paths j.recipe) q && needs_sum (records_by (kept_in known) j) q t

-- One of the jobs asks for the file with this time, and nothing is known of the path or of a folder above it.
abbrev pub is_needed : List Known → Jobs → Path → ℕ → Bool
is_needed known jobs q t = not (is_covered_in known q) && list_any (asks_for known q t) jobs.jobs

-- so it is with the time that was seen
abbrev pub needs_digest : List Known → Jobs → List Sight → Path → Bool
needs_digest known jobs sights q = test_some (is_needed known jobs q) (time_seen sights q)

-- Only what is needed was seen with a digest.
abbrev pub AreSpared : List Known → Jobs → List Sight → Type 0
AreSpared known jobs sights = (q : Path) → is_seen_summed sights q ≡ true → needs_digest known jobs sights q ≡ true

-- ## How it is found

-- a file was seen, with another time than the recorded one
abbrev pub is_other_than : ℕ → Option ℕ → Bool
is_other_than u None = false
is_other_than u (Some t) = not (u == t)

-- the input has a SHA-256, and a file was seen there that has another time
abbrev pub is_touched : List Sight → Path × Stamp → Bool
is_touched sights (q, Time u) = false
is_touched sights (q, Sum u d) = is_other_than u (time_seen sights q)
is_touched sights (q, Made m) = false

abbrev pub is_touched_at : List Sight → Path → Path × Stamp → Bool
is_touched_at sights q x = bytes_eq q x.0 && is_touched sights x

-- the record has the path as such an input
abbrev pub touches : List Sight → Path → Record → Bool
touches sights q r = list_any (is_touched_at sights q) (stamped r)

-- so has the record of one of these paths
abbrev pub path_touches : List Known → List Sight → Path → Path → Bool
path_touches known sights q p = list_any (touches sights q) (held (kept_in known p))

abbrev pub item_touches : List Known → List Sight → Path → OutItem → Bool
item_touches known sights q item = list_any (λ (o : Out). path_touches known sights q o.path) item.outs

abbrev pub job_touches : List Known → List Sight → Job → Path → Bool
job_touches known sights j q = list_any (item_touches known sights q) j.recipe.outputs

-- the path is this one, it is among the touched ones, and nothing is known of it
abbrev pub is_due : List Known → (Path → Bool) → Path → Path → Bool
is_due known touched q p = bytes_eq q p && (touched p && not (is_covered_in known p))

abbrev pub item_due : List Known → (Path → Bool) → Path → Item → Bool
item_due known touched q item = list_any (is_due known touched q) item.paths

-- it is one of the inputs of the job
abbrev pub job_due : List Known → List Sight → Path → Job → Bool
job_due known sights q j = list_any (item_due known (job_touches known sights j) q) j.recipe.inputs
