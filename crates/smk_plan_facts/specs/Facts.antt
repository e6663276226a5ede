-- The facts of jobs by an image of the folder, where nothing runs, and what is asked of the image and of the jobs.
use Rattle.std.specs.Prelude.{◌≡◌, ◌⊎◌, ℕ, true, false, List, [], map, filter, zip, Option, Some, IsTrue, is_some, is_none}
use Rattle.std.specs.List.{AllZip}
use Rattle.smk_world.specs.World.{in_paths, out_paths}
use Rattle.smk_world.specs.Trees.{Path, Each, among}
use Rattle.smk_record.specs.declared.record.Record.{Record}
use Rattle.smk_record.specs.declared.record.Stamp.{Stamp}
use Rattle.smk_record.specs.declared.record.Stamp.TheVariants.{Time}
use Rattle.smk_record.specs.Records.{is_valid}
use Rattle.smk_flow.specs.declared.job.Job.{Job}
use Rattle.smk_store.specs.Images.{Image, Content, is_source, record_at, source_at}
use Rattle.smk_store.specs.Trust.{stamp_now}
use Rattle.smk_chain.specs.declared.jobs.Jobs.{Jobs}
use Rattle.smk_chain.specs.declared.jobs.Maker.{Maker}
use Rattle.smk_trigger.specs.declared.facts.JobFacts.{JobFacts}
use Rattle.smk_trigger.specs.declared.reason.Reason.{Reason}
use Rattle.smk_trigger.specs.Reasons.{own_reasons}
use Rattle.smk_pick.specs.declared.settings.Settings.{Settings}
use Rattle.smk_plan.specs.States.{Plan, Progress, is_forced, makes}
use Rattle.smk_plan.specs.Sights.{job_at}
use Rattle.smk_plan.specs.Summed.{needs_sum, records_by}

-- ## Facts

-- the jobs with these first outputs have begun, and none runs
abbrev pub having_run : List Path → Progress
having_run ran = record { begun = ran; running = [] }

-- what the reasons of a job are judged by, with the stamps of now
abbrev pub facts_of : Image → Settings → List Path → Plan → Job → JobFacts
facts_of image settings ran plan j =
    record {
      recipe = j.recipe;
      kept = map image.kept (out_paths j.recipe);
      marked = map image.marked (out_paths j.recipe);
      stamps = map (stamp_now image) (in_paths j.recipe);
      forced = is_forced image settings (having_run ran) plan j;
    }

-- What is told of an input of a job with these records is as good as its stamp now: it is that stamp; or of a source its time alone, where none of the
-- records has it with a SHA-256 and another time.
abbrev pub IsToldAs : Image → List Record → Path → Option Stamp → Type 0
IsToldAs image records q told =
    (told ≡ stamp_now image q)
    ⊎ ((f : Content) × (source_at image q ≡ Some f) × (told ≡ Some (Time f.time)) × (needs_sum records q f.time ≡ false))

-- These are the facts of the job, with a stamp for each input that is as good as the one now.
pub record AreFactsOf (image : Image) (settings : Settings) (ran : List Path) (plan : Plan) (j : Job) (f : JobFacts) : Type 0 where
  pub recipe : f.recipe ≡ j.recipe
  pub kept : f.kept ≡ map image.kept (out_paths j.recipe)
  pub marked : f.marked ≡ map image.marked (out_paths j.recipe)
  pub stamps : AllZip (IsToldAs image (records_by image.kept j)) (in_paths j.recipe) f.stamps
  pub forced : f.forced ≡ is_forced image settings (having_run ran) plan j

-- the reasons by the facts of a job, all but force and those that other jobs give
abbrev pub own_of : JobFacts → List Reason
own_of f = own_reasons f.recipe f.kept f.marked (zip (in_paths f.recipe) f.stamps)

-- ## What is asked of jobs

-- the paths that no job makes, as the makers tell
abbrev pub told_sources : List Maker → List Path
told_sources makers = map (λ (m : Maker). m.path) (filter (λ (m : Maker). is_none m.job) makers)

-- each input that is a source is told of as one
abbrev pub TellSources : Image → Jobs → Type 0
TellSources image jobs =
    Each (λ (j : Job). Each (λ q. is_source image q ≡ true → among (told_sources jobs.makers) q ≡ true) (in_paths j.recipe)) jobs.jobs

-- the path of the maker is an output, or a member of one, of the job with its number
abbrev pub IsMade : List Job → Maker → Type 0
IsMade jobs m = (n : ℕ) (j : Job) → m.job ≡ Some n → job_at jobs n ≡ Some j → makes j m.path ≡ true

abbrev pub AreMade : Jobs → Type 0
AreMade jobs = Each (IsMade jobs.jobs) jobs.makers

-- ## What is asked of an image

-- its names are the places at which something stands
abbrev pub NamesAll : Image → Type 0
NamesAll image = (p : Path) → among image.names p ≡ is_some (image.node p)

-- each record that reads is its path's own, and valid
abbrev pub HasOwnRecords : Image → Type 0
HasOwnRecords image = (p : Path) (r : Record) → record_at image p ≡ Some r → (r.path ≡ p) × IsTrue (is_valid r)
