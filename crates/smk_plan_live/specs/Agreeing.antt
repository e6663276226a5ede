-- How what is known and seen of paths stands to the folder at any moment of a run, while children run too.
use Rattle.std.specs.Prelude.{◌≡◌, true, false, Bool, ◌&&◌, not, List, [], Option, Some, None}
use Rattle.smk_world.specs.World.{in_paths}
use Rattle.smk_world.specs.Trees.{Path, Each, among, is_path_text}
use Rattle.smk_flow.specs.declared.job.Job.{Job}
use Rattle.smk_store.specs.declared.store.Entry.{Entry}
use Rattle.smk_store.specs.Images.{Image, is_covered, is_file}
use Rattle.smk_store.specs.Stores.{Known, entry_of, is_covered_in}
use Rattle.smk_store.specs.Trust.{is_marked_but}
use Rattle.smk_chain.specs.declared.jobs.Jobs.{Jobs}
use Rattle.smk_pick.specs.declared.settings.Settings.{Settings}
use Rattle.smk_plan.specs.declared.seen.Sight.{Sight}
use Rattle.smk_plan.specs.Sights.{IsSeenOf}
use Rattle.smk_plan.specs.States.{Progress, is_restored}
use Rattle.smk_plan.specs.Summed.{AreSummed}
use Rattle.smk_plan_facts.specs.Facts.{told_sources, AreMade, HasOwnRecords, NamesAll}
use Rattle.smk_plan_facts.specs.Telling.{kept_of, mark_of}
use Rattle.smk_plan_states.specs.Judged.{with_states}
use Rattle.smk_plan_states.specs.Served.{AreServed}
use Rattle.smk_plan_table.specs.Plans.{Agree}

-- a note is known there
abbrev pub note_of : Option Entry → Bool
note_of None = false
note_of (Some e) = e.noted

-- a file stands there, and nothing is known of the path or of a folder above it
abbrev pub is_source_by : Image → List Known → Path → Bool
is_source_by image known p = is_path_text p && (is_file image p && not (is_covered_in known p))

-- each of these paths that is a source by what is known is told of as one
abbrev pub AreTold : Image → Jobs → List Known → List Path → Type 0
AreTold image jobs known paths = Each (λ q. is_source_by image known q ≡ true → among (told_sources jobs.makers) q ≡ true) paths

-- The folder has what is known and was seen, while the children of some jobs run: the record of each path; each mark, those of outputs that are being restored
-- aside; each note that is known, beside which others may have come, as jobs began; and of each path that no job makes, whether it is covered. What stands at
-- outputs and sources is as it was seen, which is nothing at the outputs of a job whose child runs; and each source whose SHA-256 is needed was seen with it.
pub record AgreesNow (image : Image) (settings : Settings) (progress : Progress) (jobs : Jobs) (known : List Known) (seen : List Sight) : Type 0 where
  pub named : NamesAll image
  pub recorded : HasOwnRecords image
  pub kept : (p : Path) → kept_of (entry_of known p) ≡ image.kept p
  pub marks : (p : Path) → mark_of (entry_of known p) ≡ is_marked_but image (is_restored image settings progress (with_states jobs [])) p
  pub notes : (p : Path) → note_of (entry_of known p) ≡ true → image.noted p ≡ true
  pub covered : Each (λ p. is_covered_in known p ≡ is_covered image p) (told_sources jobs.makers)
  pub sighted : IsSeenOf image jobs seen
  pub summed : AreSummed image jobs seen
  pub served : AreServed jobs settings.targets
  pub made : AreMade jobs
  -- each input, and each target, that is a source by what is known is told of as one
  pub read : Each (λ (j : Job). AreTold image jobs known (in_paths j.recipe)) jobs.jobs
  pub asked : AreTold image jobs known settings.targets

-- Where no child runs, what agrees with an image agrees with it at this moment.
abbrev pub AgreeAtRest : Type 0
AgreeAtRest =
    (image : Image) (settings : Settings) (progress : Progress) (jobs : Jobs) (known : List Known) (seen : List Sight) →
    progress.running ≡ [] → Agree image jobs known seen settings.targets → AgreesNow image settings progress jobs known seen
