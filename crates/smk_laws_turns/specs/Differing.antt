-- How the folder differs where something else stands at the places of one job alone.
use Rattle.std.specs.Prelude.{◌≡◌, ◌⊎◌, true, false, List, ◌++◌, None, is_some}
use Rattle.std.specs.List.{flat_map}
use Rattle.smk_base.specs.Path.{is_at_or_under}
use Rattle.smk_base.specs.Place.{note_place}
use Rattle.smk_world.specs.World.{IsFormed, World, is_within, out_paths, owned_paths, reading}
use Rattle.smk_world.specs.Trees.{IsIn, Path, among}
use Rattle.smk_flow.specs.declared.job.Job.{Job}
use Rattle.smk_flow.specs.Flows.{Flow}
use Rattle.smk_store.specs.Images.{Image, file_at, is_file, is_known, is_source, stands}
use Rattle.smk_store.specs.Soundness.{SameSources}
use Rattle.smk_chain.specs.declared.jobs.Jobs.{Jobs}
use Rattle.smk_chain.specs.declared.jobs.Maker.{Maker}
use Rattle.smk_chain.specs.Derive.{Derived, Listings, derivation, spots}
use Rattle.smk_laws_plan.specs.Current.{IsComplete}
use Rattle.smk_plan_facts.specs.Facts.{told_sources}
use Rattle.smk_drive.specs.Moments.{Rules, seen}
use Rattle.smk_laws_turns.specs.Changing.{DiffersAt, NeedsNoMore}
use Rattle.smk_laws_plan.specs.Signs.{HasOwnSigns}
use Rattle.smk_laws_turns.specs.Off.{IsOff}
use Rattle.smk_laws_turns.specs.Places.{IsSameUnder}

-- ## The run's own

-- something is known of the path, or no file stands there or under it
abbrev pub IsKnownOrGone : Image → Path → Type 0
IsKnownOrGone image p = (is_known image p ≡ true) ⊎ ((q : Path) → is_at_or_under q p ≡ true → file_at image q ≡ None)

-- Aside from these outputs and logs all files, records, marks and notes stand as they did; and something is known of each of them, or no file stands there.
pub record ChangesAt (image later : Image) (outs logs : List Path) : Type 0 where
  pub files : (q : Path) → is_within q (outs ++ logs) ≡ false → file_at later q ≡ file_at image q
  pub kept : (q : Path) → among outs q ≡ false → later.kept q ≡ image.kept q
  pub marks : (q : Path) → among outs q ≡ false → later.marked q ≡ image.marked q
  pub notes : (q : Path) → among logs q ≡ false → later.noted q ≡ image.noted q
  pub outputs : (p : Path) → IsIn outs p → IsKnownOrGone later p
  pub logged : (p : Path) → IsIn logs p → IsKnownOrGone later p

-- So, where these are outputs and logs of jobs that were derived, the folder has the sources that the run found, as before, and of records, marks and notes
-- just those have come, and gone, that are of those jobs.
abbrev pub OursGoOn : Type 0
OursGoOn =
    (flow : Flow) (first image later : Image) (lists : Listings) (targets : List Path) (jobs : List Job) (outs logs : List Path) →
    IsComplete first →
    derivation flow first lists targets ≡ Derived jobs →
    ((p : Path) → IsIn outs p → IsIn (flat_map spots jobs) (p, true)) →
    ((p : Path) → IsIn logs p → IsIn (flat_map spots jobs) (p, false)) →
    ChangesAt image later outs logs →
    SameSources first image →
    HasOwnSigns first image jobs → HasOwnSigns image first jobs → SameSources first later × HasOwnSigns first later jobs × HasOwnSigns later first jobs

-- ## The differences

-- what no job makes are sources of the image
abbrev pub AreSourced : Image → List Maker → Type 0
AreSourced image makers = (p : Path) → among (told_sources makers) p ≡ true → is_source image p ≡ true

-- The jobs are those that the folder of the entry called for, and what is told to be made by none of them are sources.
pub record AreOfEntry (rules : Rules) (entry : World) (jobs : Jobs) : Type 0 where
  pub formed : IsFormed entry
  pub derived : derivation rules.flow (seen rules entry) jobs.lists rules.settings.targets ≡ Derived jobs.jobs
  pub sourced : AreSourced (seen rules entry) jobs.makers

-- What is off the job's places and logs stands as it did, and so do files aside from its outputs and logs; no note has gone from its logs. A file at an output,
-- or under one, has come with a record; and no record of the job needs more SHA-256.
pub record LeavesOthers (rules : Rules) (w v : World) (j : Job) : Type 0 where
  pub elsewhere : (p : Path) → IsOff j p → IsSameUnder w v p
  pub files : (q : Path) → is_within q (owned_paths j.recipe j.logs) ≡ false → file_at (seen rules v) q ≡ file_at (seen rules w) q
  pub notes :
      (q : Path) → among j.logs q ≡ true → is_some (reading (w.nodes (note_place q))) ≡ true → is_some (reading (v.nodes (note_place q))) ≡ true
  pub made :
      (o q : Path) → among (out_paths j.recipe) o ≡ true → is_at_or_under q o ≡ true → is_file (seen rules v) q ≡ true → stands ((seen rules v).kept o) ≡ true
  pub summed : (q : Path) → NeedsNoMore (seen rules w) (seen rules v) j q

-- Then the images differ at the outputs of the job and else by notes alone.
abbrev pub DiffersOf : Type 0
DiffersOf =
    (rules : Rules) (entry w v : World) (jobs : Jobs) (j : Job) →
    AreOfEntry rules entry jobs →
    IsIn jobs.jobs j →
    IsFormed w →
    IsFormed v →
    SameSources (seen rules entry) (seen rules v) →
    LeavesOthers rules w v j → DiffersAt (seen rules w) (seen rules v) jobs rules.settings.targets (out_paths j.recipe)
