-- How an image differs from one before, where one job has begun or was closed, or an output was removed.
use Rattle.std.specs.Prelude.{◌≡◌, true, false, List, ◌∷◌, Some}
use Rattle.std.specs.List.{list_any}
use Rattle.smk_world.specs.World.{in_paths, folders_above}
use Rattle.smk_world.specs.Trees.{Path, Each, IsIn, among, outs_of}
use Rattle.smk_world.specs.declared.recipe.Out.{Out}
use Rattle.smk_flow.specs.declared.job.Job.{Job}
use Rattle.smk_store.specs.Images.{Image, Content, file_at, is_covered, is_file, source_at, stands}
use Rattle.smk_chain.specs.declared.jobs.Jobs.{Jobs}
use Rattle.smk_plan.specs.Sights.{sight_of}
use Rattle.smk_plan.specs.Summed.{needs_sum, records_by}
use Rattle.smk_plan_facts.specs.Facts.{told_sources, HasOwnRecords, NamesAll}

-- neither the path nor a folder above it is one of these
abbrev pub IsAside : List Path → Path → Type 0
IsAside paths q = list_any (among paths) (q ∷ folders_above q) ≡ false

-- the same is seen at the path, and the same file stands there
pub record LooksSame (image later : Image) (p : Path) : Type 0 where
  pub sight : sight_of later p ≡ sight_of image p
  pub file : file_at later p ≡ file_at image p

-- A file at the path was there before, aside from these paths; or it is what a job made: one of them, with a record, is the path or a folder above it.
pub data IsOldOrMade (image later : Image) (paths : List Path) (q : Path) : Type 0 where
  IsOld : IsAside paths q → file_at later q ≡ file_at image q → IsOldOrMade image later paths q
  IsNew : (p : Path) → IsIn (q ∷ folders_above q) p → among paths p ≡ true → stands (later.kept p) ≡ true → IsOldOrMade image later paths q

-- so is each file at a path
abbrev pub OnlyMakes : Image → Image → List Path → Path → Type 0
OnlyMakes image later paths q = is_file later q ≡ true → IsOldOrMade image later paths q

-- no record of the job needs the SHA-256 of the source that didn't need it before
abbrev pub NeedsNoMore : Image → Image → Job → Path → Type 0
NeedsNoMore image later j q =
    (f : Content) → source_at later q ≡ Some f → needs_sum (records_by later.kept j) q f.time ≡ true → needs_sum (records_by image.kept j) q f.time ≡ true

-- Of a told source the same is seen, none of these paths is the source or above it, and it isn't covered where it wasn't before.
pub record IsUntouched (image later : Image) (paths : List Path) (p : Path) : Type 0 where
  pub same : LooksSame image later p
  pub aside : IsAside paths p
  pub uncovered : is_covered later p ≡ true → is_covered image p ≡ true

-- The later image differs from the one before at these paths, which are outputs, and else by new notes: records and marks of other paths are as they were, and
-- what stands at other outputs and at sources; all files at inputs and targets were there, or are what a job made; and no record needs more SHA-256.
pub record DiffersAt (image later : Image) (jobs : Jobs) (targets paths : List Path) : Type 0 where
  pub named : NamesAll later
  pub recorded : HasOwnRecords later
  pub kept : (p : Path) → among paths p ≡ false → later.kept p ≡ image.kept p
  pub marks : (p : Path) → among paths p ≡ false → later.marked p ≡ image.marked p
  pub notes : (p : Path) → image.noted p ≡ true → later.noted p ≡ true
  pub outputs : (j : Job) → IsIn jobs.jobs j → (o : Out) → IsIn (outs_of j.recipe) o → among paths o.path ≡ false → LooksSame image later o.path
  pub sources : (p : Path) → among (told_sources jobs.makers) p ≡ true → IsUntouched image later paths p
  pub files : Each (λ (j : Job). Each (OnlyMakes image later paths) (in_paths j.recipe)) jobs.jobs
  pub wanted : Each (OnlyMakes image later paths) targets
  pub summed : Each (λ (j : Job). Each (NeedsNoMore image later j) (in_paths j.recipe)) jobs.jobs
