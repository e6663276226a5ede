-- The law that what a plan calls current is clean: a target that is current holds what a clean run from the sources gives.
use Rattle.std.specs.Prelude.{◌≡◌, ◌⊎◌, ℕ, Bool, true, false, List, [], ◌++◌, Option, Some, is_some, IsTrue, Contains}
use Rattle.smk_base.specs.declared.tree.Tree.{Tree}
use Rattle.smk_world.specs.World.{World, IsFormed, in_paths}
use Rattle.smk_world.specs.Trees.{Path, Act, among, files_of}
use Rattle.smk_record.specs.declared.record.Record.{Record}
use Rattle.smk_record.specs.Records.{is_valid}
use Rattle.smk_flow.specs.declared.job.Job.{Job}
use Rattle.smk_flow.specs.Flows.{Flow}
use Rattle.smk_store.specs.Images.{Image, record_at, core_at, is_known, tree_now, seen}
use Rattle.smk_store.specs.Trust.{Eased, Versions, SumsDiffer}
use Rattle.smk_store.specs.Soundness.{Outside, Sound, SoundWorld, SameSources}
use Rattle.smk_chain.specs.Derive.{Listings, listing}
use Rattle.smk_chain.specs.Mean.{Setting, setting_of, clean_value}
use Rattle.smk_pick.specs.declared.settings.Settings.{Settings}
use Rattle.smk_plan.specs.States.{Plan, Progress, LastPlan, files_listed, gathers_from, is_current, is_ready, is_open_now, is_restored}

-- a tree stands at the path, and it is the clean value
abbrev pub IsClean : Setting → Image → Path → Type 0
IsClean S image p = (tree : Tree) × (tree_now image p ≡ Some tree) × (clean_value S p ≡ Some tree)

-- each record that reads is its path's own, and valid
abbrev pub HasValidRecords : Image → Type 0
HasValidRecords image = (p : Path) (r : Record) → record_at image p ≡ Some r → (r.path ≡ p) × IsTrue (is_valid r)

-- The lists of an image are complete: its names are the places at which something stands, and each path with a record, a mark or a
-- note is among the known ones.
pub record IsComplete (image : Image) : Type 0 where
  pub names : (p : Path) → among image.names p ≡ is_some (image.node p)
  pub known : (p : Path) → is_known image p ≡ true → among image.known p ≡ true

-- a listing of a directory is right: that of the directory's record, or that of its clean value
abbrev pub IsRight : Setting → Image → Path → List Path → Type 0
IsRight S image f files = (files ≡ files_listed image f) ⊎ ((tree : Tree) × (clean_value S f ≡ Some tree) × (files ≡ files_of tree))

-- Those of these listings are right by which jobs of the plan gather that aren't Open.
abbrev pub GathersRight : Setting → Image → Settings → Progress → Plan → Listings → Type 0
GathersRight S image settings progress plan L =
    (j : Job) (f : Path) (files : List Path) →
    Contains plan.jobs j →
    is_open_now image settings progress plan j ≡ false →
    Contains (gathers_from j) f → listing L f ≡ Some files → IsRight S image f files

-- the marks of these paths don't count, as long as a record stands there
abbrev pub eased_by : Image → (Path → Bool) → Eased
eased_by image left_out p r = IsTrue (left_out p) × (core_at image p ≡ Some r)

-- The last plan of a chain in an image that is sound, where the marks of jobs that run as a Restore are left out, for versions of which no
-- two different contents have the same SHA-256. The listings with which the chain began are right where they count; and of each job that
-- isn't Open every field of the command has a value.
pub record SoundPlan
    (flow : Flow) (act : Act) (has_fields : Job → Bool) (image : Image) (H : Versions) (settings : Settings) (progress : Progress)
    (L : Listings) (plan : Plan) : Type 0 where
  pub sound : Sound act H image (eased_by image (is_restored image settings progress plan))
  pub differ : SumsDiffer H
  pub complete : IsComplete image
  pub valid : HasValidRecords image
  pub listed : GathersRight (setting_of flow act has_fields image) image settings progress plan L
  pub last : LastPlan flow image settings progress L plan
  pub fields : (j : Job) → Contains plan.jobs j → is_open_now image settings progress plan j ≡ false → has_fields j ≡ true

-- In a sound image a target that is current by the last plan holds its clean value.
abbrev pub CurrentMeansClean : Type 0
CurrentMeansClean =
    (flow : Flow) (act : Act) (has_fields : Job → Bool) (image : Image) (H : Versions) (settings : Settings) (progress : Progress)
    (L : Listings) (plan : Plan) →
    SoundPlan flow act has_fields image H settings progress L plan →
    (p : Path) →
    Contains settings.targets p →
    IsTrue (is_current image settings progress plan p) → IsClean (setting_of flow act has_fields image) image p

-- So does what a job of the plan reads, an input or a directory that it gathers from, where it is current.
abbrev pub ReadsAreClean : Type 0
ReadsAreClean =
    (flow : Flow) (act : Act) (has_fields : Job → Bool) (image : Image) (H : Versions) (settings : Settings) (progress : Progress)
    (L : Listings) (plan : Plan) →
    SoundPlan flow act has_fields image H settings progress L plan →
    (j : Job) (p : Path) →
    Contains plan.jobs j →
    Contains (in_paths j.recipe ++ gathers_from j) p →
    IsTrue (is_current image settings progress plan p) → IsClean (setting_of flow act has_fields image) image p

-- The record of a directory that a job of the plan gathers from lists, where it is ready, the files of its clean value. So a listing that
-- becomes known is right, and stays so while the sources stay.
abbrev pub ListingsAreMeant : Type 0
ListingsAreMeant =
    (flow : Flow) (act : Act) (has_fields : Job → Bool) (image : Image) (H : Versions) (settings : Settings) (progress : Progress)
    (L : Listings) (plan : Plan) →
    SoundPlan flow act has_fields image H settings progress L plan →
    (j : Job) (f : Path) →
    Contains plan.jobs j →
    Contains (gathers_from j) f →
    IsTrue (is_ready image settings progress plan f) →
    (tree : Tree) × (clean_value (setting_of flow act has_fields image) f ≡ Some tree) × (files_listed image f ≡ files_of tree)

-- The clean value is a matter of the sources: complete images with the same sources have the same.
abbrev pub SameValues : Type 0
SameValues =
    (flow : Flow) (act : Act) (has_fields : Job → Bool) (a b : Image) →
    IsComplete a →
    IsComplete b →
    SameSources a b → (p : Path) → clean_value (setting_of flow act has_fields a) p ≡ clean_value (setting_of flow act has_fields b) p

-- The image that a formed world reads as is complete.
abbrev pub SeenIsComplete : Type 0
SeenIsComplete = (read : List ℕ → Option Record) (w : World) → IsFormed w → IsComplete (seen read w)

-- The same of a sound world, which gives all that the law asks of the image: by the last plan of a chain that began from no
-- listing, or from right ones, at a moment at which no job is running, a target that is current is clean.
abbrev pub CurrentMeansCleanInWorlds : Type 0
CurrentMeansCleanInWorlds =
    (flow : Flow) (o : Outside) (has_fields : Job → Bool) (w : World) (H : Versions) (settings : Settings) (progress : Progress)
    (L : Listings) (plan : Plan) →
    SoundWorld o w H →
    SumsDiffer H →
    GathersRight (setting_of flow o.act has_fields (seen o.read w)) (seen o.read w) settings progress plan L →
    LastPlan flow (seen o.read w) settings progress L plan →
    progress.running ≡ [] →
    ((j : Job) → Contains plan.jobs j → is_open_now (seen o.read w) settings progress plan j ≡ false → has_fields j ≡ true) →
    (p : Path) →
    Contains settings.targets p →
    IsTrue (is_current (seen o.read w) settings progress plan p) →
    IsClean (setting_of flow o.act has_fields (seen o.read w)) (seen o.read w) p
