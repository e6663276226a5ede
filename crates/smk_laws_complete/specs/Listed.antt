-- What the listings of plans tell: the files of clean values, and of what jobs make of such.
use Rattle.std.specs.Prelude.{◌≡◌, ◌⊎◌, ◌≤◌, ℕ, suc, Bool, true, false, List, map, Option, Some, None, IsTrue}
use Rattle.std.specs.List.{flat_map}
use Rattle.smk_base.specs.declared.tree.Tree.{Tree}
use Rattle.smk_world.specs.World.{in_paths, out_paths}
use Rattle.smk_world.specs.Trees.{Act, IsIn, Path, all_of, files_of, value_at}
use Rattle.smk_flow.specs.declared.job.Job.{Job}
use Rattle.smk_flow.specs.Flows.{Candidate, Flow, gathered_folders}
use Rattle.smk_store.specs.Images.{Image}
use Rattle.smk_store.specs.Soundness.{Sound}
use Rattle.smk_store.specs.Trust.{SumsDiffer, Versions}
use Rattle.smk_chain.specs.Derive.{Listings, listing, recipe, walk}
use Rattle.smk_chain.specs.Mean.{Setting, clean_value, is_runnable, listings_of, mean, setting_of}
use Rattle.smk_pick.specs.declared.settings.Settings.{Settings}
use Rattle.smk_plan.specs.States.{LastPlan, Plan, Progress, awaited, files_listed, gathers_from, is_at_hand, is_open_now, is_restored}
use Rattle.smk_laws_plan.specs.Current.{HasValidRecords, IsComplete, eased_by}

-- ## What a listing tells

-- the path has a clean value with these files
abbrev pub HasFiles : Setting → Path → List Path → Type 0
HasFiles S f files = (tree : Tree) × (clean_value S f ≡ Some tree) × (files ≡ files_of tree)

-- what a job makes at a path of clean values, by chains of at most n jobs below it, be it chosen for the path or not
abbrev pub made : Setting → ℕ → Candidate → Path → Option Tree
made S n c p =
    elim (all_of (map (mean S n) (gathered_folders S.flow c))) as (λ _. Option Tree) [
      | None ↦ None
      | Some trees ↦
          let L = listings_of (gathered_folders S.flow c) trees in
          elim (is_runnable S c L) as (λ _. Option Tree) [
            | true ↦ let r = recipe S.flow L c in value_at S.act r p (all_of (map (mean S n) (in_paths r)))
            | false ↦ None
          ]
    ]

-- it makes these files there, by chains below it that a clean value may have
abbrev pub MakesFiles : Setting → Candidate → Path → List Path → Type 0
MakesFiles S c f files = (n : ℕ) × (suc n ≤ 200) × (tree : Tree) × (made S n c f ≡ Some tree) × (files ≡ files_of tree)

-- With these listings the walk from the targets comes to a job that gathers from the path, whose clean value has these files.
pub record IsGatheredSo (S : Setting) (L : Listings) (targets : List Path) (f : Path) (files : List Path) : Type 0 where
  pub reader : Candidate
  pub walked : IsIn (flat_map (walk S.flow S.sources L 200) targets) reader
  pub gathers : IsIn (gathered_folders S.flow reader) f
  pub told : HasFiles S f files

-- It comes to a job that has the path as an output, and makes these files there.
pub record IsOutputSo (S : Setting) (L : Listings) (targets : List Path) (f : Path) (files : List Path) : Type 0 where
  pub maker : Candidate
  pub walked : IsIn (flat_map (walk S.flow S.sources L 200) targets) maker
  pub is_output : IsIn (out_paths (recipe S.flow L maker)) f
  pub makes : MakesFiles S maker f files

abbrev pub IsMeant : Setting → Listings → List Path → Path → List Path → Type 0
IsMeant S L targets f files = IsGatheredSo S L targets f files ⊎ IsOutputSo S L targets f files

-- each of these listings is such a one
abbrev pub AreMeant : Setting → Listings → List Path → Type 0
AreMeant S L targets = (f : Path) (files : List Path) → listing L f ≡ Some files → IsMeant S L targets f files

-- ## Chains of plans

-- every field of a command has a value
abbrev pub all_known : Job → Bool
all_known j = true

-- The last plan of a chain in an image that is sound, where the marks of jobs that run as a Restore are left out, for versions of which no two
-- different contents have the same SHA-256; and the listings with which the chain began are meant.
pub record IsMeantChain
    (flow : Flow) (act : Act) (image : Image) (H : Versions) (settings : Settings) (progress : Progress) (L : Listings) (plan : Plan) : Type 0 where
  pub complete : IsComplete image
  pub valid : HasValidRecords image
  pub differ : SumsDiffer H
  pub last : LastPlan flow image settings progress L plan
  pub sound : Sound act H image (eased_by image (is_restored image settings progress plan))
  pub meant : AreMeant (setting_of flow act all_known image) L settings.targets

-- P of each such plan
abbrev pub OfChain : (Flow → Act → Image → Settings → Progress → Plan → Type 0) → Type 0
OfChain P =
    (flow : Flow) (act : Act) (image : Image) (H : Versions) (settings : Settings) (progress : Progress) (L : Listings) (plan : Plan) →
    IsMeantChain flow act image H settings progress L plan → P flow act image settings progress plan

-- So are those of the last plan, and with them all that became known on the way.
abbrev pub ListingsStayMeant : Type 0
ListingsStayMeant = OfChain (λ flow act image settings progress plan. AreMeant (setting_of flow act all_known image) plan.lists settings.targets)

-- What the last plan awaits, where it is at hand, is listed as the record of the directory has it, whenever it became known.
abbrev pub AwaitedAreRecorded : Type 0
AwaitedAreRecorded =
    OfChain
    (λ flow act image settings progress plan. (d : Path) (files : List Path) →
    IsIn (awaited image settings progress plan) d →
    IsTrue (is_at_hand image settings progress plan d) → listing plan.lists d ≡ Some files → files ≡ files_listed image d)

-- So is what a job of it gathers that isn't Open.
abbrev pub GatheredAreRecorded : Type 0
GatheredAreRecorded =
    OfChain
    (λ flow act image settings progress plan. (j : Job) (f : Path) (files : List Path) →
    IsIn plan.jobs j →
    is_open_now image settings progress plan j ≡ false →
    IsIn (gathers_from j) f → listing plan.lists f ≡ Some files → files ≡ files_listed image f)
