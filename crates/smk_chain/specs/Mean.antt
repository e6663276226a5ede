-- What a path means: the tree that a clean run from the sources gives. It knows no time, mark, record or schedule.
use Rattle.std.specs.Prelude.{ℕ, zero, suc, Bool, true, false, ◌&&◌, List, [], ◌∷◌, map, if◌then◌else◌, Option, Some, None, option_map, is_some}
use Rattle.std.specs.List.{list_all}
use Rattle.smk_base.specs.Path.{is_path}
use Rattle.smk_base.specs.declared.tree.Tree.{Tree}
use Rattle.smk_base.specs.declared.tree.Tree.TheVariants.{File}
use Rattle.smk_world.specs.World.{in_paths}
use Rattle.smk_world.specs.Trees.{Path, Act, all_of, files_of, value_at}
use Rattle.smk_flow.specs.declared.job.Job.{Job}
use Rattle.smk_flow.specs.Flows.{Flow, Candidate, gathered_folders}
use Rattle.smk_choose.specs.Choose.{Sources, choose, Source, Make, Nothing, Ambiguous}
use Rattle.smk_store.specs.Images.{Image, Content, source_at}
use Rattle.smk_chain.specs.Derive.{Listings, job, wants, recipe, sources_of}

-- the listings that these directories' trees give
abbrev pub listings_of : List Path → List Tree → Listings
listings_of [] trees = []
listings_of (f ∷ folders) [] = []
listings_of (f ∷ folders) (t ∷ trees) = record { folder = f; files = files_of t } ∷ listings_of folders trees

-- What a run from nothing has: the workflow, what commands do, whether every field of a job's command has a value, the
-- sources and their bytes.
pub record Setting : Type 0 where
  pub flow : Flow
  pub act : Act
  pub has_fields : Job → Bool
  pub sources : Sources
  pub bytes : Path → Option (List ℕ)

-- the setting that the sources of an image give
abbrev pub setting_of : Flow → Act → (Job → Bool) → Image → Setting
setting_of flow act has_fields image =
    record {
      flow = flow;
      act = act;
      has_fields = has_fields;
      sources = sources_of image;
      bytes = λ p. option_map (λ (f : Content). f.bytes) (source_at image p);
    }

abbrev pub source_tree : Setting → Path → Option Tree
source_tree S p = option_map File (S.bytes p)

-- a job can be made of these listings: it has a command with all its fields, and all that it wants are paths
abbrev pub is_runnable : Setting → Candidate → Listings → Bool
is_runnable S c L = is_some c.part.command && (S.has_fields (job S.flow L c) && list_all is_path (wants S.flow L c))

-- The tree of a path, by a chain of at most n jobs, or nothing. A source gives its bytes. A chosen job takes its listings from
-- what the directories that it gathers from mean, and its inputs' contents from what they mean; commands give the rest.
abbrev pub mean : Setting → ℕ → Path → Option Tree
mean S zero p = if S.sources.is p then source_tree S p else None
mean S (suc n) p =
    elim (choose S.flow S.sources p) as (λ _. Option Tree) [
      | Source ↦ source_tree S p
      | Nothing lack ↦ None
      | Ambiguous a b ↦ None
      | Make c ↦
          elim (all_of (map (mean S n) (gathered_folders S.flow c))) as (λ _. Option Tree) [
            | None ↦ None
            | Some trees ↦
                let L = listings_of (gathered_folders S.flow c) trees in
                elim (is_runnable S c L) as (λ _. Option Tree) [
                  | true ↦ let r = recipe S.flow L c in value_at S.act r p (all_of (map (mean S n) (in_paths r)))
                  | false ↦ None
                ]
          ]
    ]

-- the clean value of a path
abbrev pub clean_value : Setting → Path → Option Tree
clean_value S p = mean S 200 p
