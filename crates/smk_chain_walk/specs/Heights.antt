-- The heights of paths: how many jobs stand in the longest chain from each.
use Rattle.std.specs.Prelude.{◌≡◌, ℕ, ◌<◌, ◌≤◌, List, [], ◌∷◌, map, filter, max, slice_get, Option, Some, None}
use Rattle.std.specs.BTreeMap.{get_by_text}
use Rattle.std.specs.List.{fold, flat_map, AllByRecursion}
use Rattle.smk_base.specs.Path.{is_path}
use Rattle.smk_world.specs.Trees.{Path}
use Rattle.smk_flow.specs.Flows.{Flow, Candidate, first_wants}
use Rattle.smk_choose.specs.declared.choice.Chosen.{Chosen}
use Rattle.smk_choose.specs.declared.choice.Chosen.TheVariants as told
use Rattle.smk_choose.specs.declared.choice.Making.{Making}
use Rattle.smk_choose.specs.declared.table.Choices.{Choices}
use Rattle.smk_choose.specs.Choose.{Sources}
use Rattle.smk_choose.specs.Told.{Covers, making}
use Rattle.smk_choose_wants.specs.declared.wanted.Want.{Want}
use Rattle.smk_choose_wants.specs.declared.wanted.Want.TheVariants as want
use Rattle.smk_chain.specs.Derive.{Listings, height}
use Rattle.smk_chain_walk.specs.declared.kept.Heights.{Heights}

-- ## What is known

-- the height that is known of a path
abbrev pub noted : Heights → Path → Option ℕ
noted heights q = get_by_text heights.kept q

-- the job of a choice, where it is one
abbrev pub making_in : Option Chosen → Option Making
making_in None = None
making_in (Some told.Source) = None
making_in (Some (told.Make m)) = Some m
making_in (Some (told.Nothing lack)) = None
making_in (Some (told.Ambiguous a b)) = None

abbrev pub path_of : Want → List Path
path_of (want.Path p) = p ∷ []
path_of (want.NoPath t) = []

-- those of these that are paths
abbrev pub paths_in : List Want → List Path
paths_in = flat_map path_of

abbrev pub most : (Path → ℕ) → List Path → ℕ
most f ps = fold max 0 (map f ps)

module _ (flow : Flow) (sources : Sources) (L : Listings) where
  -- the longest chain from a path has so many jobs
  abbrev pub IsHeight : Path → ℕ → Type 0
  IsHeight p h = (m : ℕ) → h < m → height flow sources L m p ≡ h

  -- what is known of paths are their heights
  abbrev pub AreHeights : Heights → Type 0
  AreHeights heights = (q : Path) (h : ℕ) → noted heights q ≡ Some h → IsHeight q h

  -- From a path no chain of so many jobs leads, and this is its height; or such a chain does.
  abbrev pub Tells : ℕ → Path → Option ℕ → Type 0
  Tells n p None = height flow sources L n p ≡ n
  Tells n p (Some h) = (h < n) × IsHeight p h

  -- The same of the highest of these paths. There may be none, and then it is 0.
  abbrev pub TellsMost : ℕ → List Path → Option ℕ → Type 0
  TellsMost n ps None = most (height flow sources L n) ps ≡ n
  TellsMost n ps (Some h) = (h ≤ n) × ((m : ℕ) → h < m → most (height flow sources L m) ps ≡ h)

module _ (flow : Flow) (sources : Sources) (table : Choices) where
  -- the table has the choices for these paths, and for so many levels of what is wanted under them
  abbrev pub AreCovered : ℕ → List Path → Type 0
  AreCovered n ps = AllByRecursion (Covers flow sources table n) ps

-- The rule and the values are a job's, and the table has the choices for the paths that it wants whatever the listings are.
pub record IsCovered (flow : Flow) (sources : Sources) (table : Choices) (n : ℕ) (m : Making) : Type 0 where
  pub candidate : Candidate
  pub placed : slice_get flow.rules candidate.rule ≡ Some candidate.part
  pub is : m ≡ making candidate
  pub covered : AreCovered flow sources table n (filter is_path (first_wants flow candidate))
