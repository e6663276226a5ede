-- What is kept of listings.
use Rattle.std.specs.Prelude.{◌≡◌, Bool, map, bytes_eq, Option, option_map}
use Rattle.std.specs.BTreeMap.{get_by_text}
use Rattle.std.specs.BTreeSet.{contains_text}
use Rattle.std.specs.List.{find}
use Rattle.smk_world.specs.Calls.{in_folder}
use Rattle.smk_world.specs.Trees.{Path, among}
use Rattle.smk_chain.specs.declared.jobs.Known.{Known}
use Rattle.smk_flow.specs.Flows.{Flow}
use Rattle.smk_chain.specs.Derive.{Listings}
use Rattle.smk_choose_wants.specs.Guides.{IsGuide}
use Rattle.smk_chain_walk.specs.declared.folders.Folders.{Folders}

-- whether the path is among the files of a known directory
abbrev pub is_file : Path → Path → Option Known → Option Bool
is_file folder p known = option_map (λ (k : Known). among (map (in_folder folder) k.files) p) known

-- The guide is that of the workflow and the listings, and the paths that each listing has are kept.
pub record AreFolders (flow : Flow) (L : Listings) (folders : Folders) : Type 0 where
  pub guide : IsGuide flow L folders.guide.now
  pub members : (folder p : Path) → option_map (λ set. contains_text set p) (get_by_text folders.members folder) ≡ is_file folder p (find (λ (k : Known). bytes_eq k.folder folder) L)
