-- What no job of the plan makes, by what is known and was seen as a run began.
use Rattle.std.specs.Prelude.{◌≡◌, Bool, true, ◌&&◌, ◌||◌, not, List, is_none}
use Rattle.std.specs.List.{list_all}
use Rattle.smk_world.specs.Trees.{Path, among, is_path_text}
use Rattle.smk_store.specs.Images.{Image, is_source}
use Rattle.smk_store.specs.Stores.{Known, is_covered_in}
use Rattle.smk_chain.specs.declared.jobs.Maker.{Maker}
use Rattle.smk_pick.specs.declared.settings.Settings.{Settings}
use Rattle.smk_plan.specs.declared.seen.Sight.{Sight}
use Rattle.smk_plan_facts.specs.Facts.{told_sources}
use Rattle.smk_plan_table.specs.Parts.{is_file_in}
use Rattle.smk_plan_live.specs.declared.base.Base.{Base}
use Rattle.smk_plan_live.specs.Lives.{IsAgreed}
use Rattle.smk_plan_live.specs.Now.{known_now, seen_now}

module _ (known : List Known) (seen : List Sight) where
  -- a file was seen there, and nothing that is known covers it
  abbrev pub is_seen_source : Path → Bool
  is_seen_source p = is_path_text p && (is_file_in seen p && not (is_covered_in known p))

  -- a job makes it, or it was seen as a source
  abbrev pub is_made_or_seen : Maker → Bool
  is_made_or_seen m = not (is_none m.job) || is_seen_source m.path

-- all that no job makes was seen as sources
abbrev pub are_made_or_seen : Base → Bool
are_made_or_seen base = list_all (is_made_or_seen (known_now base) (seen_now base)) base.jobs.makers

-- Then they are sources in each image with which that agrees.
abbrev pub SeenAreSources : Type 0
SeenAreSources =
    (image : Image) (settings : Settings) (base : Base) (p : Path) →
    IsAgreed image settings base → are_made_or_seen base ≡ true → among (told_sources base.jobs.makers) p ≡ true → is_source image p ≡ true
