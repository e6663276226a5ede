-- What a store that was loaded has: just the records, marks and notes that stand.
use Rattle.std.specs.Prelude.{◌≡◌, List, codes, if◌then◌else◌, Option, Some, None}
use Rattle.smk_world.specs.Trees.{Path}
use Rattle.smk_store.specs.declared.store.Entry.{Entry}
use Rattle.smk_store.specs.Images.{Image, is_known, is_covered}
use Rattle.smk_store.specs.Stores.{Known, entry_of, is_covered_in}

-- what an image has of a path
abbrev pub entry_at : Image → Path → Entry
entry_at image p = record { kept = image.kept p; marked = image.marked p; noted = image.noted p }

-- the same, where a record, a mark or a note stands
abbrev pub entry_in : Image → Path → Option Entry
entry_in image p = if is_known image p then Some (entry_at image p) else None

-- The store has just the records, marks and notes that stand in the image; so it tells which paths are covered.
pub record IsStoreOf (image : Image) (store : List Known) : Type 0 where
  pub entries : (p : Path) → entry_of store p ≡ entry_in image p
  pub covered : (p : Path) → is_covered_in store p ≡ is_covered image p

-- ## What is loaded from

-- the folder under which records, marks and notes stand
abbrev pub store_folder : Path
store_folder = codes ".snakemake/smk"
