-- What the jobs of a run leave in the folder beside their outputs.
use Rattle.std.specs.Prelude.{◌≡◌, ◌⊎◌, true, false, List}
use Rattle.std.specs.List.{flat_map}
use Rattle.smk_world.specs.Trees.{IsIn, Path}
use Rattle.smk_flow.specs.declared.job.Job.{Job}
use Rattle.smk_store.specs.Images.{Image}
use Rattle.smk_chain.specs.Derive.{has_record_or_mark, spots}

-- A note that is there in the second image was there in the first, or is that of a log of one of these jobs; and a record or a mark was there, or is that of an
-- output of one.
pub record HasOwnSigns (first second : Image) (js : List Job) : Type 0 where
  pub notes : (q : Path) → second.noted q ≡ true → (first.noted q ≡ true) ⊎ IsIn (flat_map spots js) (q, false)
  pub signs : (q : Path) → has_record_or_mark second q ≡ true → (has_record_or_mark first q ≡ true) ⊎ IsIn (flat_map spots js) (q, true)
