-- Which paths are off a job's places and logs.
use Rattle.std.specs.Prelude.{◌≡◌, true, false}
use Rattle.smk_base.specs.Path.{is_path, overlaps}
use Rattle.smk_base.specs.Place.{mark_place, record_place}
use Rattle.smk_world.specs.Trees.{Each, Path, among}
use Rattle.smk_world.specs.World.{out_paths, owned_paths}
use Rattle.smk_flow.specs.declared.job.Job.{Job}
use Rattle.smk_laws_moments.specs.Owning.{sites}

-- the path doesn't overlap any place or log of the job
abbrev pub IsOff : Job → Path → Type 0
IsOff j p = Each (λ s. overlaps s p ≡ false) (sites j)

-- A user's path that doesn't overlap the job's outputs and logs is off all its places.
abbrev pub PathsAreOff : Type 0
PathsAreOff = (j : Job) (p : Path) → is_path p ≡ true → Each (λ s. overlaps s p ≡ false) (owned_paths j.recipe j.logs) → IsOff j p

-- So are the mark and the record of each path that is none of its outputs.
abbrev pub SignsAreOff : Type 0
SignsAreOff =
    (j : Job) (p : Path) →
    Each (λ q. is_path q ≡ true) (owned_paths j.recipe j.logs) →
    among (out_paths j.recipe) p ≡ false → IsOff j (mark_place p) × IsOff j (record_place p)
