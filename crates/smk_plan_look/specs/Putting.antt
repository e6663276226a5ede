-- Digests that are put to what was seen of their files.
use Rattle.std.specs.Prelude.{◌≡◌, Bool, true, false, List, [], ◌∷◌, Option, None, if◌then◌else◌}
use Rattle.std.specs.List.{flat_map}
use Rattle.smk_base.specs.declared.sum.Sum.{Sum as Digest}
use Rattle.smk_world.specs.Devices.{Device, WhereTold}
use Rattle.smk_world.specs.Trees.{Path}
use Rattle.smk_digest.specs.Digests.{AreSums}
use Rattle.smk_plan.specs.declared.seen.Sight.{Sight}

-- the same with this digest
abbrev pub with_sum : Sight → Option Digest → Sight
with_sum s d = record s { sum = d }

-- the path, where it is one of these
abbrev pub path_if : (Path → Bool) → Sight → List Path
path_if needed s = if needed s.path then s.path ∷ [] else []

-- those of the paths of the sights
abbrev pub paths_where : (Path → Bool) → List Sight → List Path
paths_where needed sights = flat_map (path_if needed) sights

-- the first digest, where one is needed
abbrev pub next_sum : Bool → List (Option Digest) → Option Digest
next_sum false ds = None
next_sum true [] = None
next_sum true (d ∷ ds) = d

-- those after it
abbrev pub sums_after : Bool → List (Option Digest) → List (Option Digest)
sums_after false ds = ds
sums_after true [] = []
sums_after true (d ∷ ds) = ds

-- the sights with the digests, in order, of those that need one
abbrev pub put_sums : (Path → Bool) → List Sight → List (Option Digest) → List Sight
put_sums needed [] ds = []
put_sums needed (s ∷ sights) ds = with_sum s (next_sum (needed s.path) ds) ∷ put_sums needed sights (sums_after (needed s.path) ds)

-- These sights are those with digests where they are needed, each that of its file, as the device tells its world.
pub record HavePut (d : Device) (needed : Path → Bool) (before after : List Sight) : Type 0 where
  pub sums : List (Option Digest)
  pub put : after ≡ put_sums needed before sums
  pub told : WhereTold d (λ w. AreSums w (paths_where needed before) sums)
