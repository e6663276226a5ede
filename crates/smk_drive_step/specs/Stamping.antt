-- The stamps that a job begins with.
use Rattle.std.specs.Prelude.{◌≡◌, ℕ, Bool, true, false, List, [], ◌∷◌, ◌++◌, map, if◌then◌else◌, Option, Some, None}
use Rattle.std.specs.List.{list_all}
use Rattle.smk_base.specs.declared.sum.Sum.{Sum as Digest}
use Rattle.smk_world.specs.declared.event.WorkFault.{WorkFault}
use Rattle.smk_world.specs.declared.event.WorkFault.TheVariants.{Failed, OutOfMemory}
use Rattle.smk_world.specs.World.{World}
use Rattle.smk_world.specs.Trees.{Path}
use Rattle.smk_record.specs.declared.record.Stamp.{Stamp}
use Rattle.smk_record.specs.declared.record.Stamp.TheVariants.{Time, Sum, Made}
use Rattle.smk_record.specs.Records.{is_earlier}
use Rattle.smk_digest.specs.declared.fault.SumFault.{SumFault}
use Rattle.smk_digest.specs.declared.fault.SumFault.TheVariants.{Device as NoDevice, OutOfMemory as NoMemory}
use Rattle.smk_digest.specs.Digests.{IsSum}
use Rattle.smk_run.specs.Digesting.{with_sum}

-- these are the stamps, each of which a record with this serial may have
pub record AreStampsFor (made : ℕ) (known : List (Option Stamp)) (stamps : List Stamp) : Type 0 where
  pub all : map Some stamps ≡ known
  pub earlier : list_all (is_earlier made) stamps ≡ true

-- the stamp, where it is known and a record with this serial may have it
abbrev pub stamp_for : ℕ → Option Stamp → Option Stamp
stamp_for made None = None
stamp_for made (Some s) = if is_earlier made s then Some s else None

-- the stamp of a source of which no digest is known
abbrev pub is_bare : Stamp → Bool
is_bare (Time t) = true
is_bare (Sum t d) = false
is_bare (Made n) = false

-- An input with the stamp that was known has this one now: a source with no digest that of the file which stands there in this world, where that is taken.
abbrev pub IsDigested : World → Path → Stamp → Stamp → Type 0
IsDigested w p (Time t) s = (sum : Option Digest) × IsSum w p sum × (s ≡ with_sum sum (Time t))
IsDigested w p (Sum t d) s = s ≡ Sum t d
IsDigested w p (Made n) s = s ≡ Made n

-- so for each of them, in order
abbrev pub AreDigested : World → List Path → List Stamp → List Stamp → Type 0
AreDigested w [] [] [] = Unit {0}
AreDigested w (p ∷ paths) (k ∷ known) (s ∷ stamps) = IsDigested w p k s × AreDigested w paths known stamps
AreDigested w paths known stamps = ⊥

-- ## Steps

-- why there are no digests, as the fault of a call
abbrev pub unsummed : SumFault → WorkFault
unsummed NoDevice = Failed
unsummed NoMemory = OutOfMemory

-- the path, where a digest is to be taken
abbrev pub due_at : Path → Stamp → List Path
due_at p k = if is_bare k then p ∷ [] else []

-- the paths of which digests are to be taken
abbrev pub due_among : List Path → List Stamp → List Path
due_among [] known = []
due_among (p ∷ paths) [] = []
due_among (p ∷ paths) (k ∷ known) = due_at p k ++ due_among paths known

-- the first digest, where one was to be taken
abbrev pub sum_for : Bool → List (Option Digest) → Option Digest
sum_for false sums = None
sum_for true [] = None
sum_for true (sum ∷ sums) = sum

-- the digests after it
abbrev pub sums_after : Bool → List (Option Digest) → List (Option Digest)
sums_after false sums = sums
sums_after true [] = []
sums_after true (sum ∷ sums) = sums

-- the stamps with the digests, of which there is one for each that was to be taken, in order
abbrev pub summed : List Stamp → List (Option Digest) → List Stamp
summed [] sums = []
summed (k ∷ known) sums = with_sum (sum_for (is_bare k) sums) k ∷ summed known (sums_after (is_bare k) sums)
