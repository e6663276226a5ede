-- The stamps of a job's inputs, with the digests of its sources.
use Rattle.std.specs.Prelude.{◌≡◌, ◌⊎◌, ℕ, Bool, true, false, List, [], ◌∷◌, ◌++◌, nat_lt, Option, Some, None, Result, Ok, Err}
use Rattle.std.specs.List.{flat_map}
use Rattle.smk_base.specs.declared.sum.Sum.{Sum as Digest}
use Rattle.smk_world.specs.declared.event.Event.{Event}
use Rattle.smk_world.specs.Devices.{AreLooks}
use Rattle.smk_world.specs.Trees.{Path}
use Rattle.smk_world.specs.World.{World}
use Rattle.smk_record.specs.declared.record.Stamp.{Stamp}
use Rattle.smk_record.specs.declared.record.Stamp.TheVariants.{Time, Sum}
use Rattle.smk_record.specs.Spelling.{is_sum}
use Rattle.smk_digest.specs.Digests.{IsSum}
use Rattle.smk_digest.specs.declared.fault.SumFault.{SumFault}
use Rattle.smk_digest.specs.declared.fault.SumFault.TheVariants.{Device as SumsDevice, OutOfMemory as SumsMemory}
use Rattle.smk_job.specs.Jobs.{IsPart}
use Rattle.smk_run.specs.declared.stop.Stop.{Stop}
use Rattle.smk_run.specs.declared.stop.Stop.TheVariants.{Gone, Device as StopDevice, OutOfMemory as StopMemory}
use Rattle.smk_run.specs.Stamps.{Serials, AreStamped, EndsGone, looks}

-- the stamp with a digest, where one was taken
abbrev pub with_sum : Option Digest → Stamp → Stamp
with_sum (Some d) (Time t) = Sum t d
with_sum sum s = s

-- An input has this stamp: a product the serial that is known of it; a source the time that was seen, and the SHA-256 of the file that
-- stands there in this world, where that is taken.
abbrev pub IsDigested : World → Option ℕ → Path → Stamp → Stamp → Type 0
IsDigested w (Some serial) p seen s = s ≡ seen
IsDigested w None p seen s = (sum : Option Digest) × IsSum w p sum × (s ≡ with_sum sum seen)

-- a source, by the serial that is known of the path
abbrev pub source_in : Option ℕ → Path → List Path
source_in (Some serial) p = []
source_in None p = p ∷ []

-- the sources among these paths
abbrev pub sources_among : Serials → List Path → List Path
sources_among made paths = flat_map (λ p. source_in (made p) p) paths

-- the digest of an input before those of the sources behind it: of a source the first one, of a product none
abbrev pub sum_for : Option ℕ → List (Option Digest) → Option Digest
sum_for (Some serial) sums = None
sum_for None [] = None
sum_for None (sum ∷ sums) = sum

-- the digests of the sources behind an input
abbrev pub sums_after : Option ℕ → List (Option Digest) → List (Option Digest)
sums_after (Some serial) sums = sums
sums_after None [] = []
sums_after None (sum ∷ sums) = sums

-- the stamps with the digests, of which there is one for each source, in order
abbrev pub summed : Serials → List Path → List Stamp → List (Option Digest) → List Stamp
summed made [] seen sums = []
summed made (p ∷ paths) [] sums = []
summed made (p ∷ paths) (s ∷ seen) sums = with_sum (sum_for (made p) sums) s ∷ summed made paths seen (sums_after (made p) sums)

abbrev pub is_byte : ℕ → Bool
is_byte b = nat_lt b 256

-- the digest has 32 bytes, where there is one
abbrev pub is_whole_sum : Option Digest → Bool
is_whole_sum None = true
is_whole_sum (Some d) = is_sum d.0

-- why there are no digests
abbrev pub sum_stop : SumFault → Stop
sum_stop SumsDevice = StopDevice
sum_stop SumsMemory = StopMemory

-- so for each of them, in order
abbrev pub AreDigested : World → Serials → List Path → List Stamp → List Stamp → Type 0
AreDigested w made [] [] [] = Unit {0}
AreDigested w made (p ∷ paths) (t ∷ seen) (s ∷ stamps) = IsDigested w (made p) p t s × AreDigested w made paths seen stamps
AreDigested w made paths seen stamps = ⊥

-- The inputs were looked at, one after another; then sources were read, which changes nothing, and so they have these stamps.
pub record HasDigested (made : Serials) (paths : List Path) (stamps : List Stamp) (w : World) (es : List Event) : Type 0 where
  pub looks : List Event
  pub reads : List Event
  pub events : es ≡ looks ++ reads
  pub seen : List Stamp
  pub stamped : AreStamped made paths seen looks
  pub only_read : AreLooks false reads
  pub digested : AreDigested w made paths seen stamps

-- The inputs were looked at, and then some of the sources were read, of which the last read may have failed.
pub record HasReadPart (made : Serials) (paths : List Path) (es : List Event) : Type 0 where
  pub looks : List Event
  pub reads : List Event
  pub events : es ≡ looks ++ reads
  pub seen : List Stamp
  pub stamped : AreStamped made paths seen looks
  pub failure : Bool
  pub only_read : AreLooks failure reads

-- the inputs have these stamps, or the looks or reads ended early
abbrev pub HasInputs : Serials → List Path → Result (List Stamp) Stop → World → List Event → Type 0
HasInputs made paths (Ok stamps) w es = HasDigested made paths stamps w es
HasInputs made paths (Err (Gone p)) w es = IsPart (looks made paths) es × EndsGone p es
HasInputs made paths (Err stop) w es = IsPart (looks made paths) es ⊎ HasReadPart made paths es
