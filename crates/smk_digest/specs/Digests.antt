-- Digests of files.
use Rattle.std.specs.Prelude.{◌≡◌, ◌≢◌, ℕ, Bool, true, false, List, Option, Some, None, option_map, Result, Ok, Err, if◌then◌else◌}
use Rattle.std.specs.List.{AllZip}
use Rattle.std.specs.Option.{option_and_then}
use Rattle.smk_base.specs.declared.sum.Sum.{Sum as Digest}
use Rattle.smk_world.specs.declared.event.Found.{Found}
use Rattle.smk_world.specs.declared.event.Found.TheVariants.{Nothing, TooBig, Held}
use Rattle.smk_world.specs.declared.event.Node.{Node}
use Rattle.smk_world.specs.declared.event.NodeState.TheVariants.{Owned}
use Rattle.smk_world.specs.declared.event.WorkFault.{WorkFault}
use Rattle.smk_world.specs.declared.event.WorkFault.TheVariants.{Failed, OutOfMemory}
use Rattle.smk_world.specs.World.{World, reading}
use Rattle.smk_world.specs.Trees.{Path}
use Rattle.smk_store.specs.Images.{bytes_of}
use Rattle.smk_store.specs.Trust.{is_summed, sum_of}
use Rattle.smk_digest.specs.declared.fault.SumFault.{SumFault}
use Rattle.smk_digest.specs.declared.fault.SumFault.TheVariants.{Device, OutOfMemory as NoMemory}

-- the bytes, where they aren't too many
abbrev pub not_too_many : List ℕ → Option (List ℕ)
not_too_many bytes = if is_summed bytes then Some bytes else None

-- the bytes of a file, where one is there that isn't too big
abbrev pub content_in : Option Node → Option (List ℕ)
content_in n = option_and_then not_too_many (bytes_of n)

-- the bytes that were read
abbrev pub held : Found → Option (List ℕ)
held Nothing = None
held (TooBig size) = None
held (Held bytes) = Some bytes

-- the SHA-256 of a file, where one is there that isn't too big
abbrev pub sum_in : Option Node → Option Digest
sum_in n = option_map sum_of (content_in n)

-- what was read at the path is so, where no running child owns it
abbrev pub IsContent : World → Path → Option (List ℕ) → Type 0
IsContent w p content = w.nodes p ≢ Owned → content ≡ content_in (reading (w.nodes p))

-- the digest of the path is so, where no running child owns it
abbrev pub IsSum : World → Path → Option Digest → Type 0
IsSum w p s = w.nodes p ≢ Owned → s ≡ sum_in (reading (w.nodes p))

-- one for each path, in order
abbrev pub AreContents : World → List Path → List (Option (List ℕ)) → Type 0
AreContents w paths contents = AllZip (IsContent w) paths contents

abbrev pub AreSums : World → List Path → List (Option Digest) → Type 0
AreSums w paths sums = AllZip (IsSum w) paths sums

-- the fault of a call, as that of digesting
abbrev pub sum_fault : WorkFault → SumFault
sum_fault Failed = Device
sum_fault OutOfMemory = NoMemory

-- the device failed
abbrev pub sum_failed : {T : Type 0} → Result T SumFault → Bool
sum_failed (Ok t) = false
sum_failed (Err Device) = true
sum_failed (Err NoMemory) = false
