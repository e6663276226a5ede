-- The first failure, as it is kept.
use Rattle.std.specs.Prelude.{◌≡◌, ◌⊎◌, ℕ, List, [], Option, Some, None, string_bytes}
use Rattle.std.specs.IoError.{error_kind}
use Rattle.std.specs.declared.io.Error.{Error}
use Rattle.std.specs.declared.io.ErrorKind.TheVariants as kind
use Rattle.smk_world_real.specs.declared.failure.CallKind.{CallKind}
use Rattle.smk_world_real.specs.declared.failure.Failure.{Failure}
use Rattle.smk_world_real.specs.declared.fault.Fault.{Fault}
use Rattle.smk_world_real.specs.declared.fault.Fault.TheVariants.{Device, OutOfMemory}

-- where a call on the place failed
abbrev pub path_of : List ℕ → Fault → List ℕ
path_of place (Device reason (Some path)) = string_bytes path
path_of place (Device reason None) = place
path_of place OutOfMemory = place

-- the fault has this reason
abbrev pub HasReason : Fault → Error → Type 0
HasReason (Device reason path) told = told ≡ reason
HasReason OutOfMemory told = error_kind told ≡ kind.OutOfMemory

-- The failure of this call on the place, by this fault. Without memory for the path that is empty.
pub record IsFailure (call : CallKind) (place : List ℕ) (fault : Fault) (failure : Failure) : Type 0 where
  pub called : failure.call ≡ call
  pub at : (string_bytes failure.path ≡ path_of place fault) ⊎ (string_bytes failure.path ≡ [])
  pub reasoned : HasReason fault failure.reason

-- What such a fault leaves of the first failure: that stays, and where there was none it is this one.
pub record KeepsFirst (call : CallKind) (place : List ℕ) (fault : Fault) (old new : Option Failure) : Type 0 where
  pub stays : (failure : Failure) → old ≡ Some failure → new ≡ old
  pub begins : old ≡ None → (failure : Failure) × (new ≡ Some failure) × IsFailure call place fault failure
