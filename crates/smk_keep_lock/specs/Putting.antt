-- What was put on a sink.
use Rattle.std.specs.Prelude.{◌≡◌, ℕ, Bool, false, ◌++◌, Some, IsSome}
use Rattle.smk_world.specs.Calls.{HasCause}
use Rattle.smk_world.specs.Devices.{Sunk}
use Rattle.smk_report.specs.Lines.{Text}

-- the text begins the whole
abbrev pub IsPrefix : Text → Text → Type 0
IsPrefix text whole = (rest : Text) × (whole ≡ text ++ rest)

-- all of the text with status 0, else a front of it
abbrev pub IsWholeFor : ℕ → Text → Text → Type 0
IsWholeFor status whole text = IsPrefix text whole × (status ≡ 0 → text ≡ whole)

-- where the bytes of a sink are told now: they were before, and this text was put, of which P holds
abbrev pub Put : Sunk → Sunk → (Text → Type 0) → Type 0
Put old new P =
    (after : Text) → new.put ≡ Some after → (before : Text) × (old.put ≡ Some before) × ((text : Text) × (after ≡ before ++ text) × P text)

-- Whatever was put: what was told stays told unless a put failed; that has its cause, and without it the count stays.
pub record HasPutSome (failure : Bool) (old new : Sunk) : Type 0 where
  pub stays : failure ≡ false → IsSome old.put → IsSome new.put
  pub cause : HasCause old.faults new.faults failure
  pub quiet : failure ≡ false → new.faults ≡ old.faults
