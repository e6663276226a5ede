-- What a trial puts.
use Rattle.std.specs.Prelude.{◌≡◌, ◌⊎◌, ℕ, Option, Result, Ok, Err}
use Rattle.smk_world.specs.declared.event.Failed.{Failed}
use Rattle.smk_world.specs.Devices.{Sunk, HasPut}
use Rattle.smk_world.specs.World.{World}
use Rattle.smk_report.specs.declared.fault.Fault.{Fault}
use Rattle.smk_report.specs.declared.fault.Fault.TheVariants as fault
use Rattle.smk_gen.specs.Files.{Text}
use Rattle.smk_trial.specs.Lines.{trial_lines}
use Rattle.smk_trial.specs.Trying.{HasTried}

-- the answer of a command that put its text, or failed to
abbrev pub answer_of : Result (Unit {0}) Failed → Result (Unit {0}) Fault
answer_of (Ok u) = Ok tt
answer_of (Err e) = Err fault.Output

-- the text was put, or the sink failed as it was
pub record IsPut (text : Text) (out_old out_new : Sunk) (answer : Result (Unit {0}) Fault) : Type 0 where
  pub put : Result (Unit {0}) Failed
  pub answers : answer ≡ answer_of put
  pub has_put : HasPut out_old out_new text put

-- memory was wanting, and nothing was put
pub record LacksMemory (out_old out_new : Sunk) (answer : Result (Unit {0}) Fault) : Type 0 where
  pub answers : answer ≡ Err fault.OutOfMemory
  pub unput : out_new ≡ out_old

-- what is told of these counts
abbrev pub TellsCounts : ℕ → ℕ → ℕ → ℕ → ℕ → Sunk → Sunk → Result (Unit {0}) Fault → Type 0
TellsCounts size first second third total out_old out_new answer =
    LacksMemory out_old out_new answer ⊎ IsPut (trial_lines size first second third total) out_old out_new answer

-- The trial was made, and its counts are told; or memory was wanting.
pub data HasTold (seed size : ℕ) (out_old out_new : Sunk) (answer : Result (Unit {0}) Fault) : Type 0 where
  Untried : LacksMemory out_old out_new answer → HasTold seed size out_old out_new answer
  Tried :
      (first second third total : ℕ) (now : Option World) →
      HasTried seed size first second third total now →
      TellsCounts size first second third total out_old out_new answer → HasTold seed size out_old out_new answer
