-- The children of a run in their places, and why no job begins any more.
use Rattle.std.specs.Prelude.{◌≡◌, ◌<◌, ℕ, Bool, true, false, ◌||◌, zero, suc, List, [], ◌∷◌, ◌++◌, length, nat_eq, slice_index_or, Option, Some, None, option_map}
use Rattle.std.specs.List.{flat_map}
use Rattle.smk_report.specs.declared.fault.Fault.{Fault}
use Rattle.smk_report.specs.declared.fault.Fault.TheVariants as fault
use Rattle.smk_job.specs.Jobs.{Underway}
use Rattle.smk_drive_step.specs.declared.children.Child.{Child}
use Rattle.smk_drive_step.specs.declared.halt.Halt.{Halt}

-- ## Children

abbrev pub going_in : Option Child → List Underway
going_in None = []
going_in (Some c) = c.going ∷ []

-- the jobs whose children are in these places
abbrev pub goings : List (Option Child) → List Underway
goings places = flat_map going_in places

-- the child in the place has the number
abbrev pub is_numbered : ℕ → Option Child → Bool
is_numbered number None = false
is_numbered number (Some c) = nat_eq c.going.number number

-- there is such a place, and what is in it passes the test
pub record IsFoundAt (test : Option Child → Bool) (places : List (Option Child)) (at : ℕ) : Type 0 where
  pub within : at < length places
  pub passes : test (slice_index_or places at None) ≡ true

-- one place has this now in the place of that, and no other has changed
pub record IsPutFor (old new : Option Child) (were are : List (Option Child)) : Type 0 where
  pub before : List (Option Child)
  pub after : List (Option Child)
  pub were_so : were ≡ before ++ old ∷ after
  pub are_so : are ≡ before ++ new ∷ after

-- the child, whose job has this number
abbrev pub with_job : ℕ → Child → Child
with_job number c = record c { job = number }

-- the element of the place is changed
abbrev pub changed_at : {A : Type 0} → (A → A) → ℕ → List A → List A
changed_at f n [] = []
changed_at f zero (x ∷ xs) = f x ∷ xs
changed_at f (suc n) (x ∷ xs) = x ∷ changed_at f n xs

-- the children in these places, whose jobs have these numbers, by their places
abbrev pub renumbered : List ℕ → List (Option Child) → List (Option Child)
renumbered [] places = places
renumbered (n ∷ numbers) [] = []
renumbered (n ∷ numbers) (p ∷ places) = option_map (with_job n) p ∷ renumbered numbers places

-- ## Faults

abbrev pub is_device : Fault → Bool
is_device fault.Device = true
is_device f = false

-- the first of two faults
abbrev pub or_later : Option Fault → Fault → Fault
or_later None g = g
or_later (Some f) g = f

-- this fault came, too
abbrev pub halted_by : Fault → Halt → Halt
halted_by f h = record { fault = Some (or_later h.fault f); only_waits = h.only_waits || is_device f }
