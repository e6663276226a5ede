-- Jobs that are given anew while some run: those that were there before have new numbers, and stand as they stood.
use Rattle.std.specs.Prelude.{◌≡◌, ◌≢◌, ℕ, ◌<◌, List, Some, length, slice_get}
use Rattle.smk_pick.specs.declared.room.Ask.{Ask}
use Rattle.smk_core.specs.declared.phase.Phase.{Phase}
use Rattle.smk_core.specs.declared.phase.Phase.TheVariants.{Waiting}
use Rattle.smk_core.specs.Standing.{Standing, IsRunnable}

-- Each of these jobs has a new number, no two the same, and asks there for what it asked for.
pub record Moves (moved : List ℕ) (old new : List Ask) : Type 0 where
  pub as_many : length moved ≡ length old
  pub apart : (i j n : ℕ) → slice_get moved i ≡ Some n → slice_get moved j ≡ Some n → i ≡ j
  pub same : (i n : ℕ) (a : Ask) → slice_get moved i ≡ Some n → slice_get old i ≡ Some a → slice_get new n ≡ Some a

-- Of so many jobs those that have moved stand as before, and each other one hasn't begun.
pub record IsCarried (moved : List ℕ) (count : ℕ) (old new : List Phase) : Type 0 where
  pub as_many : length new ≡ count
  pub carried : (i n : ℕ) → slice_get moved i ≡ Some n → slice_get new n ≡ slice_get old i
  pub fresh : (n : ℕ) → n < count → ((i : ℕ) → slice_get moved i ≢ Some n) → slice_get new n ≡ Some Waiting

-- these jobs can be run in place of those that are there
pub record CanReplan (s : Standing) (asks : List Ask) (befores : List (List ℕ)) (moved : List ℕ) : Type 0 where
  pub runnable : IsRunnable s.cores s.bounds asks befores
  pub moves : Moves moved s.asks asks

-- The run has these jobs now; all else is as before.
pub record IsReplanned (asks : List Ask) (befores : List (List ℕ)) (moved : List ℕ) (s t : Standing) : Type 0 where
  pub phases_are : IsCarried moved (length asks) s.phases t.phases
  pub else_is : t ≡ record s { asks = asks; befores = befores; phases = t.phases }

-- numbers of so many jobs, no two the same
pub record AreNumbers (count : ℕ) (moved : List ℕ) : Type 0 where
  pub below : (i n : ℕ) → slice_get moved i ≡ Some n → n < count
  pub apart : (i j n : ℕ) → slice_get moved i ≡ Some n → slice_get moved j ≡ Some n → i ≡ j
