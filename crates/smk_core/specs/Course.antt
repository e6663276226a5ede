-- What happens to a run, one thing after another.
use Rattle.std.specs.Prelude.{◌≡◌, ℕ, Bool, true, List, [], ◌∷◌, Option, Some, None, slice_get}
use Rattle.smk_pick.specs.declared.room.Ask.{Ask}
use Rattle.smk_core.specs.declared.starter.Step.{Step}
use Rattle.smk_core.specs.Standing.{Standing, stands, is_running, ended, stopped_now, Answers}
use Rattle.smk_core.specs.Replans.{CanReplan, IsReplanned}

-- it was told what is next; the command of a job ended, well or not; it was stopped; its jobs were given anew
pub data Happening : Type 0 where
  Answered : Step → Happening
  Ended : ℕ → Bool → Happening
  Stopped : Happening
  Replanned : List Ask → List (List ℕ) → List ℕ → Happening

-- how one thing that happens changes a run
abbrev pub Happens : Standing → Happening → Standing → Type 0
Happens s (Answered step) t = Answers s step t
Happens s (Ended j good) t = (stands is_running s.phases j ≡ true) × (t ≡ ended s j good)
Happens s Stopped t = t ≡ stopped_now s
Happens s (Replanned asks befores moved) t = CanReplan s asks befores moved × IsReplanned asks befores moved s t

-- these happen in this order, from one standing to another
abbrev pub Course : Standing → List Happening → Standing → Type 0
Course s [] t = t ≡ s
Course s (h ∷ hs) u = (t : Standing) × Happens s h t × Course t hs u

abbrev pub moved_or : ℕ → Option ℕ → ℕ
moved_or j None = j
moved_or j (Some n) = n

-- the number that a job has after one thing has happened
abbrev pub number_after : Happening → ℕ → ℕ
number_after (Answered step) j = j
number_after (Ended i good) j = j
number_after Stopped j = j
number_after (Replanned asks befores moved) j = moved_or j (slice_get moved j)

-- the number that it has after all of these
abbrev pub number_after_all : List Happening → ℕ → ℕ
number_after_all [] j = j
number_after_all (h ∷ hs) j = number_after_all hs (number_after h j)
