-- Jobs that are ready, in lines.
use Rattle.std.specs.Prelude.{◌≡◌, ℕ, ◌+◌, ◌*◌, ◌<◌, ◌≤◌, Bool, true, false, ◌&&◌, cond, ◌⊎◌, List, [], ◌∷◌, ◌++◌, slice_set, Option, Some, None, length, map, min, take, slice_get, slice_index, nat_lt, MatchOption}
use Rattle.std.specs.List.{list_all}
use Rattle.smk_pick.specs.declared.room.Ask.{Ask}
use Rattle.smk_pick.specs.declared.room.Room.{Room}
use Rattle.smk_pick.specs.Shares.{fits_in}
use Rattle.smk_pick.specs.Picks.{comes_first}
use Rattle.smk_core.specs.declared.phase.Phase.{Phase}
use Rattle.smk_core.specs.declared.place.Kind.{Kind}
use Rattle.smk_core.specs.declared.place.Place.{Place}
use Rattle.smk_core.specs.declared.place.TheConstants.{NONE}
use Rattle.smk_core.specs.Indices.{has, is_true_at}
use Rattle.smk_core.specs.Standing.{stands, is_done, is_ready, befores_of, list_of, rank_of}

-- ## The least of some numbers

abbrev pub least : List ℕ → ℕ
least [] = NONE
least (x ∷ xs) = min x (least xs)

-- the node has the lesser of the two below it
abbrev pub IsLesser : List ℕ → ℕ → Type 0
IsLesser nodes k = slice_index nodes k ≡ min (slice_index nodes (2 * k)) (slice_index nodes (2 * k + 1))

-- The second half of the nodes has the numbers, and each node of the first one, from 1 on, the lesser of the two below it.
pub record IsTree (places : ℕ) (nodes : List ℕ) : Type 0 where
  pub sized : length nodes ≡ places + places
  pub lesser : (k : ℕ) → 1 ≤ k → k < places → IsLesser nodes k

-- ## The lines

-- jobs with what they ask for, and of each whether it is in line
pub record Line : Type 0 where
  pub asks : List Ask
  pub present : List Bool

abbrev pub entry_in : Option (List ℕ) → ℕ → Option ℕ
entry_in None at = None
entry_in (Some line) at = slice_get line at

-- the number at this place of the lines
abbrev pub entry : List (List ℕ) → Place → Option ℕ
entry lines p = entry_in (slice_get lines p.line) p.at

abbrev pub is_number : Option ℕ → Bool
is_number None = false
is_number (Some x) = nat_lt x NONE

-- Each job has a place of its own, which has its number or none; all places have such numbers alone; and jobs that ask for different things stand
-- in different lines.
pub record IsInLine (asks : List Ask) (places : List Place) (lines : List (List ℕ)) : Type 0 where
  pub few : length asks ≤ NONE
  pub as_many : length places ≡ length asks
  pub there : (j : ℕ) (p : Place) → slice_get places j ≡ Some p → (x : ℕ) × (entry lines p ≡ Some x)
  pub own : (p : Place) (x : ℕ) → entry lines p ≡ Some x → x < NONE → slice_get places x ≡ Some p
  pub apart : (i j : ℕ) (p : Place) → slice_get places i ≡ Some p → slice_get places j ≡ Some p → i ≡ j
  pub alike : (i j : ℕ) (p q : Place) → slice_get places i ≡ Some p → slice_get places j ≡ Some q → p.line ≡ q.line → slice_get asks i ≡ slice_get asks j

abbrev pub present_in : List Place → List (List ℕ) → List Bool
present_in places lines = map (λ (p : Place). is_number (entry lines p)) places

-- ## The first that fits

-- whether what is asked for is left in the room
abbrev pub fits_room : Room → Option Ask → Bool
fits_room room None = false
fits_room room (Some a) = fits_in room a

abbrev pub is_before : List Ask → ℕ → Option ℕ → Bool
is_before asks h None = true
is_before asks h (Some b) = comes_first (rank_of asks h) (rank_of asks b)

-- the first of two jobs, where this one fits
abbrev pub better : List Ask → Room → Option ℕ → ℕ → Option ℕ
better asks room best h = cond (fits_room room (slice_get asks h) && is_before asks h best) (Some h) best

-- the first of these jobs that fit, or this one
abbrev pub best_of : List Ask → Room → Option ℕ → List ℕ → Option ℕ
best_of asks room best [] = best
best_of asks room best (h ∷ hs) = best_of asks room (better asks room best h) hs

-- whether the job is in line and fits
abbrev pub is_fitting : Line → Room → ℕ → Bool
is_fitting line room j = is_true_at line.present j && fits_room room (slice_get line.asks j)

-- The job is the first of those in line that fit; None where none does.
abbrev pub IsBest : Line → Room → Option ℕ → Type 0
IsBest line room best =
    MatchOption best ((j : ℕ) → is_fitting line room j ≡ false) (λ j.
    (is_fitting line room j ≡ true) × ((k : ℕ) → is_fitting line room k ≡ true → comes_first (rank_of line.asks k) (rank_of line.asks j) ≡ false))

-- ## The jobs

-- what jobs ask for, which jobs come before each, and how they stand
pub record Roll : Type 0 where
  pub asks : List Ask
  pub befores : List (List ℕ)
  pub phases : List Phase

-- of the jobs before each, so many from the first on are done
abbrev pub ArePassed : List Phase → List (List ℕ) → List ℕ → Type 0
ArePassed phases befores passed = (j : ℕ) → list_all (stands is_done phases) (take (slice_index passed j) (befores_of befores j)) ≡ true

-- each job that comes after another is in that one's list
abbrev pub AreBehind : List (List ℕ) → List (List ℕ) → Type 0
AreBehind befores behind = (i j : ℕ) → has (befores_of befores j) i ≡ true → has (list_of (slice_get behind i)) j ≡ true

-- just those that are ready are in line
abbrev pub AreReady : List Phase → List (List ℕ) → List Bool → Type 0
AreReady phases befores present = (j : ℕ) → is_true_at present j ≡ is_ready phases befores j

-- so they are, but for some of these jobs
abbrev pub AreReadyBut : List ℕ → List Phase → List (List ℕ) → List Bool → Type 0
AreReadyBut jobs phases befores present = (j : ℕ) → (is_true_at present j ≡ is_ready phases befores j) ⊎ (has jobs j ≡ true)

pub record IsRoll (line : Line) (befores behind : List (List ℕ)) (passed : List ℕ) (phases : List Phase) : Type 0 where
  pub phases_many : length phases ≡ length line.asks
  pub present_many : length line.present ≡ length line.asks
  pub befores_many : length befores ≡ length line.asks
  pub passed_many : length passed ≡ length line.asks
  pub behind_many : length behind ≡ length line.asks
  pub passed_are : ArePassed phases befores passed
  pub behind_are : AreBehind befores behind
  pub ready_are : AreReady phases befores line.present

-- ## How lines are made

-- Places for the first jobs: each is one of its line's, no two are the same, and each job asks for what the first of its line asks for.
pub record ArePlaced (asks : List Ask) (kinds : List Kind) (places : List Place) : Type 0 where
  pub bounded : (j : ℕ) (p : Place) → slice_get places j ≡ Some p → (k : Kind) × (slice_get kinds p.line ≡ Some k) × (p.at < k.size) × (slice_get asks j ≡ slice_get asks k.first)
  pub apart : (i j : ℕ) (p : Place) → slice_get places i ≡ Some p → slice_get places j ≡ Some p → i ≡ j

-- the line is of jobs that ask for this
abbrev pub IsKindOf : List Ask → List Kind → Ask → ℕ → Type 0
IsKindOf asks kinds ask line = (k : Kind) × (slice_get kinds line ≡ Some k) × (slice_get asks k.first ≡ Some ask)

-- The line was there, or it is a new one of no job yet.
abbrev pub OpensLine : List Kind → List Kind → Type 0
OpensLine old new = (new ≡ old) ⊎ ((k : Kind) × (new ≡ old ++ k ∷ []))

-- a place behind all those of the line
pub record AddsPlace (line : ℕ) (kinds now : List Kind) (places there : List Place) : Type 0 where
  pub kind : Kind
  pub found : slice_get kinds line ≡ Some kind
  pub kinds_are : now ≡ slice_set kinds line (record kind { size = kind.size + 1 })
  pub places_are : there ≡ places ++ (record { line = line; at = kind.size }) ∷ []

-- ## One entry

abbrev pub IsThere : List (List ℕ) → Place → Type 0
IsThere lines p = (x : ℕ) × (entry lines p ≡ Some x)

abbrev pub line_at : List (List ℕ) → ℕ → List ℕ
line_at lines i = list_of (slice_get lines i)

-- the lines with this number at the place
abbrev pub with_entry : List (List ℕ) → Place → ℕ → List (List ℕ)
with_entry lines p x = slice_set lines p.line (slice_set (line_at lines p.line) p.at x)

-- ## Settling

-- The job is in line just where it is ready; all others are as they were.
pub record Settles (job : ℕ) (phases : List Phase) (befores : List (List ℕ)) (old new : Line) : Type 0 where
  pub asks_are : new.asks ≡ old.asks
  pub present_are : new.present ≡ slice_set old.present job (is_ready phases befores job)

-- there is one of everything for each job
pub record AreOfAll (count : ℕ) (line : Line) (passed : List ℕ) (phases : List Phase) : Type 0 where
  pub phases_many : length phases ≡ count
  pub present_many : length line.present ≡ count
  pub asks_many : length line.asks ≡ count
  pub passed_many : length passed ≡ count

-- ## The jobs behind each

abbrev pub list_at : List (List ℕ) → ℕ → List ℕ
list_at lists i = list_of (slice_get lists i)

-- the job is noted with each of these
pub record IsNoted (befores : List ℕ) (job : ℕ) (old new : List (List ℕ)) : Type 0 where
  pub as_many : length new ≡ length old
  pub kept : (i k : ℕ) → has (list_at old i) k ≡ true → has (list_at new i) k ≡ true
  pub noted : (i : ℕ) → has befores i ≡ true → i < length old → has (list_at new i) job ≡ true

-- the jobs before each have lower numbers
abbrev pub AreEarlier : List (List ℕ) → Type 0
AreEarlier befores = (j i : ℕ) → has (befores_of befores j) i ≡ true → i < j

-- ## All of it

abbrev pub roll : List Ask → List (List ℕ) → List Phase → Roll
roll asks befores phases = record { asks = asks; befores = befores; phases = phases }

abbrev pub with_phases : Roll → List Phase → Roll
with_phases r phases = record r { phases = phases }

-- whether the job is ready and fits
abbrev pub is_next : Roll → Room → ℕ → Bool
is_next r room j = is_ready r.phases r.befores j && fits_room room (slice_get r.asks j)

-- The job is the first of those that are ready and fit; None where none does.
abbrev pub IsBestReady : Roll → Room → Option ℕ → Type 0
IsBestReady r room best =
    MatchOption best ((j : ℕ) → is_next r room j ≡ false) (λ j.
    (is_next r room j ≡ true) × ((k : ℕ) → is_next r room k ≡ true → comes_first (rank_of r.asks k) (rank_of r.asks j) ≡ false))
