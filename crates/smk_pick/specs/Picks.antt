-- Which jobs are started: in which order they are considered, and which of them fit.
use Rattle.std.specs.Prelude.{◌≡◌, ℕ, ◌+◌, ◌-◌, ◌^◌, Bool, true, false, List, [], ◌∷◌, ◌++◌, Some, None}
use Rattle.std.specs.List.{slice_get}
use Rattle.std.specs.Ordering.{nat_cmp, ordering_then, is_lt}
use Rattle.smk_base.specs.declared.tree.Amount.{Amount}
use Rattle.smk_pick.specs.declared.room.Ask.{Ask}
use Rattle.smk_pick.specs.declared.room.Room.{Room}
use Rattle.smk_pick.specs.Rooms.{are_within}
use Rattle.smk_pick.specs.Shares.{Holds}

-- the priority of a job, turned round, and its number
abbrev pub Rank : Type 0
Rank = ℕ × ℕ

-- the ranks of the jobs, which have the numbers from this one on
abbrev pub ranks_from : ℕ → List Ask → List Rank
ranks_from n [] = []
ranks_from n (a ∷ asks) = (2 ^ 64 - 1 - a.priority, n) ∷ ranks_from (n + 1) asks

-- the greater priority, and then the lower number, is considered first
abbrev pub comes_first : Rank → Rank → Bool
comes_first a b = is_lt (ordering_then (nat_cmp a.0 b.0) (nat_cmp a.1 b.1))

-- those that are started of the jobs of these ranks, where these are in already: each that is within the bounds beside all that are in
abbrev pub starts : ℕ → List Amount → List Ask → List Ask → List Rank → List ℕ
starts cores bounds asks taken [] = []
starts cores bounds asks taken (r ∷ ranks) =
    elim (slice_get asks r.1) as (λ _. List ℕ) [
      | None ↦ starts cores bounds asks taken ranks
      | Some a ↦ elim (are_within cores bounds (taken ++ a ∷ [])) as (λ _. List ℕ) [
        | true ↦ r.1 ∷ starts cores bounds asks (taken ++ a ∷ []) ranks
        | false ↦ starts cores bounds asks taken ranks
      ]
    ]

-- what one step does to the room and to what is picked, whatever comes after it
abbrev pub Starts : ℕ → List Amount → Room → Room → List ℕ → List ℕ → Ask → ℕ → Type 0
Starts cores bounds old new picked now ask number =
    (asks : List Ask) (taken : List Ask) (p : ℕ) (ranks : List Rank) → slice_get asks number ≡ Some ask → Holds cores bounds old taken →
    (after : List Ask) × Holds cores bounds new after × (now ++ starts cores bounds asks after ranks ≡ picked ++ starts cores bounds asks taken ((p, number) ∷ ranks))
