-- Amounts of resources, and when jobs keep within bounds together.
use Rattle.std.specs.Prelude.{ℕ, Bool, ◌&&◌, List, filter, sum_by, min, nat_le, bytes_eq}
use Rattle.std.specs.List.{list_all}
use Rattle.smk_base.specs.declared.tree.Amount.{Amount}
use Rattle.smk_pick.specs.declared.room.Ask.{Ask}

-- how much of this resource
abbrev pub amount : List Amount → List ℕ → ℕ
amount amounts name = sum_by (λ (a : Amount). a.count) (filter (λ (a : Amount). bytes_eq a.name name) amounts)

-- more threads than there are cores count as that many
abbrev pub threads_in : ℕ → ℕ → ℕ
threads_in cores threads = min threads cores

-- Their threads sum to at most the cores, and their amounts of each bounded resource to at most its bound.
abbrev pub are_within : ℕ → List Amount → List Ask → Bool
are_within cores bounds asks =
    nat_le (sum_by (λ (a : Ask). threads_in cores a.threads) asks) cores
    && list_all (λ (b : Amount). nat_le (sum_by (λ (a : Ask). amount a.amounts b.name) asks) b.count) bounds
