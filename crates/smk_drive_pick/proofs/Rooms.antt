-- A job fits into the room where it keeps within the bounds beside those that are in.
use Rattle.std.proofs.Common.{◌≡◌, ℕ, ◌+◌, ◌&&◌, List, [], ◌∷◌, ◌++◌, sym, ◌∙◌, arith}
use Rattle.std.specs.Prelude.{sum_by, nat_le}
use Rattle.std.specs.List.{list_all}
use Rattle.std.proofs.lemmas.List.Sums.{sum_by-append}
use Rattle.smk_base.specs.declared.tree.Amount.{Amount}
use Rattle.smk_pick.specs.declared.room.Ask.{Ask}
use Rattle.smk_pick.specs.declared.room.Room.{Room}
use Rattle.smk_pick.specs.Rooms.{amount, threads_in, are_within}
use Rattle.smk_pick.specs.Shares.{Holds, fits_in}
use Rattle.smk_pick.proofs.Holding.{fits_is}

sum_turned : (f : Ask → ℕ) (asks : List Ask) (ask : Ask) → sum_by f (asks ++ ask ∷ []) ≡ sum_by f (ask ∷ asks)
sum_turned f asks ask =
    let last = sum_by-append f asks (ask ∷ []) in
    let first = sum_by-append f (ask ∷ []) asks in
    last ∙ turned (sum_by f asks) (sum_by f (ask ∷ [])) ∙ sym first
  where
    turned : (a b : ℕ) → a + b ≡ b + a
    turned a b = omega arith

pub fits_beside :
    (cores : ℕ) (bounds : List Amount) (room : Room) (asks : List Ask) (ask : Ask) → Holds cores bounds room asks → fits_in room ask
    ≡ are_within cores bounds (ask ∷ asks)
fits_beside cores bounds room asks ask h =
    fits_is cores bounds room asks ask h
    ∙ (λ i. nat_le (sum_turned (λ (a : Ask). threads_in cores a.threads) asks ask i) cores
    && list_all (λ (b : Amount). nat_le (sum_turned (λ (a : Ask). amount a.amounts b.name) asks ask i) b.count) bounds)
