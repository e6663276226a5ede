-- What a room holds: of each bounded resource as much as the jobs that are in ask for together.
use Rattle.std.specs.Prelude.{◌≡◌, ℕ, ◌+◌, ◌-◌, Bool, ◌&&◌, List, map, sum_by, nat_le}
use Rattle.std.specs.List.{list_all}
use Rattle.smk_base.specs.declared.tree.Amount.{Amount}
use Rattle.smk_pick.specs.declared.room.Ask.{Ask}
use Rattle.smk_pick.specs.declared.room.Share.{Share}
use Rattle.smk_pick.specs.declared.room.Room.{Room}
use Rattle.smk_pick.specs.Rooms.{amount, threads_in}

-- ## One resource

-- as much as is asked for is left
abbrev pub has_room : List Amount → Share → Bool
has_room asked s = nat_le (s.used + amount asked s.bound.name) s.bound.count

-- as much as is asked for is in use
abbrev pub has_used : List Amount → Share → Bool
has_used asked s = nat_le (amount asked s.bound.name) s.used

abbrev pub raised : List Amount → Share → Share
raised asked s = record s { used = s.used + amount asked s.bound.name }

abbrev pub lowered : List Amount → Share → Share
lowered asked s = record s { used = s.used - amount asked s.bound.name }

-- what these jobs use of it together
abbrev pub share_of : List Ask → Amount → Share
share_of asks b = record { bound = b; used = sum_by (λ (a : Ask). amount a.amounts b.name) asks }

-- ## The room

-- These jobs are in: the room has the sum of their threads, and of each bounded resource the sum of their amounts.
pub record Holds (cores : ℕ) (bounds : List Amount) (room : Room) (asks : List Ask) : Type 0 where
  pub cores_are : room.cores ≡ cores
  pub threads_are : room.threads ≡ sum_by (λ (a : Ask). threads_in cores a.threads) asks
  pub shares_are : room.shares.items ≡ map (share_of asks) bounds

-- what the job asks for is left
abbrev pub fits_in : Room → Ask → Bool
fits_in room ask = nat_le (room.threads + threads_in room.cores ask.threads) room.cores && list_all (has_room ask.amounts) room.shares.items

-- what the job asks for is in use
abbrev pub is_used_in : Room → Ask → Bool
is_used_in room ask = nat_le (threads_in room.cores ask.threads) room.threads && list_all (has_used ask.amounts) room.shares.items
