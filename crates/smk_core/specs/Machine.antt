-- What the machine keeps.
use Rattle.std.specs.Prelude.{◌≡◌, ℕ, ◌≤◌, Bool, List, length, map, nat_lt}
use Rattle.std.specs.List.{count_by}
use Rattle.smk_base.specs.declared.tree.Amount.{Amount}
use Rattle.smk_pick.specs.declared.room.Room.{Room}
use Rattle.smk_pick.specs.declared.room.Share.{Share}
use Rattle.smk_pick.specs.Shares.{Holds}
use Rattle.smk_core.specs.declared.place.TheConstants.{NONE}
use Rattle.smk_core.specs.Lines.{Roll}
use Rattle.smk_core.specs.Standing.{Standing, asks_running, is_running, is_failed}

-- the bounds of the room
abbrev pub bounds_of : Room → List Amount
bounds_of room = map (λ (s : Share). s.bound) room.shares.items

abbrev pub standing_of : Room → Bool → Bool → Roll → Standing
standing_of room keep_going stopped jobs = record {
  cores = room.cores;
  bounds = bounds_of room;
  keep_going = keep_going;
  stopped = stopped;
  asks = jobs.asks;
  befores = jobs.befores;
  phases = jobs.phases;
}

-- The running jobs are in the room, and they and the failed ones are counted.
pub record IsMachine (room : Room) (jobs : Roll) (running : ℕ) (failed : Bool) : Type 0 where
  pub held : Holds room.cores (bounds_of room) room (asks_running jobs.asks jobs.phases)
  pub as_many : length jobs.phases ≡ length jobs.asks
  pub few : length jobs.phases ≤ NONE
  pub running_are : running ≡ count_by is_running jobs.phases
  pub failed_are : failed ≡ nat_lt 0 (count_by is_failed jobs.phases)
