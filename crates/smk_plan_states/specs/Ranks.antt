-- What a state is, without its reasons.
use Rattle.std.specs.Prelude.{ℕ, Bool, true, false, List, Option, Some, None, if◌then◌else◌}
use Rattle.std.specs.List.{slice_get}
use Rattle.std.specs.Option.{option_and_then}
use Rattle.smk_trigger.specs.declared.reason.Reason.{Reason}
use Rattle.smk_trigger.specs.declared.reason.State.{State}
use Rattle.smk_trigger.specs.declared.reason.State.TheVariants.{Open, Dirty, Restore, Clean}
use Rattle.smk_plan_states.specs.declared.ranks.Rank.{Rank}
use Rattle.smk_plan_states.specs.declared.ranks.Rank.TheVariants.{Open as AtOpen, Dirty as AtDirty, Restore as AtRestore, Clean as AtClean}

abbrev pub rank_of : State → Rank
rank_of Open = AtOpen
rank_of (Dirty reasons) = AtDirty
rank_of Restore = AtRestore
rank_of Clean = AtClean

abbrev pub is_open_rank : Rank → Bool
is_open_rank AtOpen = true
is_open_rank AtDirty = false
is_open_rank AtRestore = false
is_open_rank AtClean = false

abbrev pub is_dirty_rank : Rank → Bool
is_dirty_rank AtOpen = false
is_dirty_rank AtDirty = true
is_dirty_rank AtRestore = false
is_dirty_rank AtClean = false

abbrev pub is_clean_rank : Rank → Bool
is_clean_rank AtOpen = false
is_clean_rank AtDirty = false
is_clean_rank AtRestore = false
is_clean_rank AtClean = true

-- Dirty or Restore
abbrev pub is_to_run_rank : Rank → Bool
is_to_run_rank AtOpen = false
is_to_run_rank AtDirty = true
is_to_run_rank AtRestore = true
is_to_run_rank AtClean = false

-- the rank of the job with this number
abbrev pub rank_at : List Rank → Option ℕ → Option Rank
rank_at ranks number = option_and_then (slice_get ranks) number

-- of a job that isn't Open: whether it is Dirty, and whether it is to be restored
abbrev pub by_rank : Bool → Bool → Rank
by_rank dirty restores = if dirty then AtDirty else if restores then AtRestore else AtClean

abbrev pub unless_clean_rank : Rank → Rank
unless_clean_rank AtOpen = AtOpen
unless_clean_rank AtDirty = AtDirty
unless_clean_rank AtRestore = AtRestore
unless_clean_rank AtClean = AtRestore

-- of a job whose child runs, by the state that it had when it began
abbrev pub rank_while_running : Option State → Rank → Rank
rank_while_running None r = r
rank_while_running (Some (Dirty reasons)) r = AtDirty
rank_while_running (Some Open) r = unless_clean_rank r
rank_while_running (Some Restore) r = unless_clean_rank r
rank_while_running (Some Clean) r = unless_clean_rank r

-- Clean, unless what it made is wanted
abbrev pub unless_needed_rank : Bool → Rank → Rank
unless_needed_rank needed AtOpen = AtOpen
unless_needed_rank needed AtDirty = AtDirty
unless_needed_rank needed AtRestore = AtRestore
unless_needed_rank needed AtClean = if needed then AtRestore else AtClean

-- the state of this rank, with these reasons
abbrev pub plain_state : Rank → List Reason → State
plain_state AtOpen reasons = Open
plain_state AtDirty reasons = Dirty reasons
plain_state AtRestore reasons = Restore
plain_state AtClean reasons = Clean

-- the same, but for a job that was Dirty when its child began
abbrev pub state_by : Option State → Rank → List Reason → State
state_by None r reasons = plain_state r reasons
state_by (Some (Dirty own)) r reasons = Dirty own
state_by (Some Open) r reasons = plain_state r reasons
state_by (Some Restore) r reasons = plain_state r reasons
state_by (Some Clean) r reasons = plain_state r reasons
