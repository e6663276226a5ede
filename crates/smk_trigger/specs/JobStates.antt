-- Words on the states of jobs.
use Rattle.std.specs.Prelude.{Bool, true, false, ◌||◌}
use Rattle.smk_trigger.specs.declared.reason.State.{State}
use Rattle.smk_trigger.specs.declared.reason.State.TheVariants.{Open, Dirty, Restore, Clean}

abbrev pub is_clean : State → Bool
is_clean Open = false
is_clean (Dirty reasons) = false
is_clean Restore = false
is_clean Clean = true

abbrev pub is_open : State → Bool
is_open Open = true
is_open (Dirty reasons) = false
is_open Restore = false
is_open Clean = false

abbrev pub is_dirty : State → Bool
is_dirty Open = false
is_dirty (Dirty reasons) = true
is_dirty Restore = false
is_dirty Clean = false

abbrev pub is_restore : State → Bool
is_restore Open = false
is_restore (Dirty reasons) = false
is_restore Restore = true
is_restore Clean = false

-- Dirty or Restore
abbrev pub is_to_run : State → Bool
is_to_run s = is_dirty s || is_restore s
