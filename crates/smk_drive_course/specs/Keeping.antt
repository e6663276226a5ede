-- What a run keeps and takes away: temporary outputs that are spent, and protected ones.
use Rattle.std.specs.Prelude.{◌≡◌, ◌⊎◌, ◌≤◌, ℕ, Bool, true, false, List, IsTrue, Some, Ok}
use Rattle.std.specs.List.{list_any}
use Rattle.smk_base.specs.Path.{is_at_or_under}
use Rattle.smk_world.specs.declared.event.Call.{Call}
use Rattle.smk_world.specs.declared.event.Call.TheVariants.{Started, Removed}
use Rattle.smk_world.specs.declared.event.Event.{Event}
use Rattle.smk_world.specs.World.{World, run, firmly, reading}
use Rattle.smk_world.specs.Trees.{Path, IsIn}
use Rattle.smk_store.specs.Images.{Content, file_at}
use Rattle.smk_drive.specs.Moments.{Rules, Moment, Begun, IsMoment, seen, is_spent_now, is_closed_well}
use Rattle.smk_drive_course.specs.Moments.{AtEachEvent}

-- a child was started
abbrev pub is_start : Call → Bool
is_start (Started recipe logs command (Ok number)) = true
is_start call = false

abbrev pub has_start : List Event → Bool
has_start events = list_any (λ (e : Event). is_start e.call) events

-- the event takes away an output that is spent by the plan in force
abbrev pub Spends : Rules → Moment → Call → (Path → Type 0) → Type 0
Spends rules m (Removed p r) P = IsTrue (is_spent_now rules m p) → P p
Spends rules m call P = Unit {0}

-- at and under the path a crash leaves just what reads
abbrev pub IsSettled : World → Path → Type 0
IsSettled w p = (q : Path) → is_at_or_under q p ≡ true → w.nodes q ≡ firmly (reading (w.nodes q))

-- A file at each protected output of a job that is closed well is read-only.
abbrev pub AreProtected : Rules → Moment → Type 0
AreProtected rules m =
    (b : Begun) (p : Path) (f : Content) →
    IsIn m.begun b → IsTrue (is_closed_well rules m.world b) → IsIn b.job.guards p → file_at (seen rules m.world) p ≡ Some f → f.read_only ≡ true

-- What a run with this status keeps, and takes away.
pub record KeepsOutputs (rules : Rules) (entry : World) (log : List Event) (status : ℕ) : Type 0 where
  -- spent outputs go only after the first start, or in a run that starts nothing
  pub late : AtEachEvent rules entry log (λ m e. Spends rules m e.call (λ p. (has_start m.events ≡ true) ⊎ (has_start log ≡ false)))
  -- before status 0 or 1 that is settled
  pub settled : status ≤ 1 → AtEachEvent rules entry log (λ m e. Spends rules m e.call (IsSettled (run entry log)))
  -- and what is protected is read-only
  pub protected : status ≤ 1 → (m : Moment) → IsMoment rules entry log m → AreProtected rules m
