-- A job that is next at a stand of a run may begin in the protocol, with its serial.
use Rattle.std.specs.Prelude.{◌≡◌, ◌≢◌, ◌+◌, ℕ, true, List, [], ◌∷◌, ◌++◌, filter, length}
use Rattle.smk_world.specs.declared.event.Event.{Event}
use Rattle.smk_world.specs.World.{World, out_paths}
use Rattle.smk_world.specs.Trees.{Path}
use Rattle.smk_record.specs.declared.record.Record.{Record}
use Rattle.smk_record.specs.declared.record.Stamp.{Stamp}
use Rattle.smk_store.specs.Soundness.{Outside}
use Rattle.smk_store.specs.Trust.{Versions}
use Rattle.smk_flow.specs.declared.job.Job.{Job}
use Rattle.smk_trigger.specs.declared.reason.State.{State}
use Rattle.smk_trigger.specs.JobStates.{is_restore}
use Rattle.smk_laws_protocol.specs.Protocol.{RunState, MayBegin, HasSerial}
use Rattle.smk_laws_protocol.specs.Midway.{Midway}
use Rattle.smk_drive.specs.Moments.{Rules, Begun, begun_of, draws, greatest, seen}
use Rattle.smk_drive_course.specs.Stands.{Stand, moment_of}
use Rattle.smk_drive_course.specs.Steps.{IsToBegin}
use Rattle.smk_laws_moments.specs.Opened.{AreStillPlanned, IsStateOf, beginning, found_by}

-- the greatest serial that was drawn, once this job has begun too
abbrev pub top_with : Rules → World → Stand → Begun → ℕ
top_with rules entry s b = greatest rules (seen rules entry) + length (filter (draws rules) (s.begun ++ b ∷ []))

-- The job may begin in the protocol, with these records that it finds and its serial, of which the greatest one follows. It has an output; and it finds records
-- just where it is restored.
pub record MayOpen
    (o : Outside) (state : RunState) (w : World) (e : Job × State) (kept : List (Path × Record)) (made : ℕ) (stamps : List Stamp)
    (top : ℕ) : Type 0 where
  pub begins : MayBegin o state w (beginning e.0 made stamps kept)
  pub has_serial : HasSerial o state w (beginning e.0 made stamps kept) top
  pub makes : out_paths e.0.recipe ≢ []
  pub restored : is_restore e.1 ≡ true → kept ≢ []
  pub drawn : (is_restore e.1 ≡ true → ⊥) → kept ≡ []

-- Whatever the protocol has come to: a job that is next may begin in it.
abbrev pub StartableMayBegin : Type 0
StartableMayBegin =
    (o : Outside) (rules : Rules) (entry w : World) (H : Versions) (before : List Event) (s : Stand) (state : RunState) (e : Job × State)
    (made : ℕ) (stamps : List Stamp) →
    rules.read ≡ o.read →
    Midway o entry H state w →
    IsStateOf rules entry s state →
    AreStillPlanned s →
    IsToBegin rules entry s w before e made stamps →
    MayOpen o state w e (found_by (seen rules w) e) made stamps (top_with rules entry s (begun_of rules entry (moment_of s w before) e))

-- What may begin may do so while the folder is only looked at: where the same stands at the same places.
abbrev pub OpeningStays : Type 0
OpeningStays =
    (o : Outside) (state : RunState) (w v : World) (e : Job × State) (kept : List (Path × Record)) (made : ℕ) (stamps : List Stamp) (top : ℕ) →
    w.names ≡ v.names → w.nodes ≡ v.nodes → MayOpen o state w e kept made stamps top → MayOpen o state v e kept made stamps top
