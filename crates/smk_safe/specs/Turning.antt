-- The turns of jobs as a run of the protocol.
use Rattle.std.specs.Prelude.{◌≡◌, ◌≢◌, ◌⊎◌, ℕ, Bool, true, false, List, [], ◌++◌, ◌∷◌}
use Rattle.std.specs.List.{list_any}
use Rattle.smk_world.specs.declared.event.Event.{Event}
use Rattle.smk_world.specs.World.{World, IsFormed, Throughout, run, out_paths}
use Rattle.smk_world.specs.Calls.{HasOwners, failed}
use Rattle.smk_world.specs.Runs.{Follows}
use Rattle.smk_world.specs.Trees.{Path, Each, folders_of}
use Rattle.smk_record.specs.declared.record.Record.{Record}
use Rattle.smk_record.specs.Spelling.{ReadsRecords}
use Rattle.smk_store.specs.Soundness.{Outside}
use Rattle.smk_store_members.specs.Members.{AllIsFound}
use Rattle.smk_laws_protocol.specs.Protocol.{OpenJob, RunState, Marking, MayBegin, HasSerial, Runs}
use Rattle.smk_laws_job.specs.Laws.{IsRecordable}
use Rattle.smk_run.specs.Stamps.{Serials}
use Rattle.smk_run.specs.Turns.{Turn, found, IsTurn, is_begun, is_closed}

-- ## One turn

-- No job is open, the marks and notes that were found are firm, and no call has failed.
pub record IsAtRest (s : RunState) : Type 0 where
  pub none_open : s.jobs ≡ []
  pub steady : s.steady ≡ true
  pub calm : s.faulted ≡ false

-- The job of a turn as the protocol opens it; a Restore has found these records.
abbrev pub opened : Turn → List (Path × Record) → OpenJob
opened t kept = record { recipe = t.job.recipe; logs = t.job.logs; stamps = found t.looked; serial = t.made; kept = kept; phase = Marking }

-- The turn may come: no child runs, and nothing is owned; and where anything is done in it but looks, its job may begin, with its serial, after which this is the
-- greatest one, and its records can be written.
pub record MayComeNext (o : Outside) (s : RunState) (w : World) (t : Turn) (kept : List (Path × Record)) (top : ℕ) : Type 0 where
  pub formed : IsFormed w
  pub none_runs : w.children ≡ []
  pub owners : HasOwners w
  pub makes : out_paths t.job.recipe ≢ []
  pub begins : is_begun t.course ≡ true → MayBegin o s w (opened t kept)
  pub serial : is_begun t.course ≡ true → HasSerial o s w (opened t kept) top
  pub records : is_begun t.course ≡ true → Each (IsRecordable (opened t kept)) (out_paths t.job.recipe)

-- what stands under directories of these turns' jobs stands in folders under them
abbrev pub AllAreFound : List Turn → World → Type 0
AllAreFound ts v = Each (λ (t : Turn). Each (AllIsFound v.nodes) (folders_of t.job.recipe)) ts

-- a call failed
abbrev pub has_failure : List Event → Bool
has_failure es = list_any (λ (e : Event). failed e.call) es

-- The events lead to this state: where the job was closed, to rest, with the greatest serial that is drawn now; and where a call failed, to one in which no other comes
-- but waits.
pub record LeadsTo (o : Outside) (s : RunState) (t : Turn) (top : ℕ) (w : World) (es : List Event) (end : RunState) : Type 0 where
  pub runs : Runs o s w es end
  pub closed : is_closed t.course ≡ true → end ≡ record s { top = top }
  pub fails : has_failure es ≡ true → end.faulted ≡ true

-- A turn, however far it came, is a run of the protocol.
abbrev pub TurnIsRun : Type 0
TurnIsRun =
    (o : Outside) (made : Serials) (s : RunState) (t : Turn) (kept : List (Path × Record)) (top : ℕ) (w : World) (es : List Event) →
    ReadsRecords o.read →
    IsAtRest s →
    MayComeNext o s w t kept top →
    Throughout w es (AllAreFound (t ∷ [])) → Follows o.act w es → IsTurn made t w es → (end : RunState) × LeadsTo o s t top w es end

-- ## Turns

-- Turns one after another, each of which may come as it does; only the last may be of a job that isn't closed.
abbrev pub ComeInTurn : Outside → Serials → RunState → List Turn → World → List Event → Type 0
ComeInTurn o made s [] w es = es ≡ []
ComeInTurn o made s (t ∷ ts) w es =
    (first : List Event) × (more : List Event) × (es ≡ first ++ more) × IsTurn made t w first
    × ((kept : List (Path × Record)) × (top : ℕ) × MayComeNext o s w t kept top
    × ((ts ≡ []) ⊎ (is_closed t.course ≡ true)) × ComeInTurn o made (record s { top = top }) ts (run w first) more)

-- They are a run of the protocol; where all jobs were closed, to rest.
abbrev pub TurnsAreRun : Type 0
TurnsAreRun =
    (o : Outside) (made : Serials) (s : RunState) (ts : List Turn) (w : World) (es : List Event) →
    ReadsRecords o.read →
    IsAtRest s →
    Throughout w es (AllAreFound ts) →
    Follows o.act w es →
    ComeInTurn o made s ts w es → (end : RunState) × Runs o s w es end × (Each (λ (t : Turn). is_closed t.course ≡ true) ts → IsAtRest end)
