-- Turns of the jobs that a plan has to run are ready.
use Rattle.std.specs.Prelude.{◌≡◌, ◌≢◌, ℕ, suc, true, false, List, [], ◌∷◌, Some, None, IsTrue}
use Rattle.smk_world.specs.declared.recipe.Kind.TheVariants.{Plain}
use Rattle.smk_world.specs.declared.recipe.Out.{Out}
use Rattle.smk_world.specs.World.{World, IsFormed, in_paths, out_paths}
use Rattle.smk_world.specs.Trees.{Path, Each, IsIn, outs_of, is_path_text}
use Rattle.smk_record.specs.declared.record.Record.{Record}
use Rattle.smk_flow.specs.declared.job.Job.{Job}
use Rattle.smk_flow.specs.Flows.{Flow}
use Rattle.smk_store.specs.Images.{Image, core_at}
use Rattle.smk_store.specs.Soundness.{Outside}
use Rattle.smk_laws_protocol.specs.Protocol.{now}
use Rattle.smk_laws_protocol.specs.Midway.{IsTop}
use Rattle.smk_trigger.specs.declared.reason.State.{State}
use Rattle.smk_trigger.specs.declared.reason.State.TheVariants.{Open, Dirty, Restore, Clean}
use Rattle.smk_trigger.specs.JobStates.{is_to_run}
use Rattle.smk_pick.specs.declared.settings.Settings.{Settings}
use Rattle.smk_plan.specs.States.{Plan, IsPlan, nothing_done, staged, maker_of}
use Rattle.smk_laws_job.specs.Laws.{IsRecordable}
use Rattle.smk_run.specs.Stamps.{Serials}
use Rattle.smk_run.specs.Turns.{Turn, is_begun}
use Rattle.smk_safe.specs.Leaving.{owned}
use Rattle.smk_safe.specs.Turning.{opened}
use Rattle.smk_safe.specs.Ready.{AreReady}

-- the turn has the serial of the records of its job's outputs
abbrev pub KeepsSerial : Image → Turn → Type 0
KeepsSerial image t = (p : Path) (r : Record) → IsIn (out_paths t.job.recipe) p → core_at image p ≡ Some r → t.made ≡ r.made

-- The turns are those of the jobs that are to run, in plan order, as far as the run came: a Dirty job draws the next serial after this greatest one, and
-- a Restore keeps that of its records.
abbrev pub AreTurnsOf : Image → ℕ → List (Job × State) → List Turn → Type 0
AreTurnsOf image greatest [] [] = Unit {0}
AreTurnsOf image greatest [] (t ∷ ts) = ⊥
AreTurnsOf image greatest (e ∷ es) [] = Unit {0}
AreTurnsOf image greatest ((j, Open) ∷ es) (t ∷ ts) = AreTurnsOf image greatest es (t ∷ ts)
AreTurnsOf image greatest ((j, Dirty reasons) ∷ es) (t ∷ ts) = (t.job ≡ j) × (t.made ≡ suc greatest) × AreTurnsOf image (suc greatest) es ts
AreTurnsOf image greatest ((j, Restore) ∷ es) (t ∷ ts) = (t.job ≡ j) × KeepsSerial image t × AreTurnsOf image greatest es ts
AreTurnsOf image greatest ((j, Clean) ∷ es) (t ∷ ts) = AreTurnsOf image greatest es (t ∷ ts)

-- a job of the plan reads the path
abbrev pub IsRead : Plan → Path → Type 0
IsRead plan q = (j : Job) × IsIn plan.jobs j × IsIn (in_paths j.recipe) q

-- The serials of what jobs read: a source has none, what rests that of its record, and what a turn makes that of the turn.
pub record TellsSerials (image : Image) (plan : Plan) (ts : List Turn) (made : Serials) : Type 0 where
  pub source : (q : Path) → IsRead plan q → maker_of plan q ≡ None → made q ≡ None
  pub rests :
      (q : Path) (e : Job × State) (r : Record) →
      IsRead plan q → maker_of plan q ≡ Some e → is_to_run e.1 ≡ false → core_at image q ≡ Some r → made q ≡ Some r.made
  pub runs : (t : Turn) (q : Path) → IsRead plan q → IsIn ts t → IsIn (out_paths t.job.recipe) q → made q ≡ Some t.made

-- the job gathers nothing and makes plain files
pub record IsPlain (j : Job) : Type 0 where
  pub gathers_none : j.gathers ≡ []
  pub plain : Each (λ (out : Out). out.kind ≡ Plain) (outs_of j.recipe)

-- the turn's job has outputs, its paths are texts, and its records can be written
pub record IsFit (t : Turn) : Type 0 where
  pub makes : out_paths t.job.recipe ≢ []
  pub paths : Each (λ p. IsTrue (is_path_text p)) (owned t)
  pub records : is_begun t.course ≡ true → Each (IsRecordable (opened t [])) (out_paths t.job.recipe)

-- By a plan of the folder as it stands, where nothing was done yet, the turns of the jobs that are to run are ready. The jobs gather nothing and make plain
-- files; so none is Open.
abbrev pub PlannedTurnsAreReady : Type 0
PlannedTurnsAreReady =
    (o : Outside) (w : World) (flow : Flow) (settings : Settings) (plan : Plan) (made : Serials) (top : ℕ) (ts : List Turn) →
    IsFormed w →
    IsTop o w top →
    IsPlan flow (now o w) settings nothing_done plan →
    Each IsPlain plan.jobs →
    Each IsFit ts →
    AreTurnsOf (now o w) top (staged plan) ts → TellsSerials (now o w) plan ts made → AreReady o (now o w) made top ts
