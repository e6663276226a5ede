-- What a run is to do with jobs whose states are those of the table.
use Rattle.std.specs.Prelude.{◌≡◌, ℕ, true, false, List, [], ◌∷◌, Some, is_some}
use Rattle.smk_world.specs.World.{out_paths}
use Rattle.smk_world.specs.Trees.{Path, Each, among}
use Rattle.smk_record.specs.declared.record.Record.{Record}
use Rattle.smk_flow.specs.declared.job.Job.{Job}
use Rattle.smk_store.specs.Images.{Image, core_at, record_at}
use Rattle.smk_store.specs.Trust.{holder}
use Rattle.smk_chain.specs.declared.jobs.Jobs.{Jobs}
use Rattle.smk_trigger.specs.declared.reason.State.{State}
use Rattle.smk_trigger.specs.declared.reason.State.TheVariants.{Open, Dirty, Restore, Clean}
use Rattle.smk_pick.specs.declared.settings.Settings.{Settings}
use Rattle.smk_plan.specs.States.{HasStates, makes}
use Rattle.smk_plan_facts.specs.Facts.{having_run, HasOwnRecords}
use Rattle.smk_plan_states.specs.Judged.{with_states}
use Rattle.smk_plan_states.specs.Served.{AreServed}
use Rattle.smk_plan.specs.declared.duty.Duty.{Duty}
use Rattle.smk_plan.specs.declared.duty.Duty.TheVariants.{Rest, Restore as Again, Run}
use Rattle.smk_plan.specs.Duties.{rests}

-- each output has a record with this serial, and no mark
abbrev pub AreKeptWith : Image → ℕ → Job → Type 0
AreKeptWith image m j =
    Each (λ p. (r : Record) × (record_at image p ≡ Some r) × (image.marked p ≡ false) × (r.made ≡ m)) (out_paths j.recipe)

-- A job that is Clean rests, and one that is a Restore is run again, with the serial of its records; one that is Dirty draws its serial.
abbrev pub IsMeant : Image → Job → State → Duty → Type 0
IsMeant image j Open d = rests d ≡ true
IsMeant image j (Dirty reasons) d = d ≡ Run
IsMeant image j Restore d = (m : ℕ) × AreKeptWith image m j × (d ≡ Again m)
IsMeant image j Clean d = (m : ℕ) × AreKeptWith image m j × (d ≡ Rest m)

-- so it is with each of the jobs
abbrev pub AreMeant : Image → List Job → List State → List Duty → Type 0
AreMeant image [] [] [] = Unit {0}
AreMeant image [] [] (d ∷ duties) = ⊥
AreMeant image [] (s ∷ states) duties = ⊥
AreMeant image (j ∷ jobs) [] duties = ⊥
AreMeant image (j ∷ jobs) (s ∷ states) [] = ⊥
AreMeant image (j ∷ jobs) (s ∷ states) (d ∷ duties) = IsMeant image j s d × AreMeant image jobs states duties

-- what the job makes is spoken for by the record of one of its outputs, where each of them has one
abbrev pub IsSpokenFor : Image → Job → Type 0
IsSpokenFor image j =
    (q : Path) → makes j q ≡ true → Each (λ p. is_some (core_at image p) ≡ true) (out_paths j.recipe) →
    (h : Path) × (holder image q ≡ Some h) × (among (out_paths j.recipe) h ≡ true)

-- The jobs have the states of the table, after those with these first outputs have run; each makes something, and which of them make what they want is told rightly;
-- and the records are valid and their paths' own.
pub record IsPlanned (image : Image) (settings : Settings) (ran : List Path) (jobs : Jobs) (asked : List Path) (states : List State) : Type 0 where
  pub solved : HasStates image settings (having_run ran) (with_states jobs states)
  pub served : AreServed jobs asked
  pub making : Each (λ (j : Job). out_paths j.recipe ≡ [] → ⊥) jobs.jobs
  pub spoken : Each (IsSpokenFor image) jobs.jobs
  pub owned : HasOwnRecords image
