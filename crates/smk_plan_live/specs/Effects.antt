-- What is known and seen now, once a job has begun or is closed, or an output was removed.
use Rattle.std.specs.Prelude.{◌≡◌, true, false, ℕ, not, List, [], map, bytes_eq, Some, None}
use Rattle.std.specs.List.{slice_get}
use Rattle.std.specs.BTreeMap.{get_by_text}
use Rattle.smk_world.specs.World.{out_paths}
use Rattle.smk_world.specs.Trees.{Path, among, outs_of}
use Rattle.smk_flow.specs.declared.job.Job.{Job}
use Rattle.smk_store.specs.declared.store.Entry.{Entry}
use Rattle.smk_store.specs.Images.{Image}
use Rattle.smk_store.specs.Stores.{entry_of}
use Rattle.smk_trigger.specs.declared.reason.State.{State}
use Rattle.smk_trigger.specs.JobStates.{is_restore}
use Rattle.smk_pick.specs.declared.settings.Settings.{Settings}
use Rattle.smk_plan.specs.declared.seen.Sight.{Sight}
use Rattle.smk_plan.specs.Sights.{sight_at}
use Rattle.smk_plan.specs.States.{is_restored}
use Rattle.smk_plan_facts.specs.Telling.{copied, kept_of, mark_of}
use Rattle.smk_plan_states.specs.Judged.{with_states}
use Rattle.smk_plan_states.specs.Served.{AreApart, outputs_of}
use Rattle.smk_plan_live.specs.declared.base.Base.{Base}
use Rattle.smk_plan_live.specs.declared.sites.Site.{Site}
use Rattle.smk_plan_live.specs.declared.phase.Phase.TheVariants.{Closed}
use Rattle.smk_plan_live.specs.Agreeing.{note_of}
use Rattle.smk_plan_live.specs.Carried.{advanced, begun, nothing_at, spent}
use Rattle.smk_plan_live.specs.Lives.{IsSound, progress_of}
use Rattle.smk_plan_live.specs.Now.{known_now, restored_now, seen_now}
use Rattle.smk_plan_live.specs.Same.{AreSameBut}
use Rattle.smk_plan_live.specs.Steps.{AreOfOutputs}

-- This is known and seen of the output of a job that has begun with the state: a mark, where it isn't restored, and what was known else; and nothing stands
-- there.
pub record IsBegunAt (b new : Base) (state : State) (q : Path) : Type 0 where
  pub kept : kept_of (entry_of (known_now new) q) ≡ copied (kept_of (entry_of (known_now b) q))
  pub marked : mark_of (entry_of (known_now new) q) ≡ not (is_restore state)
  pub noted : note_of (entry_of (known_now new) q) ≡ note_of (entry_of (known_now b) q)
  pub sight : sight_at (seen_now new) q ≡ Some (nothing_at q)

-- The output of a job that is closed stands among its outputs in a place, at which these entries and sights tell of it.
pub record IsClosedAt (new : Base) (j : Job) (entries : List Entry) (sights : List Sight) (q : Path) : Type 0 where
  pub place : ℕ
  pub stands : slice_get (out_paths j.recipe) place ≡ Some q
  pub entry : Entry
  pub told : slice_get entries place ≡ Some entry
  pub kept : kept_of (entry_of (known_now new) q) ≡ entry.kept
  pub marked : mark_of (entry_of (known_now new) q) ≡ entry.marked
  pub noted : note_of (entry_of (known_now new) q) ≡ entry.noted
  pub sight : sight_at (seen_now new) q ≡ slice_get sights place

-- Of what is known and seen of a base only that of one job's outputs is new.
pub record IsOfOutputs (P : Path → Type 0) (b new : Base) (j : Job) : Type 0 where
  pub outputs : (q : Path) → among (out_paths j.recipe) q ≡ true → P q
  pub others : AreSameBut (outs_of j.recipe) (known_now b) (known_now new) (seen_now b) (seen_now new)

-- ## Laws

-- Once a job has begun its outputs are marked, where they aren't restored, and nothing is seen at them; all else is known and seen as it was.
abbrev pub BegunTells : Type 0
BegunTells =
    (b : Base) (n : ℕ) (state : State) (j : Job) →
    IsSound b → AreApart (outputs_of b.jobs.jobs) → slice_get b.jobs.jobs n ≡ Some j →
    IsOfOutputs (IsBegunAt b (begun n state j b) state) b (begun n state j b) j

-- Once a job is closed its outputs are known and seen as the entries and sights tell; all else as it was.
abbrev pub ClosedTells : Type 0
ClosedTells =
    (b : Base) (n : ℕ) (j : Job) (entries : List Entry) (sights : List Sight) →
    IsSound b → AreApart (outputs_of b.jobs.jobs) → slice_get b.jobs.jobs n ≡ Some j → AreOfOutputs entries sights j →
    IsOfOutputs (IsClosedAt (advanced n Closed None (map Some entries) (map Some sights) b) j entries sights) b
    (advanced n Closed None (map Some entries) (map Some sights) b) j

-- Once an output was removed nothing is seen at it; all else is seen as it was, and all is known so.
pub record IsSpentOf (b new : Base) (gone : Path) : Type 0 where
  pub known : known_now new ≡ known_now b
  pub sight : (s : Site) → get_by_text b.sites gone ≡ Some s → sight_at (seen_now new) gone ≡ Some (nothing_at gone)
  pub others : (q : Path) → bytes_eq q gone ≡ false → sight_at (seen_now new) q ≡ sight_at (seen_now b) q

abbrev pub SpentTells : Type 0
SpentTells = (b : Base) (gone : Path) → IsSound b → IsSpentOf b (spent gone b) gone

-- An output is restored now just where its job runs as a Restore.
abbrev pub RestoredTells : Type 0
RestoredTells =
    (b : Base) (image : Image) (settings : Settings) (q : Path) →
    IsSound b → AreApart (outputs_of b.jobs.jobs) → restored_now b q ≡ is_restored image settings (progress_of b) (with_states b.jobs []) q
