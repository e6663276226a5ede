-- A plan that is kept agrees with the folder after each step of a run, where it agreed before.
use Rattle.std.specs.Prelude.{◌≡◌, ℕ, true, false, [], ◌∷◌, map, Some, None}
use Rattle.std.specs.List.{slice_get}
use Rattle.smk_world.specs.World.{out_paths}
use Rattle.smk_world.specs.Trees.{Path, among}
use Rattle.smk_flow.specs.declared.job.Job.{Job}
use Rattle.smk_store.specs.Images.{Image}
use Rattle.smk_trigger.specs.declared.reason.State.{State}
use Rattle.smk_pick.specs.declared.settings.Settings.{Settings}
use Rattle.smk_plan.specs.Sights.{sight_of}
use Rattle.smk_plan_live.specs.declared.base.Base.{Base}
use Rattle.smk_plan_live.specs.declared.phase.Phase.TheVariants.{Closed}
use Rattle.smk_plan_live.specs.Carried.{advanced, begun, nothing_at, spent}
use Rattle.smk_plan_live.specs.Lives.{IsAgreed, IsSound}
use Rattle.smk_drive_outcome.specs.declared.outcome.Outcome.{Outcome}
use Rattle.smk_drive_outcome.specs.Outcomes.{AreOutcomes}
use Rattle.smk_laws_turns.specs.Changing.{DiffersAt}

-- Nothing stands at the path any more, or what stands there is hidden by a child; its record is as it was.
pub record IsHidden (image later : Image) (q : Path) : Type 0 where
  pub kept : later.kept q ≡ image.kept q
  pub nothing : sight_of later q ≡ nothing_at q

-- the output of a job that has begun: marked, with nothing to see
pub record IsBegunOutput (image later : Image) (q : Path) : Type 0 where
  pub hidden : IsHidden image later q
  pub marked : later.marked q ≡ true

-- the output that was removed: its mark, if any, is as it was
pub record IsSpentOutput (image later : Image) (q : Path) : Type 0 where
  pub hidden : IsHidden image later q
  pub marked : later.marked q ≡ image.marked q

-- Once a job has begun, by which its outputs are marked and hidden, the plan that is kept agrees with the folder.
abbrev pub BeginAgrees : Type 0
BeginAgrees =
    (image later : Image) (settings : Settings) (b : Base) (n : ℕ) (state : State) (j : Job) →
    IsSound b →
    slice_get b.jobs.jobs n ≡ Some j →
    IsAgreed image settings b →
    DiffersAt image later b.jobs settings.targets (out_paths j.recipe) →
    ((q : Path) → among (out_paths j.recipe) q ≡ true → IsBegunOutput image later q) → IsAgreed later settings (begun n state j b)

-- Once a job is closed, by which its outputs have no mark, and what is known and seen of them is as the folder has it, the plan that is kept agrees with the
-- folder.
abbrev pub CloseAgrees : Type 0
CloseAgrees =
    (image later : Image) (settings : Settings) (b : Base) (n : ℕ) (j : Job) (o : Outcome) →
    IsSound b →
    slice_get b.jobs.jobs n ≡ Some j →
    IsAgreed image settings b →
    DiffersAt image later b.jobs settings.targets (out_paths j.recipe) →
    ((q : Path) → among (out_paths j.recipe) q ≡ true → later.marked q ≡ false) →
    AreOutcomes later (out_paths j.recipe) o → IsAgreed later settings (advanced n Closed None (map Some o.entries) (map Some o.sights) b)

-- Once an output of a job was removed, whose record stays, the plan that is kept agrees with the folder.
abbrev pub SpendAgrees : Type 0
SpendAgrees =
    (image later : Image) (settings : Settings) (b : Base) (n : ℕ) (j : Job) (gone : Path) →
    IsSound b →
    slice_get b.jobs.jobs n ≡ Some j →
    among (out_paths j.recipe) gone ≡ true →
    IsAgreed image settings b →
    DiffersAt image later b.jobs settings.targets (gone ∷ []) →
    IsSpentOutput image later gone → IsAgreed later settings (spent gone b)
