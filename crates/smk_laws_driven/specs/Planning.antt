-- The turns of the jobs of a plan are fed.
use Rattle.std.specs.Prelude.{◌≡◌, Bool, List, [], ◌∷◌}
use Rattle.smk_world.specs.declared.recipe.Kind.TheVariants.{Plain}
use Rattle.smk_world.specs.declared.recipe.Out.{Out}
use Rattle.smk_world.specs.World.{World}
use Rattle.smk_world.specs.Trees.{Path, Each, outs_of}
use Rattle.smk_flow.specs.declared.job.Job.{Job}
use Rattle.smk_flow.specs.Flows.{Flow}
use Rattle.smk_store.specs.Images.{seen}
use Rattle.smk_store.specs.Trust.{Versions, SumsDiffer}
use Rattle.smk_store.specs.Soundness.{Outside, SoundWorld}
use Rattle.smk_chain.specs.Mean.{setting_of}
use Rattle.smk_trigger.specs.declared.reason.State.{State}
use Rattle.smk_trigger.specs.declared.reason.State.TheVariants.{Open, Dirty, Restore, Clean}
use Rattle.smk_pick.specs.declared.settings.Settings.{Settings}
use Rattle.smk_plan.specs.States.{Plan, LastPlan, nothing_done, staged}
use Rattle.smk_run.specs.Turns.{Turn}
use Rattle.smk_safe.specs.Running.{AreArranged}
use Rattle.smk_safe.specs.Clean.{IsCleanIn}
use Rattle.smk_laws_complete.specs.Derived.{AllHaveValues, GathersAlone}
use Rattle.smk_laws_driven.specs.Feeding.{AreFed, IsLeftAlone}

-- The jobs of the plan gather nothing and make plain files.
pub record IsPlainPlan (plan : Plan) : Type 0 where
  pub gathers_none : Each (λ (j : Job). j.gathers ≡ []) plan.jobs
  pub plain : Each (λ (j : Job). Each (λ (out : Out). out.kind ≡ Plain) (outs_of j.recipe)) plan.jobs

-- The turns are those of the jobs that are to run, in plan order, as far as the run came.
abbrev pub AreRunOf : List (Job × State) → List Turn → Type 0
AreRunOf [] [] = Unit {0}
AreRunOf [] (t ∷ ts) = ⊥
AreRunOf (e ∷ es) [] = Unit {0}
AreRunOf ((j, Open) ∷ es) (t ∷ ts) = AreRunOf es (t ∷ ts)
AreRunOf ((j, Dirty reasons) ∷ es) (t ∷ ts) = (t.job ≡ j) × AreRunOf es ts
AreRunOf ((j, Restore) ∷ es) (t ∷ ts) = (t.job ≡ j) × AreRunOf es ts
AreRunOf ((j, Clean) ∷ es) (t ∷ ts) = AreRunOf es (t ∷ ts)

-- Where each target has a clean value, the turns of the jobs that a last plan of a sound world has to run are fed by paths that hold their clean
-- values there.
abbrev pub PlannedTurnsAreFed : Type 0
PlannedTurnsAreFed =
    (flow : Flow) (o : Outside) (has_fields : Job → Bool) (w : World) (H : Versions) (settings : Settings) (plan : Plan) (ts : List Turn) →
    SumsDiffer H →
    SoundWorld o w H →
    LastPlan flow (seen o.read w) settings nothing_done [] plan →
    GathersAlone flow →
    AllHaveValues (setting_of flow o.act has_fields (seen o.read w)) settings.targets →
    IsPlainPlan plan →
    AreRunOf (staged plan) ts →
    (held : List Path)
    × Each (IsCleanIn (setting_of flow o.act has_fields (seen o.read w)) 200 w) held
    × Each (IsLeftAlone ts) held
    × AreFed (setting_of flow o.act has_fields (seen o.read w)) held ts

-- And no such turn's job makes or logs what overlaps what it reads, or what an earlier one reads, makes or logs.
abbrev pub PlannedTurnsAreArranged : Type 0
PlannedTurnsAreArranged =
    (flow : Flow) (o : Outside) (has_fields : Job → Bool) (w : World) (H : Versions) (settings : Settings) (plan : Plan) (ts : List Turn) →
    SumsDiffer H →
    SoundWorld o w H →
    LastPlan flow (seen o.read w) settings nothing_done [] plan →
    GathersAlone flow →
    AllHaveValues (setting_of flow o.act has_fields (seen o.read w)) settings.targets →
    IsPlainPlan plan → AreRunOf (staged plan) ts → AreArranged ts
