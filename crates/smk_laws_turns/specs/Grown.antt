-- A plan that is kept agrees with the folder, and has come as far, once new jobs have come while children run.
use Rattle.std.specs.Prelude.{◌≡◌, ◌≢◌, ℕ, true, List, Option}
use Rattle.smk_world.specs.Trees.{IsIn, Path, among}
use Rattle.smk_world.specs.World.{IsFormed, World, out_paths}
use Rattle.smk_record.specs.declared.record.Record.{Record}
use Rattle.smk_flow.specs.declared.job.Job.{Job}
use Rattle.smk_flow.specs.Flows.{Flow}
use Rattle.smk_store.specs.Images.{seen}
use Rattle.smk_store.specs.Stores.{Known}
use Rattle.smk_store.specs.Unowned.{IsUnownedUnder}
use Rattle.smk_chain.specs.declared.jobs.Jobs.{Jobs}
use Rattle.smk_chain.specs.Derive.{Derived, derivation}
use Rattle.smk_pick.specs.declared.settings.Settings.{Settings}
use Rattle.smk_plan.specs.declared.seen.Sight.{Sight}
use Rattle.smk_plan.specs.States.{Progress}
use Rattle.smk_plan_facts.specs.Facts.{told_sources}
use Rattle.smk_plan_live.specs.declared.base.Base.{Base}
use Rattle.smk_plan_live.specs.Live.{LivePlan}
use Rattle.smk_plan_live.specs.declared.phase.Phase.TheVariants.{Running}
use Rattle.smk_plan_live.specs.Carried.{phase_from}
use Rattle.smk_plan_live.specs.Changes.{IsGrown}
use Rattle.smk_plan_live.specs.Lives.{IsAgreed, IsSound, progress_of}
use Rattle.smk_laws_turns.specs.Progressing.{IsAlike}
use Rattle.smk_laws_turns.specs.Growing.{IsMoreOf}

-- No running child owns what stands at the outputs of jobs that don't run, at what no job makes, or under it.
pub record AreFree (w : World) (b : Base) (jobs : Jobs) : Type 0 where
  pub idle : (k : Job) → IsIn jobs.jobs k → phase_from b k ≢ Running → (q : Path) → among (out_paths k.recipe) q ≡ true → IsUnownedUnder w.nodes q
  pub sources : (p : Path) → among (told_sources jobs.makers) p ≡ true → IsUnownedUnder w.nodes p

-- The plan agreed with the folder; it has grown by what is derived and seen beside the children; and no child owns what was looked at. Then it agrees.
abbrev pub GrowthAgrees : Type 0
GrowthAgrees =
    (read : List ℕ → Option Record) (flow : Flow) (settings : Settings) (w : World) (live : LivePlan) (jobs : Jobs) (store : List Known) (fresh : List Sight)
    (base : Base) →
    IsFormed w →
    IsSound live.base →
    IsSound base →
    IsAgreed (seen read w) settings live.base →
    derivation flow (seen read w) live.base.jobs.lists settings.targets ≡ Derived live.base.jobs.jobs →
    IsMoreOf read flow settings w live jobs store fresh →
    IsGrown jobs store fresh live.base base →
    AreFree w live.base jobs → IsAgreed (seen read w) settings base

-- The jobs that have begun and those that run are the same, by their names.
abbrev pub GrowthIsAlike : Type 0
GrowthIsAlike =
    (read : List ℕ → Option Record) (flow : Flow) (settings : Settings) (w : World) (live : LivePlan) (jobs : Jobs) (store : List Known) (fresh : List Sight)
    (base : Base) (p : Progress) →
    IsFormed w →
    IsSound live.base →
    IsSound base →
    IsAgreed (seen read w) settings live.base →
    derivation flow (seen read w) live.base.jobs.lists settings.targets ≡ Derived live.base.jobs.jobs →
    IsMoreOf read flow settings w live jobs store fresh →
    IsGrown jobs store fresh live.base base →
    IsAlike p (progress_of live.base) → IsAlike p (progress_of base)
