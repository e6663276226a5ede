-- Turns of jobs whose commands can't fail.
use Rattle.std.specs.Prelude.{◌≡◌, true, List}
use Rattle.smk_base.specs.declared.tree.Tree.{Tree}
use Rattle.smk_world.specs.declared.event.Event.{Event}
use Rattle.smk_world.specs.declared.recipe.Kind.TheVariants.{Plain}
use Rattle.smk_world.specs.declared.recipe.Out.{Out}
use Rattle.smk_world.specs.World.{World}
use Rattle.smk_world.specs.Calls.{ContentsAre}
use Rattle.smk_world.specs.Runs.{Follows}
use Rattle.smk_world.specs.Trees.{Act, Each, are_good, outs_of}
use Rattle.smk_flow.specs.Flows.{Candidate}
use Rattle.smk_chain.specs.Derive.{Listings, job}
use Rattle.smk_chain.specs.Mean.{Setting}
use Rattle.smk_run.specs.Stamps.{Serials}
use Rattle.smk_run.specs.Statuses.{AreGiven}
use Rattle.smk_run.specs.Turns.{Turn, IsTurn, is_closed, is_done}
use Rattle.smk_safe.specs.Leaving.{MayCome, AreInputsApart}
use Rattle.smk_laws_complete.specs.Derived.{IsGoodJob}

-- The command of the turn's job makes plain files, and of these contents all of them, with status 0.
pub record CanSucceed (act : Act) (t : Turn) (trees : List Tree) : Type 0 where
  pub plain : Each (λ (out : Out). out.kind ≡ Plain) (outs_of t.job.recipe)
  pub status : (act t.job.recipe trees).status ≡ 0
  pub good : are_good (outs_of t.job.recipe) (act t.job.recipe trees).outputs ≡ true

-- Where such contents stand at the job's inputs as its turn comes, and the wait tells the command's status, the job is done if it is closed.
abbrev pub TurnsSucceed : Type 0
TurnsSucceed =
    (act : Act) (made : Serials) (t : Turn) (trees : List Tree) (w : World) (es : List Event) →
    CanSucceed act t trees →
    MayCome t w →
    AreInputsApart t →
    ContentsAre w t.job.recipe trees →
    Follows act w es → AreGiven act ⊥ w es → IsTurn made t w es → is_closed t.course ≡ true → is_done t.course ≡ true

-- A good job that makes plain files can succeed on its inputs' clean values.
abbrev pub GoodJobsCanSucceed : Type 0
GoodJobsCanSucceed =
    (S : Setting) (L : Listings) (c : Candidate) (t : Turn) →
    (good : IsGoodJob S L c) →
    t.job ≡ job S.flow L c → Each (λ (out : Out). out.kind ≡ Plain) (outs_of t.job.recipe) → CanSucceed S.act t good.inputs
