-- Laws of plans.
use Rattle.std.specs.Prelude.{◌≡◌, false, List, ◌∷◌, ◌++◌, Some, IsTrue, Contains}
use Rattle.std.specs.List.{find}
use Rattle.smk_world.specs.World.{in_paths}
use Rattle.smk_world.specs.Trees.{Path}
use Rattle.smk_flow.specs.declared.job.Job.{Job}
use Rattle.smk_flow.specs.Flows.{Flow}
use Rattle.smk_store.specs.Images.{Image}
use Rattle.smk_chain.specs.Derive.{Listings, Derived, derivation}
use Rattle.smk_pick.specs.declared.settings.Settings.{Settings}
use Rattle.smk_plan.specs.States.{Plan, Progress, IsPlan, LastPlan, AreListed, makes, gathers_from, is_open_now}
use Rattle.smk_laws_plan.specs.Current.{IsComplete}

-- In a plan the job that makes an input of a job, or a directory that it gathers from, comes before it.
abbrev pub InputsComeFirst : Type 0
InputsComeFirst =
    (flow : Flow) (image : Image) (settings : Settings) (progress : Progress) (plan : Plan) (before after : List Job) (j k : Job) (q : Path) →
    IsComplete image →
    IsPlan flow image settings progress plan →
    plan.jobs ≡ before ++ j ∷ after →
    Contains (in_paths j.recipe ++ gathers_from j) q → Contains plan.jobs k → IsTrue (makes k q) → Contains before k

-- For given listings there is at most one plan of a complete image: one table of states meets its own equations.
abbrev pub OnePlan : Type 0
OnePlan =
    (flow : Flow) (image : Image) (settings : Settings) (progress : Progress) (a b : Plan) →
    IsComplete image →
    IsPlan flow image settings progress a → IsPlan flow image settings progress b → a.lists ≡ b.lists → a ≡ b

-- Jobs that are derived have such a table.
abbrev pub HasPlan : Type 0
HasPlan =
    (flow : Flow) (image : Image) (settings : Settings) (progress : Progress) (L : Listings) (jobs : List Job) →
    IsComplete image →
    derivation flow image L settings.targets ≡ Derived jobs →
    (plan : Plan) × IsPlan flow image settings progress plan × (plan.lists ≡ L)

-- From given listings there is at most one last plan.
abbrev pub OneLastPlan : Type 0
OneLastPlan =
    (flow : Flow) (image : Image) (settings : Settings) (progress : Progress) (L : Listings) (a b : Plan) →
    IsComplete image →
    LastPlan flow image settings progress L a → LastPlan flow image settings progress L b → a ≡ b

-- With more listings each job of a plan goes on: a job of the later derivation differs from it at most in its inputs, which may have
-- more that is gathered.
abbrev pub KeepsJobs : Type 0
KeepsJobs =
    (flow : Flow) (image : Image) (settings : Settings) (progress : Progress) (plan : Plan) (more : Listings) (later : List Job) →
    IsComplete image →
    IsPlan flow image settings progress plan →
    derivation flow image (plan.lists ++ more) settings.targets ≡ Derived later →
    (j : Job) →
    Contains plan.jobs j → (k : Job) × Contains later k × (k ≡ record j { recipe = record j.recipe { inputs = k.recipe.inputs } })

-- With more listings, which are those of directories' records, a job that isn't Open stays as it is; and what it makes it makes then.
abbrev pub KeepsUnopened : Type 0
KeepsUnopened =
    (flow : Flow) (image : Image) (settings : Settings) (progress : Progress) (plan : Plan) (more : Listings) (later : List Job) →
    IsComplete image →
    IsPlan flow image settings progress plan →
    derivation flow image (plan.lists ++ more) settings.targets ≡ Derived later →
    AreListed image more →
    (j : Job) →
    Contains plan.jobs j →
    is_open_now image settings progress plan j ≡ false →
    Contains later j × ((q : Path) → IsTrue (makes j q) → find (λ k. makes k q) later ≡ Some j)
