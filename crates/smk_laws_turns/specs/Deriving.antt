-- A derivation goes on where only the jobs' own records, marks and notes come.
use Rattle.std.specs.Prelude.{◌≡◌, List}
use Rattle.smk_world.specs.Trees.{Path}
use Rattle.smk_flow.specs.declared.job.Job.{Job}
use Rattle.smk_flow.specs.Flows.{Flow}
use Rattle.smk_store.specs.Images.{Image}
use Rattle.smk_store.specs.Soundness.{SameSources}
use Rattle.smk_chain.specs.Derive.{Derived, Listings, derivation}
use Rattle.smk_laws_plan.specs.Current.{IsComplete}
use Rattle.smk_laws_plan.specs.Signs.{HasOwnSigns}

-- Where the sources are the same, and nothing else has come, the same jobs are derived.
abbrev pub DerivationGoesOn : Type 0
DerivationGoesOn =
    (flow : Flow) (first second : Image) (lists : Listings) (targets : List Path) (js : List Job) →
    IsComplete first →
    IsComplete second →
    SameSources first second →
    HasOwnSigns first second js → derivation flow first lists targets ≡ Derived js → derivation flow second lists targets ≡ Derived js
