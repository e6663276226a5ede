-- The laws that facts give the reasons of the table of states, and that what is told is so in the image.
use Rattle.std.specs.Prelude.{◌≡◌, true, List, ◌++◌, map, filter, bytes_eq}
use Rattle.std.specs.List.{list_all, AllZip}
use Rattle.smk_world.specs.World.{in_paths}
use Rattle.smk_world.specs.Trees.{Path, Each, among}
use Rattle.smk_flow.specs.declared.job.Job.{Job}
use Rattle.smk_store.specs.Images.{Image}
use Rattle.smk_store.specs.Loading.{IsStoreOf}
use Rattle.smk_store.specs.Stores.{Known}
use Rattle.smk_chain.specs.Derive.{distinct}
use Rattle.smk_chain.specs.declared.jobs.Jobs.{Jobs}
use Rattle.smk_trigger.specs.declared.facts.JobFacts.{JobFacts}
use Rattle.smk_trigger.specs.declared.reason.Reason.TheVariants.{Upstream, Forced}
use Rattle.smk_trigger.specs.Reasons.{when}
use Rattle.smk_trigger.specs.JobStates.{is_dirty}
use Rattle.smk_pick.specs.declared.settings.Settings.{Settings}
use Rattle.smk_plan.specs.declared.seen.Sight.{Sight}
use Rattle.smk_plan.specs.Sights.{IsSeenOf, wholes_of}
use Rattle.smk_plan.specs.Summed.{AreSummed}
use Rattle.smk_plan.specs.States.{Plan, reasons, made_by}
use Rattle.smk_plan_facts.specs.Facts.{having_run, own_of, told_sources, AreFactsOf, AreMade, HasOwnRecords, NamesAll, TellSources}
use Rattle.smk_plan_facts.specs.Telling.{directories_of, facts_in, forced_by, has_path_texts, wholes_in, IsSorted}

-- The reasons of a job, where nothing runs: its own by its facts, then the inputs whose job is Dirty, then force.
abbrev pub FactsGiveReasons : Type 0
FactsGiveReasons =
    (image : Image) (settings : Settings) (ran : List Path) (plan : Plan) (j : Job) (f : JobFacts) →
    AreFactsOf image settings ran plan j f →
    reasons image settings (having_run ran) plan j
    ≡ own_of f ++ (map Upstream (filter (made_by plan is_dirty) (distinct bytes_eq (in_paths j.recipe))) ++ when f.forced Forced)

-- The facts by what is known and seen, where this is so in an image, are those of the image, if the inputs of which a record needs the SHA-256 were seen
-- with it.
abbrev pub FactsAreSo : Type 0
FactsAreSo =
    (image : Image) (settings : Settings) (ran : List Path) (plan : Plan) (jobs : Jobs) (known : List Known) (seen : List Sight) →
    IsStoreOf image known → IsSeenOf image jobs seen → AreSummed image jobs seen → HasOwnRecords image → TellSources image jobs →
    list_all has_path_texts jobs.jobs ≡ true →
    AllZip (AreFactsOf image settings ran plan) jobs.jobs (map (facts_in known seen (among (told_sources jobs.makers)) (forced_by settings ran)) jobs.jobs)

-- What is whole by it is so in the image; and the members of each directory that is whole by it rise.
abbrev pub WholesAreSo : Type 0
WholesAreSo =
    (image : Image) (jobs : Jobs) (known : List Known) (seen : List Sight) →
    IsStoreOf image known → IsSeenOf image jobs seen → NamesAll image → HasOwnRecords image → AreMade jobs →
    Each (Each (IsSorted seen)) (map (directories_of known seen) jobs.jobs) × (wholes_in known seen jobs ≡ wholes_of image jobs)
