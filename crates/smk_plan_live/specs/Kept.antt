-- What is told of jobs by what is kept of them.
use Rattle.std.specs.Prelude.{ℕ, Bool, List, [], ◌∷◌, map, Option, Some, None}
use Rattle.std.specs.List.{slice_get}
use Rattle.std.specs.BTreeSet.{contains_text}
use Rattle.smk_world.specs.Trees.{among}
use Rattle.smk_flow.specs.declared.job.Job.{Job}
use Rattle.smk_trigger.specs.declared.facts.JobFacts.{JobFacts}
use Rattle.smk_trigger.specs.declared.reason.Reason.{Reason}
use Rattle.smk_trigger.specs.Reasons.{reasons_of}
use Rattle.smk_pick.specs.declared.settings.Settings.{Settings}
use Rattle.smk_plan_facts.specs.Facts.{told_sources}
use Rattle.smk_plan_facts.specs.Telling.{facts_in, forced_by}
use Rattle.smk_plan_states.specs.Stays.{Told}
use Rattle.smk_plan_live.specs.declared.base.Base.{Base}
use Rattle.smk_plan_live.specs.Phases.{begun_in}
use Rattle.smk_plan_live.specs.Now.{known_now, seen_now}

-- what the jobs are judged by: what is known and was seen now
abbrev pub facts_now : Settings → Base → List JobFacts
facts_now settings b =
    map (facts_in (known_now b) (seen_now b) (among (told_sources b.jobs.makers)) (forced_by settings (begun_in b.jobs.jobs b.phases))) b.jobs.jobs

-- their reasons, but for the inputs whose job is Dirty; and which of them are forced
abbrev pub own_now : Settings → Base → List (List Reason)
own_now settings b = map reasons_of (facts_now settings b)

abbrev pub forced_now : Settings → Base → List Bool
forced_now settings b = map (λ (f : JobFacts). f.forced) (facts_now settings b)

-- what a job is judged by, where it is forced or not, by the paths that are kept as sources
abbrev pub facts_by : Base → Bool → Job → JobFacts
facts_by b forced j = facts_in (known_now b) (seen_now b) (contains_text b.sources) (λ x. forced) j

-- the same of the job of the number, where these are forced
abbrev pub facts_if : Base → Option Job → Option Bool → Option JobFacts
facts_if b None forced = None
facts_if b (Some j) None = None
facts_if b (Some j) (Some f) = Some (facts_by b f j)

abbrev pub facts_kept : Base → List Bool → ℕ → Option JobFacts
facts_kept b forced n = facts_if b (slice_get b.jobs.jobs n) (slice_get forced n)

-- the reasons of these jobs, where these are forced
abbrev pub own_by : Base → List Job → List Bool → List (List Reason)
own_by b [] forced = []
own_by b (j ∷ jobs) [] = []
own_by b (j ∷ jobs) (f ∷ forced) = reasons_of (facts_by b f j) ∷ own_by b jobs forced

-- what is told of the jobs, where these outputs and paths of makers are whole, and these jobs are forced
abbrev pub told_by_flags : Base → List (List Bool) → List Bool → List Bool → Told
told_by_flags b outputs makers forced =
    record { outputs = outputs; makers = makers; reasons = own_by b b.jobs.jobs forced; forced = forced; running = b.began }
