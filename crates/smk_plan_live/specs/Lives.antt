-- What is true of each plan that is kept, whatever was called.
use Rattle.std.specs.Prelude.{◌≡◌, ℕ, Bool, true, false, List, [], map, length, Option, Some, None}
use Rattle.std.specs.List.{list_all, slice_get, AllZip}
use Rattle.std.specs.BTreeMap.{get_by_text}
use Rattle.std.specs.BTreeSet.{contains_text}
use Rattle.smk_world.specs.Trees.{Path, Each, among}
use Rattle.smk_flow.specs.declared.job.Job.{Job}
use Rattle.smk_store.specs.Images.{Image}
use Rattle.smk_trigger.specs.declared.reason.State.{State}
use Rattle.smk_pick.specs.declared.settings.Settings.{Settings}
use Rattle.smk_plan.specs.declared.plan.Plan.{Plan as Told}
use Rattle.smk_plan.specs.declared.fault.PlanFault.{PlanFault}
use Rattle.smk_plan.specs.declared.wholes.Wholes.{Wholes}
use Rattle.smk_plan.specs.States.{Progress, test_some}
use Rattle.smk_plan_facts.specs.Facts.{told_sources, IsMade}
use Rattle.smk_plan_facts.specs.Telling.{has_path_texts, IsSorted, directories_of, is_told_whole, outputs_in, wholes_in}
use Rattle.smk_plan_states.specs.declared.standing.Last.{Last}
use Rattle.smk_plan_states.specs.declared.standing.Ranking.{Ranking}
use Rattle.smk_plan_states.specs.declared.rows.Own.{Own}
use Rattle.smk_plan_states.specs.declared.table.Table.{Table}
use Rattle.smk_plan_states.specs.Ranks.{rank_of}
use Rattle.smk_plan_states.specs.Served.{AreServed}
use Rattle.smk_plan_states.specs.Judged.{Judging, any_held_back}
use Rattle.smk_plan_states.specs.Rows.{FitOwn}
use Rattle.smk_plan_states.specs.Standing.{FollowsBy, StandsBy}
use Rattle.smk_plan_states.specs.Stays.{Told as TellsRows}
use Rattle.smk_plan_states.specs.Tables.{IsTableOf}
use Rattle.smk_plan_table.specs.declared.suspects.Suspect.{Suspect}
use Rattle.smk_plan_table.specs.Parts.{IsSuspectOf}
use Rattle.smk_plan_table.specs.Plans.{HasMadeAt, IsRefusedAt}
use Rattle.smk_plan_live.specs.declared.base.Base.{Base}
use Rattle.smk_plan_live.specs.declared.flags.Flags.{Flags}
use Rattle.smk_plan_live.specs.Kept.{forced_now, own_now, told_by_flags}
use Rattle.smk_plan_live.specs.Live.{LivePlan}
use Rattle.smk_plan_live.specs.Agreeing.{AgreesNow}
use Rattle.smk_plan_live.specs.Carried.{has_name}
use Rattle.smk_plan_live.specs.Commands.{has_command}
use Rattle.smk_plan_live.specs.Limits.{AreLimits}
use Rattle.smk_plan_live.specs.Making.{AreMadeBy}
use Rattle.smk_plan_live.specs.Phases.{has_begun, progress_in}
use Rattle.smk_plan_live.specs.Sites.{site_in}
use Rattle.smk_plan_live.specs.Same.{readers_of}
use Rattle.smk_plan_live.specs.Now.{known_now, seen_now}

-- what has begun, and what runs with the states at their beginning
abbrev pub progress_of : Base → Progress
progress_of b = progress_in b.jobs.jobs b.phases b.began

-- what the jobs are judged by in the image now
abbrev pub judging_of : Image → Settings → Base → Judging
judging_of image settings b = record { image = image; settings = settings; progress = progress_of b }

-- The folder has what is known and was seen now, while the children of the jobs that have begun and aren't closed run.
abbrev pub IsAgreed : Image → Settings → Base → Type 0
IsAgreed image settings b = AgreesNow image settings (progress_of b) b.jobs (known_now b) (seen_now b)

-- the states, the current targets and the known listings are those of the definitions, and so it is told whether a job is held back
pub record IsTold (settings : Settings) (b : Base) (told : Told) (held : Bool) (image : Image) : Type 0 where
  pub made : HasMadeAt (judging_of image settings b) b.jobs told
  pub back : held ≡ any_held_back (judging_of image settings b) b.jobs told.states

-- so it is in each image that has what is known and was seen now
abbrev pub IsNow : Settings → Base → Told → Bool → Type 0
IsNow settings b told held = (image : Image) → IsAgreed image settings b → IsTold settings b told held image

-- in each such image the plan of this moment is refused, and this is the first refusal
abbrev pub IsRefusedNow : Settings → Base → PlanFault → Type 0
IsRefusedNow settings b fault = (image : Image) → IsAgreed image settings b → IsRefusedAt (judging_of image settings b) b.jobs fault

-- There is a row for each job; and it is told where each output stands, which is never the empty path, and which paths no job makes.
pub record IsSound (b : Base) : Type 0 where
  pub phases : length b.phases ≡ length b.jobs.jobs
  pub began : length b.began ≡ length b.jobs.jobs
  pub entries : length b.entries ≡ length b.jobs.jobs
  pub sights : length b.sights ≡ length b.jobs.jobs
  pub sited : (q : Path) → get_by_text b.sites q ≡ site_in 0 b.jobs.jobs q
  pub unnamed : get_by_text b.sites [] ≡ None
  -- these are the paths of what was seen later
  pub came : (q : Path) → among b.came q ≡ false → get_by_text b.later q ≡ None
  pub sources : (q : Path) → contains_text b.sources q ≡ among (told_sources b.jobs.makers) q

-- this is what is whole, by what is known and was seen now, where the members of directories that are whole rise
abbrev pub AreWhole : Base → Wholes → Type 0
AreWhole b wholes =
    Each (Each (IsSorted (seen_now b))) (map (directories_of (known_now b) (seen_now b)) b.jobs.jobs) → wholes ≡ wholes_in (known_now b) (seen_now b) b.jobs

-- ## Flags

-- for each maker it is told whether its path is whole by what is known and was seen now, as what the job makes there that is told to make it
abbrev pub AreMakersWhole : Base → List Bool → Type 0
AreMakersWhole b flags =
    AllZip
    (λ m f. IsMade b.jobs.jobs m → f ≡ is_told_whole (seen_now b) (map (directories_of (known_now b) (seen_now b)) b.jobs.jobs) m)
    b.jobs.makers flags

-- What is kept as flags is so by what is known and was seen now: what is whole, of which jobs nothing is refused, which have reasons of their own, where that is told, and
-- which are forced.
pub record AreFlagsNow (settings : Settings) (b : Base) (flags : Flags) : Type 0 where
  pub outputs : flags.outputs ≡ map (outputs_in (known_now b) (seen_now b)) b.jobs.jobs
  pub makers : AreMakersWhole b flags.makers
  pub suspects : AllZip (IsSuspectOf (known_now b) (seen_now b) settings.bounds) b.jobs.jobs flags.suspects
  pub own : FitOwn flags.own (own_now settings b)
  pub forced : flags.forced ≡ forced_now settings b

-- Each job that has begun, and each whose child runs, has an output to be named by.
pub record AreNamed (b : Base) : Type 0 where
  pub begun : (n : ℕ) (j : Job) → slice_get b.jobs.jobs n ≡ Some j → test_some has_begun (slice_get b.phases n) ≡ true → has_name j ≡ true
  pub running : (n : ℕ) (j : Job) (s : State) → slice_get b.jobs.jobs n ≡ Some j → slice_get b.began n ≡ Some (Some s) → has_name j ≡ true

-- What is lent of the jobs is so by what is known and was seen now: which outputs, and which of the makers' paths, are whole, and which have reasons of their own, where that is
-- told; and nothing is refused of them that isn't suspected.
pub record AreLentNow (settings : Settings) (b : Base) (rows : List (List Bool)) (makers : List Bool) (flags : List Own) (suspects : List Suspect) : Type 0 where
  pub sound : IsSound b
  pub named : AreNamed b
  pub texts : list_all has_path_texts b.jobs.jobs ≡ true
  pub outputs : rows ≡ map (outputs_in (known_now b) (seen_now b)) b.jobs.jobs
  pub whole : AreMakersWhole b makers
  pub own : FitOwn flags (own_now settings b)
  pub doubted : AllZip (IsSuspectOf (known_now b) (seen_now b) settings.bounds) b.jobs.jobs suspects

-- ## What is kept of ranks

-- what was kept of the last plan, if anything, stood then, and what is told now differs from that by a step of one job
abbrev pub FollowsLent : Settings → Base → Table → List (List Bool) → List Bool → List Bool → Option Last → Type 0
FollowsLent settings b table rows makers forced last = AreServed b.jobs settings.targets → FollowsBy table last (told_by_flags b rows makers forced)

-- what the plan tells of its jobs
abbrev pub told_live : LivePlan → TellsRows
told_live p = told_by_flags p.base p.flags.outputs p.flags.makers p.flags.forced

-- its ranks are those by what it tells
abbrev pub Stands : LivePlan → Type 0
Stands p = StandsBy p.table (told_live p) p.ranking

-- the ranks that are kept are those of its states, in each image that has what is known and was seen now
abbrev pub AreRanked : Settings → Base → Ranking → Told → Type 0
AreRanked settings b ranking told = (image : Image) → IsAgreed image settings b → ranking.last.items ≡ map rank_of told.states

-- What is true of each plan that is kept: its base is sound; there is a state for each job, and it is told of each target whether it is current; the jobs are
-- judged by what is known and was seen now; what it tells is by the definitions; what it keeps by numbers, and of ranks, is so; where all are seen to have
-- commands they have; and the limits that are kept are those of its jobs.
pub record IsLive (p : LivePlan) : Type 0 where
  pub sound : IsSound p.base
  -- each input of a job is a path
  pub texts : list_all has_path_texts p.base.jobs.jobs ≡ true
  pub each : length p.plan.states ≡ length p.base.jobs.jobs
  pub targets : length p.plan.current ≡ length p.settings.targets
  pub now : IsNow p.settings p.base p.plan p.held
  pub table : IsTableOf p.base.jobs p.settings.targets p.table
  pub flags : AreServed p.base.jobs p.settings.targets → AreFlagsNow p.settings p.base p.flags
  -- it is kept of each job which makers name it
  pub made : AreMadeBy p.base.jobs.jobs p.base.jobs.makers p.flags.made
  pub readers : AreServed p.base.jobs p.settings.targets → p.readers.items ≡ readers_of p.base.jobs.jobs
  pub standing : AreServed p.base.jobs p.settings.targets → Stands p
  pub ranked : AreRanked p.settings p.base p.ranking p.plan
  pub named : AreNamed p.base
  pub limits : AreLimits p.limits p.base.jobs.jobs
  pub commands : p.commanded ≡ true → list_all (has_command p.settings.cores) p.base.jobs.jobs ≡ true
