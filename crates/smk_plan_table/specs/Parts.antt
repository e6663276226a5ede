-- The parts of a plan, by what the store has, what was seen and what is told of makers.
use Rattle.std.specs.Prelude.{◌≡◌, ℕ, Bool, false, ◌&&◌, ◌||◌, not, List, [], ◌∷◌, ◌++◌, map, filter, nat_lt, if◌then◌else◌, Option, Some, None, option_map, is_none}
use Rattle.std.specs.List.{flat_map, list_any}
use denote.Ref.{Bor}
use Rattle.smk_base.specs.declared.tree.Amount.{Amount}
use Rattle.smk_world.specs.declared.recipe.Out.{Out}
use Rattle.smk_world.specs.declared.recipe.OutItem.{OutItem}
use Rattle.smk_world.specs.World.{out_paths}
use Rattle.smk_world.specs.Trees.{Path, is_path_text}
use Rattle.smk_record.specs.declared.record.Member.{Member}
use Rattle.smk_record.specs.Records.{members_of}
use Rattle.smk_flow.specs.declared.job.Job.{Job}
use Rattle.smk_store.specs.declared.store.Entry.{Entry}
use Rattle.smk_store.specs.declared.store.Kept.{Kept}
use Rattle.smk_store.specs.Images.{readable}
use Rattle.smk_store.specs.Stores.{Known, entry_of, is_covered_in}
use Rattle.smk_chain.specs.declared.jobs.Known.{Known as Listed}
use Rattle.smk_trigger.specs.declared.reason.State.{State}
use Rattle.smk_pick.specs.declared.settings.Settings.{Settings}
use Rattle.smk_pick.specs.Rooms.{amount}
use Rattle.smk_plan.specs.declared.fault.PlanFault.{PlanFault}
use Rattle.smk_plan.specs.declared.fault.PlanFault.TheVariants.{Incomplete, Protected, AboveLimit}
use Rattle.smk_plan.specs.declared.seen.Sight.{Sight}
use Rattle.smk_plan.specs.States.{job_path, test_some}
use Rattle.smk_plan.specs.Sights.{sight_at}
use Rattle.smk_plan_facts.specs.Telling.{is_file_stat}
use Rattle.smk_plan_states.specs.declared.ranks.Rank.{Rank}
use Rattle.smk_plan_states.specs.Ranks.{is_to_run_rank}
use Rattle.smk_plan_states.specs.declared.lines.Target.{Target}
use Rattle.smk_plan_table.specs.declared.suspects.Suspect.{Suspect}

-- what is lent
abbrev pub shown : {A : Type 0} → List (Bor A) → List A
shown refs = map (λ r. r.now) refs

abbrev pub paths_in : List OutItem → List Path
paths_in items = flat_map (λ (i : OutItem). map (λ (o : Out). o.path) i.outs) items

abbrev pub outputs_of : List Job → List Path
outputs_of jobs = flat_map (λ (j : Job). out_paths j.recipe) jobs

-- ## What is refused

abbrev pub is_marked_in : List Known → Path → Bool
is_marked_in store p = test_some (λ (e : Entry). e.marked) (entry_of store p)

abbrev pub is_guarded_in : List Sight → Path → Bool
is_guarded_in seen p = test_some (λ (s : Sight). s.guarded) (sight_at seen p)

-- it has to run and hasn't begun
abbrev pub is_before : Rank → Bool → Bool
is_before r begun = is_to_run_rank r && not begun

-- such jobs, each with its rank and a flag for whether it has begun
abbrev pub before_in : List Job → List Rank → List Bool → List Job
before_in [] ranks flags = []
before_in (j ∷ jobs) [] flags = []
before_in (j ∷ jobs) (r ∷ ranks) [] = []
before_in (j ∷ jobs) (r ∷ ranks) (b ∷ flags) = (if is_before r b then j ∷ [] else []) ++ before_in jobs ranks flags

abbrev pub unless_none : List Path → List PlanFault
unless_none [] = []
unless_none (p ∷ paths) = Incomplete (p ∷ paths) ∷ []

abbrev pub marked_in : List Known → Bool → List Job → List PlanFault
marked_in store rerun jobs = if rerun then [] else unless_none (filter (is_marked_in store) (outputs_of jobs))

abbrev pub guarded_in : List Sight → List Job → List PlanFault
guarded_in seen jobs = map Protected (filter (is_guarded_in seen) (outputs_of jobs))

abbrev pub above_by : Job → ℕ → Amount → PlanFault
above_by j asked b = AboveLimit j.rule (job_path j) b.name asked b.count

-- the job asks more of the resource than its bound
abbrev pub above_of : Job → Amount → List PlanFault
above_of j b = if nat_lt b.count (amount j.amounts b.name) then above_by j (amount j.amounts b.name) b ∷ [] else []

abbrev pub above_in : List Amount → Job → List PlanFault
above_in bounds j = flat_map (above_of j) bounds

abbrev pub all_above : List Amount → List Job → List PlanFault
all_above bounds jobs = flat_map (above_in bounds) jobs

-- Where nothing is suspected of the job in one of these ways nothing is refused of it in that way: no output of it has a mark; no read-only file stands at or under
-- one; it asks no more than the bounds.
pub record IsSuspectOf (store : List Known) (seen : List Sight) (bounds : List Amount) (j : Job) (s : Suspect) : Type 0 where
  pub unmarked : s.marked ≡ false → list_any (is_marked_in store) (out_paths j.recipe) ≡ false
  pub unguarded : s.guarded ≡ false → list_any (is_guarded_in seen) (out_paths j.recipe) ≡ false
  pub within : s.above ≡ false → above_in bounds j ≡ []

-- the jobs whose child doesn't run, where each has the state that it had when it began, if its child runs
abbrev pub idle_in : List Job → List (Option State) → List Job
idle_in [] kept = []
idle_in (j ∷ jobs) [] = []
idle_in (j ∷ jobs) (k ∷ kept) = (if is_none k then j ∷ [] else []) ++ idle_in jobs kept

-- all that is refused, but for commands, in order, where the children of these `idle` jobs don't run, and those in `front` have to run and haven't begun
abbrev pub refusals_in : List Known → List Sight → Settings → List Job → List Job → List PlanFault
refusals_in store seen settings idle front =
    marked_in store settings.rerun_incomplete idle ++ (guarded_in seen front ++ all_above settings.bounds front)

-- an output of a job may have a mark whose child doesn't run
abbrev pub may_be_marked : List (Option State) → List Suspect → Bool
may_be_marked [] suspects = false
may_be_marked (k ∷ kept) [] = false
may_be_marked (k ∷ kept) (s ∷ suspects) = (is_none k && s.marked) || may_be_marked kept suspects

-- a read-only file may be in the way of a job that has to run, or it may ask more than a bound
abbrev pub may_be_stopped : List Rank → List Suspect → Bool
may_be_stopped [] suspects = false
may_be_stopped (r ∷ ranks) [] = false
may_be_stopped (r ∷ ranks) (s ∷ suspects) = (is_to_run_rank r && (s.guarded || s.above)) || may_be_stopped ranks suspects

-- something may be refused
abbrev pub may_be_refused : Bool → List (Option State) → List Rank → List Suspect → Bool
may_be_refused rerun kept ranks suspects = (not rerun && may_be_marked kept suspects) || may_be_stopped ranks suspects

-- ## What is current

abbrev pub is_file_in : List Sight → Path → Bool
is_file_in seen p = test_some (λ (s : Sight). is_file_stat s.stat) (sight_at seen p)

-- a file was seen there, and nothing covers it
abbrev pub is_source_seen : List Known → List Sight → Path → Bool
is_source_seen store seen p = is_path_text p && (is_file_in seen p && not (is_covered_in store p))

abbrev pub first_source : List Target → Bool
first_source [] = false
first_source (t ∷ targets) = t.source

abbrev pub later_targets : List Target → List Target
later_targets [] = []
later_targets (t ∷ targets) = targets

abbrev pub first_flag : List Bool → Bool
first_flag [] = false
first_flag (b ∷ flags) = b

abbrev pub later_flags : List Bool → List Bool
later_flags [] = []
later_flags (b ∷ flags) = flags

-- for each path whether it is a source, as the target in its place tells and as was seen, or the flag in its place is set
abbrev pub current_in : List Known → List Sight → List Path → List Target → List Bool → List Bool
current_in store seen [] targets flags = []
current_in store seen (p ∷ paths) targets flags =
    ((first_source targets && is_source_seen store seen p) || first_flag flags) ∷ current_in store seen paths (later_targets targets) (later_flags flags)

-- ## What has become known

abbrev pub file_in : Member → List Path
file_in m = if m.folder then [] else m.name ∷ []

abbrev pub files_among : List Member → List Path
files_among members = flat_map file_in members

-- the files in the record that is kept
abbrev pub files_kept : Kept → List Path
files_kept kept = files_among (members_of (readable kept))

abbrev pub files_told : Option Kept → List Path
files_told None = []
files_told (Some kept) = files_kept kept

-- the files in the record of the directory
abbrev pub files_in : List Known → Path → List Path
files_in store d = files_told (option_map (λ (e : Entry). e.kept) (entry_of store d))

abbrev pub listing_in : List Known → Path → Listed
listing_in store d = record { folder = d; files = files_in store d }
