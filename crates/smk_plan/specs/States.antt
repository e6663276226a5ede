-- States of jobs, reasons, the chain of plans, and what may start.
use Rattle.std.specs.Prelude.{◌≡◌, ◌≢◌, Bool, true, false, ◌&&◌, ◌||◌, not, List, [], ◌∷◌, ◌++◌, map, filter, zip, bytes_eq, if◌then◌else◌, Option, Some, None, option_map, is_some, is_none}
use Rattle.std.specs.List.{list_any, list_all, find, flat_map}
use Rattle.smk_world.specs.declared.recipe.Kind.{Kind}
use Rattle.smk_world.specs.World.{in_paths, out_paths}
use Rattle.smk_world.specs.Trees.{Path, among, first, kind_in, folder_over}
use Rattle.smk_record.specs.declared.record.Member.{Member}
use Rattle.smk_record.specs.Records.{members_of}
use Rattle.smk_pattern.specs.Reading.{or_empty}
use Rattle.smk_flow.specs.declared.job.Job.{Job}
use Rattle.smk_flow.specs.declared.job.Gather.{Gather}
use Rattle.smk_flow.specs.Flows.{Flow}
use Rattle.smk_store.specs.Images.{Image, is_source, record_at, is_whole, is_whole_member}
use Rattle.smk_store.specs.Trust.{is_marked_but, stamp_now_but}
use Rattle.smk_chain.specs.Derive.{Listings, listing, distinct, Derived, derivation}
use Rattle.smk_trigger.specs.declared.reason.Reason.{Reason}
use Rattle.smk_trigger.specs.declared.reason.Reason.TheVariants.{Upstream, Forced}
use Rattle.smk_trigger.specs.declared.reason.State.{State}
use Rattle.smk_trigger.specs.declared.reason.State.TheVariants.{Open, Dirty, Restore, Clean}
use Rattle.smk_trigger.specs.JobStates.{is_clean, is_open, is_dirty, is_restore, is_to_run}
use Rattle.smk_trigger.specs.Reasons.{own_reasons, when}
use Rattle.smk_pick.specs.declared.settings.Force.{Force}
use Rattle.smk_pick.specs.declared.settings.Force.TheVariants.{No, Targets, All}
use Rattle.smk_pick.specs.declared.settings.Settings.{Settings}

-- What the call has done so far, by the first outputs of jobs: those that have begun, and those whose child runs, each with the
-- state that it had when it began.
pub record Progress : Type 0 where
  pub begun : List Path
  pub running : List (Path × State)

abbrev pub nothing_done : Progress
nothing_done = record { begun = []; running = [] }

-- A plan: the listings with which its jobs were derived, the jobs in plan order, and a state for each.
pub record Plan : Type 0 where
  pub lists : Listings
  pub jobs : List Job
  pub states : List State

-- ## Words on a job

-- a job is named by its first output
abbrev pub job_path : Job → Path
job_path j = or_empty (first (out_paths j.recipe))

-- the path is an output of it, or a member of one
abbrev pub makes : Job → Path → Bool
makes j q = among (out_paths j.recipe) q || is_some (folder_over j.recipe q)

abbrev pub gathers_from : Job → List Path
gathers_from j = map (λ (g : Gather). g.folder) j.gathers

-- whole as an output of this kind, or as a member of this directory
abbrev pub is_whole_by : Image → Path → Kind → Option Path → Bool
is_whole_by image q kind None = is_whole image q kind
is_whole_by image q kind (Some folder) = is_whole_member image folder q

-- whole as what the job makes there
abbrev pub stands_whole : Image → Path → Job → Bool
stands_whole image q j = is_whole_by image q (kind_in j.recipe q) (folder_over j.recipe q)

-- forced: every job, or one that makes a target
abbrev pub by_force : Force → Bool → Bool
by_force No makes_target = false
by_force Targets makes_target = makes_target
by_force All makes_target = true

-- ## Words on a state

-- the state of a job that isn't Open
abbrev pub by_reasons : List Reason → Bool → State
by_reasons (r ∷ rest) to_restore = Dirty (r ∷ rest)
by_reasons [] to_restore = if to_restore then Restore else Clean

-- of a job that is being restored: what the table says, but never Clean
abbrev pub unless_clean : State → State
unless_clean Open = Open
unless_clean (Dirty reasons) = Dirty reasons
unless_clean Restore = Restore
unless_clean Clean = Restore

-- A job whose child runs stays Dirty where it began so. One that runs as a Restore stays so, unless the table has it Open or Dirty by
-- now, through what is above it.
abbrev pub while_running : Option State → State → State
while_running None s = s
while_running (Some (Dirty reasons)) s = Dirty reasons
while_running (Some Open) s = unless_clean s
while_running (Some Restore) s = unless_clean s
while_running (Some Clean) s = unless_clean s

abbrev pub test_some : {A : Type 0} → (A → Bool) → Option A → Bool
test_some test None = false
test_some test (Some x) = test x

abbrev pub none_or_one : {A : Type 0} → Option A → List A
none_or_one None = []
none_or_one (Some x) = x ∷ []

-- the jobs of a plan, each with its state
abbrev pub staged : Plan → List (Job × State)
staged plan = zip plan.jobs plan.states

-- the job that makes a path, with its state; none for a source
abbrev pub maker_of : Plan → Path → Option (Job × State)
maker_of plan q = find (λ (e : Job × State). makes e.0 q) (staged plan)

-- a job makes it that has such a state
abbrev pub made_by : Plan → (State → Bool) → Path → Bool
made_by plan test q = test_some (λ (e : Job × State). test e.1) (maker_of plan q)

-- the directory of which it is a member
abbrev pub directory_over : Plan → Path → List Path
directory_over plan q = flat_map (λ (e : Job × State). none_or_one (folder_over e.0.recipe q)) (none_or_one (maker_of plan q))

-- The directories that a job awaits: those that it gathers from, and those of which an input or one of these is a member.
abbrev pub awaits : Plan → Job → List Path
awaits plan j = gathers_from j ++ flat_map (directory_over plan) (in_paths j.recipe ++ gathers_from j)

-- it is an input of a job that passes
abbrev pub is_input : Plan → (Job × State → Bool) → Path → Bool
is_input plan test p = list_any (λ (e : Job × State). among (in_paths e.0.recipe) p && test e) (staged plan)

-- the files in the record of a directory
abbrev pub files_listed : Image → Path → List Path
files_listed image d = map (λ (m : Member). m.name) (filter (λ (m : Member). not m.folder) (members_of (record_at image d)))

module _ (image : Image) (settings : Settings) (progress : Progress) (plan : Plan) where
  -- a job makes it, is Clean, and it is whole
  abbrev pub is_ready : Path → Bool
  is_ready q = test_some (λ (e : Job × State). is_clean e.1 && stands_whole image q e.0) (maker_of plan q)

  -- a source, or ready
  abbrev pub is_at_hand : Path → Bool
  is_at_hand q = is_none (maker_of plan q) || is_ready q

  -- the directories that derived jobs await, or of which a target is a member
  abbrev pub awaited : List Path
  awaited = distinct bytes_eq (flat_map (awaits plan) plan.jobs ++ flat_map (directory_over plan) settings.targets)

  -- ## The table of states

  -- Open: a job of an awaited directory isn't Clean with the directory whole; or a directory that it gathers from has become
  -- known since the jobs were derived; or the job of an input is Open.
  abbrev pub is_open_now : Job → Bool
  is_open_now j =
      list_any (λ d. not (is_at_hand d)) (awaits plan j)
      || (list_any (λ d. is_ready d && is_none (listing plan.lists d)) (gathers_from j) || list_any (made_by plan is_open) (in_paths j.recipe))

  abbrev pub is_forced : Job → Bool
  is_forced j = not (among progress.begun (job_path j)) && by_force settings.force (list_any (makes j) settings.targets)

  -- the state that a job whose child runs had when it began
  abbrev pub kept_state : Job → Option State
  kept_state j = option_map (λ (e : Path × State). e.1) (find (λ (e : Path × State). bytes_eq e.0 (job_path j)) progress.running)

  -- an output of a job that runs as a Restore: its mark doesn't count
  abbrev pub is_restored : Path → Bool
  is_restored p = list_any (λ j. test_some is_restore (kept_state j) && among (out_paths j.recipe) p) plan.jobs

  -- the reasons of a job: its own; then the inputs whose job is Dirty; then force
  abbrev pub reasons : Job → List Reason
  reasons j =
      own_reasons j.recipe
      (map image.kept (out_paths j.recipe))
      (map (is_marked_but image is_restored) (out_paths j.recipe))
      (map (λ q. (q, stamp_now_but image is_restored q)) (in_paths j.recipe))
      ++ (map Upstream (filter (made_by plan is_dirty) (distinct bytes_eq (in_paths j.recipe))) ++ when (is_forced j) Forced)

  abbrev pub makes_awaited : Job → Bool
  makes_awaited j = list_any (among awaited) (out_paths j.recipe)

  -- flagged `temp`, where its job makes no awaited directory
  abbrev pub is_temporary : Job → Path → Bool
  is_temporary j p = among j.temps p && not (makes_awaited j)

  -- a target; an awaited directory; an input of a job, unless it is temporary; an input of a job that is to run
  abbrev pub is_wanted_back : Job → Path → Bool
  is_wanted_back j p =
      among settings.targets p
      || (among awaited p || ((not (is_temporary j p) && is_input plan (λ e. true) p) || is_input plan (λ e. is_to_run e.1) p))

  -- some output isn't whole and is wanted back
  abbrev pub is_to_restore : Job → Bool
  is_to_restore j = list_any (λ p. not (is_whole image p (kind_in j.recipe p)) && is_wanted_back j p) (out_paths j.recipe)

  -- one of its outputs, or a member of one, is an input of another job whose child runs
  abbrev pub is_read_now : Job → Bool
  is_read_now j =
      list_any (λ k. is_some (kept_state k) && (not (bytes_eq (job_path j) (job_path k)) && list_any (makes j) (in_paths k.recipe))) plan.jobs

  -- by the table; a Restore counts as Clean while a child reads what it made
  abbrev pub by_table : Job → State
  by_table j = if is_open_now j then Open else by_reasons (reasons j) (is_to_restore j && not (is_read_now j))

  -- the state of the table, but for a job whose child runs
  abbrev pub state_of : Job → State
  state_of j = while_running (kept_state j) (by_table j)

  -- The states are those that the table gives from the states.
  abbrev pub HasStates : Type 0
  HasStates = plan.states ≡ map state_of plan.jobs

  -- ## What follows from the states

  -- a source; or ready: its job is Clean and it is whole, as an output or as a member of its whole directory
  abbrev pub is_current : Path → Bool
  is_current p = is_source image p || is_ready p

  -- the listings that have become known
  abbrev pub new_listings : Listings
  new_listings = map (λ d. record { folder = d; files = files_listed image d }) (filter (λ d. is_ready d && is_none (listing plan.lists d)) awaited)

  -- Dirty or Restore, not begun, and all that it needs is a source or ready
  abbrev pub is_startable : Job × State → Bool
  is_startable e =
      is_to_run e.1 && (not (among progress.begun (job_path e.0)) && list_all is_at_hand (in_paths e.0.recipe ++ awaits plan e.0))

  -- a Restore by the table, which counts as Clean
  abbrev pub is_held_back : Job → Bool
  is_held_back j = is_none (kept_state j) && (not (is_open_now j) && (is_none (first (reasons j)) && (is_to_restore j && is_read_now j)))

  -- Spent: a temporary output, and no target, whose job and all users are Clean, in a plan without a job that is Open or Restore
  -- or counts as Clean.
  abbrev pub is_spent : Job × State → Path → Bool
  is_spent e p =
      is_temporary e.0 p
      && (not (among settings.targets p)
      && (is_clean e.1
      && (not (is_input plan (λ k. not (is_clean k.1)) p)
      && (list_all (λ (s : State). not (is_open s) && not (is_restore s)) plan.states
      && list_all (λ j. not (is_held_back j)) plan.jobs))))

-- ## The chain of plans

-- The plan of these listings: its jobs are derived with them, and it has its states.
pub record IsPlan (flow : Flow) (image : Image) (settings : Settings) (progress : Progress) (plan : Plan) : Type 0 where
  pub derived : derivation flow image plan.lists settings.targets ≡ Derived plan.jobs
  pub states : HasStates image settings progress plan

-- The last plan of the chain that begins with some listings: each next one is derived with the listings that became known
-- besides.
pub data LastPlan (flow : Flow) (image : Image) (settings : Settings) (progress : Progress) : Listings → Plan → Type 0 where
  Last :
      (plan : Plan) →
      IsPlan flow image settings progress plan →
      new_listings image settings progress plan ≡ [] → LastPlan flow image settings progress plan.lists plan
  Then :
      (plan last : Plan) →
      IsPlan flow image settings progress plan →
      new_listings image settings progress plan ≢ [] →
      LastPlan flow image settings progress (plan.lists ++ new_listings image settings progress plan) last →
      LastPlan flow image settings progress plan.lists last

-- the listings are those of the records of their directories
abbrev pub AreListed : Image → Listings → Type 0
AreListed image L = (f : Path) (files : List Path) → listing L f ≡ Some files → files ≡ files_listed image f
