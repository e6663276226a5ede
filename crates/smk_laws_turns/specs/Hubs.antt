-- What a run keeps, and where it stands.
use Rattle.std.specs.Prelude.{◌≡◌, ◌≢◌, ◌≤◌, ℕ, ◌+◌, ◌^◌, Bool, true, false, List, [], ◌∷◌, ◌++◌, map, zip, filter, length, not, nat_eq, nat_lt, if◌then◌else◌, Contains, Option, Some, None}
use Rattle.std.specs.List.{flat_map, slice_get}
use Rattle.std.specs.List.Sorted.{IsPermutation}
use Rattle.smk_world.specs.declared.event.Event.{Event}
use Rattle.smk_world.specs.declared.event.Child.{Child as WorldChild}
use Rattle.smk_world.specs.declared.recipe.Recipe.{Recipe}
use Rattle.smk_world.specs.Calls.{any_overlap, started_numbers}
use Rattle.smk_world.specs.Folders.{IsTree}
use Rattle.smk_world.specs.World.{World, IsFormed, in_paths, numbers, out_paths, owned_paths}
use Rattle.smk_world.specs.Trees.{Each, IsIn, Path, among, first}
use Rattle.smk_flow.specs.declared.job.Job.{Job}
use Rattle.smk_flow.specs.Flows.{Flow}
use Rattle.smk_record.specs.declared.record.Stamp.{Stamp}
use Rattle.smk_store.specs.Images.{Content, Image, is_source, source_at}
use Rattle.smk_store.specs.Soundness.{SameSources}
use Rattle.smk_chain.specs.Derive.{Derived, derivation}
use Rattle.smk_pick.specs.declared.room.Room.{Room}
use Rattle.smk_pick.specs.Shares.{Holds}
use Rattle.smk_plan.specs.States.{Plan, job_path}
use Rattle.smk_plan.specs.Summed.{has_other_time}
use Rattle.smk_plan_facts.specs.Facts.{told_sources}
use Rattle.smk_job.specs.Jobs.{Underway}
use Rattle.smk_run.specs.declared.tally.Tally.{Tally}
use Rattle.smk_run.specs.Runs.{AreWritable}
use Rattle.smk_plan_live.specs.Live.{LivePlan}
use Rattle.smk_plan_live.specs.declared.phase.Phase.TheVariants.{Running}
use Rattle.smk_plan_live.specs.Lives.{IsAgreed, IsLive, progress_of}
use Rattle.smk_drive.specs.Moments.{Rules, Begun, draws, greatest, runs, seen}
use Rattle.smk_drive.specs.Moments as moments
use Rattle.smk_drive.specs.Lawful.{ask_of, has_failed, running_jobs}
use Rattle.smk_drive_pick.specs.Picking.{AreAlike}
use Rattle.smk_drive_step.specs.declared.children.Child.{Child}
use Rattle.smk_drive_step.specs.declared.halt.Halt.{Halt}
use Rattle.smk_pick.specs.declared.room.Ask.{Ask}
use Rattle.smk_drive_step.specs.Crews.{goings}
use Rattle.smk_drive_course.specs.Stands.{Stand, IsClear, moment_of}
use Rattle.smk_drive_course.specs.Steps.{Deed}
use Rattle.smk_drive_course.specs.Reports.{failures, is_done, is_started}
use Rattle.smk_laws_moments.specs.Courses.{begun_jobs, started_jobs}
use Rattle.smk_laws_plan.specs.Signs.{HasOwnSigns}
use Rattle.smk_laws_moments.specs.Staying.{IsListed}

-- All that a run keeps: the plan, the room that is left, the children in their places, the serial that is drawn next, the counts, the first fault, if one
-- came, and whether lines still go to the sink.
pub record Parts : Type 0 where
  pub live : LivePlan
  pub room : Room
  pub places : List (Option Child)
  pub next : Option ℕ
  pub tally : Tally
  pub halt : Halt
  pub telling : Bool

-- the plan that is kept
abbrev pub plan_of : LivePlan → Plan
plan_of live = record { lists = live.base.jobs.lists; jobs = live.base.jobs.jobs; states = live.plan.states }

-- what a child takes to be closed, as the world has it
abbrev pub child_of : Underway → WorldChild
child_of going = record { number = going.number; recipe = going.recipe; logs = going.logs }

-- no two of them have one number
abbrev pub AreApart : List Underway → Type 0
AreApart [] = Unit {0}
AreApart (g ∷ gs) = ((k : Underway) → IsIn gs k → ¬ (k.number ≡ g.number)) × AreApart gs

-- The children in these places are those that run, each with a number of its own.
pub record IsCrew (places : List (Option Child)) (runs : List Underway) : Type 0 where
  pub run : (g : Underway) → IsIn (goings places) g → IsIn runs g
  pub placed : (g : Underway) → IsIn runs g → IsIn (goings places) g
  pub apart : AreApart (goings places)

-- the counts are those of what was done
pub record IsCountOf (flow : Flow) (deeds : List Deed) (tally : Tally) : Type 0 where
  pub started : tally.started ≡ length (filter is_started deeds)
  pub done : tally.done ≡ length (filter is_done deeds)
  pub failed : tally.failed ≡ length (failures flow deeds)
  pub first_one : tally.first ≡ first (failures flow deeds)

-- the serial, where it has 64 bits
abbrev pub if_fits : ℕ → Option ℕ
if_fits n = if nat_lt n (2 ^ 64) then Some n else None

-- The child in a place is that of the job of the plan with its number, which has begun; and what it has of the room is what that job asks for.
pub record IsChildOf (jobs : List Job) (begun : List Begun) (c : Child) : Type 0 where
  pub job : Job
  pub is : slice_get jobs c.job ≡ Some job
  pub recipe : job.recipe ≡ c.going.recipe
  pub logs : job.logs ≡ c.going.logs
  pub ask : c.ask ≡ ask_of job
  pub as_begun : Begun
  pub has_begun : IsIn begun as_begun
  pub is_job : as_begun.job ≡ job

abbrev pub AreChildrenOf : List Job → List Begun → List (Option Child) → Type 0
AreChildrenOf jobs begun places = (c : Child) → IsIn places (Some c) → IsChildOf jobs begun c

-- what the child in the place has of the room
abbrev pub ask_in : Option Child → List Ask
ask_in None = []
ask_in (Some c) = c.ask ∷ []

abbrev pub asks_in : List (Option Child) → List Ask
asks_in places = flat_map ask_in places

-- the job of each child runs by the plan that is kept
abbrev pub AreRunning : LivePlan → List (Option Child) → Type 0
AreRunning live places = (c : Child) → IsIn places (Some c) → slice_get live.base.phases c.job ≡ Some Running

-- no two jobs that have begun are of one name
abbrev pub AreOnce : List Begun → Type 0
AreOnce [] = Unit {0}
AreOnce (b ∷ bs) = ((k : Begun) → IsIn bs k → ¬ (job_path k.job ≡ job_path b.job)) × AreOnce bs

-- a job whose child runs hasn't ended
abbrev pub AreOpen : World → List Begun → Type 0
AreOpen w begun = (b : Begun) → IsIn begun b → runs w b.job ≡ true → b.ended ≡ None

-- What is so where no fault has come: the plan that is kept agrees with the folder and is the one in force, no directory has become known, and nothing is
-- refused; the next serial is above the entry's greatest by as many as were drawn; and the room holds what the running jobs ask for.
pub record IsKept (rules : Rules) (entry : World) (h : Parts) (s : Stand) (w : World) (before : List Event) : Type 0 where
  pub agrees : IsAgreed (seen rules w) rules.settings h.live.base
  -- what has begun and runs, by their names
  pub progressed : AreAlike (moments.progress_of w s.begun) (progress_of h.live.base)
  pub plan : s.plan ≡ Some (plan_of h.live)
  pub none_known : h.live.plan.known ≡ []
  pub serial : h.next ≡ if_fits (greatest rules (seen rules entry) + (1 + length (filter (draws rules) s.begun)))
  -- no serial was drawn that has more than 64 bits
  pub reach : greatest rules (seen rules entry) + (1 + length (filter (draws rules) s.begun)) ≤ 2 ^ 64
  pub running : AreRunning h.live h.places
  pub room : Holds rules.settings.cores rules.settings.bounds h.room (asks_in h.places)
  pub asks : IsPermutation (asks_in h.places) (map ask_of (running_jobs (moment_of s w before)))
  pub once : AreOnce s.begun
  pub open_still : AreOpen w s.begun
  -- a job has failed just where one is counted
  pub failing : has_failed (moment_of s w before) ≡ not (nat_eq h.tally.failed 0)
  pub clear : IsClear rules s w before

-- The run found such a folder, and the folder is one that can be; and no child that runs has a number that a later one may have.
pub record IsHome (entry w : World) : Type 0 where
  pub found : IsFormed entry
  pub formed : IsFormed w
  pub tree : IsTree w
  pub numbered : (n : ℕ) → Contains (numbers w.children) n → Contains (started_numbers w.log) n

-- these outputs are marked, and these logs noted
pub record IsSigned (image : Image) (recipe : Recipe) (logs : List Path) : Type 0 where
  pub marked : (p : Path) → among (out_paths recipe) p ≡ true → image.marked p ≡ true
  pub noted : (p : Path) → among logs p ≡ true → image.noted p ≡ true

-- The folder has the sources that the run found; of records, marks and notes just those have come that are of these jobs; and the outputs of each child that
-- runs are marked, and its logs noted.
pub record IsOurs (rules : Rules) (entry : World) (jobs : List Job) (w : World) : Type 0 where
  pub sources : SameSources (seen rules entry) (seen rules w)
  pub signs : HasOwnSigns (seen rules entry) (seen rules w) jobs
  -- and what has gone of them was theirs
  pub gone : HasOwnSigns (seen rules w) (seen rules entry) jobs
  pub signed : (c : WorldChild) → IsIn w.children c → IsSigned (seen rules w) c.recipe c.logs

-- what one of them owns overlaps nothing that another one owns or reads
abbrev pub AreSpaced : List Underway → Type 0
AreSpaced runs =
    (g k : Underway) → IsIn runs g → IsIn runs k → ¬ (k.number ≡ g.number) →
    any_overlap (owned_paths g.recipe g.logs) (in_paths k.recipe ++ owned_paths k.recipe k.logs) ≡ false

-- Its records can be written, and their stamps have the times of the sources that the run found.
pub record IsRecordable (image : Image) (g : Underway) : Type 0 where
  pub stamped : Each (λ (x : Path × Stamp). (f : Content) → source_at image x.0 ≡ Some f → has_other_time x.1 f.time ≡ false) (zip (in_paths g.recipe) g.stamps)
  pub writable : AreWritable g.made g.recipe g.stamps

-- The run stands so, after these events, and has done this.
pub record IsAt (rules : Rules) (entry : World) (h : Parts) (s : Stand) (w : World) (before : List Event) (deeds : List Deed) : Type 0 where
  pub live : IsLive h.live
  pub settings : h.live.settings ≡ rules.settings
  -- its jobs are those that the folder of the entry called for
  pub derived : derivation rules.flow (seen rules entry) h.live.base.jobs.lists rules.settings.targets ≡ Derived h.live.base.jobs.jobs
  pub home : IsHome entry w
  pub ours : s.broken ≡ false → IsOurs rules entry h.live.base.jobs.jobs w
  -- what none of its jobs makes are sources that the run found
  pub sourced : (p : Path) → among (told_sources h.live.base.jobs.makers) p ≡ true → is_source (seen rules entry) p ≡ true
  -- each job that has begun is one of the plan
  pub planned : (b : Begun) → IsIn s.begun b → IsIn h.live.base.jobs.jobs b.job
  -- and each directory that it gathers from is a source, or has a listing
  pub listed : (b : Begun) → IsIn s.begun b → IsListed (seen rules entry) h.live.base.jobs.lists b.job
  pub crew : IsCrew h.places s.runs
  pub spaced : AreSpaced s.runs
  pub underway : (g : Underway) → IsIn s.runs g → IsRecordable (seen rules entry) g
  pub children : w.children ≡ map child_of s.runs
  pub theirs : AreChildrenOf h.live.base.jobs.jobs s.begun h.places
  pub halted : h.halt.fault ≡ s.halted
  pub waits : h.halt.only_waits ≡ s.broken
  -- the starts that it has told of are those of the jobs that have begun
  pub starts : begun_jobs s ≡ started_jobs deeds
  pub counted : s.halted ≡ None → IsCountOf rules.flow deeds h.tally
  pub faulted : s.broken ≡ true → s.halted ≢ None
  pub kept : s.halted ≡ None → IsKept rules entry h s w before
