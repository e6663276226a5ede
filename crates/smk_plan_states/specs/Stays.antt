-- A step of one job: what stays of all others.
use Rattle.std.specs.Prelude.{◌≡◌, ◌⊎◌, ◌<◌, ℕ, suc, Bool, false, true, ◌==◌, ◌||◌, ◌&&◌, not, if◌then◌else◌, ◌++◌, List, [], ◌∷◌, map, length, take, Option, Some, None, is_some, slice_index_or}
use Rattle.std.specs.List.{list_any, slice_get}
use Rattle.smk_world.specs.Trees.{Each}
use Rattle.smk_chain.specs.declared.jobs.Jobs.{Jobs}
use Rattle.smk_trigger.specs.declared.reason.Reason.{Reason}
use Rattle.smk_trigger.specs.declared.reason.Reason.TheVariants.{Upstream, Forced}
use Rattle.smk_trigger.specs.declared.reason.State.{State}
use Rattle.smk_trigger.specs.Reasons.{when}
use Rattle.smk_plan_states.specs.declared.lines.Gathered.{Gathered}
use Rattle.smk_plan_states.specs.declared.lines.Input.{Input}
use Rattle.smk_plan_states.specs.declared.lines.Line.{Line}
use Rattle.smk_plan_states.specs.declared.lines.Origin.{Origin}
use Rattle.smk_plan_states.specs.declared.ranks.Rank.{Rank}
use Rattle.smk_plan_states.specs.declared.ranks.Rank.TheVariants.{Open as AtOpen, Dirty as AtDirty}
use Rattle.smk_plan_states.specs.declared.rows.Rows.{Rows}
use Rattle.smk_plan_states.specs.declared.spots.Spot.{Spot}
use Rattle.smk_plan.specs.States.{test_some}
use Rattle.smk_plan_states.specs.Judged.{Judging}
use Rattle.smk_plan_states.specs.Rows.{has_any, reasons_at, forced_at}
use Rattle.smk_plan_states.specs.Ranks.{by_rank, is_open_rank, rank_while_running, state_by}
use Rattle.smk_plan_states.specs.Spots.{maker_at, origin_at, spot_at}
use Rattle.smk_plan_states.specs.Ranking.{dirties_by, is_kept_by, is_link, is_upstream, opens_by, upstream_paths}

-- What is told of jobs at a moment, by their numbers; what Rows lend.
pub record Told : Type 0 where
  pub outputs : List (List Bool)
  pub makers : List Bool
  pub reasons : List (List Reason)
  pub forced : List Bool
  pub running : List (Option State)

-- by rows, where the jobs have these reasons and these are forced
abbrev pub told_by : Rows → List (List Reason) → List Bool → Told
told_by rows reasons forced =
    record {
      outputs = rows.outputs.now;
      makers = rows.makers.now;
      reasons = reasons;
      forced = forced;
      running = rows.running.now;
    }

-- by rows, where the jobs are judged so
abbrev pub told_at : Judging → Jobs → Rows → Told
told_at at jobs rows = told_by rows (reasons_at at jobs) (forced_at at jobs)

-- what is told of the path of the link
abbrev pub spot_told : List Origin → Told → Option ℕ → Option Spot
spot_told origins rows link = spot_at origins rows.outputs rows.makers link

-- the rank of the first pass
abbrev pub rank_told : List Rank → List Origin → Told → Line → ℕ → Bool → Rank
rank_told ranks origins rows line number used =
    rank_while_running (slice_index_or rows.running number None)
    (if opens_by ranks (spot_told origins rows) line then AtOpen
    else by_rank (dirties_by ranks origins (slice_index_or rows.reasons number []) line) (is_kept_by line.outputs (slice_index_or rows.outputs number []) && not used))

-- it holds of the number, where there is one
abbrev pub OfSome : (ℕ → Type 0) → Option ℕ → Type 0
OfSome ok None = Unit {0}
OfSome ok (Some m) = ok m

-- it holds of the jobs that are told to make what the line has
abbrev pub OfLine : (ℕ → Type 0) → List Origin → Line → Type 0
OfLine ok origins line = Each (λ (i : Input). OfSome ok (maker_at origins i.link)) line.inputs × Each (λ (g : Gathered). OfSome ok (maker_at origins g.link)) line.gathers

-- the rank of the number is that by the ranks before it
abbrev pub IsByEarlier : List Origin → Told → List Bool → List Rank → ℕ → Line → Type 0
IsByEarlier origins rows used ranks n line = slice_get ranks n ≡ Some (rank_told (take n ranks) origins rows line n (slice_index_or used n false))

-- each line has links to earlier jobs alone
abbrev pub AreEarlier : List Line → List Origin → Type 0
AreEarlier lines origins = (n : ℕ) (line : Line) → slice_get lines n ≡ Some line → OfLine (λ m. m < n) origins line

-- the ranks of the first pass: each by those of the others
pub record AreFirst (lines : List Line) (origins : List Origin) (rows : Told) (used : List Bool) (ranks : List Rank) : Type 0 where
  pub each : (n : ℕ) (line : Line) → slice_get lines n ≡ Some line → slice_get ranks n ≡ Some (rank_told ranks origins rows line n (slice_index_or used n false))

-- the job of the number is told to make the path of the link
abbrev pub is_made_by : List Origin → ℕ → Option ℕ → Bool
is_made_by origins job link = is_link job (maker_at origins link)

-- the line has an input or a directory that it gathers from which the job of the number is told to make
abbrev pub reads_of : List Origin → ℕ → Line → Bool
reads_of origins job line =
    list_any (λ (i : Input). is_made_by origins job i.link) line.inputs || list_any (λ (g : Gathered). is_made_by origins job g.link) line.gathers

-- the number is among these
abbrev pub has_number : ℕ → List ℕ → Bool
has_number n numbers = list_any (λ m. m == n) numbers

-- Of all jobs but the one of this number the rows tell the same, but for the reasons of these readers.
pub record AreRowsBut (origins : List Origin) (job : ℕ) (readers : List ℕ) (before now : Told) : Type 0 where
  pub outputs : (n : ℕ) → (n == job) ≡ false → slice_get now.outputs n ≡ slice_get before.outputs n
  pub makers :
      (n : ℕ) (o : Origin) → slice_get origins n ≡ Some o → is_link job o.job ≡ false →
      slice_index_or now.makers n false ≡ slice_index_or before.makers n false
  pub reasons :
      (n : ℕ) → (n == job) ≡ false → has_number n readers ≡ false →
      slice_get now.reasons n ≡ slice_get before.reasons n
  pub forced : (n : ℕ) → (n == job) ≡ false → slice_get now.forced n ≡ slice_get before.forced n
  pub running : (n : ℕ) → (n == job) ≡ false → slice_get now.running n ≡ slice_get before.running n

-- The job of this number, with this line, is another one and no reader; it reads nothing of that job; and whether a child reads of it is as it was.
pub record IsUntouched (origins : List Origin) (job : ℕ) (readers : List ℕ) (was used : List Bool) (n : ℕ) (line : Line) : Type 0 where
  pub other : (n == job) ≡ false
  pub no_reader : has_number n readers ≡ false
  pub unread : reads_of origins job line ≡ false
  pub reading : slice_index_or used n false ≡ slice_index_or was n false

-- for each job the numbers of those that read or gather from what it is told to make, and maybe more
pub record AreWatched (lines : List Line) (origins : List Origin) (watchers : List (List ℕ)) : Type 0 where
  pub each :
      (n : ℕ) (line : Line) (job : ℕ) → job < length lines → slice_get lines n ≡ Some line → reads_of origins job line ≡ true →
      has_number n (slice_index_or watchers job []) ≡ true

-- The number is none of these: that of the job, of its readers and of those that watch it; and whether a child reads of it is as it was.
pub record IsApart (job : ℕ) (readers watchers : List ℕ) (was used : List Bool) (n : ℕ) : Type 0 where
  pub other : (n == job) ≡ false
  pub no_reader : has_number n readers ≡ false
  pub no_watcher : has_number n watchers ≡ false
  pub reading : slice_index_or used n false ≡ slice_index_or was n false

-- the path of the input is a member of a directory
abbrev pub is_member : List Origin → Input → Bool
is_member origins i = test_some (λ (o : Origin). is_some o.over) (origin_at origins i.link)

-- the line gathers from nothing, and none of its inputs is a member of a directory
abbrev pub is_plain : List Origin → Line → Bool
is_plain origins line = not (has_any line.gathers) && not (list_any (is_member origins) line.inputs)

-- After a step of a job that isn't Open the job of the number, another one, is Dirty by these ranks, its line is told to be plain, and the job of an input of it is Dirty.
pub record IsStillDirty (origins : List Origin) (plains : List Bool) (job : ℕ) (ranks : List Rank) (n : ℕ) (line : Line) : Type 0 where
  pub other : (n == job) ≡ false
  pub shut : test_some is_open_rank (slice_get ranks job) ≡ false
  pub dirty : slice_get ranks n ≡ Some AtDirty
  pub plain : slice_index_or plains n false ≡ true
  pub above : list_any (is_upstream ranks origins) line.inputs ≡ true

-- The rank of the job of the number is that by these ranks; or it is still Dirty.
abbrev pub IsToldBy : List Origin → Told → List Bool → List Bool → ℕ → List Rank → ℕ → Line → Type 0
IsToldBy origins rows used plain job ranks n line =
    (slice_get ranks n ≡ Some (rank_told ranks origins rows line n (slice_index_or used n false))) ⊎ IsStillDirty origins plain job ranks n line

-- The ranks have changed at most at the job, and each job that is doubted has the one that it has by them, or is still Dirty.
pub record AreAfter
    (lines : List Line) (origins : List Origin) (rows : Told) (used doubts plain : List Bool) (job : ℕ) (before ranks : List Rank) : Type 0 where
  pub within : job < length lines
  pub each : length ranks ≡ length before
  pub others : (m : ℕ) → (m == job) ≡ false → slice_get ranks m ≡ slice_get before m
  pub told :
      (n : ℕ) (line : Line) → slice_get lines n ≡ Some line → slice_index_or doubts n false ≡ true →
      IsToldBy origins rows used plain job ranks n line

-- ## States by ranks

-- all but the last
abbrev pub but_last : {A : Type 0} → List A → List A
but_last [] = []
but_last (x ∷ []) = []
but_last (x ∷ y ∷ xs) = x ∷ but_last (y ∷ xs)

-- the reasons without Forced, which stands last where the job is forced
abbrev pub alone_in : Bool → List Reason → List Reason
alone_in forced reasons = if forced then but_last reasons else reasons

-- the state by the rank among these: with its own reasons, the inputs whose job is Dirty, and Forced
abbrev pub state_with : List Rank → List Origin → List Input → Option State → Rank → Bool → List Reason → State
state_with ranks origins inputs begun rank forced own =
    state_by begun rank (alone_in forced own ++ (map Upstream (upstream_paths ranks origins inputs) ++ when forced Forced))

-- the state of the job of the number, with this line
abbrev pub state_told : List Origin → Told → List Rank → ℕ → Line → State
state_told origins rows ranks n line =
    state_with ranks origins line.inputs (slice_index_or rows.running n None) (slice_index_or ranks n AtOpen) (slice_index_or rows.forced n false)
    (slice_index_or rows.reasons n [])

-- so of all lines; the first of them has this number
abbrev pub states_from : List Origin → Told → List Rank → ℕ → List Line → List State
states_from origins rows ranks n [] = []
states_from origins rows ranks n (line ∷ lines) = state_told origins rows ranks n line ∷ states_from origins rows ranks (suc n) lines

abbrev pub states_told : List Line → List Origin → Told → List Rank → List State
states_told lines origins rows ranks = states_from origins rows ranks 0 lines
