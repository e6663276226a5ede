-- The ranks of jobs, by links, flags and the ranks of other jobs.
use Rattle.std.specs.Prelude.{ℕ, Bool, false, ◌==◌, ◌&&◌, ◌||◌, not, List, [], map, filter, zip, Option, Some, None, is_none, is_some, if◌then◌else◌, slice_index_or}
use Rattle.std.specs.List.{list_any, slice_get}
use Rattle.smk_world.specs.Trees.{Path}
use Rattle.smk_trigger.specs.declared.reason.Reason.{Reason}
use Rattle.smk_trigger.specs.declared.reason.State.{State}
use Rattle.smk_plan.specs.States.{test_some}
use Rattle.smk_plan_states.specs.declared.lines.Awaited.{Awaited}
use Rattle.smk_plan_states.specs.declared.lines.Gathered.{Gathered}
use Rattle.smk_plan_states.specs.declared.lines.Input.{Input}
use Rattle.smk_plan_states.specs.declared.lines.Line.{Line}
use Rattle.smk_plan_states.specs.declared.lines.Origin.{Origin}
use Rattle.smk_plan_states.specs.declared.lines.Output.{Output}
use Rattle.smk_plan_states.specs.declared.ranks.Rank.{Rank}
use Rattle.smk_plan_states.specs.declared.ranks.Rank.TheVariants.{Open as AtOpen}
use Rattle.smk_plan_states.specs.declared.rows.Rows.{Rows}
use Rattle.smk_plan_states.specs.declared.spots.Spot.{Spot}
use Rattle.smk_plan_states.specs.Ranks.{rank_at, by_rank, is_open_rank, is_dirty_rank, is_clean_rank, is_to_run_rank, rank_while_running, unless_needed_rank}
use Rattle.smk_plan_states.specs.Rows.{has_any}
use Rattle.smk_plan_states.specs.Spots.{maker_at, spot_in, is_ready_spot, is_over_ready}

-- ## Open

-- it is a member of a directory that isn't whole, or whose job isn't Clean
abbrev pub over_opens_by : List Rank → Spot → Bool
over_opens_by ranks s = test_some (λ w. not (test_some is_clean_rank (rank_at ranks s.job) && w)) s.over

-- what reads it is Open
abbrev pub reading_opens_by : List Rank → Spot → Bool
reading_opens_by ranks s = test_some is_open_rank (rank_at ranks s.job) || over_opens_by ranks s

-- what gathers from it is Open; its files are known or not
abbrev pub gathering_opens_by : List Rank → Bool → Spot → Bool
gathering_opens_by ranks listed s =
    over_opens_by ranks s
    || (is_some (rank_at ranks s.job) && (not (test_some is_clean_rank (rank_at ranks s.job) && s.whole) || not listed))

abbrev pub input_opens : List Rank → (Option ℕ → Option Spot) → Input → Bool
input_opens ranks spots i = test_some (reading_opens_by ranks) (spots i.link)

abbrev pub gathered_opens : List Rank → (Option ℕ → Option Spot) → Gathered → Bool
gathered_opens ranks spots g = test_some (gathering_opens_by ranks g.listed) (spots g.link)

abbrev pub opens_by : List Rank → (Option ℕ → Option Spot) → Line → Bool
opens_by ranks spots line = list_any (input_opens ranks spots) line.inputs || list_any (gathered_opens ranks spots) line.gathers

-- ## Dirty

-- its job is Dirty, and no earlier input has the path
abbrev pub is_upstream : List Rank → List Origin → Input → Bool
is_upstream ranks origins i = not i.again && test_some is_dirty_rank (rank_at ranks (maker_at origins i.link))

abbrev pub dirties_by : List Rank → List Origin → List Reason → Line → Bool
dirties_by ranks origins own line = has_any own || list_any (is_upstream ranks origins) line.inputs

-- the paths of the inputs that pass
abbrev pub upstream_paths : List Rank → List Origin → List Input → List Path
upstream_paths ranks origins inputs = map (λ (i : Input). i.path) (filter (is_upstream ranks origins) inputs)

-- ## Restore

-- it passes, and isn't whole
abbrev pub is_gone_with : (Output → Bool) → Output × Bool → Bool
is_gone_with test e = test e.0 && not e.1

abbrev pub any_gone : (Output → Bool) → List Output → List Bool → Bool
any_gone test outputs flags = list_any (is_gone_with test) (zip outputs flags)

-- some output that isn't whole is wanted back, whatever jobs run
abbrev pub is_kept_by : List Output → List Bool → Bool
is_kept_by outputs flags = any_gone (λ (o : Output). o.wanted) outputs flags

-- the path of the link is needed
abbrev pub is_needed_at : List Bool → Option ℕ → Bool
is_needed_at needed link = test_some (λ n. slice_index_or needed n false) link

abbrev pub is_needed_output : List Bool → Output → Bool
is_needed_output needed o = is_needed_at needed o.link

-- some output that isn't whole is needed
abbrev pub is_needed_by_flags : List Bool → List Output → List Bool → Bool
is_needed_by_flags needed outputs flags = any_gone (is_needed_output needed) outputs flags

-- this is the link
abbrev pub is_link : ℕ → Option ℕ → Bool
is_link n link = test_some (λ m. m == n) link

-- the input has the link
abbrev pub has_link : ℕ → Input → Bool
has_link n i = is_link n i.link

-- an output isn't whole
abbrev pub lacks : List Bool → Bool
lacks flags = list_any not flags

-- the job is Clean, and an output of it isn't whole
abbrev pub is_lacking : Rank × List Bool → Bool
is_lacking e = is_clean_rank e.0 && lacks e.1

-- the job of the number is Clean, and an output of it isn't whole
abbrev pub lacking_if : Option Rank → Option (List Bool) → Bool
lacking_if None flags = false
lacking_if (Some rank) None = false
lacking_if (Some rank) (Some flags) = is_clean_rank rank && lacks flags

abbrev pub lacking_at : List Rank → List (List Bool) → ℕ → Bool
lacking_at ranks outputs n = lacking_if (slice_get ranks n) (slice_get outputs n)

-- ## The passes

-- the rank by the table, where what only jobs that are to run want back doesn't count
abbrev pub table_rank : List Rank → List Origin → Rows → List (List Reason) → Line → ℕ → Bool → Rank
table_rank ranks origins rows reasons line number used =
    if opens_by ranks (spot_in origins rows) line then AtOpen
    else by_rank (dirties_by ranks origins (slice_index_or reasons number []) line) (is_kept_by line.outputs (slice_index_or rows.outputs.now number []) && not used)

-- the same, but for a job whose child runs
abbrev pub first_rank : List Rank → List Origin → Rows → List (List Reason) → Line → ℕ → Bool → Rank
first_rank ranks origins rows reasons line number used =
    rank_while_running (slice_index_or rows.running.now number None) (table_rank ranks origins rows reasons line number used)

-- the last rank from the first
abbrev pub last_rank : List Bool → Rows → Line → ℕ → Bool → Rank → Rank
last_rank needed rows line number used first =
    unless_needed_rank (is_needed_by_flags needed line.outputs (slice_index_or rows.outputs.now number []) && not used) first

-- ## What children read

-- another job, of this number, makes the input
abbrev pub is_made_by_other : List Origin → ℕ → Input → Bool
is_made_by_other origins n i = i.other && is_link n (maker_at origins i.link)

-- the child of the job runs, which reads what another one, of this number, makes
abbrev pub is_reader_of : List Origin → ℕ → Line × Option State → Bool
is_reader_of origins n e = is_some e.1 && list_any (is_made_by_other origins n) e.0.inputs

abbrev pub is_read_by_child : List Line → List Origin → List (Option State) → ℕ → Bool
is_read_by_child lines origins running n = list_any (is_reader_of origins n) (zip lines running)

-- ## What is held back

-- the job is to run, and reads the path of the link
abbrev pub is_run_reader : ℕ → Line × Rank → Bool
is_run_reader n e = is_to_run_rank e.1 && list_any (has_link n) e.0.inputs

-- a job that is to run does
abbrev pub is_needed_in : List Line → List Rank → ℕ → Bool
is_needed_in lines ranks n = list_any (is_run_reader n) (zip lines ranks)

-- A job whose child doesn't run counts as Clean; a child reads what it made, and an output that isn't whole is wanted back.
abbrev pub is_held_by : List Bool → Line × (Rank × (Option State × (Bool × List Bool))) → Bool
is_held_by needed e =
    (is_none e.1.1.0 && is_clean_rank e.1.0) && (e.1.1.1.0 && (is_needed_by_flags needed e.0.outputs e.1.1.1.1 || is_kept_by e.0.outputs e.1.1.1.1))

-- the job counts as Clean, a child reads what it made, and an output of it isn't whole
abbrev pub is_lent_lacking : Rank × (Bool × List Bool) → Bool
is_lent_lacking e = is_clean_rank e.0 && (e.1.0 && lacks e.1.1)

-- ## What is ready

-- the directory is ready, and has no listing
abbrev pub is_new_awaited : List Rank → (Option ℕ → Option Spot) → Awaited → Bool
is_new_awaited ranks spots a =
    (if a.over then test_some (is_over_ready ranks) (spots a.link) else test_some (is_ready_spot ranks) (spots a.link)) && not a.listed
