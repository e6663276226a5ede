-- What is known of a path by its link.
use Rattle.std.specs.Prelude.{ℕ, Bool, false, ◌&&◌, List, Option, option_map, slice_index_or}
use Rattle.std.specs.List.{slice_get}
use Rattle.std.specs.Option.{option_and_then}
use Rattle.smk_plan.specs.States.{test_some}
use Rattle.smk_plan_states.specs.declared.lines.Origin.{Origin}
use Rattle.smk_plan_states.specs.declared.rows.Rows.{Rows}
use Rattle.smk_plan_states.specs.declared.spots.Spot.{Spot}
use Rattle.smk_plan_states.specs.declared.ranks.Rank.{Rank}
use Rattle.smk_plan_states.specs.Ranks.{is_clean_rank, rank_at}
use Rattle.smk_plan_states.specs.Rows.{lent}

-- what makes the path of the link
abbrev pub origin_at : List Origin → Option ℕ → Option Origin
origin_at origins link = option_and_then (slice_get origins) link

-- the number of the job that does
abbrev pub maker_at : List Origin → Option ℕ → Option ℕ
maker_at origins link = option_and_then (λ (o : Origin). o.job) (origin_at origins link)

-- whether the directory over the path is whole, by the flags of the outputs of each job
abbrev pub over_flag : List (List Bool) → Origin → Option Bool
over_flag outputs o =
    option_and_then (λ place. option_and_then (λ (flags : List Bool). slice_get flags place) (option_and_then (slice_get outputs) o.job)) o.over

abbrev pub spot_of : List (List Bool) → Bool → Origin → Spot
spot_of outputs whole o = record { job = o.job; whole = whole; over = over_flag outputs o }

abbrev pub spot_at : List Origin → List (List Bool) → List Bool → Option ℕ → Option Spot
spot_at origins outputs makers link =
    option_and_then (λ n. option_map (spot_of outputs (slice_index_or makers n false)) (slice_get origins n)) link

-- the same by what is lent
abbrev pub spot_in : List Origin → Rows → Option ℕ → Option Spot
spot_in origins rows link = spot_at origins rows.outputs.now rows.makers.now link

-- ## What is ready by ranks

-- a job makes it that is Clean, and it is whole
abbrev pub is_ready_spot : List Rank → Spot → Bool
is_ready_spot ranks s = test_some is_clean_rank (rank_at ranks s.job) && s.whole

-- the same of the directory over it
abbrev pub is_over_ready : List Rank → Spot → Bool
is_over_ready ranks s = test_some (λ w. test_some is_clean_rank (rank_at ranks s.job) && w) s.over
