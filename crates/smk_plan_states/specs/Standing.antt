-- What is kept of the ranks of jobs between two steps, by numbers alone.
use Rattle.std.specs.Prelude.{◌≡◌, ◌<◌, ℕ, Bool, false, List, Option, Some, None, map, zip, length, slice_index_or}
use Rattle.std.specs.List.{list_any}
use Rattle.smk_trigger.specs.declared.reason.State.{State}
use Rattle.smk_plan_states.specs.declared.ranks.Rank.{Rank}
use Rattle.smk_plan_states.specs.declared.lines.Line.{Line}
use Rattle.smk_plan_states.specs.declared.lines.Origin.{Origin}
use Rattle.smk_plan_states.specs.declared.standing.Last.{Last}
use Rattle.smk_plan_states.specs.declared.standing.Ranking.{Ranking}
use Rattle.smk_plan_states.specs.declared.table.Table.{Table}
use Rattle.smk_plan_states.specs.Ranking.{is_lacking, is_read_by_child, lacking_at}
use Rattle.smk_trigger.specs.declared.reason.Reason.{Reason}
use Rattle.smk_plan_states.specs.declared.rows.Rows.{Rows}
use Rattle.smk_plan_states.specs.Rows.{FitOwn}
use Rattle.smk_plan_states.specs.Stays.{Told, told_by, AreAfter, AreFirst, AreRowsBut, is_plain, states_told}

-- The ranks of the first pass are told by themselves, and it is told from which jobs the children of others read; where none that is Clean lacks an output, the
-- last ranks are those. It is told too which lines are plain.
pub record IsStanding (lines : List Line) (origins : List Origin) (rows : Told) (r : Ranking) : Type 0 where
  pub each_rank : length r.first.items ≡ length lines
  pub each_last : length r.last.items ≡ length lines
  pub each_used : length r.used.items ≡ length lines
  pub reading : (n : ℕ) → n < length lines → slice_index_or r.used.items n false ≡ is_read_by_child lines origins rows.running n
  pub ranks : AreFirst lines origins rows r.used.items r.first.items
  pub whole : r.lacking ≡ false → list_any is_lacking (zip r.first.items rows.outputs) ≡ false
  pub last : r.lacking ≡ false → r.last.items ≡ r.first.items
  pub plain : r.plain.items ≡ map (is_plain origins) lines

-- The ranks have gone on by a step of the job: none has changed but maybe that of the job, and if it is Clean it lacks no output.
pub record HasGone
    (lines : List Line) (origins : List Origin) (rows : Rows) (used doubts plain : List Bool) (job : ℕ) (ranks now : List Rank) : Type 0 where
  pub after :
      (reasons : List (List Reason)) (forced : List Bool) → FitOwn rows.own.now reasons →
      AreAfter lines origins (told_by rows reasons forced) used doubts plain job ranks now
  pub within : job < length lines
  pub whole : lacking_at now rows.outputs.now job ≡ false
  pub each : length now ≡ length lines

-- What is told now came by a step from what was told when the ranks were kept: all but the job's and its readers' rows are as they were.
abbrev pub Follows : List Line → List Origin → Option Last → Told → Type 0
Follows lines origins None now = Unit {0}
Follows lines origins (Some l) now =
    (before : Told) × IsStanding lines origins before l.ranking.now × AreRowsBut origins l.job l.readers.now before now

-- The same by the table of the jobs.
abbrev pub StandsBy : Table → Told → Ranking → Type 0
StandsBy table rows ranking = IsStanding table.lines table.origins rows ranking

abbrev pub FollowsBy : Table → Option Last → Told → Type 0
FollowsBy table last now = Follows table.lines table.origins last now

-- the states of the jobs by what is told of them and their ranks
abbrev pub states_by : Table → Told → Ranking → List State
states_by table rows ranking = states_told table.lines table.origins rows ranking.last.items
