-- What is told of the jobs of a kept plan.
use Rattle.std.specs.Prelude.{◌≡◌, ℕ, Bool, false, ◌&&◌, not, [], map, slice_index_or}
use Rattle.std.specs.List.{slice_get}
use Rattle.smk_flow.specs.declared.job.Job.{Job}
use Rattle.smk_pick.specs.declared.room.Room.{Room}
use Rattle.smk_pick.specs.Shares.{fits_in}
use Rattle.smk_plan.specs.States.{is_read_now, test_some}
use Rattle.smk_plan_states.specs.declared.ranks.Rank.{Rank}
use Rattle.smk_plan_states.specs.Judged.{Judging, began, with_states}
use Rattle.smk_plan_states.specs.Ranks.{is_to_run_rank}
use Rattle.smk_plan_states.specs.Tables.{IsTableAt}
use Rattle.smk_drive.specs.Lawful.{ask_of}
use Rattle.smk_plan_live.specs.Live.{LivePlan}
use Rattle.smk_plan_live.specs.Phases.{has_begun}
use Rattle.smk_drive_pick.specs.declared.next.Ground.{Ground}
use Rattle.smk_drive_pick.specs.Told.{is_missing, lacks_some}

-- It tells what the kept plan has of its jobs.
pub record IsGroundOf (live : LivePlan) (told : Ground) : Type 0 where
  pub lines : told.lines.now ≡ live.table.lines
  pub phases : told.phases.now ≡ live.base.phases
  pub origins : told.hands.origins.now ≡ live.table.origins
  pub wholes : told.hands.wholes.now ≡ live.flags.makers
  pub ranks : told.hands.ranks.now ≡ live.ranking.last.items
  -- from which jobs the children of others read
  pub used :
      (at : Judging) → IsTableAt at live.base.jobs live.table → live.base.began ≡ began at live.base.jobs →
      told.used.items ≡ map (is_read_now at.image at.settings at.progress (with_states live.base.jobs [])) live.base.jobs.jobs

-- the room has no place left for an ask of so many threads, even one of no amounts
abbrev pub is_full : Room → ℕ → Bool
is_full room threads = not (fits_in room (record { threads = threads; amounts = []; priority = 0 }))

-- something that the job of the number needs isn't at hand
abbrev pub lacks_by : Ground → ℕ → Bool
lacks_by told n = test_some (lacks_some (is_missing told.hands.ranks.now told.hands.origins.now told.hands.wholes.now)) (slice_get told.lines.now n)

-- the job of the number, of this rank, may begin by what is told
abbrev pub is_free_by : Ground → ℕ → Rank → Bool
is_free_by told n r =
    is_to_run_rank r
    && (not (test_some has_begun (slice_get told.phases.now n)) && (not (lacks_by told n) && not (slice_index_or told.used.items n false)))

-- and fits into the room
abbrev pub may_begin_by : Ground → Room → ℕ → Job × Rank → Bool
may_begin_by told room n e = is_free_by told n e.1 && fits_in room (ask_of e.0)
