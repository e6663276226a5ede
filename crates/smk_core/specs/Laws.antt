-- What holds of each course of a run.
use Rattle.std.specs.Prelude.{◌≡◌, ◌≢◌, ℕ, ◌+◌, ◌*◌, ◌<◌, Bool, true, false, ◌||◌, List, [], ◌∷◌, ◌++◌, length}
use Rattle.std.specs.List.{count_by}
use Rattle.smk_base.specs.declared.tree.Amount.{Amount}
use Rattle.smk_pick.specs.declared.room.Ask.{Ask}
use Rattle.smk_pick.specs.Rooms.{are_within}
use Rattle.smk_core.specs.declared.starter.Step.TheVariants.{Start, Wait, Finished}
use Rattle.smk_core.specs.Indices.{has}
use Rattle.smk_core.specs.Standing.{Standing, IsRunnable, stands, is_waiting, is_running, is_done, befores_of, asks_running, running, failed, goes_on, stopped_now, Answers, begun}
use Rattle.smk_core.specs.Course.{Happening, Answered, Ended, Stopped, Replanned, Happens, Course, number_after_all}

-- There is a phase for each job; the jobs can be run; and those that run keep within the bounds together.
pub record IsRun (s : Standing) : Type 0 where
  pub as_many : length s.phases ≡ length s.asks
  pub runnable : IsRunnable s.cores s.bounds s.asks s.befores
  pub within : are_within s.cores s.bounds (asks_running s.asks s.phases) ≡ true

-- ## The room is never overfull

abbrev pub BeginsWithin : Type 0
BeginsWithin =
    (cores : ℕ) (bounds : List Amount) (keep_going : Bool) (asks : List Ask) (befores : List (List ℕ)) →
    IsRunnable cores bounds asks befores → IsRun (begun cores bounds keep_going asks befores)

abbrev pub StaysWithin : Type 0
StaysWithin = (s t : Standing) (hs : List Happening) → IsRun s → Course s hs t → IsRun t

-- ## Each job is started at most once

abbrev pub StartsOnce : Type 0
StartsOnce =
    (s t u v : Standing) (j k : ℕ) (hs : List Happening) →
    IsRun s → Happens s (Answered (Start j)) t → Course t hs u → Happens u (Answered (Start k)) v → k ≢ number_after_all hs j

-- ## A job is started after all that come before it have ended well

abbrev pub StartsAfter : Type 0
StartsAfter = (s t : Standing) (j i : ℕ) → Happens s (Answered (Start j)) t → has (befores_of s.befores j) i ≡ true → stands is_done s.phases i ≡ true

-- the job that has this number after all that happened has ended well among it
abbrev pub EndedWell : List Happening → ℕ → Type 0
EndedWell hs k = (before : List Happening) × (j : ℕ) × (after : List Happening) × (hs ≡ before ++ Ended j true ∷ after) × (number_after_all after j ≡ k)

abbrev pub DoneHasEnded : Type 0
DoneHasEnded =
    (s t : Standing) (hs : List Happening) (k : ℕ) →
    IsRun s → ((j : ℕ) → stands is_done s.phases j ≡ false) → Course s hs t → stands is_done t.phases k ≡ true → EndedWell hs k

-- ## After a stop, or a failed job where it doesn't go on, nothing is started

abbrev pub StopStops : Type 0
StopStops = (s : Standing) → goes_on (stopped_now s) ≡ false

abbrev pub FailureStops : Type 0
FailureStops = (s t : Standing) (j : ℕ) → s.keep_going ≡ false → Happens s (Ended j false) t → goes_on t ≡ false

abbrev pub StaysStopped : Type 0
StaysStopped = (s t u : Standing) (hs : List Happening) (j : ℕ) → IsRun s → goes_on s ≡ false → Course s hs t → Happens t (Answered (Start j)) u → ⊥

-- ## It ends

-- how many starts and endings may still come
abbrev pub left : Standing → ℕ
left s = 2 * count_by is_waiting s.phases + count_by is_running s.phases

abbrev pub moves_of : Happening → ℕ
moves_of (Answered (Start j)) = 1
moves_of (Answered Wait) = 0
moves_of (Answered Finished) = 0
moves_of (Ended j good) = 1
moves_of Stopped = 0
moves_of (Replanned asks befores moved) = 0

-- how many starts and endings there were
abbrev pub moves_in : List Happening → ℕ
moves_in [] = 0
moves_in (h ∷ hs) = moves_of h + moves_in hs

abbrev pub is_replan : Happening → Bool
is_replan (Answered step) = false
is_replan (Ended j good) = false
is_replan Stopped = false
is_replan (Replanned asks befores moved) = true

abbrev pub has_replan : List Happening → Bool
has_replan [] = false
has_replan (h ∷ hs) = is_replan h || has_replan hs

abbrev pub EachStepLessens : Type 0
EachStepLessens = (s t : Standing) (hs : List Happening) → IsRun s → has_replan hs ≡ false → Course s hs t → moves_in hs + left t ≡ left s

-- where nothing runs there is nothing to wait for
abbrev pub WaitsForSome : Type 0
WaitsForSome = (s t : Standing) → running s ≡ 0 → Answers s Wait t → ⊥

-- a run in which no job failed, and that wasn't stopped, is over once all are done
abbrev pub FinishedMeansDone : Type 0
FinishedMeansDone = (s t : Standing) (j : ℕ) → IsRun s → s.stopped ≡ false → failed s ≡ 0 → Answers s Finished t → j < length s.asks → stands is_done s.phases j ≡ true
