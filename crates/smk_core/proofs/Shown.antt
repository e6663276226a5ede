-- The laws on courses of a run.
use Rattle.std.proofs.Common.{◌≡◌, ℕ, ◌⊎◌, Bool, true, false, not, ◌&&◌, ◌||◌, length, refl, sym, ap, ◌∙◌, subst, inl, inr, arith}
use Rattle.std.specs.Prelude.{◌==◌}
use Rattle.std.proofs.lemmas.Bool.{eq-eqb, or_right}
use Rattle.std.proofs.lemmas.List.{length-replicate}
use Rattle.smk_pick.specs.Rooms.{are_within}
use Rattle.smk_core.specs.declared.phase.Phase.TheVariants.{Waiting, Running, Failed}
use Rattle.smk_core.specs.Standing.{Standing, stands, is_waiting, is_done, is_failed, befores_of, failed, goes_on}
use Rattle.smk_core.specs.declared.starter.Step.TheVariants.{Start}
use Rattle.smk_core.specs.Course.{Answered, number_after_all}
use Rattle.smk_core.specs.Laws.{BeginsWithin, StaysWithin, StartsOnce, StartsAfter, EndedWell, DoneHasEnded, StopStops, FailureStops, StaysStopped, EachStepLessens, WaitsForSome, FinishedMeansDone}
use Rattle.smk_core.proofs.Machines.{none_running}
use Rattle.smk_core.proofs.Settling.{all_at, is_running_at, stands_new}
use Rattle.smk_core.proofs.Courses.{within_none, course_run, stays_run, may_after, may_goes, may_waits, was_waiting}
use Rattle.smk_core.proofs.Following.{HasBegun, begun_course, now_begun, done_or_ended}
use Rattle.smk_core.proofs.Ending.{off_course, failure_off, less_course, all_done}

pub begins_within : BeginsWithin
begins_within cores bounds keep_going asks befores runnable = record {
  as_many = length-replicate (length asks) Waiting;
  runnable = runnable;
  within = ap (are_within cores bounds) (none_running asks (length asks)) ∙ within_none cores bounds;
}

pub stays_within : StaysWithin
stays_within s t hs r c = course_run hs s t r c

pub starts_once : StartsOnce
starts_once s t u v j k hs r (may, e) c (again, d) same =
    let begun : HasBegun t.phases j = subst (λ (x : Standing). HasBegun x.phases j) (sym e) (now_begun s.phases j Waiting Running (was_waiting s j may) refl) in
    let later : HasBegun u.phases (number_after_all hs j) = begun_course hs t u j (stays_run (Answered (Start j)) s t r (may, e)) c begun in
    let waits : stands is_waiting u.phases (number_after_all hs j) ≡ true = subst (λ (n : ℕ). stands is_waiting u.phases n ≡ true) same (may_waits u k again) in
    let gone : stands is_waiting u.phases (number_after_all hs j) ≡ false = later.begun in
    cc

pub starts_after : StartsAfter
starts_after s t j i (may, e) before = all_at (stands is_done s.phases) (befores_of s.befores j) i before (may_after s j may)

pub done_has_ended : DoneHasEnded
done_has_ended s t hs k r none c d = go (done_or_ended hs s t k c d)
  where
    go : ((j : ℕ) × (stands is_done s.phases j ≡ true) × (number_after_all hs j ≡ k)) ⊎ EndedWell hs k → EndedWell hs k
    go (inl (j, yes_done, n)) = let no_done : stands is_done s.phases j ≡ false = none j in cc
    go (inr w) = w

pub stop_stops : StopStops
stop_stops s = refl

pub failure_stops : FailureStops
failure_stops s t j keep (runs, e) = ap goes_on e ∙ failure_off s j keep runs (stands_new s.phases j Running Failed (is_running_at s.phases j runs) is_failed)

pub stays_stopped : StaysStopped
stays_stopped s t u hs j r off c (may, e) =
    let on : goes_on t ≡ true = may_goes t j may in
    let still : goes_on t ≡ false = off_course hs s t r off c in
    cc

pub each_step_lessens : EachStepLessens
each_step_lessens s t hs r no_plan c = less_course hs s t r no_plan c

pub waits_for_some : WaitsForSome
waits_for_some s t idle (none, some, e) = omega arith

pub finished_means_done : FinishedMeansDone
finished_means_done s t j r stopped fine (none, idle, e) lt = all_done s r on idle fine none j lt
  where
    on : goes_on s ≡ true
    on = ap (λ (b : Bool). not b && (s.keep_going || failed s == 0)) stopped ∙ or_right s.keep_going (failed s == 0) (eq-eqb (failed s) 0 fine)
