-- Where no job begins.
use Rattle.std.proofs.Common.{◌≡◌, ◌≢◌, ◌⊎◌, inl, inr, ◌<◌, ℕ, Bool, true, false, ◌||◌, not, List, [], ◌∷◌, map, filter, length, arith, refl, sym, ap, subst, ◌∙◌, nat_eq, Option, Some, None, true≢false}
use Rattle.std.specs.Prelude.{option_map}
use Rattle.std.specs.List.Sorted.{IsPermutation}
use Rattle.std.proofs.lemmas.List.Sorted.{sum_by-IsPermutation}
use Rattle.smk_base.specs.declared.tree.Amount.{Amount}
use Rattle.smk_world.specs.declared.event.Event.{Event}
use Rattle.smk_world.specs.World.{World}
use Rattle.smk_flow.specs.declared.job.Job.{Job}
use Rattle.smk_trigger.specs.declared.reason.State.{State}
use Rattle.smk_pick.specs.declared.room.Ask.{Ask}
use Rattle.smk_pick.specs.declared.room.Room.{Room}
use Rattle.smk_pick.specs.declared.settings.Settings.{Settings}
use Rattle.smk_pick.specs.Rooms.{amount, threads_in}
use Rattle.smk_pick.specs.Shares.{Holds}
use Rattle.smk_plan_live.specs.Lives.{IsAgreed}
use Rattle.smk_drive.specs.Moments.{Begun, Moment, Rules, seen}
use Rattle.smk_drive.specs.Lawful.{ask_of, goes_on, running_jobs}
use Rattle.smk_drive_course.specs.Lawful.{may_start}
use Rattle.smk_drive_pick.specs.Picking.{may_begin, plan_of, wrapped}
use Rattle.smk_drive_course.specs.Reports.{is_started}
use Rattle.smk_drive_course.specs.Stands.{NoneLeft, Stand, moment_of}
use Rattle.smk_drive_course.specs.Steps.{Closed, Deed, Started}
use Rattle.smk_laws_moments.specs.Courses.{started_jobs}
use Rattle.smk_laws_begins.specs.Picked.{judging_at}
use Rattle.smk_laws_begins.proofs.Judged.{judged_as_kept}
use Rattle.smk_laws_begins.proofs.PickedOf.{may_start_as_kept}
use Rattle.smk_laws_turns.specs.Hubs.{IsAt, IsKept, Parts}
use Rattle.smk_laws_begins.specs.Standing.{HasNoNext, IsHalted, IsIdle, IsOver, IsStopped, OverHasNoneLeft, OverMaySpend, StartedMaySpend, may_go_on}
use Rattle.smk_laws_begins.proofs.Firsts.{none_first}

-- what a room holds is told in whatever order
holds_moved :
    (cores : ℕ) (bounds : List Amount) (room : Room) (asks more : List Ask) → IsPermutation asks more → Holds cores bounds room asks → Holds cores bounds room more
holds_moved cores bounds room asks more moved h =
    record {
      cores_are = h.cores_are;
      threads_are = h.threads_are ∙ sym (sum_by-IsPermutation (λ (a : Ask). threads_in cores a.threads) asks more moved);
      shares_are =
          h.shares_are
          ∙ (λ i.
          map
          (λ (b : Amount). record { bound = b; used = sym (sum_by-IsPermutation (λ (a : Ask). amount a.amounts b.name) asks more moved) i }) bounds);
    }

not_twice : (b : Bool) → not (not b) ≡ b
not_twice true = refl
not_twice false = refl

unwrapped : (o : Option (Job × State)) → None ≡ option_map wrapped o → o ≡ None
unwrapped None e = refl
unwrapped (Some e) none = cc

module _ (rules : Rules) (entry : World) (h : Parts) (s : Stand) (w : World) (before : List Event) (deeds : List Deed)
    (at : IsAt rules entry h s w before deeds) (unhalted : s.halted ≡ None) where
  kept : IsKept rules entry h s w before
  kept = at.kept unhalted

  abbrev m : Moment
  m = moment_of s w before

  abbrev asks : List Ask
  asks = map ask_of (running_jobs m)

  -- no job is next
  none_starts : HasNoNext h → may_start rules m ≡ []
  none_starts none =
      let agrees : IsAgreed (seen rules w) h.live.settings h.live.base =
      subst (λ (x : Settings). IsAgreed (seen rules w) x h.live.base) (sym at.settings) kept.agrees in
      let told = (judged_as_kept rules m h.live none.wholes at.live at.settings kept.progressed agrees none.whole).0 in
      let is =
      none.next (judging_at rules m) rules.settings.cores rules.settings.bounds asks told
      (holds_moved rules.settings.cores rules.settings.bounds h.room _ asks kept.asks kept.room) in
      may_start_as_kept rules m h.live kept.plan
      ∙ none_first (may_begin (judging_at rules m) (plan_of h.live) rules.settings.cores rules.settings.bounds asks) (unwrapped _ is)

  -- jobs begin by the moment as far as what is kept says so
  goes_as_kept : goes_on rules m ≡ may_go_on rules.settings h
  goes_as_kept =
      ap (λ b. not b || rules.settings.keep_going) kept.failing ∙ ap (λ b. b || rules.settings.keep_going) (not_twice (nat_eq h.tally.failed 0))

  none_left : IsOver rules.settings h → NoneLeft rules s w before
  none_left (IsHalted came) = absurd (came (at.halted ∙ unhalted))
  none_left (IsStopped stopped) = λ on. absurd (true≢false (sym on ∙ goes_as_kept ∙ stopped))
  none_left (IsIdle none) = λ on. none_starts none

  over_spends : IsOver rules.settings h → may_go_on rules.settings h ≡ true → (s.begun ≢ []) ⊎ (may_start rules m ≡ [])
  over_spends (IsHalted came) on = absurd (came (at.halted ∙ unhalted))
  over_spends (IsStopped stopped) on = absurd (true≢false (sym on ∙ stopped))
  over_spends (IsIdle none) on = inr (none_starts none)

pub over_has_none_left : OverHasNoneLeft
over_has_none_left flow settings h w over =
    λ rules entry s before deeds by at unhalted.
    none_left rules entry h s w before deeds at unhalted (subst (λ x. IsOver x h) (sym by.settings_are) over)

pub over_may_spend : OverMaySpend
over_may_spend flow settings h w over on =
    λ rules entry s before deeds by at unhalted.
    over_spends rules entry h s w before deeds at unhalted (subst (λ x. IsOver x h) (sym by.settings_are) over)
    (subst (λ x. may_go_on x h ≡ true) (sym by.settings_are) on)

-- ## Once a job was started

not_empty : {A : Type 0} (x : A) (xs : List A) → x ∷ xs ≡ [] → ⊥
not_empty x xs e = cc

started_some : (deeds : List Deed) → 0 < length (filter is_started deeds) → started_jobs deeds ≡ [] → ⊥
started_some [] some none = omega (arith, some)
started_some (Started j ∷ deeds) some none = not_empty j (started_jobs deeds) none
started_some (Closed j e ∷ deeds) some none = started_some deeds some none

pub started_may_spend : StartedMaySpend
started_may_spend flow settings h w some =
    λ rules entry s before deeds by at unhalted.
    inl (λ none. started_some deeds (subst (λ n. 0 < n) (at.counted unhalted).started some) (sym at.starts ∙ ap (map (λ (b : Begun). b.job)) none))
