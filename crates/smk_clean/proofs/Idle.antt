-- The steps of a run in which nothing runs and no job is to run.
use Rattle.std.proofs.Common.{◌≡◌, inl, inr, Bool, true, false, ◌&&◌, List, [], ◌∷◌, ◌++◌, filter, flat_map, zip, refl, sym, ap, subst, ◌∙◌, Option, Some, None, Result, Ok, Err, true≢false}
use Rattle.std.specs.List.{list_all, list_any}
use Rattle.std.specs.Prelude.{nat_le}
use Rattle.smk_world.specs.declared.event.Ended.{Ended}
use Rattle.smk_world.specs.declared.event.Event.{Event}
use Rattle.smk_world.specs.World.{World, IsFormed, after, run}
use Rattle.smk_world.specs.Requests.{HasDone}
use Rattle.smk_world.specs.Requests.Request.{Remove}
use Rattle.smk_world.specs.Runs.{Follows}
use Rattle.smk_world.specs.Trees.{Act, IsIn, Path}
use Rattle.smk_world.proofs.Names.{formed_after, formed_run}
use Rattle.smk_flow.specs.declared.job.Job.{Job}
use Rattle.smk_trigger.specs.declared.reason.State.{State}
use Rattle.smk_trigger.specs.declared.reason.State.TheVariants.{Clean}
use Rattle.smk_trigger.specs.JobStates.{is_to_run}
use Rattle.smk_plan.specs.States.{LastPlan, Plan, is_spent, none_or_one, nothing_done, staged}
use Rattle.smk_laws_plan.proofs.CurrentLists.{and_left, any_in, filter_in, find_in, flat_in, zip_in}
use Rattle.smk_laws_plan.proofs.PlanOne.{one_last_plan}
use Rattle.smk_laws_history.proofs.CurrentComplete.{seen_is_complete}
use Rattle.smk_keep.specs.declared.fault.KeepFault.{KeepFault}
use Rattle.smk_keep.specs.declared.fault.KeepFault.TheVariants.{Device, OutOfMemory}
use Rattle.smk_job.specs.Jobs.{Underway}
use Rattle.smk_run.proofs.Calls.{EachCall}
use Rattle.smk_drive.specs.Moments.{Rules, is_spent_now, progress_of, seen}
use Rattle.smk_drive.specs.Lawful.{fit_together, running_jobs}
use Rattle.smk_drive_course.specs.Lawful.{is_free_to_start, may_start}
use Rattle.smk_drive_course.specs.Stands.{AtRest, Between, GoesBy, GoesOn, IsClear, IsPlanned, IsRefused, IsReplanned, LacksMemory, Stand, WasHalted, lists, moment_of}
use Rattle.smk_drive_course.specs.Steps.{AreRemoved, Deed, GoesByAnswer, IsNext, IsWaitFor, NoMore, OneMore}
use Rattle.smk_drive_course.specs.Breaks.{Begins, BeginsNot, BreaksOff, Closes, Done, FailsToWait, Halts, Leaves, ReadsNot, Spends, SpendsNot, Step, Steps, Then, Waits}
use Rattle.smk_laws_moments.proofs.ChildrenOf.{spending_quiet, unspent_quiet}
use Rattle.smk_laws_moments.proofs.QuietCalls.{IsQuiet, calls_more, looks_quiet}
use Rattle.smk_laws_turns.proofs.FolderClosing.{follows_split}
use Rattle.smk_clean.specs.NothingStarts.{AllAreClean}
use Rattle.smk_clean.proofs.Removing.{spent_keeps_plan}

-- Nothing has begun or runs at the stand, and each job of the plan in force is Clean.
pub record IsIdle (s : Stand) : Type 0 where
  pub runs : s.runs ≡ []
  pub begun : s.begun ≡ []
  pub clean : (plan : Plan) → s.plan ≡ Some plan → AllAreClean plan

-- so it is where the stand differs in what came of calls alone
pub idle_as : (s t : Stand) → t.runs ≡ s.runs → t.begun ≡ s.begun → t.plan ≡ s.plan → IsIdle s → IsIdle t
idle_as s t runs begun plan idle =
    record { runs = runs ∙ idle.runs; begun = begun ∙ idle.begun; clean = λ p is. idle.clean p (sym plan ∙ is) }

rests : (s : State) → s ≡ Clean → is_to_run s ≡ false
rests s h = ap is_to_run h

none_some : {A : Type 0} (x : A) → None ≡ Some x → ⊥
none_some x h = cc

module _ (rules : Rules) (entry : World) where
  -- nothing is to start
  module _ (s : Stand) (w : World) (before : List Event) (e : Job × State) (idle : IsIdle s) where
    abbrev passes : Plan → Job × State → Bool
    passes plan k =
        is_free_to_start rules (moment_of s w before) plan k && fit_together rules (k.0 ∷ running_jobs (moment_of s w before))

    abbrev passing : Plan → List (Job × State)
    passing plan = filter (passes plan) (staged plan)

    none_passes : (plan : Plan) → s.plan ≡ Some plan → IsIn (passing plan) e → ⊥
    none_passes plan is h =
        let f = filter_in (passes plan) (staged plan) e h in
        let state = (zip_in (λ (j : Job). Clean) plan.jobs e (subst (λ (ss : List State). IsIn (zip plan.jobs ss) e) (idle.clean plan is) f.0)).1 in
        true≢false (sym (and_left (is_to_run e.1) _ (and_left _ _ (and_left (is_free_to_start rules (moment_of s w before) plan e) _ f.1))) ∙ rests e.1 state)

    none_may : (plan : Option Plan) → s.plan ≡ plan → IsIn (flat_map passing (none_or_one plan)) e → ⊥
    none_may None is h = h
    none_may (Some plan) is h = let f = flat_in passing (plan ∷ []) e h in one f.0 f.1 f.2
      where
        one : (p : Plan) → IsIn (plan ∷ []) p → IsIn (passing p) e → ⊥
        one p (inl same) i = none_passes p (is ∙ ap (λ x. Some x) (sym same)) i
        one p (inr never) i = never

    none_next : {T : Type 0} → IsNext rules s w before e → T
    none_next next =
        let all = may_start rules (moment_of s w before) in
        absurd (none_may s.plan refl
        (find_in (λ (k : Job × State). list_all (λ (x : Job × State). nat_le x.0.priority k.0.priority) all) all e next.first).0)

  none_waited : {T : Type 0} (s : Stand) (going : Underway) (ended : Ended) → IsIdle s → IsWaitFor going ended s → T
  none_waited s going ended idle waited = absurd (subst (λ rs. IsIn rs going) idle.runs waited.ran)

  -- ## A removal

  -- the last plan of a chain from what the plan in force was derived with is that plan
  module _ (act : Act) (s : Stand) (w : World) (before : List Event) (p : Path) (e : Event) (idle : IsIdle s) (formed : IsFormed w)
      (clear : IsClear rules s w before) (spent : is_spent_now rules (moment_of s w before) p ≡ true) (done : HasDone (Remove p ∷ []) (e ∷ []))
      (follows : Follows act w (e ∷ [])) where
    abbrev v : World
    v = after w e

    still_clean :
        (plan new : Plan) → s.plan ≡ Some plan →
        LastPlan rules.flow (seen rules v) rules.settings (progress_of v s.begun) (lists s) new → AllAreClean new
    still_clean plan new is last =
        let was : LastPlan rules.flow (seen rules w) rules.settings nothing_done s.from plan =
        subst (λ bs. LastPlan rules.flow (seen rules w) rules.settings (progress_of w bs) s.from plan) idle.begun
        (subst (λ o. IsPlanned rules (record s { plan = o }) w) is clear.planned) in
        let some : list_any (λ (k : Job × State). is_spent (seen rules w) rules.settings (progress_of w s.begun) plan k p) (staged plan) ≡ true =
        subst (λ o. is_spent_now rules (moment_of (record s { plan = o }) w before) p ≡ true) is spent in
        let k = any_in (λ (k : Job × State). is_spent (seen rules w) rules.settings (progress_of w s.begun) plan k p) (staged plan) some in
        let spent_by =
        subst (λ bs. is_spent (seen rules w) rules.settings (progress_of w bs) plan k.0 p ≡ true) idle.begun k.2 in
        let stays = spent_keeps_plan act rules w s.from plan k.0 p e formed was (idle.clean plan is) k.1 spent_by done follows in
        let now : LastPlan rules.flow (seen rules v) rules.settings nothing_done plan.lists new =
        subst (λ o. LastPlan rules.flow (seen rules v) rules.settings nothing_done (lists (record s { plan = o })) new) is
        (subst (λ bs. LastPlan rules.flow (seen rules v) rules.settings (progress_of v bs) (lists s) new) idle.begun last) in
        subst AllAreClean
        (one_last_plan rules.flow (seen rules v) rules.settings nothing_done plan.lists plan new (seen_is_complete rules.read v (formed_after w e formed))
        stays now) (idle.clean plan is)

    no_spent : s.plan ≡ None → ⊥
    no_spent is = true≢false (sym (subst (λ o. is_spent_now rules (moment_of (record s { plan = o }) w before) p ≡ true) is spent))

    anew : (plan : Option Plan) (new : Plan) → plan ≡ Some new → IsPlanned rules (record s { from = lists s; plan = plan }) v → AllAreClean new
    anew plan new is planned = go s.plan refl
      where
        last : LastPlan rules.flow (seen rules v) rules.settings (progress_of v s.begun) (lists s) new
        last = subst (λ o. IsPlanned rules (record s { from = lists s; plan = o }) v) is planned

        go : (was : Option Plan) → s.plan ≡ was → AllAreClean new
        go None none = absurd (no_spent none)
        go (Some was) some = still_clean was new some last

    replanned_idle : (t : Stand) → IsReplanned rules s v t → IsIdle t
    replanned_idle t (AtRest plan rest planned) = record { runs = idle.runs; begun = idle.begun; clean = λ new is. anew plan new is planned }
    replanned_idle t (Between rest) = idle

  removed_idle :
      (act : Act) (s t : Stand) (w : World) (before : List Event) (paths : List Path) (es : List Event) →
      IsIdle s → IsFormed w → Follows act w es → AreRemoved rules s w before paths es t → IsIdle t
  removed_idle act s t w before paths es idle formed follows (NoMore s1 w1 before1) = idle
  removed_idle act s t w before paths es idle formed follows (OneMore s1 t1 u1 w1 before1 p ps e es1 clear spent listed done plans rest) =
      removed_idle act t1 u1 (after w1 e) (before1 ++ e ∷ []) ps es1
      (replanned_idle act s1 w1 before1 p e idle formed clear spent done (follows.0, tt) t1 plans) (formed_after w1 e formed) follows.1 rest

  -- ## Steps

  goes_idle : (s t : Stand) (w : World) (events : List Event) → GoesBy rules entry s w events t → IsIdle s → IsIdle t
  goes_idle s t w events (GoesOn clear) idle = idle
  goes_idle s t w events (IsRefused f unhalted refuses) idle = record { runs = idle.runs; begun = idle.begun; clean = idle.clean }
  goes_idle s t w events LacksMemory idle = record { runs = idle.runs; begun = idle.begun; clean = idle.clean }
  goes_idle s t w events (WasHalted was) idle = idle

  same_idle : (s t x : Stand) → t ≡ x → x.runs ≡ s.runs → x.begun ≡ s.begun → x.plan ≡ s.plan → IsIdle s → IsIdle t
  same_idle s t x is runs begun plan idle =
      idle_as s t (ap (λ (y : Stand). y.runs) is ∙ runs) (ap (λ (y : Stand). y.begun) is ∙ begun) (ap (λ (y : Stand). y.plan) is ∙ plan) idle

  pub answer_idle :
      (answer : Result (Unit {0}) KeepFault) (s t : Stand) (w : World) (events : List Event) →
      GoesByAnswer rules entry answer s w events t → IsIdle s → IsIdle t
  answer_idle (Ok u) s t w events h idle = goes_idle s t w events h idle
  answer_idle (Err OutOfMemory) s t w events h idle = same_idle s t _ h refl refl refl idle
  answer_idle (Err Device) s t w events h idle = same_idle s t _ h refl refl refl idle

  -- no child is started or waited for, no job is told of, and so it stays
  abbrev pub IsQuietTo : Stand → List Event → List Deed → Type 0
  IsQuietTo t es deeds = EachCall IsQuiet es × (deeds ≡ []) × IsIdle t

  step_quiet :
      (act : Act) (s t : Stand) (w : World) (before es : List Event) (deeds : List Deed) →
      IsIdle s → IsFormed w → Follows act w es → Step rules entry s w before es deeds t → IsQuietTo t es deeds
  step_quiet act s t w before es deeds idle formed follows (Begins h) = none_next s w before h.job idle h.to_begin.next
  step_quiet act s t w before es deeds idle formed follows (Closes h) = none_waited s h.going h.ended idle h.waited
  step_quiet act s t w before es deeds idle formed follows (Spends h) = (
    spending_quiet rules entry s t w before es deeds h,
    h.deeds_are,
    goes_idle h.last t (run w h.removing) (before ++ h.removing) h.goes_by
        (removed_idle act s h.last w before h.paths h.removing idle formed
        (follows_split act w h.removing h.settling (subst (Follows act w) h.events follows)).0 h.removed),
  )
  step_quiet act s t w before es deeds idle formed follows (Halts h) = (
    looks_quiet false es h.only_read,
    h.deeds_are,
    same_idle s t _ h.leaves refl refl refl idle,
  )
  step_quiet act s t w before es deeds idle formed follows (Leaves h) = none_waited s h.going h.ended idle h.waited
  step_quiet act s t w before es deeds idle formed follows (BreaksOff h) = none_waited s h.going h.ended idle h.waited
  step_quiet act s t w before es deeds idle formed follows (ReadsNot h) = none_next s w before h.job idle h.next
  step_quiet act s t w before es deeds idle formed follows (BeginsNot h) = none_next s w before h.job idle h.to_begin.next
  step_quiet act s t w before es deeds idle formed follows (SpendsNot h) = (
    unspent_quiet rules entry s t w before es deeds h,
    h.deeds_are,
    same_idle h.last t _ h.leaves refl refl refl
        (removed_idle act s h.last w before h.paths h.removing idle formed
        (follows_split act w h.removing (h.failing ∷ []) (subst (Follows act w) h.events follows)).0 h.removed),
  )
  step_quiet act s t w before es deeds idle formed follows (Waits h) = none_waited s h.going h.ended idle h.waited
  step_quiet act s t w before es deeds idle formed follows (FailsToWait h) = absurd (h.ran idle.runs)

  pub steps_quiet :
      (act : Act) (s t : Stand) (w : World) (before es : List Event) (deeds : List Deed) →
      IsIdle s → IsFormed w → Follows act w es → Steps rules entry s w before es deeds t → IsQuietTo t es deeds
  steps_quiet act s t w before es deeds idle formed follows (Done s1 w1 before1) = (tt, refl, idle)
  steps_quiet act s t w before es deeds idle formed follows (Then s1 t1 u1 w1 before1 es1 fs deeds1 more step steps) =
      let parts = follows_split act w1 es1 fs follows in
      let first = step_quiet act s1 t1 w1 before1 es1 deeds1 idle formed parts.0 step in
      let later = steps_quiet act t1 u1 (run w1 es1) (before1 ++ es1) fs more first.2 (formed_run w1 es1 formed) parts.1 steps in
      (calls_more es1 fs first.0 later.0, λ n. first.1 n ++ later.1 n, later.2)
