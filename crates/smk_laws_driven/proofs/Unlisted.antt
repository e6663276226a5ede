-- In a run whose jobs gather nothing and make plain files no listing becomes known.
use Rattle.std.proofs.Common.{◌≡◌, List, [], ◌∷◌, ◌++◌, map, filter, refl, ap, ◌∙◌, ◌&&◌, Option, Some, None, Result, Ok, Err, is_none}
use Rattle.smk_world.specs.declared.event.Event.{Event}
use Rattle.smk_world.specs.World.{World, IsFormed, after, run}
use Rattle.smk_world.specs.Trees.{Path}
use Rattle.smk_world.proofs.Names.{formed_after, formed_run}
use Rattle.smk_store.specs.Images.{Image}
use Rattle.smk_chain.specs.Derive.{Listings, listing}
use Rattle.smk_plan.specs.States.{IsPlan, Last, LastPlan, Plan, Progress, Then, files_listed, is_ready, new_listings, state_of}
use Rattle.smk_laws_plan.specs.Current.{IsComplete}
use Rattle.smk_laws_history.proofs.CurrentComplete.{seen_is_complete}
use Rattle.smk_keep.specs.declared.fault.KeepFault.{KeepFault}
use Rattle.smk_keep.specs.declared.fault.KeepFault.TheVariants.{Device, OutOfMemory}
use Rattle.smk_run.specs.Closings.{wait_event}
use Rattle.smk_safe.proofs.Table.{awaited_none}
use Rattle.smk_drive.specs.Moments.{Rules, progress_of, seen}
use Rattle.smk_drive_course.specs.declared.ending.End.{End}
use Rattle.smk_report.specs.declared.fault.Fault.{Fault}
use Rattle.smk_drive_course.specs.Stands.{AtRest, Between, GoesBy, GoesOn, IsPlanned, IsRefused, IsReplanned, LacksMemory, Stand, WasHalted, first_stand, lists, replanned}
use Rattle.smk_drive_course.specs.Steps.{AreRemoved, Deed, GoesByAnswer, NoMore, OneMore}
use Rattle.smk_drive_course.specs.Breaks.{Begins, BeginsNot, BreaksOff, Closes, Done, FailsToWait, Halts, Leaves, ReadsNot, Spends, SpendsNot, Step, Steps, Then as AndThen, Waits}
use Rattle.smk_drive_course.specs.Driven.{IsRun}
use Rattle.smk_laws_driven.specs.Ended.{PlansArePlain}

-- no listing becomes known of plain jobs
pub none_new :
    (rules : Rules) (plain : PlansArePlain rules) (image : Image) (progress : Progress) (plan : Plan) → IsComplete image →
    IsPlan rules.flow image rules.settings progress plan → new_listings image rules.settings progress plan ≡ []
none_new rules plain image progress plan complete is =
    ap (λ ds. map (λ d. record { folder = d; files = files_listed image d })
    (filter (λ d. is_ready image rules.settings progress plan d && is_none (listing plan.lists d)) ds))
    (awaited_none plan (state_of image rules.settings progress plan) is.states (plain image progress plan complete is) image rules.settings progress)

-- the last plan has the listings that the chain begins with
pub lists_stay :
    (rules : Rules) (plain : PlansArePlain rules) (image : Image) (progress : Progress) (L : Listings) (plan : Plan) → IsComplete image →
    LastPlan rules.flow image rules.settings progress L plan → plan.lists ≡ L
lists_stay rules plain image progress L plan complete (Last _ is none) = refl
lists_stay rules plain image progress L plan complete (Then first _ is more rest) = absurd (more (none_new rules plain image progress first complete is))

-- no plan in force before this stand had a listing, nor has the one in force
pub record HasNoLists (s : Stand) : Type 0 where
  pub before : s.from ≡ []
  pub now : lists s ≡ []

-- the other stand has the same plans
record HasSamePlans (s t : Stand) : Type 0 where
  from : t.from ≡ s.from
  plan : t.plan ≡ s.plan

no_lists : (s t : Stand) → HasSamePlans s t → HasNoLists s → HasNoLists t
no_lists s t same none =
    record { before = same.from ∙ none.before; now = (λ i. lists (record t { from = same.from i; plan = same.plan i })) ∙ none.now }

same_by : (s t u : Stand) → t ≡ u → u.from ≡ s.from → u.plan ≡ s.plan → HasSamePlans s t
same_by s t u e from plan = record { from = ap (λ (x : Stand). x.from) e ∙ from; plan = ap (λ (x : Stand). x.plan) e ∙ plan }

module _ (rules : Rules) (plain : PlansArePlain rules) (entry : World) where
  planned_lists :
      (s : Stand) (w : World) (plan : Option Plan) → IsFormed w → IsPlanned rules (replanned plan s) w → lists s ≡ [] → lists (replanned plan s) ≡ []
  planned_lists s w None formed force none = none
  planned_lists s w (Some plan) formed force none =
      lists_stay rules plain (seen rules w) (progress_of w s.begun) (lists s) plan (seen_is_complete rules.read w formed) force ∙ none

  replanned_lists : (s t : Stand) (w : World) → IsReplanned rules s w t → IsFormed w → HasNoLists s → HasNoLists t
  replanned_lists s t w (AtRest plan rest force) formed none =
      record { before = none.now; now = planned_lists s w plan formed force none.now }
  replanned_lists s t w (Between rest) formed none = none

  goes_lists : (s t : Stand) (w : World) (events : List Event) → GoesBy rules entry s w events t → HasNoLists s → HasNoLists t
  goes_lists s t w events (GoesOn clear) none = none
  goes_lists s t w events (IsRefused f unhalted refused) none = record { before = none.before; now = none.now }
  goes_lists s t w events LacksMemory none = record { before = none.before; now = none.now }
  goes_lists s t w events (WasHalted was) none = none

  answer_lists :
      (answer : Result (Unit {0}) KeepFault) (s t : Stand) (w : World) (events : List Event) → GoesByAnswer rules entry answer s w events t → HasNoLists s →
      HasNoLists t
  answer_lists (Ok u) s t w events h none = goes_lists s t w events h none
  answer_lists (Err OutOfMemory) s t w events h none = no_lists s t (same_by s t _ h refl refl) none
  answer_lists (Err Device) s t w events h none = no_lists s t (same_by s t _ h refl refl) none

  pub removed_lists :
      (s t : Stand) (w : World) (before : List Event) (paths : List Path) (es : List Event) → AreRemoved rules s w before paths es t → IsFormed w → HasNoLists s →
      HasNoLists t
  removed_lists s t w before paths es (NoMore s1 w1 before1) formed none = none
  removed_lists s t w before paths es (OneMore s1 t1 u1 w1 before1 p ps e es1 clear spent listed done plans rest) formed none =
      let later = formed_after w1 e formed in
      removed_lists t1 u1 (after w1 e) (before1 ++ e ∷ []) ps es1 rest later (replanned_lists s1 t1 (after w1 e) plans later none)

  pub step_lists :
      (s t : Stand) (w : World) (before es : List Event) (deeds : List Deed) → Step rules entry s w before es deeds t → IsFormed w → HasNoLists s → HasNoLists t
  step_lists s t w before es deeds (Begins h) formed none =
      goes_lists h.next t (run w es) (before ++ es) h.goes_by
      (replanned_lists _ h.next (run w es) h.replanned (formed_run w es formed) (record { before = none.before; now = none.now }))
  step_lists s t w before es deeds (Closes h) formed none =
      answer_lists h.answer h.next t _ _ h.goes_by
      (replanned_lists _ h.next (run w (wait_event h.ended h.left ∷ h.closing)) h.replanned (formed_run w (wait_event h.ended h.left ∷ h.closing) formed)
      (record { before = none.before; now = none.now }))
  step_lists s t w before es deeds (Spends h) formed none =
      goes_lists h.last t _ _ h.goes_by (removed_lists s h.last w before h.paths h.removing h.removed formed none)
  step_lists s t w before es deeds (Halts h) formed none = no_lists s t (same_by s t _ h.leaves refl refl) none
  step_lists s t w before es deeds (Leaves h) formed none = no_lists s t (same_by s t _ h.leaves refl refl) none
  step_lists s t w before es deeds (BreaksOff h) formed none = no_lists s t (same_by s t _ h.leaves refl refl) none
  step_lists s t w before es deeds (ReadsNot h) formed none = no_lists s t (same_by s t _ h.leaves refl refl) none
  step_lists s t w before es deeds (BeginsNot h) formed none = no_lists s t (same_by s t _ h.leaves refl refl) none
  step_lists s t w before es deeds (SpendsNot h) formed none =
      no_lists h.last t (same_by h.last t _ h.leaves refl refl) (removed_lists s h.last w before h.paths h.removing h.removed formed none)
  step_lists s t w before es deeds (Waits h) formed none = no_lists s t (same_by s t _ h.leaves refl refl) none
  step_lists s t w before es deeds (FailsToWait h) formed none = no_lists s t (same_by s t _ h.leaves refl refl) none

  all_lists :
      (s t : Stand) (w : World) (before es : List Event) (deeds : List Deed) → Steps rules entry s w before es deeds t → IsFormed w → HasNoLists s → HasNoLists t
  all_lists s t w before es deeds (Done s1 w1 before1) formed none = none
  all_lists s t w before es deeds (AndThen s1 t1 u1 w1 before1 es1 fs deeds1 more step steps) formed none =
      all_lists t1 u1 (run w1 es1) (before1 ++ es1) fs more steps (formed_run w1 es1 formed) (step_lists s1 t1 w1 before1 es1 deeds1 step formed none)

  first_lists : (plan : Option Plan) → IsFormed entry → IsPlanned rules (first_stand plan) entry → HasNoLists (first_stand plan)
  first_lists None formed force = record { before = refl; now = refl }
  first_lists (Some plan) formed force =
      record { before = refl; now = lists_stay rules plain (seen rules entry) (progress_of entry []) [] plan (seen_is_complete rules.read entry formed) force }

  -- at the stand at which a run starts
  pub start_lists :
      (told : Option End) (result : Result End Fault) (deeds : List Deed) (log : List Event) (r : IsRun rules told result deeds entry log) → IsFormed entry →
      HasNoLists r.start
  start_lists told result deeds log r formed = answer_lists r.opened (first_stand r.plan) r.start entry [] r.goes_by (first_lists r.plan formed r.planned)

  -- So no plan of a run had a listing.
  pub run_lists :
      (told : Option End) (result : Result End Fault) (deeds : List Deed) (log : List Event) (r : IsRun rules told result deeds entry log) → IsFormed entry →
      HasNoLists r.last
  run_lists told result deeds log r formed =
      all_lists r.start r.last (run entry r.opening) r.opening r.rest deeds r.steps (formed_run entry r.opening formed)
      (answer_lists r.opened (first_stand r.plan) r.start entry [] r.goes_by (first_lists r.plan formed r.planned))
