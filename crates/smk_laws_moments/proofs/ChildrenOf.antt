-- The children that run are those of the stand.
use Rattle.std.proofs.Common.{◌≡◌, ◌≢◌, ◌⊎◌, ℕ, Bool, true, false, not, List, [], ◌∷◌, ◌++◌, map, filter, refl, sym, ap, subst, ◌∙◌, inl, inr, nat_eq, Option, Result, Ok, Err, IsTrue, true≢false}
use Rattle.std.specs.Prelude.{if◌then◌else◌}
use Rattle.smk_world.specs.declared.event.Call.{Call}
use Rattle.smk_world.specs.declared.event.Call.TheVariants.{Looked, ReadFile, ReadFolder, Written, Created, Removed, MadeParents, Settled, Protected, Started as StartedCall, Waited}
use Rattle.smk_world.specs.declared.event.Change.{Change}
use Rattle.smk_world.specs.declared.event.Child.{Child}
use Rattle.smk_world.specs.declared.event.Ended.{Ended}
use Rattle.smk_world.specs.declared.event.Event.{Event}
use Rattle.smk_world.specs.declared.event.WorkFault.TheVariants.{Failed as FailedFault, OutOfMemory as MemoryFault}
use Rattle.smk_world.specs.declared.recipe.Recipe.{Recipe}
use Rattle.smk_world.specs.World.{World, after, children_after, out_paths, owned_paths, run}
use Rattle.smk_world.specs.Calls.{failed, started_number, started_numbers}
use Rattle.smk_world.specs.Requests.{HasDone, IsCutShort, Request, request}
use Rattle.smk_world.specs.Requests.Request.{Look, ReadUpTo, ListFolder, Write, Create, Remove, MakeParents, Settle, Protect, Start, Wait}
use Rattle.smk_world.specs.Trees.{Each, IsIn, Path}
use Rattle.smk_store.specs.Steps.{mark_requests, places_of}
use Rattle.smk_store.specs.Images.{Image}
use Rattle.smk_report.specs.declared.fault.Fault.{Fault}
use Rattle.smk_report.specs.declared.fault.Fault.TheVariants as fault
use Rattle.smk_job.specs.Jobs.{Underway, clear_requests}
use Rattle.smk_keep.specs.declared.fault.KeepFault.{KeepFault}
use Rattle.smk_run.specs.Closings.{wait_event}
use Rattle.smk_run.proofs.Calls.{EachCall, cut_each, done_each, settled_each}
use Rattle.smk_drive.specs.Moments.{Rules, is_spent_now, seen}
use Rattle.smk_drive.specs.Lawful.{is_failed_wait}
use Rattle.smk_drive_course.specs.declared.ending.End.{End as TheEnd}
use Rattle.smk_drive_course.specs.Stands.{IsClear, Stand, moment_of, without_child}
use Rattle.smk_drive_course.specs.Steps.{AreRemoved, Deed, HasSpent, IsAsListed, NoMore, OneMore}
use Rattle.smk_drive_course.specs.Breaks.{Begins, BeginsNot, BreaksOff, Closes, Done, FailsToWait, Halts, HasNotSpent, Leaves, ReadsNot, Spends, SpendsNot, Step, Steps, Then, Waits}
use Rattle.smk_drive_course.specs.Driven.{IsOpening, IsRun, LacksMemory, LoadingFails, LooksFail as OpeningLooksFail, Opens, SettlingFails}
use Rattle.smk_laws_moments.specs.Courses.{AllAreWaited, ChildrenAreOfStand, HasChildren, child_of}
use Rattle.smk_laws_moments.proofs.Fates.{IsKept, answer_kept, begun_stand, broken_kept, ended_stand, goes_kept, halted_kept, kept_then, removed_kept, replanned_kept}
use Rattle.smk_laws_moments.proofs.QuietCalls.{IsQuiet, calls_more, clears_quiet, closing_quiet, looks_quiet, marks_quiet, more, quiet_children, quiet_number, quiet_run, tended_quiet}

-- ## A start

abbrev recipe_in : Recipe → Request → Recipe
recipe_in other (Start recipe logs command) = recipe
recipe_in other (Look p) = other
recipe_in other (ReadUpTo p limit) = other
recipe_in other (ListFolder p) = other
recipe_in other (Write p bytes) = other
recipe_in other (Create p) = other
recipe_in other (Remove p) = other
recipe_in other (MakeParents p) = other
recipe_in other (Settle ps) = other
recipe_in other (Protect p) = other
recipe_in other Wait = other

abbrev logs_in : Request → List Path
logs_in (Start recipe logs command) = logs
logs_in (Look p) = []
logs_in (ReadUpTo p limit) = []
logs_in (ListFolder p) = []
logs_in (Write p bytes) = []
logs_in (Create p) = []
logs_in (Remove p) = []
logs_in (MakeParents p) = []
logs_in (Settle ps) = []
logs_in (Protect p) = []
logs_in Wait = []

abbrev child_with : ℕ → Recipe → List Path → Child
child_with number recipe logs = record { number = number; recipe = recipe; logs = logs }

head_same : (m n : ℕ) (ms ns : List ℕ) → m ∷ ms ≡ n ∷ ns → m ≡ n
head_same m n ms ns h = cc

none_one : (n : ℕ) → [] ≡ n ∷ [] → ⊥
none_one n h = cc

abbrev Starts : Recipe → List Path → ℕ → Call → List Child → Type 0
Starts recipe logs number call cs = children_after call cs ≡ cs ++ child_with number recipe logs ∷ []

started_child :
    (call : Call) (cs : List Child) (recipe : Recipe) (logs : List Path) (command : List ℕ) (number : ℕ) →
    request call ≡ Start recipe logs command → started_number call ++ [] ≡ number ∷ [] → Starts recipe logs number call cs
started_child (StartedCall r l c (Ok n)) cs recipe logs command number h k =
    let recipes : r ≡ recipe = ap (recipe_in recipe) h in
    let lists : l ≡ logs = ap logs_in h in
    let ns = head_same n number [] [] k in λ i. cs ++ child_with (ns i) (recipes i) (lists i) ∷ []
started_child (StartedCall r l c (Err e)) cs recipe logs command number h k = absurd (none_one number k)
started_child (Looked p r) cs recipe logs command number h k = absurd (none_one number k)
started_child (ReadFile p limit r) cs recipe logs command number h k = absurd (none_one number k)
started_child (ReadFolder p r) cs recipe logs command number h k = absurd (none_one number k)
started_child (Written p bytes r) cs recipe logs command number h k = absurd (none_one number k)
started_child (Created p r) cs recipe logs command number h k = absurd (none_one number k)
started_child (Removed p r) cs recipe logs command number h k = absurd (none_one number k)
started_child (MadeParents p r) cs recipe logs command number h k = absurd (none_one number k)
started_child (Settled ps r) cs recipe logs command number h k = absurd (none_one number k)
started_child (Protected p r) cs recipe logs command number h k = absurd (none_one number k)
started_child (Waited r) cs recipe logs command number h k = absurd (none_one number k)

-- quiet calls, and then a start
starts_after :
    (w : World) (rs : List Request) (es : List Event) (recipe : Recipe) (logs : List Path) (command : List ℕ) (number : ℕ) →
    Each IsQuiet rs → HasDone (rs ++ Start recipe logs command ∷ []) es → started_numbers es ≡ number ∷ [] →
    (run w es).children ≡ w.children ++ child_with number recipe logs ∷ []
starts_after w [] [] recipe logs command number quiet done k = absurd done
starts_after w [] (e ∷ []) recipe logs command number quiet done k = started_child e.call w.children recipe logs command number done.0 k
starts_after w [] (e ∷ (f ∷ es)) recipe logs command number quiet done k = absurd done.2
starts_after w (r ∷ rs) [] recipe logs command number quiet done k = absurd done
starts_after w (r ∷ rs) (e ∷ es) recipe logs command number quiet done k =
    let here = subst IsQuiet (sym done.0) quiet.0 in
    starts_after (after w e) rs es recipe logs command number quiet.1 done.2 (ap (λ ns. ns ++ started_numbers es) (sym (quiet_number e.call here)) ∙ k)
    ∙ ap (λ cs. cs ++ child_with number recipe logs ∷ []) (quiet_children e.call w.children here)

failed_start : (call : Call) (cs : List Child) (recipe : Recipe) (logs : List Path) (command : List ℕ) → request call ≡ Start recipe logs command → failed call ≡ true → children_after call cs ≡ cs
failed_start (StartedCall r l c (Ok n)) cs recipe logs command h k = absurd (true≢false (sym k))
failed_start (StartedCall r l c (Err e)) cs recipe logs command h k = refl
failed_start (Looked p r) cs recipe logs command h k = refl
failed_start (ReadFile p limit r) cs recipe logs command h k = refl
failed_start (ReadFolder p r) cs recipe logs command h k = refl
failed_start (Written p bytes r) cs recipe logs command h k = refl
failed_start (Created p r) cs recipe logs command h k = refl
failed_start (Removed p r) cs recipe logs command h k = refl
failed_start (MadeParents p r) cs recipe logs command h k = refl
failed_start (Settled ps r) cs recipe logs command h k = refl
failed_start (Protected p r) cs recipe logs command h k = refl
failed_start (Waited (Ok ended)) cs recipe logs command h k = absurd (true≢false (sym k))
failed_start (Waited (Err e)) cs recipe logs command h k = refl

-- quiet calls and then a start, up to a call that failed
starts_none :
    (w : World) (rs : List Request) (es : List Event) (recipe : Recipe) (logs : List Path) (command : List ℕ) →
    Each IsQuiet rs → IsCutShort (rs ++ Start recipe logs command ∷ []) es → (run w es).children ≡ w.children
starts_none w [] [] recipe logs command quiet cut = absurd cut
starts_none w [] (e ∷ []) recipe logs command quiet cut = failed_start e.call w.children recipe logs command cut.0 cut.1
starts_none w [] (e ∷ (f ∷ es)) recipe logs command quiet cut = absurd cut.2
starts_none w (r ∷ rs) [] recipe logs command quiet cut = absurd cut
starts_none w (r ∷ rs) (e ∷ []) recipe logs command quiet cut = quiet_children e.call w.children (subst IsQuiet (sym cut.0) quiet.0)
starts_none w (r ∷ rs) (e ∷ (f ∷ es)) recipe logs command quiet cut =
    starts_none (after w e) rs (f ∷ es) recipe logs command quiet.1 cut.2 ∙ quiet_children e.call w.children (subst IsQuiet (sym cut.0) quiet.0)

pub begin_quiet : (recipe : Recipe) (logs : List Path) → Each IsQuiet (mark_requests (places_of (out_paths recipe) logs) ++ clear_requests (out_paths recipe) (owned_paths recipe logs))
begin_quiet recipe logs =
    more (mark_requests (places_of (out_paths recipe) logs)) (clear_requests (out_paths recipe) (owned_paths recipe logs)) (marks_quiet (places_of (out_paths recipe) logs))
    (clears_quiet (out_paths recipe) (owned_paths recipe logs))

-- ## A wait

others : (n : ℕ) (gs : List Underway) → filter (λ (c : Child). not (nat_eq c.number n)) (map child_of gs) ≡ map child_of (filter (λ (g : Underway). not (nat_eq g.number n)) gs)
others n [] = refl
others n (g ∷ gs) = go (not (nat_eq g.number n)) (others n gs)
  where
    go :
        (b : Bool) → filter (λ (c : Child). not (nat_eq c.number n)) (map child_of gs) ≡ map child_of (filter (λ (x : Underway). not (nat_eq x.number n)) gs) →
        (if b then child_of g ∷ filter (λ (c : Child). not (nat_eq c.number n)) (map child_of gs) else filter (λ (c : Child). not (nat_eq c.number n)) (map child_of gs))
        ≡ map child_of (if b then g ∷ filter (λ (x : Underway). not (nat_eq x.number n)) gs else filter (λ (x : Underway). not (nat_eq x.number n)) gs)
    go true h = ap (λ cs. child_of g ∷ cs) h
    go false h = h

abbrev rest_of : ℕ → List Underway → List Underway
rest_of n gs = filter (λ (g : Underway). not (nat_eq g.number n)) gs

waited_children :
    (w : World) (ended : Ended) (left : List Change) (gs : List Underway) (n : ℕ) → ended.number ≡ n → w.children ≡ map child_of gs →
    (after w (wait_event ended left)).children ≡ map child_of (rest_of n gs)
waited_children w ended left gs n number same =
    ap (λ (cs : List Child). filter (λ (c : Child). not (nat_eq c.number ended.number)) cs) same ∙ (others ended.number gs ∙ ap (λ k. map child_of (rest_of k gs)) number)

-- ## Runs

pub run_more : (w : World) (es fs : List Event) → run w (es ++ fs) ≡ run (run w es) fs
run_more w [] fs = refl
run_more w (e ∷ es) fs = run_more (after w e) es fs

-- with these events, and quiet ones behind them
quiet_behind : (w : World) (es fs all : List Event) (cs : List Child) → all ≡ es ++ fs → (run w es).children ≡ cs → EachCall IsQuiet fs → (run w all).children ≡ cs
quiet_behind w es fs all cs split here quiet =
    ap (λ xs. (run w xs).children) split ∙ (ap (λ (v : World). v.children) (run_more w es fs) ∙ (quiet_run (run w es) fs quiet ∙ here))

-- with quiet events, and others behind them
behind_quiet :
    (w : World) (reads rest all : List Event) (cs : List Child) → all ≡ reads ++ rest → EachCall IsQuiet reads → ((v : World) → v.children ≡ w.children → (run v rest).children ≡ cs) →
    (run w all).children ≡ cs
behind_quiet w reads rest all cs split quiet behind =
    ap (λ xs. (run w xs).children) split ∙ (ap (λ (v : World). v.children) (run_more w reads rest) ∙ behind (run w reads) (quiet_run w reads quiet))

map_more : (gs : List Underway) (g : Underway) → map child_of (gs ++ g ∷ []) ≡ map child_of gs ++ child_of g ∷ []
map_more [] g = refl
map_more (x ∷ gs) g = ap (λ cs. child_of x ∷ cs) (map_more gs g)

module _ (rules : Rules) (entry : World) where
  removed_quiet : (s t : Stand) (w : World) (before : List Event) (paths : List Path) (es : List Event) → AreRemoved rules s w before paths es t → EachCall IsQuiet es
  removed_quiet s t w before paths es (NoMore s1 w1 before1) = tt
  removed_quiet s t w before paths es (OneMore s1 t1 u1 w1 before1 p ps e es1 clear spent listed done plans rest) =
      (subst IsQuiet (sym done.0) tt, removed_quiet t1 u1 _ _ ps es1 rest)

  failing_quiet :
      (P Q R : Path → Type 0) (S : Type 0) (paths : List Path) (e : Event) → ((p : Path) × (request e.call ≡ Remove p) × P p × Q p × R p) ⊎ ((request e.call ≡ Settle paths) × S) →
      IsQuiet (request e.call)
  failing_quiet P Q R S paths e (inl x) = subst IsQuiet (sym x.1) tt
  failing_quiet P Q R S paths e (inr x) = subst IsQuiet (sym x.0) tt

  pub spending_quiet : (s t : Stand) (w : World) (before es : List Event) (deeds : List Deed) → HasSpent rules entry s w before es deeds t → EachCall IsQuiet es
  spending_quiet s t w before es deeds h =
      subst (EachCall IsQuiet) (sym h.events)
      (calls_more h.removing h.settling (removed_quiet s h.last w before h.paths h.removing h.removed) (done_each IsQuiet (Settle h.paths ∷ []) h.settling (tt, tt) h.settled))

  pub unspent_quiet : (s t : Stand) (w : World) (before es : List Event) (deeds : List Deed) → HasNotSpent rules entry s w before es deeds t → EachCall IsQuiet es
  unspent_quiet s t w before es deeds h =
      subst (EachCall IsQuiet) (sym h.events)
      (calls_more h.removing (h.failing ∷ []) (removed_quiet s h.last w before h.paths h.removing h.removed) (
        failing_quiet (λ p. IsClear rules h.last (run w h.removing) (before ++ h.removing))
            (λ p. IsTrue (is_spent_now rules (moment_of h.last (run w h.removing) (before ++ h.removing)) p)) (IsAsListed (seen rules (run w h.removing))) (h.paths ≢ []) h.paths h.failing
            h.called,
        tt,
      ))

  -- the children are those of the stand that it leads to
  left_to : (u t : Stand) (v : World) → IsKept u t → v.children ≡ map child_of u.runs → HasChildren t v
  left_to u t v kept same = same ∙ ap (λ gs. map child_of gs) (sym kept.runs)

  -- quiet calls, and no child more or less
  quietly : (s t : Stand) (w : World) (es : List Event) → IsKept s t → EachCall IsQuiet es → HasChildren s w → HasChildren t (run w es)
  quietly s t w es kept quiet was = left_to s t (run w es) kept (quiet_run w es quiet ∙ was)

  -- a wait, and quiet calls behind it
  after_wait :
      (image : Image) (s t : Stand) (w : World) (going : Underway) (ended : Ended) (left : List Change) (behind es : List Event) →
      ended.number ≡ going.number → es ≡ wait_event ended left ∷ behind → EachCall IsQuiet behind → IsKept (without_child image going ended.status s) t →
      HasChildren s w → HasChildren t (run w es)
  after_wait image s t w going ended left behind es number events quiet kept was =
      left_to (without_child image going ended.status s) t (run w es) kept
      (quiet_behind w (wait_event ended left ∷ []) behind es (map child_of (rest_of going.number s.runs)) events (waited_children w ended left s.runs going.number number was) quiet)

  pub step_children : (s t : Stand) (w : World) (before es : List Event) (deeds : List Deed) → Step rules entry s w before es deeds t → HasChildren s w → HasChildren t (run w es)
  step_children s t w before es deeds (Begins h) was =
      let u = begun_stand rules entry s w before h.job h.going in
      let kept = kept_then u h.next t (replanned_kept rules u h.next _ h.replanned) (goes_kept rules entry h.next t _ _ h.goes_by) in
      let j = h.job.0 in
      left_to u t (run w es) kept
      (behind_quiet w h.reads h.beginning es (w.children ++ child_with h.going.number j.recipe j.logs ∷ []) h.events (looks_quiet false h.reads h.only_read) (λ v same.
      starts_after v (mark_requests (places_of (out_paths j.recipe) j.logs) ++ clear_requests (out_paths j.recipe) (owned_paths j.recipe j.logs)) h.beginning j.recipe j.logs _ h.going.number
      (begin_quiet j.recipe j.logs) h.calls h.started
      ∙ ap (λ cs. cs ++ child_with h.going.number j.recipe j.logs ∷ []) same)
      ∙ (ap (λ cs. cs ++ child_with h.going.number j.recipe j.logs ∷ []) was
      ∙ (ap (λ (g : Underway). map child_of s.runs ++ child_of g ∷ []) (sym h.is) ∙ sym (map_more s.runs h.going))))
  step_children s t w before es deeds (Closes h) was =
      after_wait (seen rules (after w (wait_event h.ended h.left))) s t w h.going h.ended h.left (h.closing ++ h.tending) es h.waited.number h.events
      (calls_more h.closing h.tending (settled_each IsQuiet h.going (closing_quiet h.going) (Ok h.how) h.ended.status (after w (wait_event h.ended h.left)) h.closing h.closed)
      (tended_quiet _ h.answer h.tending h.tended))
      (kept_then (ended_stand rules entry s w h.going h.ended h.left) h.next t (replanned_kept rules (ended_stand rules entry s w h.going h.ended h.left) h.next _ h.replanned) (answer_kept rules entry h.answer h.next t _ _ h.goes_by)) was
  step_children s t w before es deeds (Spends h) was =
      quietly s t w es (kept_then s h.last t (removed_kept rules entry s h.last w before h.paths h.removing h.removed) (goes_kept rules entry h.last t _ _ h.goes_by))
      (spending_quiet s t w before es deeds h) was
  step_children s t w before es deeds (Halts h) was = quietly s t w es (halted_kept s t h.why h.leaves) (looks_quiet false es h.only_read) was
  step_children s t w before es deeds (Leaves h) was =
      after_wait (seen rules (after w (wait_event h.ended h.left))) s t w h.going h.ended h.left h.looks es h.waited.number h.events
      (settled_each IsQuiet h.going (closing_quiet h.going) (Err MemoryFault) h.ended.status (after w (wait_event h.ended h.left)) h.looks (h.good, h.unclosed)) (halted_kept (ended_stand rules entry s w h.going h.ended h.left) t fault.OutOfMemory h.leaves) was
  step_children s t w before es deeds (BreaksOff h) was =
      after_wait (seen rules (after w (wait_event h.ended h.left))) s t w h.going h.ended h.left h.rest es h.waited.number h.events
      (settled_each IsQuiet h.going (closing_quiet h.going) (Err FailedFault) h.ended.status (after w (wait_event h.ended h.left)) h.rest h.unclosed) (broken_kept (ended_stand rules entry s w h.going h.ended h.left) t h.leaves) was
  step_children s t w before es deeds (ReadsNot h) was = quietly s t w es (broken_kept s t h.leaves) (looks_quiet true es h.reads) was
  step_children s t w before es deeds (BeginsNot h) was =
      let j = h.job.0 in
      left_to s t (run w es) (broken_kept s t h.leaves)
      (behind_quiet w h.reads h.beginning es w.children h.events (looks_quiet false h.reads h.only_read) (λ v same.
      starts_none v (mark_requests (places_of (out_paths j.recipe) j.logs) ++ clear_requests (out_paths j.recipe) (owned_paths j.recipe j.logs)) h.beginning j.recipe j.logs _
      (begin_quiet j.recipe j.logs) h.calls
      ∙ same)
      ∙ was)
  step_children s t w before es deeds (SpendsNot h) was =
      quietly s t w es (kept_then s h.last t (removed_kept rules entry s h.last w before h.paths h.removing h.removed) (broken_kept h.last t h.leaves))
      (unspent_quiet s t w before es deeds h) was
  step_children s t w before es deeds (Waits h) was =
      after_wait (seen rules (after w (wait_event h.ended h.left))) s t w h.going h.ended h.left [] es h.waited.number h.events tt
      (record { begun = ap (λ (x : Stand). x.begun) h.leaves; runs = ap (λ (x : Stand). x.runs) h.leaves }) was
  step_children s t w before es deeds (FailsToWait h) was =
      left_to s t (run w es) (broken_kept s t h.leaves) (ap (λ xs. (run w xs).children) h.events ∙ was)

  steps_children : (s t : Stand) (w : World) (before es : List Event) (deeds : List Deed) → Steps rules entry s w before es deeds t → HasChildren s w → HasChildren t (run w es)
  steps_children s t w before es deeds (Done s1 w1 before1) was = was
  steps_children s t w before es deeds (Then s1 t1 u1 w1 before1 es1 fs deeds1 more1 step steps) was =
      ap (λ (v : World). v.children) (run_more w1 es1 fs)
      ∙ steps_children t1 u1 (run w1 es1) (before1 ++ es1) fs more1 steps (step_children s1 t1 w1 before1 es1 deeds1 step was)

pub children_are_of_stand : ChildrenAreOfStand
children_are_of_stand rules entry s t w before es deeds steps was = steps_children rules entry s t w before es deeds steps was

-- ## A run

pub opening_quiet : (rules : Rules) (entry : World) (opened : Result (Unit {0}) KeepFault) (es : List Event) → IsOpening rules entry opened es → EachCall IsQuiet es
opening_quiet rules entry opened es (Opens loading settling looks ps loaded signs settled looked) =
    calls_more loading (settling ++ looks) (looks_quiet false loading loaded)
    (calls_more settling looks (done_each IsQuiet (Settle ps ∷ []) settling (tt, tt) settled) (looks_quiet false looks looked))
opening_quiet rules entry opened es (LacksMemory loading loaded) = looks_quiet false loading loaded
opening_quiet rules entry opened es (LoadingFails loading loaded) = looks_quiet true loading loaded
opening_quiet rules entry opened es (SettlingFails loading settling ps loaded signs cut) =
    calls_more loading settling (looks_quiet false loading loaded) (cut_each IsQuiet (Settle ps ∷ []) settling (tt, tt) cut)
opening_quiet rules entry opened es (OpeningLooksFail loading settling looks ps loaded signs settled looked) =
    calls_more loading (settling ++ looks) (looks_quiet false loading loaded)
    (calls_more settling looks (done_each IsQuiet (Settle ps ∷ []) settling (tt, tt) settled) (looks_quiet true looks looked))

module _ (rules : Rules) (told : Option TheEnd) (result : Result TheEnd Fault) (deeds : List Deed) (entry : World) (log : List Event) (r : IsRun rules told result deeds entry log) (none : entry.children ≡ []) where
  pub at_start : HasChildren r.start (run entry r.opening)
  at_start =
      quiet_run entry r.opening (opening_quiet rules entry r.opened r.opening r.opens)
      ∙ (none ∙ ap (λ gs. map child_of gs) (sym (answer_kept rules entry r.opened _ r.start entry [] r.goes_by).runs))

  at_end : HasChildren r.last (run entry log)
  at_end =
      ap (λ xs. (run entry xs).children) r.events
      ∙ (ap (λ (v : World). v.children) (run_more entry r.opening r.rest)
      ∙ steps_children rules entry r.start r.last (run entry r.opening) r.opening r.rest deeds r.steps at_start)

  waited : (r.last.runs ≡ []) ⊎ ((e : Event) × IsIn log e × IsTrue (is_failed_wait e.call)) → ((run entry log).children ≡ []) ⊎ ((e : Event) × IsIn log e × IsTrue (is_failed_wait e.call))
  waited (inl idle) = inl (at_end ∙ ap (λ gs. map child_of gs) idle)
  waited (inr failing) = inr failing

pub all_are_waited : AllAreWaited
all_are_waited rules told result deeds entry log r none = waited rules told result deeds entry log r none r.waited
