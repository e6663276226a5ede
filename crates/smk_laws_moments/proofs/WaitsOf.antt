-- At each wait of a run a child runs.
use Rattle.std.proofs.Common.{◌≡◌, ◌≢◌, ℕ, Bool, true, false, List, [], ◌∷◌, ◌++◌, map, refl, sym, subst, ◌∙◌, inl, Ok, Err, true≢false}
use Rattle.smk_world.specs.declared.event.Call.{Call}
use Rattle.smk_world.specs.declared.event.Call.TheVariants.{Looked, ReadFile, ReadFolder, Written, Created, Removed, MadeParents, Settled, Protected, Started as StartedCall, Waited}
use Rattle.smk_world.specs.declared.event.Event.{Event}
use Rattle.smk_world.specs.declared.event.WorkFault.TheVariants.{Failed as FailedFault, OutOfMemory as MemoryFault}
use Rattle.smk_world.specs.declared.recipe.Recipe.{Recipe}
use Rattle.smk_world.specs.World.{World, after, out_paths, owned_paths, run}
use Rattle.smk_world.specs.Devices.{AreLooks}
use Rattle.smk_world.specs.Requests.{Request, request}
use Rattle.smk_world.specs.Requests.Request.{Look, ReadUpTo, ListFolder, Write, Create, Remove, MakeParents, Settle, Protect, Start, Wait}
use Rattle.smk_world.specs.Trees.{Each, IsIn, Path}
use Rattle.smk_store.specs.Steps.{mark_requests, places_of}
use Rattle.smk_job.specs.Jobs.{Underway, begin_requests, clear_requests}
use Rattle.smk_run.specs.Closings.{wait_event}
use Rattle.smk_run.proofs.Calls.{EachCall, cut_each, done_each, each_append, settled_each}
use Rattle.smk_drive.specs.Moments.{Rules}
use Rattle.smk_drive.specs.Lawful.{is_wait}
use Rattle.smk_drive_course.specs.Stands.{Stand}
use Rattle.smk_drive_course.specs.Steps.{Deed}
use Rattle.smk_drive_course.specs.Breaks.{Begins, BeginsNot, BreaksOff, Closes, Done, FailsToWait, Halts, Leaves, ReadsNot, Spends, SpendsNot, Step, Steps, Then, Waits}
use Rattle.smk_laws_moments.specs.Courses.{HasChildren, WaitsForChildren, child_of}
use Rattle.smk_laws_moments.proofs.QuietCalls.{IsQuiet, calls_more, closing_quiet, looks_quiet, tended_quiet}
use Rattle.smk_laws_moments.proofs.ChildrenOf.{at_start, begin_quiet, opening_quiet, spending_quiet, step_children, unspent_quiet}

-- it is no wait
abbrev IsNoWait : Request → Type 0
IsNoWait (Look p) = Unit {0}
IsNoWait (ReadUpTo p limit) = Unit {0}
IsNoWait (ListFolder p) = Unit {0}
IsNoWait (Write p bytes) = Unit {0}
IsNoWait (Create p) = Unit {0}
IsNoWait (Remove p) = Unit {0}
IsNoWait (MakeParents p) = Unit {0}
IsNoWait (Settle ps) = Unit {0}
IsNoWait (Protect p) = Unit {0}
IsNoWait (Start recipe logs command) = Unit {0}
IsNoWait Wait = ⊥

quiet_no_wait : (r : Request) → IsQuiet r → IsNoWait r
quiet_no_wait (Look p) h = tt
quiet_no_wait (ReadUpTo p limit) h = tt
quiet_no_wait (ListFolder p) h = tt
quiet_no_wait (Write p bytes) h = tt
quiet_no_wait (Create p) h = tt
quiet_no_wait (Remove p) h = tt
quiet_no_wait (MakeParents p) h = tt
quiet_no_wait (Settle ps) h = tt
quiet_no_wait (Protect p) h = tt
quiet_no_wait (Start recipe logs command) h = absurd h
quiet_no_wait Wait h = absurd h

each_no_wait : (rs : List Request) → Each IsQuiet rs → Each IsNoWait rs
each_no_wait [] h = tt
each_no_wait (r ∷ rs) h = (quiet_no_wait r h.0, each_no_wait rs h.1)

no_wait_call : (call : Call) → IsNoWait (request call) → is_wait call ≡ true → ⊥
no_wait_call (Looked p r) h k = true≢false (sym k)
no_wait_call (ReadFile p limit r) h k = true≢false (sym k)
no_wait_call (ReadFolder p r) h k = true≢false (sym k)
no_wait_call (Written p bytes r) h k = true≢false (sym k)
no_wait_call (Created p r) h k = true≢false (sym k)
no_wait_call (Removed p r) h k = true≢false (sym k)
no_wait_call (MadeParents p r) h k = true≢false (sym k)
no_wait_call (Settled ps r) h k = true≢false (sym k)
no_wait_call (Protected p r) h k = true≢false (sym k)
no_wait_call (StartedCall recipe logs command r) h k = true≢false (sym k)
no_wait_call (Waited r) h k = h

-- at each wait among these events a child runs
abbrev WaitsAt : World → List Event → Type 0
WaitsAt w [] = Unit {0}
WaitsAt w (e ∷ es) = (is_wait e.call ≡ true → w.children ≢ []) × WaitsAt (after w e) es

calm : (w : World) (es : List Event) → EachCall IsNoWait es → WaitsAt w es
calm w [] h = tt
calm w (e ∷ es) h = ((λ k none. no_wait_call e.call h.0 k), calm (after w e) es h.1)

quiet_calm : (w : World) (es : List Event) → EachCall IsQuiet es → WaitsAt w es
quiet_calm w [] h = tt
quiet_calm w (e ∷ es) h = ((λ k none. no_wait_call e.call (quiet_no_wait (request e.call) h.0) k), quiet_calm (after w e) es h.1)

waits_more : (w : World) (es fs : List Event) → WaitsAt w es → WaitsAt (run w es) fs → WaitsAt w (es ++ fs)
waits_more w [] fs a b = b
waits_more w (e ∷ es) fs a b = (a.0, waits_more (after w e) es fs a.1 b)

at_split : (w : World) (events : List Event) (e : Event) (rest : List Event) → WaitsAt w (events ++ e ∷ rest) → is_wait e.call ≡ true → (run w events).children ≢ []
at_split w [] e rest h k = h.0 k
at_split w (x ∷ events) e rest h k = at_split (after w x) events e rest h.1 k

-- ## Steps

none_of : (gs : List Underway) (g : Underway) → IsIn gs g → map child_of gs ≡ [] → ⊥
none_of [] g is none = absurd is
none_of (x ∷ gs) g is none = absurd (cons_nil (child_of x) (map child_of gs) none)
  where
    cons_nil : {A : Type 0} (y : A) (ys : List A) → y ∷ ys ≡ [] → ⊥
    cons_nil y ys h = cc

no_runs : (gs : List Underway) → map child_of gs ≡ [] → gs ≡ []
no_runs [] h = refl
no_runs (x ∷ gs) h = absurd (none_of (x ∷ gs) x (inl refl) h)

begin_no_wait : (recipe : Recipe) (logs : List Path) (command : List ℕ) → Each IsNoWait (begin_requests recipe logs command)
begin_no_wait recipe logs command =
    each_append IsNoWait (mark_requests (places_of (out_paths recipe) logs) ++ clear_requests (out_paths recipe) (owned_paths recipe logs)) (Start recipe logs command ∷ [])
    (each_no_wait (mark_requests (places_of (out_paths recipe) logs) ++ clear_requests (out_paths recipe) (owned_paths recipe logs)) (begin_quiet recipe logs)) (tt, tt)

-- a wait for one of the children, and quiet calls behind it
waits_first : (s : Stand) (w : World) (g : Underway) (e : Event) (behind es : List Event) → IsIn s.runs g → HasChildren s w → es ≡ e ∷ behind → EachCall IsQuiet behind → WaitsAt w es
waits_first s w g e behind es ran was events quiet =
    subst (WaitsAt w) (sym events) ((λ k none. none_of s.runs g ran (sym was ∙ none)), quiet_calm (after w e) behind quiet)

-- looks, and then no wait
reads_first : (w : World) (reads rest es : List Event) (failure : Bool) → es ≡ reads ++ rest → AreLooks failure reads → EachCall IsNoWait rest → WaitsAt w es
reads_first w reads rest es failure events looks none =
    subst (WaitsAt w) (sym events) (waits_more w reads rest (quiet_calm w reads (looks_quiet failure reads looks)) (calm (run w reads) rest none))

module _ (rules : Rules) (entry : World) where
  step_waits : (s t : Stand) (w : World) (before es : List Event) (deeds : List Deed) → Step rules entry s w before es deeds t → HasChildren s w → WaitsAt w es
  step_waits s t w before es deeds (Begins h) was =
      reads_first w h.reads h.beginning es false h.events h.only_read (done_each IsNoWait _ h.beginning (begin_no_wait h.job.0.recipe h.job.0.logs _) h.calls)
  step_waits s t w before es deeds (Closes h) was =
      waits_first s w h.going (wait_event h.ended h.left) (h.closing ++ h.tending) es h.waited.ran was h.events
      (calls_more h.closing h.tending (settled_each IsQuiet h.going (closing_quiet h.going) (Ok h.how) h.ended.status (after w (wait_event h.ended h.left)) h.closing h.closed) (tended_quiet _ h.answer h.tending h.tended))
  step_waits s t w before es deeds (Spends h) was = quiet_calm w es (spending_quiet rules entry s t w before es deeds h)
  step_waits s t w before es deeds (Halts h) was = quiet_calm w es (looks_quiet false es h.only_read)
  step_waits s t w before es deeds (Leaves h) was =
      waits_first s w h.going (wait_event h.ended h.left) h.looks es h.waited.ran was h.events
      (settled_each IsQuiet h.going (closing_quiet h.going) (Err MemoryFault) h.ended.status (after w (wait_event h.ended h.left)) h.looks (h.good, h.unclosed))
  step_waits s t w before es deeds (BreaksOff h) was =
      waits_first s w h.going (wait_event h.ended h.left) h.rest es h.waited.ran was h.events
      (settled_each IsQuiet h.going (closing_quiet h.going) (Err FailedFault) h.ended.status (after w (wait_event h.ended h.left)) h.rest h.unclosed)
  step_waits s t w before es deeds (ReadsNot h) was = quiet_calm w es (looks_quiet true es h.reads)
  step_waits s t w before es deeds (BeginsNot h) was =
      reads_first w h.reads h.beginning es false h.events h.only_read (cut_each IsNoWait _ h.beginning (begin_no_wait h.job.0.recipe h.job.0.logs _) h.calls)
  step_waits s t w before es deeds (SpendsNot h) was = quiet_calm w es (unspent_quiet rules entry s t w before es deeds h)
  step_waits s t w before es deeds (Waits h) was = waits_first s w h.going (wait_event h.ended h.left) [] es h.waited.ran was h.events tt
  step_waits s t w before es deeds (FailsToWait h) was =
      subst (WaitsAt w) (sym h.events) ((λ k none. h.ran (no_runs s.runs (sym was ∙ none))), tt)

  steps_waits : (s t : Stand) (w : World) (before es : List Event) (deeds : List Deed) → Steps rules entry s w before es deeds t → HasChildren s w → WaitsAt w es
  steps_waits s t w before es deeds (Done s1 w1 before1) was = tt
  steps_waits s t w before es deeds (Then s1 t1 u1 w1 before1 es1 fs deeds1 more step steps) was =
      waits_more w1 es1 fs (step_waits s1 t1 w1 before1 es1 deeds1 step was)
      (steps_waits t1 u1 (run w1 es1) (before1 ++ es1) fs more steps (step_children rules entry s1 t1 w1 before1 es1 deeds1 step was))

pub waits_for_children : WaitsForChildren
waits_for_children rules told result deeds entry log r none events e rest split k =
    at_split entry events e rest
    (subst (WaitsAt entry) (sym r.events ∙ split)
    (waits_more entry r.opening r.rest (quiet_calm entry r.opening (opening_quiet rules entry r.opened r.opening r.opens))
    (steps_waits rules entry r.start r.last (run entry r.opening) r.opening r.rest deeds r.steps (at_start rules told result deeds entry log r none)))) k
