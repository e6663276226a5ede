-- One event of the protocol keeps what holds between events: the law's one step, and the law.
use Rattle.std.proofs.Common.{◌≡◌, ◌⊎◌, ℕ, Bool, true, false, List, [], ◌∷◌, ◌++◌, refl, sym, ap, subst, inl, inr, ◌∙◌, Option}
use Rattle.std.specs.Prelude.{IsTrue, filter, if◌then◌else◌, Ok, Err}
use Rattle.smk_world.specs.declared.event.Call.{Call}
use Rattle.smk_world.specs.declared.event.Call.TheVariants.{Looked, ReadFile, ReadFolder, Written, Created, Removed, MadeParents, Settled, Protected, Started, Waited}
use Rattle.smk_world.specs.declared.event.Change.{Change as LeftNode}
use Rattle.smk_world.specs.declared.event.Event.{Event}
use Rattle.smk_record.specs.declared.record.Record.{Record}
use Rattle.smk_world.specs.Trees.{Path}
use Rattle.smk_world.specs.World.{in_paths, World, after}
use Rattle.smk_store.specs.Trust.{Versions, SumsDiffer}
use Rattle.smk_world.specs.Calls.{failed, any_overlap}
use Rattle.smk_base.specs.Place.{lock_place}
use Rattle.smk_store.specs.Soundness.{Outside}
use Rattle.smk_laws_protocol.specs.Protocol.{OpenJob, Marking, RunState, own, mark_places, runs, is_running, as_ok, IsLook, IsLock, IsFirst}
use Rattle.smk_laws_protocol.proofs.Rows.{IsFree, Mark, MakeFolders, Closes, AllUnmarked, Besides, Look, Lock, Settle, Spend, Protect, Step, Aside, Steady, Begin, Go, Close, Fail, FailWait}
use Rattle.smk_laws_protocol.proofs.Between.{Midway, Lets}
use Rattle.smk_laws_protocol.proofs.Aside.{idle, look_keeps, settle_keeps, lock_keeps, still}
use Rattle.smk_laws_protocol.proofs.Basics.{each_in, each_of, in_filter, clash}
use Rattle.smk_laws_protocol.proofs.Calls.{event, Allows}
use Rattle.smk_laws_protocol.proofs.Finish.{every_row, close, fail, allows_of, allows_failed, failed_quiet, not_running}
use Rattle.smk_laws_protocol.proofs.Jobs.{at_phase}
use Rattle.smk_laws_protocol.proofs.Law.{Keeps}
use Rattle.smk_laws_protocol.proofs.Opening.{opened}
use Rattle.smk_laws_protocol.proofs.Steadying.{steadied}
use Rattle.smk_laws_protocol.proofs.Spending.{spend_keeps}
use Rattle.smk_laws_protocol.proofs.Protecting.{protect_keeps}
use Rattle.smk_laws_protocol.proofs.Formed.{formed_after, grown}
use Rattle.smk_laws_protocol.proofs.Texts.{Texts, TextLaws}
use Rattle.smk_laws_protocol.proofs.ViewLaws.{folder_law, naming_laws, part_law}

-- ---- calls of no job, whatever they are answered

abbrev pub AsideAllows : Outside → RunState → World → Call → Type 0
AsideAllows o s w (Looked p r) = Unit {0}
AsideAllows o s w (ReadFile p limit r) = Unit {0}
AsideAllows o s w (ReadFolder p r) = Unit {0}
AsideAllows o s w (Created p r) = p ≡ lock_place
AsideAllows o s w (MadeParents p r) = p ≡ lock_place
AsideAllows o s w (Removed p r) = (p ≡ lock_place) ⊎ ((x : Record) × IsFree o s w p x)
AsideAllows o s w (Settled ps r) = Unit {0}
AsideAllows o s w (Protected p r) = (x : Record) × IsFree o s w p x
AsideAllows o s w (Written p bytes r) = ⊥
AsideAllows o s w (Started recipe logs command r) = ⊥
AsideAllows o s w (Waited (Ok end)) = ⊥
AsideAllows o s w (Waited (Err x)) = Unit {0}

look_allows : (o : Outside) (s : RunState) (w : World) (c : Call) → IsLook o c → AsideAllows o s w c
look_allows o s w (Looked p r) is = tt
look_allows o s w (ReadFile p limit r) is = tt
look_allows o s w (ReadFolder p r) is = tt
look_allows o s w (Created p r) is = absurd is
look_allows o s w (MadeParents p r) is = absurd is
look_allows o s w (Removed p r) is = absurd is
look_allows o s w (Settled ps r) is = absurd is
look_allows o s w (Protected p r) is = absurd is
look_allows o s w (Written p bytes r) is = absurd is
look_allows o s w (Started recipe logs command r) is = absurd is
look_allows o s w (Waited r) is = absurd is

lock_allows : (o : Outside) (s : RunState) (w : World) (c : Call) → IsLock o c → AsideAllows o s w c
lock_allows o s w (Created p r) is = is
lock_allows o s w (MadeParents p r) is = is
lock_allows o s w (Removed p r) is = inl is
lock_allows o s w (Looked p r) is = absurd is
lock_allows o s w (ReadFile p limit r) is = absurd is
lock_allows o s w (ReadFolder p r) is = absurd is
lock_allows o s w (Settled ps r) is = absurd is
lock_allows o s w (Protected p r) is = absurd is
lock_allows o s w (Written p bytes r) is = absurd is
lock_allows o s w (Started recipe logs command r) is = absurd is
lock_allows o s w (Waited r) is = absurd is

pub aside_allows : (o : Outside) (s : RunState) (w : World) (c : Call) → Besides o s w c → AsideAllows o s w c
aside_allows o s w c (Look _ is) = look_allows o s w c is
aside_allows o s w c (Lock _ is) = lock_allows o s w c is
aside_allows o s w c (Settle ps) = tt
aside_allows o s w c (Spend p x free) = inr (x, free)
aside_allows o s w c (Protect p x free) = (x, free)

aside_failed : (o : Outside) (s : RunState) (w : World) (c : Call) → IsTrue (failed c) → AsideAllows o s w (as_ok c) → AsideAllows o s w c
aside_failed o s w (Looked p r) f a = a
aside_failed o s w (ReadFile p limit r) f a = a
aside_failed o s w (ReadFolder p r) f a = a
aside_failed o s w (Created p r) f a = a
aside_failed o s w (MadeParents p r) f a = a
aside_failed o s w (Removed p r) f a = a
aside_failed o s w (Settled ps r) f a = a
aside_failed o s w (Protected p r) f a = a
aside_failed o s w (Written p bytes r) f a = a
aside_failed o s w (Started recipe logs command r) f a = a
aside_failed o s w (Waited r) f a = a

-- it is free also of the jobs that run alone
free_idle : (o : Outside) (s : RunState) (w : World) (p : Path) (x : Record) → IsFree o s w p x → IsFree o (record s { jobs = filter (runs o) s.jobs; faulted = true }) w p x
free_idle o s w p x free =
    record {
      recorded = free.recorded;
      text = free.text;
      unmarked = free.unmarked;
      path = free.path;
      from_own = each_of (λ k. any_overlap (own k) (p ∷ []) ≡ false) (filter (runs o) s.jobs) (λ k i. each_in (λ k. any_overlap (own k) (p ∷ []) ≡ false) s.jobs k free.from_own (in_filter (runs o) s.jobs k i).0);
      from_inputs = each_of (λ k. any_overlap (p ∷ []) (in_paths k.recipe) ≡ false) (filter (runs o) s.jobs) (λ k i. each_in (λ k. any_overlap (p ∷ []) (in_paths k.recipe) ≡ false) s.jobs k free.from_inputs (in_filter (runs o) s.jobs k i).0);
      no_more = free.no_more;
    }

idle_allows : (o : Outside) (s : RunState) (w : World) (c : Call) → AsideAllows o s w c → AsideAllows o (record s { jobs = filter (runs o) s.jobs; faulted = true }) w c
idle_allows o s w (Looked p r) a = a
idle_allows o s w (ReadFile p limit r) a = a
idle_allows o s w (ReadFolder p r) a = a
idle_allows o s w (Created p r) a = a
idle_allows o s w (MadeParents p r) a = a
idle_allows o s w (Removed p r) (inl is) = inl is
idle_allows o s w (Removed p r) (inr a) = inr (a.0, free_idle o s w p a.0 a.1)
idle_allows o s w (Settled ps r) a = a
idle_allows o s w (Protected p r) a = (a.0, free_idle o s w p a.0 a.1)
idle_allows o s w (Written p bytes r) a = a
idle_allows o s w (Started recipe logs command r) a = a
idle_allows o s w (Waited (Ok end)) a = a
idle_allows o s w (Waited (Err x)) a = a

-- ---- what failed

abbrev is_wait_ok : Call → Bool
is_wait_ok (Waited (Ok end)) = true
is_wait_ok _ = false

failed_no_wait : (c : Call) → IsTrue (failed c) → is_wait_ok (as_ok c) ≡ false
failed_no_wait (Looked p r) f = refl
failed_no_wait (ReadFile p limit r) f = refl
failed_no_wait (ReadFolder p r) f = refl
failed_no_wait (Created p r) f = refl
failed_no_wait (MadeParents p r) f = refl
failed_no_wait (Removed p r) f = refl
failed_no_wait (Settled ps r) f = refl
failed_no_wait (Protected p r) f = refl
failed_no_wait (Written p bytes r) f = refl
failed_no_wait (Started recipe logs command r) f = refl
failed_no_wait (Waited (Ok end)) f = clash false f refl
failed_no_wait (Waited (Err x)) f = refl

ok_twice : (c : Call) → as_ok (as_ok c) ≡ as_ok c
ok_twice (Looked p r) = refl
ok_twice (ReadFile p limit r) = refl
ok_twice (ReadFolder p r) = refl
ok_twice (Created p r) = refl
ok_twice (MadeParents p r) = refl
ok_twice (Removed p r) = refl
ok_twice (Settled ps r) = refl
ok_twice (Protected p r) = refl
ok_twice (Written p bytes r) = refl
ok_twice (Started recipe logs command r) = refl
ok_twice (Waited r) = refl

closes_allows : (o : Outside) (w : World) (j : OpenJob) (c : Call) → Closes o w j c → Allows o j c × (is_running j.phase ≡ false)
closes_allows o w j c (AllUnmarked ps (inl h) absent all) = (tt, ap is_running h)
closes_allows o w j c (AllUnmarked ps (inr h) absent all) = (tt, ap is_running h)

first_allows : (o : Outside) (j : OpenJob) (c : Call) → j.phase ≡ Marking → IsFirst o c (mark_places j) → Allows o j c
first_allows o j (Created p (Ok made)) h i = (h, i)
first_allows o j (Created p (Err x)) h i = absurd i
first_allows o j (MadeParents p (Ok u)) h i = inl (inl i)
first_allows o j (MadeParents p (Err x)) h i = absurd i
first_allows o j (Looked p r) h i = absurd i
first_allows o j (ReadFile p limit r) h i = absurd i
first_allows o j (ReadFolder p r) h i = absurd i
first_allows o j (Removed p r) h i = absurd i
first_allows o j (Settled ps r) h i = absurd i
first_allows o j (Protected p r) h i = absurd i
first_allows o j (Written p bytes r) h i = absurd i
first_allows o j (Started recipe logs command r) h i = absurd i
first_allows o j (Waited r) h i = absurd i

module _ (o : Outside) (texts : Texts o.read) (entry : World) (H : Versions) (differ : SumsDiffer H) where
  aside_row : (s : RunState) (w : World) (c : Call) (left : List LeftNode) → Midway o entry H s w → Lets o w (event c left) c → AsideAllows o s w c → Midway o entry H s (after w (event c left))
  aside_row s w (Looked p r) left m lets a = look_keeps o texts entry H s w m (Looked p r) left tt
  aside_row s w (ReadFile p limit r) left m lets a = look_keeps o texts entry H s w m (ReadFile p limit r) left tt
  aside_row s w (ReadFolder p r) left m lets a = look_keeps o texts entry H s w m (ReadFolder p r) left tt
  aside_row s w (Created p r) left m lets a = lock_keeps o texts entry H s w m (Created p r) left a
  aside_row s w (MadeParents p r) left m lets a = lock_keeps o texts entry H s w m (MadeParents p r) left a
  aside_row s w (Removed p r) left m lets (inl a) = lock_keeps o texts entry H s w m (Removed p r) left a
  aside_row s w (Removed p r) left m lets (inr a) = spend_keeps o texts entry H s w m p r left a.0 lets a.1
  aside_row s w (Settled ps r) left m lets a = settle_keeps o texts entry H s w m ps r left
  aside_row s w (Protected p r) left m lets a = protect_keeps o texts entry H s w m p r left a.0 lets a.1
  aside_row s w (Waited (Err x)) left m lets a = still o texts entry H s w m (Waited (Err x)) left tt (λ q. refl)
  aside_row s w (Waited (Ok end)) left m lets a = absurd a
  aside_row s w (Written p bytes r) left m lets a = absurd a
  aside_row s w (Started recipe logs command r) left m lets a = absurd a

  -- the same after a failure: the jobs that run go on
  aside_fails : (s : RunState) (w : World) (c : Call) (left : List LeftNode) → Midway o entry H s w → Lets o w (event c left) c → IsTrue (failed c) → AsideAllows o s w (as_ok c) → Midway o entry H (record s { jobs = filter (runs o) s.jobs; faulted = true }) (after w (event c left))
  aside_fails s w c left m lets f a =
      aside_row (record s { jobs = filter (runs o) s.jobs; faulted = true }) w c left (idle o texts.overlap entry H s w m) lets (idle_allows o s w c (aside_failed o s w c f a))

  -- a job begins
  begins : (s : RunState) (w : World) (c : Call) (left : List LeftNode) (j : OpenJob) (top : ℕ) → Midway o entry H (record s { jobs = j ∷ s.jobs; top = top }) w → Lets o w (event c left) c → j.phase ≡ Marking → IsFirst o c (mark_places j) → Midway o entry H (record s { jobs = j ∷ s.jobs; top = top }) (after w (event c left))
  begins s w (Created p (Ok made)) left j top m lets h i =
      subst (λ x. Midway o entry H (record s { jobs = at_phase j x ∷ s.jobs; top = top }) (after w (event (Created p (Ok made)) left))) (sym h)
      (every_row o texts entry H (record s { top = top }) [] s.jobs j w m left (Created p (Ok made)) Marking lets (Mark p made h i))
  begins s w (MadeParents p (Ok u)) left j top m lets h i =
      every_row o texts entry H (record s { top = top }) [] s.jobs j w m left (MadeParents p (Ok tt)) j.phase lets (MakeFolders p (inl (h, i)))
  begins s w (Created p (Err x)) left j top m lets h i = absurd i
  begins s w (MadeParents p (Err x)) left j top m lets h i = absurd i
  begins s w (Looked p r) left j top m lets h i = absurd i
  begins s w (ReadFile p limit r) left j top m lets h i = absurd i
  begins s w (ReadFolder p r) left j top m lets h i = absurd i
  begins s w (Removed p r) left j top m lets h i = absurd i
  begins s w (Settled ps r) left j top m lets h i = absurd i
  begins s w (Protected p r) left j top m lets h i = absurd i
  begins s w (Written p bytes r) left j top m lets h i = absurd i
  begins s w (Started recipe logs command r) left j top m lets h i = absurd i
  begins s w (Waited r) left j top m lets h i = absurd i

  at_jobs : (s : RunState) (w : World) (jobs : List OpenJob) → s.jobs ≡ jobs → Midway o entry H s w → Midway o entry H (record s { jobs = jobs }) w
  at_jobs s w jobs is m = subst (λ l. Midway o entry H (record s { jobs = l }) w) is m

  closes : (s : RunState) (js ks : List OpenJob) (j : OpenJob) (w : World) (c : Call) (left : List LeftNode) → Midway o entry H (record s { jobs = js ++ j ∷ ks }) w → Lets o w (event c left) c → Closes o w j c → Midway o entry H (record s { jobs = js ++ ks }) (after w (event c left))
  closes s js ks j w c left m lets (AllUnmarked ps h absent all) = close o texts entry H s js ks j w m left (Settled ps (Ok tt)) lets tt tt (closes_allows o w j (Settled ps (Ok tt)) (AllUnmarked ps h absent all)).1

  -- a job's call fails
  job_fails : (s : RunState) (js ks : List OpenJob) (j : OpenJob) (w : World) (c : Call) (left : List LeftNode) → s.jobs ≡ js ++ j ∷ ks → Midway o entry H s w → Lets o w (event c left) c → IsTrue (failed c) → Allows o j (as_ok c) → is_running j.phase ≡ false → Midway o entry H (record s { jobs = filter (runs o) s.jobs; faulted = true }) (after w (event c left))
  job_fails s js ks j w c left is m lets f a stopped =
      subst (λ l. Midway o entry H (record s { jobs = filter (runs o) l; faulted = true }) (after w (event c left))) (sym is)
      (fail o texts entry H s js ks j w (at_jobs s w (js ++ j ∷ ks) is m) left c lets (allows_failed o j c f a) (failed_quiet c f) stopped)

  fails :
      (s : RunState) (w : World) (c : Call) (left : List LeftNode) → Midway o entry H s w → Lets o w (event c left) c → IsTrue (failed c) →
      (ev : Event) (s' : RunState) → ev.call ≡ as_ok c → Step o s w ev s' → Midway o entry H (record s { jobs = filter (runs o) s.jobs; top = s'.top; faulted = true }) (after w (event c left))
  fails s w c left m lets f ev s' is (Aside _ nf b) = aside_fails s w c left m lets f (subst (AsideAllows o s w) is (aside_allows o s w ev.call b))
  fails s w c left m lets f ev s' is (Steady _ ps nf none settles all) = aside_fails s w c left m lets f (subst (AsideAllows o s w) is (subst (AsideAllows o s w) (sym settles) tt))
  fails s w c left m lets f ev s' is (Begin _ j top nf steady may serial h first) =
      subst (λ (b : Bool). Midway o entry H (record s { jobs = if b then j ∷ filter (runs o) s.jobs else filter (runs o) s.jobs; top = top; faulted = true }) (after w (event c left))) (ap is_running h)
      (job_fails (record s { jobs = j ∷ s.jobs; top = top }) [] s.jobs j w c left refl (opened o texts entry H s w j top m steady may serial h differ) lets f
      (subst (Allows o j) is (first_allows o j ev.call h first)) (ap is_running h))
  fails s w c left m lets f ev s' is (Go _ js ks j phase jobs may moves) = by_wait (not_running o w j ev.call phase moves)
    where
      by_wait : (is_running j.phase ≡ false) ⊎ ((n : ℕ) × (status : ℕ) × (ev.call ≡ Waited (Ok (record { number = n; status = status })))) → Midway o entry H (record s { jobs = filter (runs o) s.jobs; faulted = true }) (after w (event c left))
      by_wait (inl stopped) = job_fails s js ks j w c left jobs m lets f (subst (Allows o j) is (allows_of o w j ev.call phase moves)) stopped
      by_wait (inr k) = clash (is_wait_ok (as_ok c)) (ap is_wait_ok (sym is ∙ k.2)) (failed_no_wait c f)
  fails s w c left m lets f ev s' is (Close _ js ks j jobs nf h) =
      let a = closes_allows o w j ev.call h in
      job_fails s js ks j w c left jobs m lets f (subst (Allows o j) is a.0) a.1
  fails s w c left m lets f ev s' is (Fail _ s2 f2 step) = fails s w c left m lets f (record ev { call = as_ok ev.call }) s2 (ap as_ok is ∙ ok_twice c) step
  fails s w c left m lets f ev s' is (FailWait _ x h) = aside_fails s w c left m lets f (subst (AsideAllows o s w) (sym h ∙ is) tt)

  pub keeps : Keeps o entry H
  keeps s s' w e m lets (Aside _ nf b) = aside_row s w e.call e.left m lets (aside_allows o s w e.call b)
  keeps s s' w e m lets (Steady _ ps nf none settles all) = steadied o texts entry H s w m e.call e.left ps none settles all
  keeps s s' w e m lets (Begin _ j top nf steady may serial h first) = begins s w e.call e.left j top (opened o texts entry H s w j top m steady may serial h differ) lets h first
  keeps s s' w e m lets (Go _ js ks j phase jobs may moves) = every_row o texts entry H s js ks j w (at_jobs s w (js ++ j ∷ ks) jobs m) e.left e.call phase lets moves
  keeps s s' w e m lets (Close _ js ks j jobs nf h) = closes s js ks j w e.call e.left (at_jobs s w (js ++ j ∷ ks) jobs m) lets h
  keeps s s' w e m lets (Fail _ s2 f step) = fails s w e.call e.left m lets f (record e { call = as_ok e.call }) s2 refl step
  keeps s s' w e m lets (FailWait _ x h) = aside_row (record s { jobs = filter (runs o) s.jobs; faulted = true }) w e.call e.left (idle o texts.overlap entry H s w m) lets (subst (AsideAllows o (record s { jobs = filter (runs o) s.jobs; faulted = true }) w) (sym h) tt)

-- all that the steps ask for
pub texts_of : TextLaws → (read : List ℕ → Option Record) → Texts read
texts_of laws read =
    record {
      marks = laws.marks;
      records = laws.records;
      notes = laws.notes;
      lock = laws.lock;
      far = laws.far;
      above = laws.above;
      outside = laws.outside;
      overlap = laws.overlap;
      holders = laws.holders;
      folders = folder_law read;
      parts = part_law laws.parts_of read;
      parts_of = laws.parts_of;
      naming = naming_laws read;
      formed = formed_after;
      grown = grown;
    }
