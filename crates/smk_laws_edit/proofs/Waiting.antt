-- Until a child is started the plan of the entry stays in force; so the first one is of a job that is to run by that plan.
use Rattle.std.proofs.Common.{◌≡◌, ◌⊎◌, Bool, true, false, ◌&&◌, ◌||◌, not, List, [], ◌∷◌, ◌++◌, map, filter, flat_map, refl, sym, ap, subst, ◌∙◌, inl, inr, Some, None, IsTrue, append_assoc, append-nil, bytes_eq, true≢false}
use Rattle.smk_base.specs.Path.{is_under}
use Rattle.smk_world.specs.Calls.{Lets}
use Rattle.smk_world.specs.Runs.{Follows}
use Rattle.smk_world.specs.Trees.{Act, IsIn, Path, among}
use Rattle.smk_world.specs.World.{World, IsFormed, after, is_above, is_within, run}
use Rattle.smk_world.specs.declared.event.Call.TheVariants.{Created, Looked, MadeParents, Protected, ReadFile, ReadFolder, Removed, Settled, Started, Waited, Written}
use Rattle.smk_world.specs.declared.event.Call.{Call}
use Rattle.smk_world.specs.declared.event.Event.{Event}
use Rattle.smk_world.proofs.Names.{formed_after}
use Rattle.smk_flow.specs.declared.job.Job.{Job}
use Rattle.smk_chain.specs.Derive.{Listings}
use Rattle.smk_pick.specs.declared.settings.Force.TheVariants.{No}
use Rattle.smk_trigger.specs.JobStates.{is_to_run}
use Rattle.smk_trigger.specs.declared.reason.State.{State}
use Rattle.smk_plan.specs.States.{IsPlan, Last, LastPlan, Plan, new_listings, none_or_one, nothing_done, staged}
use Rattle.smk_laws_plan.specs.Current.{IsComplete}
use Rattle.smk_laws_plan.proofs.CurrentLists.{and_left, and_right, filter_in, find_in, flat_in, in_either, map_in, or_cases, or_left, or_right, zip_first}
use Rattle.smk_laws_plan.proofs.CurrentPaths.{among_in}
use Rattle.smk_drive.specs.Lawful.{fit_together, lock_places, makes_folders, protects, running_jobs}
use Rattle.smk_drive.specs.Moments.{AtEntry, AtRest, Begun, Between, IsMoment, Moment, Rules, begins, begun_after, begun_of, changes_at, is_closed, is_rest, is_spent_now, is_spent_removal, places, progress_of, seen, with_end}
use Rattle.smk_laws_protocol.proofs.Basics.{each_in}
use Rattle.smk_laws_history.proofs.CurrentComplete.{seen_is_complete}
use Rattle.smk_drive_course.specs.Keeping.{Spends, has_start, is_start}
use Rattle.smk_drive_course.specs.Lawful.{BeginsWell, ChangesWell, IsLawfulEvent, MayBegin, StartsWell, WaitsWell, is_free_to_start, may_start, open_places, planned_places}
use Rattle.smk_drive_course.specs.Moments.{AtEachEvent, starts}
use Rattle.smk_drive_course.proofs.OneMoment.{one_moment}
use Rattle.smk_cli_target.proofs.NextRun.{above_in, lock_in}
use Rattle.smk_cli_target.proofs.PlanPlaces.{at_lock, place_of}
use Rattle.smk_cli_target.proofs.PlanStays.{IsAlike, last_stays, plan_stays, and_never}
use Rattle.smk_cli_target.proofs.SparedWorlds.{HasNoChild, IsOver, IsSpared, MayChange, PlacesHere, files_same, kept_same, marked_same, noted_same, spared_on, whole_is}
use Rattle.smk_laws_edit.proofs.Quiet.{HasNoWait, IsStartCall, no_rest, same_ends, some_begun, still_alone, unstarted_on}

-- ## The entry

-- What holds at the entry: its plan, in a folder that is a tree and in which no child runs.
pub record IsAtStart (rules : Rules) (plan : Plan) (v : World) : Type 0 where
  pub formed : IsFormed v
  pub no_child : v.children ≡ []
  pub unforced : rules.settings.force ≡ No
  pub is_last : LastPlan rules.flow (seen rules v) rules.settings nothing_done [] plan
  pub is_plan : IsPlan rules.flow (seen rules v) rules.settings nothing_done plan
  pub none_new : new_listings (seen rules v) rules.settings nothing_done plan ≡ []

module _ (rules : Rules) (plan : Plan) (v : World) (start : IsAtStart rules plan v) where
  complete : IsComplete (seen rules v)
  complete = seen_is_complete rules.read v start.formed

  abbrev IsSparedHere : World → Type 0
  IsSparedHere w = IsSpared rules.read rules.flow v plan.lists rules.settings.targets plan.jobs complete start.is_plan.derived w

  abbrev IsOverHere : Path → Type 0
  IsOverHere q = IsOver rules.read rules.flow v plan.lists rules.settings.targets plan.jobs complete start.is_plan.derived q

  abbrev PlaceHere : Path → Type 0
  PlaceHere r = PlacesHere rules.read rules.flow v plan.lists rules.settings.targets plan.jobs complete start.is_plan.derived r

  job_of : (e : Job × State) → IsIn (staged plan) e → IsIn plan.jobs e.0
  job_of (k, s) i = zip_first plan.jobs plan.states k s i

  -- the plan is that of a folder that is spared
  module _ (w : World) (formed : IsFormed w) (spared : IsSparedHere w) where
    alike : IsAlike rules.flow rules.settings plan (seen rules v) (seen rules w)
    alike =
        record {
          complete = seen_is_complete rules.read w formed;
          files = files_same rules.read rules.flow v plan.lists rules.settings.targets plan.jobs complete start.is_plan.derived w spared;
          whole = λ k p kind ik o.
              whole_is rules.read rules.flow v plan.lists rules.settings.targets plan.jobs complete start.is_plan.derived w spared start.formed formed k p kind ik o;
        }

    kept : (seen rules v).kept ≡ (seen rules w).kept
    kept = kept_same rules.read rules.flow v plan.lists rules.settings.targets plan.jobs complete start.is_plan.derived w spared

    marked : (seen rules v).marked ≡ (seen rules w).marked
    marked = marked_same rules.read rules.flow v plan.lists rules.settings.targets plan.jobs complete start.is_plan.derived w spared

    noted : (seen rules v).noted ≡ (seen rules w).noted
    noted = noted_same rules.read rules.flow v plan.lists rules.settings.targets plan.jobs complete start.is_plan.derived w spared

    last_still : LastPlan rules.flow (seen rules w) rules.settings nothing_done plan.lists plan
    last_still =
        Last plan
        (plan_stays rules.flow rules.settings plan (seen rules v) complete start.unforced [] start.is_plan (seen rules w) kept marked noted alike)
        (last_stays rules.flow rules.settings plan (seen rules v) complete start.unforced [] start.is_plan (seen rules w) kept marked noted start.none_new alike)

  -- ## Moments

  -- The moment with these jobs begun.
  abbrev moment : List Event → Listings → World → List Begun → Moment
  moment events from w bs = record { events = events; world = w; begun = bs; from = from; lists = plan.lists; plan = Some plan }

  -- It is one of the plan that is to run, and no child of it has ended.
  abbrev IsToStart : Begun → Type 0
  IsToStart b = IsIn (staged plan) (b.job, b.state) × IsTrue (is_to_run b.state) × (b.ended ≡ None)

  module _ (events : List Event) (from : Listings) (w : World) (bs : List Begun) (e : Event) where
    abbrev m : Moment
    m = moment events from w bs

    abbrev begun_now : List (Job × State)
    begun_now = filter (λ (k : Job × State). begins rules m e k.0) (staged plan)

    may_begin : BeginsWell rules m e → (k : Job × State) → IsIn begun_now k → MayBegin rules m k
    may_begin well k i =
        let f = filter_in (λ (k : Job × State). begins rules m e k.0) (staged plan) k i in
        each_in (λ (k : Job × State). IsTrue (begins rules m e k.0) → MayBegin rules m k) (staged plan) k well f.0 f.1

    -- what begins is to run
    begins_to_run : BeginsWell rules m e → (k : Job × State) → IsIn begun_now k → is_to_run k.1 ≡ true
    begins_to_run well k i =
        let first = find_in _ (may_start rules m) k (may_begin well k i).first in
        let one = flat_in (λ (p : Plan). filter (λ (k : Job × State). is_free_to_start rules m p k && fit_together rules (k.0 ∷ running_jobs m)) (staged p)) (none_or_one m.plan) k first.0 in
        by k one.0 one.1 one.2
      where
        by : (k : Job × State) (p : Plan) → IsIn (plan ∷ []) p → IsIn (filter (λ (k : Job × State). is_free_to_start rules m p k && fit_together rules (k.0 ∷ running_jobs m)) (staged p)) k → is_to_run k.1 ≡ true
        by k p i h =
            let f = filter_in (λ (k : Job × State). is_free_to_start rules m p k && fit_together rules (k.0 ∷ running_jobs m)) (staged p) k h in
            and_left (is_to_run k.1) _ (and_left _ _ (and_left _ _ f.1))

    begun_to_start : BeginsWell rules m e → (b : Begun) → IsIn (map (begun_of rules v m) begun_now) b → IsToStart b
    begun_to_start well b i =
        let k = map_in (begun_of rules v m) begun_now b i in
        let f = filter_in (λ (k : Job × State). begins rules m e k.0) (staged plan) k.0 k.1 in
        subst IsToStart (sym k.2) (f.0, begins_to_run well k.0 k.1, refl)

  -- The moment after these events, of which none is a start.
  record IsSoFar (events : List Event) (from : Listings) (w : World) (bs : List Begun) : Type 0 where
    pub is : IsMoment rules v events (moment events from w bs)
    pub formed : IsFormed w
    pub alone : w.children ≡ []
    pub ready : (b : Begun) → IsIn bs b → IsToStart b
    pub spared : bs ≡ [] → IsSparedHere w

  abbrev IsOn : List Event → World → Type 0
  IsOn events w = (from : Listings) × (bs : List Begun) × IsSoFar events from w bs

  at_start : IsSoFar [] [] v []
  at_start =
      record {
        is = AtEntry (Some plan) start.is_last;
        formed = start.formed;
        alone = start.no_child;
        ready = λ b i. absurd i;
        spared = λ none q. inl refl;
      }

  -- ## One more event

  module _ (events : List Event) (from : Listings) (w : World) (bs : List Begun) (e : Event) (far : IsSoFar events from w bs) (law : IsLawfulEvent rules v (moment events from w bs) e) where
    abbrev here : Moment
    here = moment events from w bs

    none_waits : (c : Call) → WaitsWell rules here c → HasNoWait c
    none_waits (Waited r) waits = waits far.alone
    none_waits (Looked p r) waits = tt
    none_waits (ReadFile p limit r) waits = tt
    none_waits (ReadFolder p r) waits = tt
    none_waits (Written p bytes r) waits = tt
    none_waits (Created p r) waits = tt
    none_waits (Removed p r) waits = tt
    none_waits (MadeParents p r) waits = tt
    none_waits (Settled ps r) waits = tt
    none_waits (Protected p r) waits = tt
    none_waits (Started recipe logs command r) waits = tt

    quiet : HasNoWait e.call
    quiet = none_waits e.call law.waits

    -- those that had begun are as they were
    still_begun : map (with_end rules w (after w e) e.call) bs ≡ bs
    still_begun = same_ends rules w (after w e) e.call quiet bs

    begun_later : (b : Begun) → IsIn (begun_after rules v here e) b → IsToStart b
    begun_later b i = go (in_either b (map (with_end rules w (after w e) e.call) bs) (map (begun_of rules v here) (begun_now events from w bs e)) i)
      where
        go : IsIn (map (with_end rules w (after w e) e.call) bs) b ⊎ IsIn (map (begun_of rules v here) (begun_now events from w bs e)) b → IsToStart b
        go (inl o) = far.ready b (subst (λ xs. IsIn xs b) still_begun o)
        go (inr n) = begun_to_start events from w bs e law.begins b n

    module _ (unstarted : is_start e.call ≡ false) where
      alone_later : (after w e).children ≡ []
      alone_later = still_alone e.call quiet unstarted w.children ∙ far.alone

      -- a job has begun, so that it is no rest
      go_on : (b : Begun) (rest : List Begun) → begun_after rules v here e ≡ b ∷ rest → IsOn (events ++ e ∷ []) (after w e)
      go_on b rest eq = (
        from,
        b ∷ rest,
        record {
          is = subst (λ xs. IsMoment rules v (events ++ e ∷ []) (moment (events ++ e ∷ []) from (after w e) xs)) eq
              (Between events here e far.is (ap (is_rest (after w e)) eq ∙ no_rest (after w e) alone_later b rest (begun_later b (subst (λ xs. IsIn xs b) (sym eq) (inl refl))).2));
          formed = formed_after w e far.formed;
          alone = alone_later;
          ready = λ x i. begun_later x (subst (λ xs. IsIn xs x) (sym eq) i);
          spared = λ none. absurd (some_begun b rest none);
        },
      )

  -- none has begun, and none begins
  module _ (events : List Event) (from : Listings) (w : World) (e : Event) (none : begun_after rules v (moment events from w []) e ≡ []) where
    none_open : open_places rules v (moment events from w []) e ≡ []
    none_open = ap (λ bs. flat_map (λ (b : Begun). places b.job ++ b.job.logs) (filter (λ (b : Begun). not (is_closed w b)) bs)) none

    abbrev planned : List Path
    planned = planned_places rules (moment events from w [])

    abbrev opened : List Path
    opened = open_places rules v (moment events from w []) e

    over : (q : Path) → (r : Path) × IsIn (lock_places rules ++ (planned ++ opened)) r × (is_under r q ≡ true) → IsOverHere q
    over q (r, i, u) = (r, place (in_either r (lock_places rules) (planned ++ opened) i), u)
      where
        of_plan : IsIn planned r ⊎ IsIn opened r → PlaceHere r
        of_plan (inl p) =
            let k = flat_in (λ (k : Job × State). places k.0 ++ k.0.logs) (staged plan) r p in
            place_of rules.flow (seen rules v) plan.lists rules.settings.targets plan.jobs complete start.is_plan.derived k.0.0 r (job_of k.0 k.1) k.2
        of_plan (inr o) = absurd (subst (λ ps. IsIn ps r) none_open o)

        place : IsIn (lock_places rules) r ⊎ IsIn (planned ++ opened) r → PlaceHere r
        place (inl l) =
            subst PlaceHere (sym (lock_in rules.nolock r l))
            (at_lock rules.flow (seen rules v) plan.lists rules.settings.targets plan.jobs complete start.is_plan.derived)
        place (inr p) = of_plan (in_either r planned opened p)

    unprotected : (c : Call) (q : Path) → protects rules (moment events from w []) c q ≡ false
    unprotected (Protected p r) q = and_never (bytes_eq p q)
    unprotected c q = refl

    -- what the event may change, where it takes away no spent output
    may_change :
        ChangesWell rules v (moment events from w []) e → is_spent_removal rules (moment events from w []) e.call ≡ false →
        (q : Path) → changes_at e.call w e.left q ≡ true → MayChange IsOverHere w e.call q
    may_change well kept q h = first (or_cases (among (lock_places rules) q) _ (well q h))
      where
        folders : Bool
        folders = makes_folders e.call && is_above q (lock_places rules ++ (planned ++ opened))

        fourth : (is_spent_removal rules (moment events from w []) e.call ≡ true) ⊎ (protects rules (moment events from w []) e.call q ≡ true) → MayChange IsOverHere w e.call q
        fourth (inl s) = absurd (true≢false (sym s ∙ kept))
        fourth (inr p) = absurd (true≢false (sym p ∙ unprotected e.call q))

        third : (folders ≡ true) ⊎ ((is_spent_removal rules (moment events from w []) e.call || protects rules (moment events from w []) e.call q) ≡ true) → MayChange IsOverHere w e.call q
        third (inl f) =
            inr (inl (and_left (makes_folders e.call) (is_above q (lock_places rules ++ (planned ++ opened))) f, over q (above_in q (lock_places rules ++ (planned ++ opened)) (and_right (makes_folders e.call) (is_above q (lock_places rules ++ (planned ++ opened))) f))))
        third (inr x) = fourth (or_cases (is_spent_removal rules (moment events from w []) e.call) (protects rules (moment events from w []) e.call q) x)

        second : (is_within q opened ≡ true) ⊎ ((folders || (is_spent_removal rules (moment events from w []) e.call || protects rules (moment events from w []) e.call q)) ≡ true) → MayChange IsOverHere w e.call q
        second (inl o) = absurd (true≢false (sym (subst (λ ps. is_within q ps ≡ true) none_open o)))
        second (inr x) = third (or_cases folders (is_spent_removal rules (moment events from w []) e.call || protects rules (moment events from w []) e.call q) x)

        first :
            (among (lock_places rules) q ≡ true) ⊎ ((is_within q opened || (folders || (is_spent_removal rules (moment events from w []) e.call || protects rules (moment events from w []) e.call q))) ≡ true) →
            MayChange IsOverHere w e.call q
        first (inl l) = inl (lock_in rules.nolock q (among_in (lock_places rules) q l))
        first (inr x) = second (or_cases (is_within q opened) (folders || (is_spent_removal rules (moment events from w []) e.call || protects rules (moment events from w []) e.call q)) x)

    wait_on :
        (act : Act) → IsSoFar events from w [] → IsLawfulEvent rules v (moment events from w []) e → Lets act w e.call e.left → is_start e.call ≡ false →
        is_spent_removal rules (moment events from w []) e.call ≡ false → IsOn (events ++ e ∷ []) (after w e)
    wait_on act far law lets unstarted kept =
        let quiet = none_waits events from w [] e far law e.call law.waits in
        let alone = no_child w e.call quiet (λ s. law_starts law.starts s) in
        let spared = spared_on rules.read rules.flow v plan.lists rules.settings.targets plan.jobs complete start.is_plan.derived act w e.call e.left (far.spared refl) lets alone (may_change law.changes kept) in
        let formed = formed_after w e far.formed in (
          plan.lists,
          [],
          record {
            is = subst (λ bs. IsMoment rules v (events ++ e ∷ []) (moment (events ++ e ∷ []) plan.lists (after w e) bs)) none
                (AtRest events (moment events from w []) e (Some plan) far.is (ap (is_rest (after w e)) none)
                (subst (λ bs. LastPlan rules.flow (seen rules (after w e)) rules.settings (progress_of (after w e) bs) plan.lists plan) (sym none) (last_still (after w e) formed spared)));
            formed = formed;
            alone = alone_later events from w [] e far law unstarted;
            ready = λ b i. absurd i;
            spared = λ same. spared;
          },
        )
      where
        law_starts : StartsWell rules v (moment events from w []) e e.call → IsStartCall e.call → ⊥
        law_starts s is = by e.call s is
          where
            by : (c : Call) → StartsWell rules v (moment events from w []) e c → IsStartCall c → ⊥
            by (Started recipe logs command r) s is = subst (λ bs. IsIn bs s.0) none s.1
            by (Looked p r) s is = is
            by (ReadFile p limit r) s is = is
            by (ReadFolder p r) s is = is
            by (Written p bytes r) s is = is
            by (Created p r) s is = is
            by (Removed p r) s is = is
            by (MadeParents p r) s is = is
            by (Settled ps r) s is = is
            by (Protected p r) s is = is
            by (Waited r) s is = is

        no_child : (w : World) (c : Call) → HasNoWait c → (IsStartCall c → ⊥) → HasNoChild IsOverHere c
        no_child w (Started recipe logs command r) waits starts = starts tt
        no_child w (Waited r) waits starts = waits
        no_child w (Looked p r) waits starts = tt
        no_child w (ReadFile p limit r) waits starts = tt
        no_child w (ReadFolder p r) waits starts = tt
        no_child w (Written p bytes r) waits starts = tt
        no_child w (Created p r) waits starts = tt
        no_child w (Removed p r) waits starts = tt
        no_child w (MadeParents p r) waits starts = tt
        no_child w (Settled ps r) waits starts = tt
        no_child w (Protected p r) waits starts = tt

  -- one more event, which is no start and takes away no spent output
  next :
      (act : Act) (events : List Event) (from : Listings) (w : World) (bs : List Begun) (e : Event) → IsSoFar events from w bs → IsLawfulEvent rules v (moment events from w bs) e →
      Lets act w e.call e.left → is_start e.call ≡ false → is_spent_removal rules (moment events from w bs) e.call ≡ false → IsOn (events ++ e ∷ []) (after w e)
  next act events from w [] e far law lets unstarted unspent = go (begun_after rules v (moment events from w []) e) refl
    where
      go : (bs : List Begun) → begun_after rules v (moment events from w []) e ≡ bs → IsOn (events ++ e ∷ []) (after w e)
      go [] eq = wait_on events from w e eq act far law lets unstarted unspent
      go (b ∷ rest) eq = go_on events from w [] e far law unstarted b rest eq
  next act events from w (b ∷ bs) e far law lets unstarted unspent = go (begun_after rules v (moment events from w (b ∷ bs)) e) refl
    where
      go : (xs : List Begun) → begun_after rules v (moment events from w (b ∷ bs)) e ≡ xs → IsOn (events ++ e ∷ []) (after w e)
      go [] eq = absurd (some_begun _ _ eq)
      go (x ∷ rest) eq = go_on events from w (b ∷ bs) e far law unstarted x rest eq

  -- ## Up to the first start

  module _ (act : Act) (again : List Event) (lawful : AtEachEvent rules v again (IsLawfulEvent rules v))
      (late : AtEachEvent rules v again (λ m e. Spends rules m e.call (λ p. (has_start m.events ≡ true) ⊎ (has_start again ≡ false)))) (starts_one : has_start again ≡ true) where
    none_spent : (m : Moment) (c : Call) → has_start m.events ≡ false → Spends rules m c (λ p. (has_start m.events ≡ true) ⊎ (has_start again ≡ false)) → is_spent_removal rules m c ≡ false
    none_spent m (Removed p r) none spends = go (is_spent_now rules m p) refl
      where
        never : (has_start m.events ≡ true) ⊎ (has_start again ≡ false) → ⊥
        never (inl h) = true≢false (sym h ∙ none)
        never (inr h) = true≢false (sym starts_one ∙ h)

        go : (b : Bool) → is_spent_now rules m p ≡ b → b ≡ false
        go false e = refl
        go true e = absurd (never (spends e))
    none_spent m (Looked p r) none spends = refl
    none_spent m (ReadFile p limit r) none spends = refl
    none_spent m (ReadFolder p r) none spends = refl
    none_spent m (Written p bytes r) none spends = refl
    none_spent m (Created p r) none spends = refl
    none_spent m (MadeParents p r) none spends = refl
    none_spent m (Settled ps r) none spends = refl
    none_spent m (Protected p r) none spends = refl
    none_spent m (Started recipe logs command r) none spends = refl
    none_spent m (Waited r) none spends = refl

    up_to :
        (front events : List Event) (w : World) (rest : List Event) → IsOn events w → has_start events ≡ false → again ≡ events ++ (front ++ rest) → Follows act w (front ++ rest) →
        has_start front ≡ false → IsOn (events ++ front) (run w front)
    up_to [] events w rest on none split follows unstarted = subst (λ es. IsOn es w) (sym (append-nil events)) on
    up_to (e ∷ front) events w rest on none split follows unstarted =
        let far = on.2 in
        let m = moment events on.0 w on.1 in
        let on_next =
        next act events on.0 w on.1 e far (lawful events e (front ++ rest) m split far.is) follows.0.lets (or_left (is_start e.call) (has_start front) unstarted)
        (none_spent m e.call none (late events e (front ++ rest) m split far.is)) in
        subst (λ es. IsOn es (run (after w e) front)) (append_assoc events (e ∷ []) front)
        (up_to front (events ++ e ∷ []) (after w e) rest on_next (unstarted_on events e none (or_left (is_start e.call) (has_start front) unstarted))
        (split ∙ sym (append_assoc events (e ∷ []) (front ++ rest))) follows.1 (or_right (is_start e.call) (has_start front) unstarted))

    -- the first child that is started is of a job that is to run by the plan of the entry
    pub first_to_run :
        (events : List Event) (e : Event) (rest : List Event) (m : Moment) → again ≡ events ++ e ∷ rest → IsMoment rules v events m → Follows act v again → has_start events ≡ false →
        (b : Begun) → IsIn (begun_after rules v m e) b → (m.plan ≡ Some plan) × IsToStart b
    first_to_run events e rest m split is follows none b i =
        let on = up_to events [] v (e ∷ rest) ([], [], at_start) refl split (subst (Follows act v) split follows) none in
        let there = moment events on.0 (run v events) on.1 in
        let same = one_moment rules v events m there start.formed is on.2.is in (
          ap (λ (x : Moment). x.plan) same,
          begun_later events on.0 (run v events) on.1 e on.2 (lawful events e rest there split on.2.is) b (subst (λ x. IsIn (begun_after rules v x e) b) same i),
        )
