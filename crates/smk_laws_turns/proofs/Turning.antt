-- What each step of a run makes of what the run keeps.
use Rattle.std.proofs.Common.{◌≡◌, ◌≢◌, ◌⊎◌, ◌+◌, ℕ, Bool, true, false, ◌||◌, not, List, [], ◌∷◌, ◌++◌, map, filter, length, refl, arith, sym, ap, subst, ◌∙◌, inl, inr, nat_eq, Option, Some, None}
use Rattle.std.specs.Prelude.{if◌then◌else◌}
use Rattle.std.proofs.Math.Bool.{or-false, or-true}
use Rattle.std.proofs.lemmas.List.{append_assoc, append-nil}
use Rattle.std.proofs.lemmas.Grind.{flat_map-append}
use Rattle.smk_world.specs.declared.event.Change.{Change}
use Rattle.smk_world.specs.declared.event.Ended.{Ended}
use Rattle.smk_world.specs.declared.event.Event.{Event}
use Rattle.smk_world.specs.World.{World, after, run}
use Rattle.smk_world.specs.Trees.{IsIn, Path, among, first}
use Rattle.smk_flow.specs.declared.job.Job.{Job}
use Rattle.smk_flow.specs.Flows.{Flow}
use Rattle.smk_store.specs.Images.{Image, is_source}
use Rattle.smk_chain.specs.declared.jobs.Jobs.{Jobs}
use Rattle.smk_chain.specs.Derive.{Derived, derivation}
use Rattle.smk_plan_facts.specs.Facts.{told_sources}
use Rattle.smk_report.specs.declared.fault.Fault.{Fault}
use Rattle.smk_report.specs.declared.fault.Fault.TheVariants as fault
use Rattle.smk_job.specs.Jobs.{Underway}
use Rattle.smk_run.specs.declared.tally.Tally.{Tally}
use Rattle.smk_run.specs.Closings.{wait_event}
use Rattle.smk_drive.specs.Moments.{Begun, Rules, begun_of, ending, seen}
use Rattle.smk_drive_step.specs.declared.children.Child.{Child}
use Rattle.smk_drive_step.specs.Crews.{IsPutFor, goings, is_device, or_later}
use Rattle.smk_drive_course.specs.Stands.{AtRest, Between, IsReplanned, Stand, ended_if, first_fault, is_job_of, moment_of, with_job, without_child}
use Rattle.smk_drive_course.specs.Stands as stands
use Rattle.smk_drive_course.specs.Steps.{AreRemoved, Deed, IsWaitFor, NoMore, OneMore, Started}
use Rattle.smk_drive_course.specs.Breaks.{Begins, BeginsNot, BreaksOff, Closes, Done, FailsToWait, Halts, Leaves, ReadsNot, Spends, SpendsNot, Step, Then, Waits}
use Rattle.smk_drive_course.specs.Reports.{deed_faults, failures, is_done, is_started}
use Rattle.smk_laws_plan.proofs.CurrentLists.{get_in}
use Rattle.smk_laws_protocol.proofs.Basics.{in_rest, in_split}
use Rattle.smk_laws_protocol.proofs.Stays.{in_left, in_right}
use Rattle.smk_laws_moments.specs.Courses.{HasChildren, begun_jobs, started_job, started_jobs}
use Rattle.smk_laws_moments.proofs.ChildrenOf.{children_are_of_stand}
use Rattle.smk_laws_moments.proofs.Fates.{answer_kept, broken_is_halted, first_fault_stays, goes_kept, kept_then, removed_kept, replanned_kept, starts_are_told}
use Rattle.smk_laws_turns.specs.Hubs.{AreChildrenOf, AreSpaced, AreApart, IsAt, IsChildOf, IsCountOf, IsCrew, IsHome, IsOurs, IsRecordable, Parts}
use Rattle.smk_laws_moments.specs.Staying.{IsListed}
use Rattle.smk_laws_turns.specs.Turning.{BeginningBreaks, BeginningLeads, ClosingBreaks, ClosingLeads, FailedWaitLeads, GrowingLeads, HaltLeads, HasLed, LeavingLeads, ReadingBreaks, SpendingBreaks, SpendingLeads, TellsGrown, TellsOf, WaitLeads, faulted}
use Rattle.smk_laws_turns.proofs.Crew.{crew_busy, crew_grows, crew_shrinks}

-- ## Faults

first_is : (a b : Option Fault) (f : Fault) → a ≡ b → Some (or_later a f) ≡ first_fault b f
first_is None b f e = ap (λ x. first_fault x f) e
first_is (Some g) b f e = ap (λ x. first_fault x f) e

some_none : {A : Type 0} (f : Fault) → Some f ≡ None → A
some_none f h = absurd (go h)
  where
    go : Some f ≡ None → ⊥
    go h = cc

-- a fault has come
has_fault : {A : Type 0} (o : Option Fault) (f : Fault) → first_fault o f ≡ None → A
has_fault None f h = some_none f h
has_fault (Some g) f h = some_none g h

never : true ≡ false → ⊥
never h = cc

-- ## Children

in_map : {A B : Type 0} (f : A → B) (xs : List A) (x : A) → IsIn xs x → IsIn (map f xs) (f x)
in_map f [] x i = absurd i
in_map f (y ∷ xs) x (inl e) = inl (ap f e)
in_map f (y ∷ xs) x (inr i) = inr (in_map f xs x i)

-- a child that is left in its place when another was taken away
left_in : (were are : List (Option Child)) (c d : Child) → IsPutFor (Some c) None were are → IsIn are (Some d) → IsIn were (Some d)
left_in were are c d taken i =
    subst (λ ps. IsIn ps (Some d)) (sym taken.were_so)
    (in_rest taken.before taken.after (Some c) (Some d)
    (other (in_split taken.before taken.after None (Some d) (subst (λ ps. IsIn ps (Some d)) taken.are_so i))))
  where
    never : Some d ≡ None → ⊥
    never h = cc

    other : (Some d ≡ None) ⊎ IsIn (taken.before ++ taken.after) (Some d) → IsIn (taken.before ++ taken.after) (Some d)
    other (inl e) = absurd (never e)
    other (inr k) = k

-- its job is the same
same_job : (image : Image) (going : Underway) (status : ℕ) (b : Begun) → (ended_if image going status b).job ≡ b.job
same_job image going status b = go (is_job_of going b)
  where
    go : (t : Bool) → (if t then (record b { ended = Some (ending image b.job status) }) else b).job ≡ b.job
    go true = refl
    go false = refl

-- the jobs are those of the children that are left, though one has ended
theirs_left :
    (jobs : List Job) (begun : List Begun) (were are : List (Option Child)) (c : Child) (image : Image) (going : Underway) (status : ℕ) →
    AreChildrenOf jobs begun were → IsPutFor (Some c) None were are → AreChildrenOf jobs (map (ended_if image going status) begun) are
theirs_left jobs begun were are c image going status theirs taken = λ d i.
    let o = theirs d (left_in were are c d taken i) in
    record {
      job = o.job;
      is = o.is;
      recipe = o.recipe;
      logs = o.logs;
      ask = o.ask;
      as_begun = ended_if image going status o.as_begun;
      has_begun = in_map (ended_if image going status) begun o.as_begun o.has_begun;
      is_job = same_job image going status o.as_begun ∙ o.is_job;
    }

-- and those of the children with one more
theirs_more :
    (jobs : List Job) (begun : List Begun) (b : Begun) (were are : List (Option Child)) (c : Child) →
    AreChildrenOf jobs begun were →
    IsPutFor None (Some c) were are → IsChildOf jobs (begun ++ b ∷ []) c → AreChildrenOf jobs (begun ++ b ∷ []) are
theirs_more jobs begun b were are c theirs put own = λ d i.
    go d (in_split put.before put.after (Some c) (Some d) (subst (λ ps. IsIn ps (Some d)) put.are_so i))
  where
    one : (d : Child) → Some d ≡ Some c → d ≡ c
    one d e = cc

    go : (d : Child) → (Some d ≡ Some c) ⊎ IsIn (put.before ++ put.after) (Some d) → IsChildOf jobs (begun ++ b ∷ []) d
    go d (inl e) = subst (IsChildOf jobs (begun ++ b ∷ [])) (sym (one d e)) own
    go d (inr i) =
        let o = theirs d (subst (λ ps. IsIn ps (Some d)) (sym put.were_so) (in_rest put.before put.after None (Some d) i)) in
        record {
          job = o.job;
          is = o.is;
          recipe = o.recipe;
          logs = o.logs;
          ask = o.ask;
          as_begun = o.as_begun;
          has_begun = in_left begun (b ∷ []) o.as_begun o.has_begun;
          is_job = o.is_job;
        }

-- the child was in its place
was_in : (were are : List (Option Child)) (c : Child) → IsPutFor (Some c) None were are → IsIn (goings were) c.going
was_in were are c taken = subst (λ ps. IsIn (goings ps) c.going) (sym taken.were_so) (go taken.before)
  where
    go : (before : List (Option Child)) → IsIn (goings (before ++ Some c ∷ taken.after)) c.going
    go [] = inl refl
    go (None ∷ ps) = go ps
    go (Some d ∷ ps) = inr (go ps)

-- what was removed leaves the faults
removed_faults :
    (rules : Rules) (s t : Stand) (w : World) (before : List Event) (paths : List Path) (es : List Event) →
    AreRemoved rules s w before paths es t → (t.halted ≡ s.halted) × (t.broken ≡ s.broken)
removed_faults rules s t w before paths es (NoMore s1 w1 before1) = (refl, refl)
removed_faults rules s t w before paths es (OneMore s1 t1 u1 w1 before1 p ps e es1 clear spent listed done plans rest) =
    let here = plans_faults s1 t1 (after w1 e) plans in
    let later = removed_faults rules t1 u1 (after w1 e) (before1 ++ e ∷ []) ps es1 rest in (later.0 ∙ here.0, later.1 ∙ here.1)
  where
    plans_faults : (u v : Stand) (x : World) → IsReplanned rules u x v → (v.halted ≡ u.halted) × (v.broken ≡ u.broken)
    plans_faults u v x (AtRest plan rest force) = (refl, refl)
    plans_faults u v x (Between rest) = (refl, refl)

-- ## Counts

length_one_more : {A : Type 0} (xs : List A) (x : A) → length (xs ++ x ∷ []) ≡ length xs + 1
length_one_more [] x = refl
length_one_more (y ∷ xs) x = omega (arith, length_one_more xs x)

filter_ends : {A : Type 0} (f : A → Bool) (xs ys : List A) → filter f (xs ++ ys) ≡ filter f xs ++ filter f ys
filter_ends f [] ys = refl
filter_ends f (x ∷ xs) ys = go (f x) (filter_ends f xs ys)
  where
    go :
        (b : Bool) → filter f (xs ++ ys) ≡ filter f xs ++ filter f ys →
        (if b then x ∷ filter f (xs ++ ys) else filter f (xs ++ ys))
        ≡ (if b then x ∷ filter f xs else filter f xs) ++ filter f ys
    go true h = ap (λ zs. x ∷ zs) h
    go false h = h

failures_more : (flow : Flow) (deeds : List Deed) (d : Deed) → failures flow (deeds ++ d ∷ []) ≡ failures flow deeds ++ deed_faults flow d
failures_more flow [] d = append-nil (deed_faults flow d)
failures_more flow (x ∷ deeds) d =
    ap (λ fs. deed_faults flow x ++ fs) (failures_more flow deeds d) ∙ sym (append_assoc (deed_faults flow x) (failures flow deeds) (deed_faults flow d))

-- one more job was started
started_more :
    (flow : Flow) (deeds : List Deed) (j : Job) (tally : Tally) →
    IsCountOf flow deeds tally → IsCountOf flow (deeds ++ Started j ∷ []) (record tally { started = tally.started + 1 })
started_more flow deeds j tally counted =
    let same = failures_more flow deeds (Started j) ∙ append-nil (failures flow deeds) in
    record {
      started =
          ap (λ n. n + 1) counted.started
          ∙ (sym (length_one_more (filter is_started deeds) (Started j)) ∙ ap length (sym (filter_ends is_started deeds (Started j ∷ []))));
      done = counted.done ∙ ap length (sym (filter_ends is_done deeds (Started j ∷ []) ∙ append-nil (filter is_done deeds)));
      failed = counted.failed ∙ ap length (sym same);
      first_one = counted.first_one ∙ ap first (sym same);
    }

-- ## Jobs of the plan

-- the job is one of the plan that is kept, and listed by its listings
abbrev IsOwn : Image → Parts → Job → Type 0
IsOwn image h j = IsIn h.live.base.jobs.jobs j × IsListed image h.live.base.jobs.lists j

still_so : (P : Job → Type 0) (begun : List Begun) → ((b : Begun) → IsIn begun b → P b.job) → (j : Job) → IsIn (map (λ (b : Begun). b.job) begun) j → P j
still_so P [] so j i = absurd i
still_so P (b ∷ bs) so j (inl e) = subst P (sym e) (so b (inl refl))
still_so P (b ∷ bs) so j (inr i) = still_so P bs (λ c k. so c (inr k)) j i

-- a job that had begun, or that has begun now
begun_so : (P : Job → Type 0) (old new : List Job) (j : Job) → ((k : Job) → IsIn old k → P k) → ((k : Job) → IsIn new k → P k) → IsIn (old ++ new) j → P j
begun_so P [] new j were are i = are j i
begun_so P (x ∷ old) new j were are (inl e) = subst P (sym e) (were x (inl refl))
begun_so P (x ∷ old) new j were are (inr i) = begun_so P old new j (λ k o. were k (inr o)) are i

-- just this one
only : (P : Job → Type 0) (j : Job) → P j → (k : Job) → IsIn (j ∷ []) k → P k
only P j so k (inl e) = subst P (sym e) so
only P j so k (inr i) = absurd i

-- places with the same children
crew_same : (were are : List (Option Child)) (runs : List Underway) → goings are ≡ goings were → IsCrew were runs → IsCrew are runs
crew_same were are runs same crew =
    record {
      run = λ g i. crew.run g (subst (λ gs. IsIn gs g) same i);
      placed = λ g i. subst (λ gs. IsIn gs g) (sym same) (crew.placed g i);
      apart = subst AreApart (sym same) crew.apart;
    }

-- ## What children need

-- what runs is spaced, and its records can be written
record AreAllowed (rules : Rules) (entry : World) (runs : List Underway) : Type 0 where
  spaced : AreSpaced runs
  underway : (g : Underway) → IsIn runs g → IsRecordable (seen rules entry) g

allowed_at :
    (rules : Rules) (entry : World) (h : Parts) (s : Stand) (w : World) (before : List Event) (deeds : List Deed) →
    IsAt rules entry h s w before deeds → AreAllowed rules entry s.runs
allowed_at rules entry h s w before deeds at = record { spaced = at.spaced; underway = at.underway }

in_filter : {A : Type 0} (f : A → Bool) (xs : List A) (x : A) → IsIn (filter f xs) x → IsIn xs x
in_filter f [] x i = absurd i
in_filter f (y ∷ xs) x i = go (f y) (λ k. in_filter f xs x k) i
  where
    go : (b : Bool) → (IsIn (filter f xs) x → IsIn xs x) → IsIn (if b then y ∷ filter f xs else filter f xs) x → IsIn (y ∷ xs) x
    go true later (inl e) = inl e
    go true later (inr k) = inr (later k)
    go false later k = inr (later k)

allowed_left : (rules : Rules) (entry : World) (f : Underway → Bool) (runs : List Underway) → AreAllowed rules entry runs → AreAllowed rules entry (filter f runs)
allowed_left rules entry f runs allowed =
    record {
      spaced = λ g k i j other. allowed.spaced g k (in_filter f runs g i) (in_filter f runs k j) other;
      underway = λ g i. allowed.underway g (in_filter f runs g i);
    }

allowed_more :
    (rules : Rules) (entry : World) (runs : List Underway) (c : Underway) →
    AreAllowed rules entry runs → AreSpaced (runs ++ c ∷ []) → IsRecordable (seen rules entry) c → AreAllowed rules entry (runs ++ c ∷ [])
allowed_more rules entry runs c allowed spaced recordable = record { spaced = spaced; underway = λ g i. go g (in_ends runs g i) }
  where
    in_ends : (xs : List Underway) (g : Underway) → IsIn (xs ++ c ∷ []) g → IsIn xs g ⊎ (g ≡ c)
    in_ends [] g (inl e) = inr e
    in_ends [] g (inr i) = absurd i
    in_ends (x ∷ xs) g (inl e) = inl (inl e)
    in_ends (x ∷ xs) g (inr i) = later (in_ends xs g i)
      where
        later : IsIn xs g ⊎ (g ≡ c) → IsIn (x ∷ xs) g ⊎ (g ≡ c)
        later (inl k) = inl (inr k)
        later (inr e) = inr e

    go : (g : Underway) → IsIn runs g ⊎ (g ≡ c) → IsRecordable (seen rules entry) g
    go g (inl i) = allowed.underway g i
    go g (inr e) = subst (IsRecordable (seen rules entry)) (sym e) recordable

-- ## Steps

module _ (rules : Rules) (entry : World) where
  step_children :
      (s t : Stand) (w : World) (before es : List Event) (more : List Deed) →
      Step rules entry s w before es more t → HasChildren s w → HasChildren t (run w es)
  step_children s t w before es more step h =
      subst (λ fs. HasChildren t (run w fs)) (append-nil es)
      (children_are_of_stand rules entry s t w before (es ++ []) (more ++ []) (Then s t t w before es [] more [] step (Done t (run w es) (before ++ es))) h)

  step_unhalted :
      (s t : Stand) (w : World) (before es : List Event) (more : List Deed) →
      Step rules entry s w before es more t → t.halted ≡ None → s.halted ≡ None
  step_unhalted s t w before es more step none = go s.halted refl
    where
      go : (o : Option Fault) → s.halted ≡ o → s.halted ≡ None
      go None e = e
      go (Some f) e =
          some_none f
          (sym (first_fault_stays rules entry s t w before (es ++ []) (more ++ [])
          (Then s t t w before es [] more [] step (Done t (run w es) (before ++ es))) f e).0 ∙ none)

  step_broken :
      (s t : Stand) (w : World) (before es : List Event) (more : List Deed) →
      Step rules entry s w before es more t → (s.broken ≡ true → s.halted ≢ None) → t.broken ≡ true → t.halted ≢ None
  step_broken s t w before es more step h =
      broken_is_halted rules entry s t w before (es ++ []) (more ++ []) (Then s t t w before es [] more [] step (Done t (run w es) (before ++ es))) h

  step_starts :
      (s t : Stand) (w : World) (before es : List Event) (more : List Deed) →
      Step rules entry s w before es more t → begun_jobs t ≡ begun_jobs s ++ started_jobs more
  step_starts s t w before es more step =
      subst (λ ds. begun_jobs t ≡ begun_jobs s ++ started_jobs ds) (append-nil more)
      (starts_are_told rules entry s t w before (es ++ []) (more ++ [])
      (Then s t t w before es [] more [] step (Done t (run w es) (before ++ es))))

  module _ (h : Parts) (s : Stand) (w : World) (before : List Event) (deeds : List Deed) where
    -- what is kept where the step leads, with jobs of its own
    led_grown :
        (k : Parts) (t : Stand) (es : List Event) (more : List Deed) →
        IsAt rules entry h s w before deeds →
        Step rules entry s w before es more t →
        TellsGrown rules entry h s w before deeds k (run w es) (before ++ es) t →
        IsCrew k.places t.runs →
        AreAllowed rules entry t.runs → (t.halted ≡ None → IsCountOf rules.flow (deeds ++ more) k.tally) → HasLed rules entry k s w before es deeds more
    led_grown k t es more at step tells crew allowed counted =
        record {
          stand = t;
          step = step;
          at =
              record {
                live = tells.live;
                settings = tells.settings;
                derived = tells.derived;
                home = tells.home;
                ours = tells.ours;
                sourced = tells.sourced;
                planned = tells.planned;
                listed = tells.listed;
                crew = crew;
                spaced = allowed.spaced;
                underway = allowed.underway;
                children = step_children s t w before es more step at.children;
                theirs = tells.theirs;
                halted = tells.halted;
                waits = tells.waits;
                starts =
                    step_starts s t w before es more step
                    ∙ (ap (λ js. js ++ started_jobs more) at.starts ∙ sym (flat_map-append started_job deeds more));
                counted = counted;
                faulted = step_broken s t w before es more step at.faulted;
                kept = tells.kept;
              };
        }

    -- the same with the jobs that it had
    led :
        (k : Parts) (t : Stand) (es : List Event) (more : List Deed) →
        IsAt rules entry h s w before deeds →
        Step rules entry s w before es more t →
        TellsOf rules entry h s w before deeds k (run w es) (before ++ es) t →
        ((j : Job) → IsIn (started_jobs more) j → IsOwn (seen rules entry) h j) →
        IsCrew k.places t.runs →
        AreAllowed rules entry t.runs →
        AreChildrenOf h.live.base.jobs.jobs t.begun k.places →
        (t.halted ≡ None → IsCountOf rules.flow (deeds ++ more) k.tally) → HasLed rules entry k s w before es deeds more
    led k t es more at step tells own crew allowed theirs counted =
        led_grown k t es more at step
        (record {
          live = tells.live;
          settings = tells.settings ∙ at.settings;
          derived =
              subst (λ (jobs : Jobs). derivation rules.flow (seen rules entry) jobs.lists rules.settings.targets ≡ Derived jobs.jobs)
              (sym tells.jobs) at.derived;
          home = tells.home;
          ours = λ whole. subst (λ (jobs : Jobs). IsOurs rules entry jobs.jobs (run w es)) (sym tells.jobs) (tells.ours whole);
          sourced =
              subst (λ (jobs : Jobs). (p : Path) → among (told_sources jobs.makers) p ≡ true → is_source (seen rules entry) p ≡ true)
              (sym tells.jobs) at.sourced;
          planned = λ b i. subst (λ (jobs : Jobs). IsIn jobs.jobs b.job) (sym tells.jobs) (of_plan b i).0;
          listed = λ b i. subst (λ (jobs : Jobs). IsListed (seen rules entry) jobs.lists b.job) (sym tells.jobs) (of_plan b i).1;
          theirs = subst (λ (jobs : Jobs). AreChildrenOf jobs.jobs t.begun k.places) (sym tells.jobs) theirs;
          halted = tells.halted;
          waits = tells.waits;
          kept = tells.kept;
        }) crew allowed counted
      where
        of_plan : (b : Begun) → IsIn t.begun b → IsOwn (seen rules entry) h b.job
        of_plan b i =
            begun_so (IsOwn (seen rules entry) h) (begun_jobs s) (started_jobs more) b.job
            (still_so (IsOwn (seen rules entry) h) s.begun (λ c k. (at.planned c k, at.listed c k))) own
            (subst (λ js. IsIn js b.job) (step_starts s t w before es more step) (in_map (λ (x : Begun). x.job) t.begun b i))

    same_count :
        (t : Stand) (es : List Event) →
        IsAt rules entry h s w before deeds → Step rules entry s w before es [] t → t.halted ≡ None → IsCountOf rules.flow (deeds ++ []) h.tally
    same_count t es at step none =
        subst (λ ds. IsCountOf rules.flow ds h.tally) (sym (append-nil deeds)) (at.counted (step_unhalted s t w before es [] step none))

    -- the same where this fault came, at a stand with the faults of this one
    told_fault :
        (f : Fault) (places : List (Option Child)) (t u : Stand) (w1 : World) (events : List Event) →
        IsAt rules entry h s w before deeds →
        u.halted ≡ s.halted → u.broken ≡ s.broken → is_device f ≡ false → t ≡ stands.halted_by f u → IsHome entry w1 → (s.broken ≡ false → IsOurs rules entry h.live.base.jobs.jobs w1) →
        TellsOf rules entry h s w before deeds (faulted f (record h { places = places })) w1 events t
    told_fault f places t u w1 events at halted broken other is home ours =
        record {
          live = at.live;
          settings = refl;
          jobs = refl;
          home = home;
          ours = λ whole. ours (sym broken ∙ (sym (ap (λ (x : Stand). x.broken) is) ∙ whole));
          halted = first_is h.halt.fault u.halted f (at.halted ∙ sym halted) ∙ sym (ap (λ (x : Stand). x.halted) is);
          waits =
              ap (λ b. h.halt.only_waits || b) other
              ∙ (or-false h.halt.only_waits ∙ (at.waits ∙ (sym broken ∙ sym (ap (λ (x : Stand). x.broken) is))));
          kept = λ none. has_fault u.halted f (sym (ap (λ (x : Stand). x.halted) is) ∙ none);
        }

    told_broken :
        (places : List (Option Child)) (t u : Stand) (w1 : World) (events : List Event) →
        IsAt rules entry h s w before deeds →
        u.halted ≡ s.halted → t ≡ stands.broken_by_device u → IsHome entry w1 →
        TellsOf rules entry h s w before deeds (faulted fault.Device (record h { places = places })) w1 events t
    told_broken places t u w1 events at halted is home =
        record {
          live = at.live;
          settings = refl;
          jobs = refl;
          home = home;
          ours = λ whole. absurd (never (sym (ap (λ (x : Stand). x.broken) is) ∙ whole));
          halted = first_is h.halt.fault u.halted fault.Device (at.halted ∙ sym halted) ∙ sym (ap (λ (x : Stand). x.halted) is);
          waits = or-true h.halt.only_waits ∙ sym (ap (λ (x : Stand). x.broken) is);
          kept = λ none. has_fault u.halted fault.Device (sym (ap (λ (x : Stand). x.halted) is) ∙ none);
        }

    pub halt_leads : HaltLeads rules entry h s w before deeds
    halt_leads es f at cause other looks quiet home ours =
        let step = Halts (record { why = f; cause = cause; only_read = looks; quiet = quiet; deeds_are = refl; leaves = refl }) in
        led (faulted f h) (stands.halted_by f s) es [] at step
        (told_fault f h.places (stands.halted_by f s) s (run w es) (before ++ es) at refl refl other refl home ours) (λ j i. absurd i) at.crew (allowed_at rules entry h s w before deeds at) at.theirs (same_count _ _ at step)

    pub failed_wait_leads : FailedWaitLeads rules entry h s w before deeds
    failed_wait_leads e at some none_left home =
        let step =
        FailsToWait
        (record { e = e; ran = crew_busy h.places s.runs at.crew some; none_left = none_left; events = refl; deeds_are = refl; leaves = refl }) in
        led (faulted fault.Device h) (stands.broken_by_device s) _ [] at step
        (told_broken h.places (stands.broken_by_device s) s _ _ at refl refl home) (λ j i. absurd i) at.crew (allowed_at rules entry h s w before deeds at) at.theirs (same_count _ _ at step)

    pub wait_leads : WaitLeads rules entry h s w before deeds
    wait_leads are c ended left at only taken number home =
        let t : Stand = without_child (seen rules (after w (wait_event ended left))) c.going ended.status s in
        let broken : s.broken ≡ true = sym at.waits ∙ only in
        let waited : IsWaitFor c.going ended s = record { ran = at.crew.run c.going (was_in h.places are c taken); number = number } in
        let step =
        Waits
        (record { going = c.going; ended = ended; left = left; broken = broken; waited = waited; events = refl; deeds_are = refl; leaves = refl }) in
        led (record h { places = are }) t (wait_event ended left ∷ []) [] at step
        (record {
          live = at.live;
          settings = refl;
          jobs = refl;
          home = home;
          ours = λ whole. absurd (never (sym broken ∙ whole));
          halted = at.halted;
          waits = at.waits;
          kept = λ none. absurd (at.faulted broken none);
        })
        (λ j i. absurd i)
        (crew_shrinks h.places are s.runs c at.crew taken)
        (allowed_left rules entry (λ (r : Underway). not (nat_eq r.number c.going.number)) s.runs (allowed_at rules entry h s w before deeds at))
        (theirs_left h.live.base.jobs.jobs s.begun h.places are c (seen rules (after w (wait_event ended left))) c.going ended.status at.theirs taken)
        (same_count _ _ at step)

    pub reading_breaks : ReadingBreaks rules entry h s w before deeds
    reading_breaks es t at breaks home =
        led (faulted fault.Device h) (stands.broken_by_device s) es [] at
        (ReadsNot (record { job = breaks.job; next = breaks.next; reads = breaks.reads; deeds_are = refl; leaves = refl }))
        (told_broken h.places (stands.broken_by_device s) s _ _ at refl refl home) (λ j i. absurd i) at.crew (allowed_at rules entry h s w before deeds at) at.theirs (same_count _ _ at (ReadsNot (record { job = breaks.job; next = breaks.next; reads = breaks.reads; deeds_are = refl; leaves = refl })))

    pub beginning_breaks : BeginningBreaks rules entry h s w before deeds
    beginning_breaks es t at breaks home =
        led (faulted fault.Device h) t es [] at (BeginsNot breaks) (told_broken h.places t s _ _ at refl breaks.leaves home) (λ j i. absurd i)
        (subst (λ (x : Stand). IsCrew h.places x.runs) (sym breaks.leaves) at.crew)
        (subst (λ (x : Stand). AreAllowed rules entry x.runs) (sym breaks.leaves) (allowed_at rules entry h s w before deeds at))
        (subst (λ (x : Stand). AreChildrenOf h.live.base.jobs.jobs x.begun h.places) (sym breaks.leaves) at.theirs) (same_count _ _ at (BeginsNot breaks))

    pub spending_breaks : SpendingBreaks rules entry h s w before deeds
    spending_breaks es t at breaks home =
        let same = removed_kept rules entry s breaks.last w before breaks.paths breaks.removing breaks.removed in
        let kept =
        kept_then s breaks.last t same
        (record { begun = ap (λ (x : Stand). x.begun) breaks.leaves; runs = ap (λ (x : Stand). x.runs) breaks.leaves }) in
        let faults = removed_faults rules s breaks.last w before breaks.paths breaks.removing breaks.removed in
        led (faulted fault.Device h) t es [] at (SpendsNot breaks) (told_broken h.places t breaks.last _ _ at faults.0 breaks.leaves home) (λ j i. absurd i)
        (subst (IsCrew h.places) (sym kept.runs) at.crew)
        (subst (AreAllowed rules entry) (sym kept.runs) (allowed_at rules entry h s w before deeds at))
        (subst (λ bs. AreChildrenOf h.live.base.jobs.jobs bs h.places) (sym kept.begun) at.theirs) (same_count _ _ at (SpendsNot breaks))

    -- once a child was taken from its place, where it was waited for
    module _ (are : List (Option Child)) (c : Child) (ended : Ended) (left : List Change) (going : Underway) (t : Stand) where
      crew_taken :
          IsAt rules entry h s w before deeds → IsPutFor (Some c) None h.places are → going ≡ c.going →
          t.runs ≡ (without_child (seen rules (after w (wait_event ended left))) going ended.status s).runs → IsCrew are t.runs
      crew_taken at taken is runs =
          subst (IsCrew are) (sym runs)
          (subst (λ (g : Underway). IsCrew are (filter (λ (r : Underway). not (nat_eq r.number g.number)) s.runs)) (sym is)
          (crew_shrinks h.places are s.runs c at.crew taken))

      allowed_taken :
          IsAt rules entry h s w before deeds →
          t.runs ≡ (without_child (seen rules (after w (wait_event ended left))) going ended.status s).runs → AreAllowed rules entry t.runs
      allowed_taken at runs =
          subst (AreAllowed rules entry) (sym runs)
          (allowed_left rules entry (λ (r : Underway). not (nat_eq r.number going.number)) s.runs (allowed_at rules entry h s w before deeds at))

      theirs_taken :
          IsAt rules entry h s w before deeds → IsPutFor (Some c) None h.places are →
          t.begun ≡ (without_child (seen rules (after w (wait_event ended left))) going ended.status s).begun →
          AreChildrenOf h.live.base.jobs.jobs t.begun are
      theirs_taken at taken begun =
          subst (λ bs. AreChildrenOf h.live.base.jobs.jobs bs are) (sym begun)
          (theirs_left h.live.base.jobs.jobs s.begun h.places are c (seen rules (after w (wait_event ended left))) going ended.status at.theirs taken)

    pub leaving_leads : LeavingLeads rules entry h s w before deeds
    leaving_leads are c es t at taken left is home ours =
        let u : Stand = without_child (seen rules (after w (wait_event left.ended left.left))) left.going left.ended.status s in
        led (faulted fault.OutOfMemory (record h { places = are })) t es [] at (Leaves left)
        (told_fault fault.OutOfMemory are t u _ _ at refl refl refl left.leaves home (λ whole. ours))
        (λ j i. absurd i)
        (crew_taken are c left.ended left.left left.going t at taken is (ap (λ (x : Stand). x.runs) left.leaves))
        (allowed_taken are c left.ended left.left left.going t at (ap (λ (x : Stand). x.runs) left.leaves))
        (theirs_taken are c left.ended left.left left.going t at taken (ap (λ (x : Stand). x.begun) left.leaves)) (same_count _ _ at (Leaves left))

    pub closing_breaks : ClosingBreaks rules entry h s w before deeds
    closing_breaks are c es t at taken off is home =
        let u : Stand = without_child (seen rules (after w (wait_event off.ended off.left))) off.going off.ended.status s in
        led (faulted fault.Device (record h { places = are })) t es [] at (BreaksOff off)
        (told_broken are t u _ _ at refl off.leaves home)
        (λ j i. absurd i)
        (crew_taken are c off.ended off.left off.going t at taken is (ap (λ (x : Stand). x.runs) off.leaves))
        (allowed_taken are c off.ended off.left off.going t at (ap (λ (x : Stand). x.runs) off.leaves))
        (theirs_taken are c off.ended off.left off.going t at taken (ap (λ (x : Stand). x.begun) off.leaves)) (same_count _ _ at (BreaksOff off))

    pub closing_leads : ClosingLeads rules entry h s w before deeds
    closing_leads k c es more t at closed is taken counted tells =
        let u : Stand = without_child (seen rules (after w (wait_event closed.ended closed.left))) closed.going closed.ended.status s in
        let kept =
        kept_then u closed.next t (replanned_kept rules u closed.next _ closed.replanned)
        (answer_kept rules entry closed.answer closed.next t _ _ closed.goes_by) in
        led k t es more at (Closes closed) tells
        (λ j i. absurd (subst (λ ds. IsIn (started_jobs ds) j) closed.deeds_are i))
        (crew_taken k.places c closed.ended closed.left closed.going t at taken is kept.runs)
        (allowed_taken k.places c closed.ended closed.left closed.going t at kept.runs)
        (theirs_taken k.places c closed.ended closed.left closed.going t at taken kept.begun) counted

    pub growing_leads : GrowingLeads rules entry h s w before deeds
    growing_leads k are c es more t at closed is taken same counted tells =
        let u : Stand = without_child (seen rules (after w (wait_event closed.ended closed.left))) closed.going closed.ended.status s in
        let kept =
        kept_then u closed.next t (replanned_kept rules u closed.next _ closed.replanned)
        (answer_kept rules entry closed.answer closed.next t _ _ closed.goes_by) in
        led_grown k t es more at (Closes closed) tells
        (crew_same are k.places t.runs same (crew_taken are c closed.ended closed.left closed.going t at taken is kept.runs))
        (allowed_taken are c closed.ended closed.left closed.going t at kept.runs) counted

    pub spending_leads : SpendingLeads rules entry h s w before deeds
    spending_leads k es t at spent places tally tells =
        let kept =
        kept_then s spent.last t (removed_kept rules entry s spent.last w before spent.paths spent.removing spent.removed)
        (goes_kept rules entry spent.last t _ _ spent.goes_by) in
        led k t es [] at (Spends spent) tells (λ j i. absurd i)
        (subst (λ ps. IsCrew ps t.runs) (sym places) (subst (IsCrew h.places) (sym kept.runs) at.crew))
        (subst (AreAllowed rules entry) (sym kept.runs) (allowed_at rules entry h s w before deeds at))
        (subst (AreChildrenOf h.live.base.jobs.jobs t.begun) (sym places)
        (subst (λ bs. AreChildrenOf h.live.base.jobs.jobs bs h.places) (sym kept.begun) at.theirs))
        (λ none. subst (IsCountOf rules.flow (deeds ++ [])) (sym tally) (same_count t es at (Spends spent) none))

    pub beginning_leads : BeginningLeads rules entry h s w before deeds
    beginning_leads k c j es t at begun is own number listed ask fresh put tally spaced recordable tells =
        let b : Begun = begun_of rules entry (moment_of s w before) begun.job in
        let u : Stand = with_job b begun.going s in
        let kept = kept_then u begun.next t (replanned_kept rules u begun.next _ begun.replanned) (goes_kept rules entry begun.next t _ _ begun.goes_by) in
        let grown = crew_grows h.places k.places s.runs c at.crew put fresh in
        led k t es (Started j ∷ []) at (Begins begun) tells (only (IsOwn (seen rules entry) h) j (get_in h.live.base.jobs.jobs c.job j number, listed))
        (subst (IsCrew k.places) (sym kept.runs) (subst (λ (g : Underway). IsCrew k.places (s.runs ++ g ∷ [])) is grown))
        (subst (AreAllowed rules entry) (sym kept.runs)
        (subst (λ (g : Underway). AreAllowed rules entry (s.runs ++ g ∷ [])) is
        (allowed_more rules entry s.runs c.going (allowed_at rules entry h s w before deeds at) spaced recordable)))
        (subst (λ bs. AreChildrenOf h.live.base.jobs.jobs bs k.places) (sym kept.begun)
        (theirs_more h.live.base.jobs.jobs s.begun b h.places k.places c at.theirs put
        (record {
          job = j;
          is = number;
          recipe = ap (λ (x : Job). x.recipe) own ∙ (ap (λ (g : Underway). g.recipe) (sym begun.is) ∙ ap (λ (g : Underway). g.recipe) (sym is));
          logs = ap (λ (x : Job). x.logs) own ∙ (ap (λ (g : Underway). g.logs) (sym begun.is) ∙ ap (λ (g : Underway). g.logs) (sym is));
          ask = ask;
          as_begun = b;
          has_begun = in_right s.begun (b ∷ []) b (inl refl);
          is_job = sym own;
        })))
        (λ none. subst (IsCountOf rules.flow (deeds ++ Started j ∷ [])) (sym tally)
        (started_more rules.flow deeds j h.tally (at.counted begun.to_begin.next.clear.unhalted)))
