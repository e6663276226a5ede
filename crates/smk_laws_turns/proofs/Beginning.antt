-- A job begins: with the first call that changes one of its places it has begun, and the stand with it is that of each moment from then on.
use Rattle.std.proofs.Common.{◌≡◌, ◌⊎◌, ℕ, ◌+◌, Bool, true, false, ◌&&◌, ◌||◌, not, List, [], ◌∷◌, ◌++◌, map, filter, length, zip, refl, sym, ap, subst, ◌∙◌, inl, inr, Option, Some, None, Ok, append_assoc, append-nil}
use Rattle.std.specs.Prelude.{bytes_eq, if◌then◌else◌}
use Rattle.std.specs.List.{list_all, list_any}
use Rattle.smk_base.specs.Path.{is_at_or_under}
use Rattle.smk_base.proofs.Places.{place_itself}
use Rattle.smk_base.proofs.Under.{at_itself, or_second}
use Rattle.smk_world.specs.declared.event.Call.{Call}
use Rattle.smk_world.specs.declared.event.Call.TheVariants.{Looked, ReadFile, ReadFolder, Written, Created, Removed, MadeParents, Settled, Protected, Started, Waited}
use Rattle.smk_world.specs.declared.event.Change.{Change}
use Rattle.smk_world.specs.declared.event.Child.{Child}
use Rattle.smk_world.specs.declared.event.Event.{Event}
use Rattle.smk_world.specs.declared.recipe.Recipe.{Recipe}
use Rattle.smk_world.specs.World.{World, IsFormed, after, children_after, in_paths, is_within, out_paths, owned_paths, run}
use Rattle.smk_world.specs.Calls.{Lets, failed}
use Rattle.smk_world.specs.Folders.{IsTree}
use Rattle.smk_world.specs.Requests.{HasDone, Request, request}
use Rattle.smk_world.specs.Runs.{Follows}
use Rattle.smk_world.specs.Trees.{Act, Each, IsIn, Path}
use Rattle.smk_world.proofs.Names.{formed_after, formed_run}
use Rattle.smk_flow.specs.declared.job.Job.{Job}
use Rattle.smk_store.specs.Images.{record_at}
use Rattle.smk_store.specs.Trust.{made_at, stamp_now}
use Rattle.smk_trigger.specs.declared.reason.State.{State}
use Rattle.smk_trigger.specs.JobStates.{is_restore, is_to_run}
use Rattle.smk_plan.specs.States.{LastPlan, Plan, is_spent, job_path, staged, state_of, test_some}
use Rattle.smk_laws_plan.proofs.CurrentLists.{any_from, in_right, in_zip, zip_first}
use Rattle.smk_laws_plan.proofs.CurrentRecipes.{map_same}
use Rattle.smk_drive.specs.Moments.{Begun, IsInForce, IsMoment, Moment, Rules, begins, begun_after, begun_of, changes_at, draws, greatest, has_begun, is_changed, is_closed, is_rest, is_spent_removal, lists_of, places, progress_of, runs, seen, staged_now, with_end}
use Rattle.smk_drive.specs.Lawful.{is_wait}
use Rattle.smk_drive_course.specs.Stands as stands
use Rattle.smk_drive_course.specs.Stands.{IsReplanned, Stand, lists, moment_of}
use Rattle.smk_laws_moments.specs.Owning.{IsOwnCall}
use Rattle.smk_laws_moments.specs.Standing.{IsStandOf}
use Rattle.smk_laws_moments.proofs.ChildrenOf.{run_more}
use Rattle.smk_laws_moments.proofs.OwnCalls.{own_calls_begin_none}
use Rattle.smk_laws_moments.proofs.StandsOf.{world_is}
use Rattle.smk_laws_moments.specs.Staying.{IsPlanOfSources}
use Rattle.smk_laws_turns.proofs.OneBegins.{alone, is_named, none_passes, unspent}
use Rattle.smk_laws_turns.proofs.Onward.{At, all_kept, anew_event, no_end, own_event, own_keeps, quiet_event}
use Rattle.smk_laws_turns.proofs.Requests.{IsBeginning, beginning_own, no_wait, out_placed, own_call}
use Rattle.smk_laws_turns.proofs.SparedPlans.{Spared, complete0, force_there, is_plan, record_same, spared_first, spared_next, stamp_same}

-- no child is started or waited for
quiet_beginning : (j : Job) (call : Call) (cs : List Child) → IsBeginning j (request call) → children_after call cs ≡ cs
quiet_beginning j (Looked r a) cs h = refl
quiet_beginning j (ReadFile r limit a) cs h = refl
quiet_beginning j (ReadFolder r a) cs h = refl
quiet_beginning j (Written r bytes a) cs h = refl
quiet_beginning j (Created r a) cs h = refl
quiet_beginning j (Removed r a) cs h = refl
quiet_beginning j (MadeParents r a) cs h = refl
quiet_beginning j (Settled rs a) cs h = refl
quiet_beginning j (Protected r a) cs h = refl
quiet_beginning j (Started recipe logs command a) cs h = absurd h
quiet_beginning j (Waited a) cs h = absurd h

all_false : {A : Type 0} (f : A → Bool) (xs : List A) (x : A) → IsIn xs x → f x ≡ false → list_all f xs ≡ false
all_false f [] x i h = absurd i
all_false f (y ∷ xs) x (inl e) h = ap (λ b. b && list_all f xs) (ap f (sym e) ∙ h)
all_false f (y ∷ xs) x (inr i) h = go (f y) (all_false f xs x i h)
  where
    go : (b : Bool) → list_all f xs ≡ false → (b && list_all f xs) ≡ false
    go true k = k
    go false k = refl

none_of : (a b : Bool) → a ≡ false → b ≡ false → (a || b) ≡ false
none_of a b h k = ap (λ x. x || b) h ∙ k

module _ (rules : Rules) (entry : World) (formed : IsFormed entry) (act : Act) (s : Stand) (before : List Event) (e : Job × State) (p : Plan)
    (in_force : s.plan ≡ Some p) (chain : LastPlan rules.flow (seen rules (run entry before)) rules.settings (progress_of (run entry before) s.begun) p.lists p)
    (of_sources : IsPlanOfSources rules entry p)
    (is_staged : IsIn (staged p) e) (to_run : is_to_run e.1 ≡ true)
    (unbegun : list_any (λ (b : Begun). bytes_eq (job_path b.job) (job_path e.0)) s.begun ≡ false) (idle : runs (run entry before) e.0 ≡ false) where
  abbrev pub v0 : World
  v0 = run entry before

  abbrev pub j : Job
  j = e.0

  pub formed0 : IsFormed v0
  formed0 = formed_run entry before formed

  pub planned : IsIn p.jobs j
  planned = zip_first p.jobs p.states e.0 e.1 is_staged

  all_lists : lists s ≡ p.lists
  all_lists = ap (λ (o : Option Plan). lists_of o s.from) in_force

  abbrev pub Spared0 : World → Type 0
  Spared0 v = Spared rules v0 s.begun p formed0 chain v

  -- as what it begins, and the stand with it
  abbrev pub new : Begun
  new = begun_of rules entry (moment_of s v0 before) e

  abbrev pub with_new : Stand
  with_new = record s { begun = s.begun ++ new ∷ [] }

  unrested : (v : World) → v.children ≡ v0.children → is_rest v with_new.begun ≡ false
  unrested v same =
      all_false (λ (b : Begun). runs v b.job || is_closed v b) (s.begun ++ new ∷ []) new (in_right new s.begun (new ∷ []) (inl refl))
      (none_of (runs v j) _ (ap (λ (cs : List Child). runs (record v { children = cs }) j) same ∙ idle) refl)

  has_new : list_any (λ (b : Begun). bytes_eq (job_path b.job) (job_path j)) with_new.begun ≡ true
  has_new = any_from (λ (b : Begun). bytes_eq (job_path b.job) (job_path j)) with_new.begun new (in_right new s.begun (new ∷ []) (inl refl)) (place_itself (job_path j))

  planned_new : (plan : Plan) → with_new.plan ≡ Some plan → IsPlanOfSources rules entry plan × IsIn plan.jobs j
  planned_new plan some = subst (λ (q : Plan). IsPlanOfSources rules entry q × IsIn q.jobs j) (same p plan (sym in_force ∙ some)) (of_sources, planned)
    where
      same : (a b : Plan) → Some a ≡ Some b → a ≡ b
      same a b h = cc

  -- ## With one call

  module _ (events : List Event) (spared : Spared0 (run entry events)) (children : (run entry events).children ≡ v0.children) where
    abbrev v : World
    v = run entry events

    formed_there : IsFormed v
    formed_there = formed_run entry events formed

    -- it begins with the same stamps and serial
    same_new : (m : Moment) → IsMoment rules entry events m → IsStandOf s m → begun_of rules entry m e ≡ new
    same_new m is of =
        λ i. record { job = e.0; state = e.1; stamps = stamps i; serial = serial (is_restore e.1) i; ended = None }
      where
        world : m.world ≡ v
        world = world_is rules entry events m is

        stamps : map (stamp_now (seen rules m.world)) (in_paths e.0.recipe) ≡ map (stamp_now (seen rules v0)) (in_paths e.0.recipe)
        stamps =
            ap (λ (w : World). map (stamp_now (seen rules w)) (in_paths e.0.recipe)) world
            ∙ map_same (stamp_now (seen rules v)) (stamp_now (seen rules v0)) (in_paths e.0.recipe)
            (λ q i. stamp_same rules v0 s.begun p formed0 chain v formed_there spared children q)

        kept : made_at (record_at (seen rules m.world) (job_path j)) ≡ made_at (record_at (seen rules v0) (job_path j))
        kept =
            ap (λ (w : World). made_at (record_at (seen rules w) (job_path j))) world
            ∙ ap made_at (record_same rules v0 s.begun p formed0 chain v formed_there spared children (job_path j))

        drawn : greatest rules (seen rules entry) + (1 + length (filter (draws rules) m.begun)) ≡ greatest rules (seen rules entry) + (1 + length (filter (draws rules) s.begun))
        drawn = ap (λ (bs : List Begun). greatest rules (seen rules entry) + (1 + length (filter (draws rules) bs))) of.begun

        serial : (b : Bool) → (if b then made_at (record_at (seen rules m.world) (job_path j)) else greatest rules (seen rules entry) + (1 + length (filter (draws rules) m.begun)))
            ≡ (if b then made_at (record_at (seen rules v0) (job_path j)) else greatest rules (seen rules entry) + (1 + length (filter (draws rules) s.begun)))
        serial true = kept
        serial false = drawn

    module _ (f : Event) (own : IsOwnCall j v f.call) (waits : is_wait f.call ≡ false) (m : Moment) (is : IsMoment rules entry events m) (of : IsStandOf s m) (spends : is_spent_removal rules m f.call ≡ false) where
      abbrev changes : Bool
      changes = list_any (is_changed v f) (places j)

      others : (k : Job) → IsIn p.jobs k → (job_path k ≡ job_path j → ⊥) → begins rules m f k ≡ false
      others k ik other =
          let plan0 = is_plan rules v0 s.begun p formed0 chain in
          let state = state_of (seen rules v0) rules.settings (progress_of v0 s.begun) p in
          own_calls_begin_none rules (seen rules v0) (progress_of v0 s.begun) p m f j (k, state k) (complete0 rules v0 s.begun p formed0 chain) plan0 planned
          (subst (λ (w : World). IsOwnCall j w f.call) (sym (world_is rules entry events m is)) own)
          (subst (λ ss. IsIn (zip p.jobs ss) (k, state k)) (sym plan0.states) (in_zip state p.jobs k ik)) (λ same. other (sym same))

      begins_if : begins rules m f j ≡ changes
      begins_if =
          let fresh : has_begun rules m j ≡ false = ap (λ (bs : List Begun). list_any (λ (b : Begun). bytes_eq (job_path b.job) (job_path j)) bs) of.begun ∙ unbegun in
          λ i. not (fresh i) && (not (spends i) && list_any (is_changed (world_is rules entry events m is i) f) (places j))

      abbrev ended : Begun → Begun
      ended b = with_end rules m.world (after m.world f) f.call b

      same_begun : map ended m.begun ≡ m.begun
      same_begun = all_kept ended (no_end rules m.world (after m.world f) f.call waits) m.begun

      -- those that begin
      abbrev beginners : List (Job × State)
      beginners = filter (λ (k : Job × State). begins rules m f k.0) (staged p)

      begun_by : (ks : List (Job × State)) → beginners ≡ ks → begun_after rules entry m f ≡ m.begun ++ map (begun_of rules entry m) ks
      begun_by ks they =
          ap (λ (o : Option Plan). map ended m.begun ++ map (begun_of rules entry m) (filter (λ (k : Job × State). begins rules m f k.0) (staged_now o))) (of.plan ∙ in_force)
          ∙ (λ i. same_begun i ++ map (begun_of rules entry m) (they i))

      -- where a place of it changes it has begun, and else the same have
      begun_then : changes ≡ true → begun_after rules entry m f ≡ with_new.begun
      begun_then h =
          let plan0 = is_plan rules v0 s.begun p formed0 chain in
          begun_by (e ∷ [])
          (alone rules.flow (seen rules v0) rules.settings (progress_of v0 s.begun) p (complete0 rules v0 s.begun p formed0 chain) plan0 (λ k. begins rules m f k) e is_staged (begins_if ∙ h) others)
          ∙ (λ i. of.begun i ++ same_new m is of i ∷ [])

      begun_still : changes ≡ false → begun_after rules entry m f ≡ m.begun
      begun_still h =
          let plan0 = is_plan rules v0 s.begun p formed0 chain in
          begun_by []
          (none_passes rules.flow (seen rules v0) rules.settings (progress_of v0 s.begun) p (complete0 rules v0 s.begun p formed0 chain) plan0 (λ k. begins rules m f k) e is_staged (begins_if ∙ h) others)
          ∙ append-nil m.begun

    -- what it makes isn't spent
    not_spent : (f : Event) (m : Moment) → IsBeginning j (request f.call) → IsStandOf s m → is_spent_removal rules m f.call ≡ false
    not_spent f m h of = go f.call h
      where
        go : (call : Call) → IsBeginning j (request call) → is_spent_removal rules m call ≡ false
        go (Removed q r) out =
            ap (λ (o : Option Plan). test_some (λ (plan : Plan). list_any (λ (k : Job × State). is_spent (seen rules m.world) rules.settings (progress_of m.world m.begun) plan k q) (staged plan)) o) (of.plan ∙ in_force)
            ∙ unspent rules.flow (seen rules v0) rules.settings (progress_of v0 s.begun) p (complete0 rules v0 s.begun p formed0 chain) (is_plan rules v0 s.begun p formed0 chain) (seen rules m.world)
            (progress_of m.world m.begun) e q is_staged to_run out
        go (Looked q r) h = refl
        go (ReadFile q limit r) h = refl
        go (ReadFolder q r) h = refl
        go (Written q bytes r) h = refl
        go (Created q r) h = refl
        go (MadeParents q r) h = refl
        go (Settled qs r) h = refl
        go (Protected q r) h = refl
        go (Started recipe logs command r) h = refl
        go (Waited r) h = refl

    force_after : (f : Event) → IsFormed (after v f) → Spared0 (after v f) → (after v f).children ≡ v0.children → IsInForce rules (after v f) s.begun (lists s) s.plan
    force_after f there spared1 same =
        subst (λ (o : Option Plan). IsInForce rules (after v f) s.begun (lists s) o) (sym in_force)
        (subst (λ ls. LastPlan rules.flow (seen rules (after v f)) rules.settings (progress_of (after v f) s.begun) ls p) (sym all_lists)
        (force_there rules v0 s.begun p formed0 chain (after v f) there spared1 same))

  -- ## On the way

  -- it hasn't begun yet, or it has
  pub record IsAhead (events : List Event) : Type 0 where
    pub at : At rules entry formed s events
    pub spared : Spared0 (run entry events)
    pub children : (run entry events).children ≡ v0.children

  pub record HasIt (events : List Event) : Type 0 where
    pub at : At rules entry formed with_new events
    pub children : (run entry events).children ≡ v0.children

  abbrev pub OnItsWay : List Event → Type 0
  OnItsWay events = IsAhead events ⊎ HasIt events

  next_children : (events : List Event) (f : Event) → IsBeginning j (request f.call) → (run entry events).children ≡ v0.children → (after (run entry events) f).children ≡ v0.children
  next_children events f h same = quiet_beginning j f.call (run entry events).children h ∙ same

  there : (events : List Event) (f : Event) → run entry (events ++ f ∷ []) ≡ after (run entry events) f
  there events f = run_more entry events (f ∷ [])

  one_call :
      (events : List Event) (f : Event) → IsBeginning j (request f.call) → failed f.call ≡ false → Lets act (run entry events) f.call f.left → IsTree (run entry events) →
      OnItsWay events → OnItsWay (events ++ f ∷ [])
  one_call events f h ok lets tree (inl a) = go (list_any (is_changed (run entry events) f) (places j)) refl
    where
      own : IsOwnCall j (run entry events) f.call
      own = own_call j (run entry events) f.call (beginning_own j (request f.call) h)

      waits : is_wait f.call ≡ false
      waits = no_wait j f.call (beginning_own j (request f.call) h)

      same : (after (run entry events) f).children ≡ v0.children
      same = next_children events f h a.children

      go : (b : Bool) → list_any (is_changed (run entry events) f) (places j) ≡ b → OnItsWay (events ++ f ∷ [])
      go true changed =
          inr
          (record {
            at =
                anew_event rules entry formed s with_new with_new events f a.at
                (λ m is of. record {
                  begun = begun_then events a.spared a.children f own waits m is of (not_spent events a.spared a.children f m h of) changed;
                  plan = refl;
                  since = refl;
                  listed = refl;
                }) (stands.Between (unrested (after (run entry events) f) same));
            children = ap (λ (w : World). w.children) (there events f) ∙ same;
          })
      go false unchanged =
          let spared1 =
          spared_next rules v0 s.begun p formed0 chain j planned (run entry events) tree act f h ok lets unchanged a.spared in
          inl
          (record {
            at =
                quiet_event rules entry formed s events f a.at
                (λ m is of. begun_still events a.spared a.children f own waits m is of (not_spent events a.spared a.children f m h of) unchanged)
                (λ rest. force_after events a.spared a.children f (formed_after (run entry events) f (formed_run entry events formed)) spared1 same);
            spared = subst Spared0 (sym (there events f)) spared1;
            children = ap (λ (w : World). w.children) (there events f) ∙ same;
          })
  one_call events f h ok lets tree (inr a) =
      inr
      (record {
        at =
            own_event rules entry formed with_new j planned_new events f has_new (own_call j (run entry events) f.call (beginning_own j (request f.call) h))
            (no_wait j f.call (beginning_own j (request f.call) h)) (unrested (after (run entry events) f) (next_children events f h a.children)) a.at;
        children = ap (λ (w : World). w.children) (there events f) ∙ next_children events f h a.children;
      })

  pub all_calls :
      (events fs : List Event) (rs : List Request) → Each (IsBeginning j) rs → HasDone rs fs → Follows act (run entry events) fs → IsTree (run entry events) →
      OnItsWay events → OnItsWay (events ++ fs) × IsTree (run entry (events ++ fs))
  all_calls events [] [] each done follows tree way = (subst OnItsWay (sym (append-nil events)) way, subst (λ es. IsTree (run entry es)) (sym (append-nil events)) tree)
  all_calls events [] (r ∷ rs) each done follows tree way = absurd done
  all_calls events (f ∷ fs) [] each done follows tree way = absurd done
  all_calls events (f ∷ fs) (r ∷ rs) each done follows tree way =
      let here = one_call events f (subst (IsBeginning j) (sym done.0) each.0) done.1 follows.0.lets tree way in
      let later =
      all_calls (events ++ f ∷ []) fs rs each.1 done.2 (subst (λ (w : World). Follows act w fs) (sym (there events f)) follows.1)
      (subst IsTree (sym (there events f)) follows.0.tree) here in
      subst (λ es. OnItsWay es × IsTree (run entry es)) (append_assoc events (f ∷ []) fs) later

  -- ## The start

  started_changes : (w : World) (recipe : Recipe) (logs : List Path) (command : List ℕ) (n : ℕ) (left : List Change) → recipe ≡ j.recipe → list_any (λ q. changes_at (Started recipe logs command (Ok n)) w left q) (places j) ≡ true
  started_changes w recipe logs command n left same =
      let named = is_named rules.flow (seen rules v0) rules.settings (progress_of v0 s.begun) p (complete0 rules v0 s.begun p formed0 chain) (is_plan rules v0 s.begun p formed0 chain) j planned in
      any_from (λ q. is_within q (owned_paths recipe logs)) (places j) (job_path j) (out_placed j (job_path j) named)
      (within (job_path j) (out_paths recipe) logs (subst (λ (r : Recipe). IsIn (out_paths r) (job_path j)) (sym same) named))
    where
      within : (q : Path) (ps qs : List Path) → IsIn ps q → is_within q (ps ++ qs) ≡ true
      within q [] qs i = absurd i
      within q (x ∷ ps) qs (inl e) = ap (λ b. b || is_within q (ps ++ qs)) (ap (is_at_or_under q) (sym e) ∙ at_itself q)
      within q (x ∷ ps) qs (inr i) = or_second (is_at_or_under q x) (is_within q (ps ++ qs)) (within q ps qs i)

  -- once its child runs, the stand with it is made anew
  pub started :
      (events : List Event) (recipe : Recipe) (logs : List Path) (command : List ℕ) (n : ℕ) (left : List Change) (u t : Stand) → recipe ≡ j.recipe → logs ≡ j.logs →
      u.begun ≡ with_new.begun → u.plan ≡ s.plan → u.from ≡ s.from → OnItsWay events →
      IsReplanned rules u (after (run entry events) (record { call = Started recipe logs command (Ok n); left = left })) t →
      At rules entry formed t (events ++ record { call = Started recipe logs command (Ok n); left = left } ∷ [])
  started events recipe logs command n left u t same_recipe same_logs begun plan from (inl a) plans =
      let f : Event = record { call = Started recipe logs command (Ok n); left = left } in
      anew_event rules entry formed s u t events f a.at
      (λ m is of. record {
        begun =
            begun_then events a.spared a.children f (same_recipe, same_logs) refl m is of refl (started_changes (run entry events) recipe logs command n left same_recipe)
            ∙ sym begun;
        plan = plan;
        since = from;
        listed = λ i. lists_of (plan i) (from i);
      }) plans
  started events recipe logs command n left u t same_recipe same_logs begun plan from (inr a) plans =
      let f : Event = record { call = Started recipe logs command (Ok n); left = left } in
      anew_event rules entry formed with_new u t events f a.at
      (λ m is of. record {
        begun =
            own_keeps rules entry formed with_new j planned_new m f of
            (ap (λ (bs : List Begun). list_any (λ (b : Begun). bytes_eq (job_path b.job) (job_path j)) bs) of.begun ∙ has_new) (same_recipe, same_logs) refl
            ∙ (of.begun ∙ sym begun);
        plan = plan;
        since = from;
        listed = λ i. lists_of (plan i) (from i);
      }) plans

  pub first_ahead : At rules entry formed s before → OnItsWay before
  first_ahead at = inl (record { at = at; spared = spared_first rules v0 s.begun p formed0 chain; children = refl })
