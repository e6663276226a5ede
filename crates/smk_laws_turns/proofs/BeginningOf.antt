-- Where a job begins, the stand to which that leads is the moment.
use Rattle.std.proofs.Common.{◌≡◌, ℕ, Bool, true, false, ◌&&◌, ◌||◌, not, List, [], ◌∷◌, ◌++◌, map, filter, refl, sym, ap, subst, ◌∙◌, inl, inr, Option, Some, None, Ok, Err, append_assoc, true≢false}
use Rattle.std.specs.Prelude.{bytes_eq, nat_le}
use Rattle.std.specs.List.{list_all, list_any}
use Rattle.smk_base.proofs.Places.{place_itself, same_flipped, same_place}
use Rattle.smk_world.specs.declared.event.Call.{Call}
use Rattle.smk_world.specs.declared.event.Call.TheVariants.{Looked, ReadFile, ReadFolder, Written, Created, Removed, MadeParents, Settled, Protected, Started, Waited}
use Rattle.smk_world.specs.declared.event.Child.{Child}
use Rattle.smk_world.specs.declared.event.Event.{Event}
use Rattle.smk_world.specs.declared.recipe.Recipe.{Recipe}
use Rattle.smk_world.specs.World.{World, IsFormed, after, out_paths, owned_paths, run}
use Rattle.smk_world.specs.Calls.{failed}
use Rattle.smk_world.specs.Folders.{IsTree}
use Rattle.smk_world.specs.Requests.{Request, request}
use Rattle.smk_world.specs.Requests.Request.{Look, ReadUpTo, ListFolder, Write, Create, Remove, MakeParents, Settle, Protect, Start, Wait}
use Rattle.smk_world.specs.Runs.{Follows}
use Rattle.smk_world.specs.Trees.{Act, IsIn, Path, among, first}
use Rattle.smk_pattern.specs.Reading.{or_empty}
use Rattle.smk_flow.specs.declared.job.Job.{Job}
use Rattle.smk_store.specs.Steps.{mark_requests, places_of}
use Rattle.smk_trigger.specs.declared.reason.State.{State}
use Rattle.smk_trigger.specs.JobStates.{is_to_run}
use Rattle.smk_pick.specs.Rooms.{threads_in}
use Rattle.smk_plan.specs.States.{LastPlan, Plan, is_startable, job_path, none_or_one, staged}
use Rattle.smk_laws_plan.proofs.CurrentLists.{and_left, and_right, any_from, filter_in, find_in, flat_in, not_true}
use Rattle.smk_laws_plan.proofs.CurrentSame.{pointwise_same}
use Rattle.smk_laws_protocol.proofs.Basics.{each_in}
use Rattle.smk_job.specs.Jobs.{Underway, clear_requests}
use Rattle.smk_drive.specs.Moments.{Begun, IsInForce, Rules, begun_of, is_child_of, lists_of, progress_of, runs, seen}
use Rattle.smk_drive.specs.Lawful.{first_of, fit_together, running_jobs}
use Rattle.smk_drive_course.specs.Lawful.{is_free_to_start, may_start}
use Rattle.smk_drive_course.proofs.HasMoment.{has_moment}
use Rattle.smk_drive_course.specs.Stands.{IsReplanned, Stand, moment_of, with_job}
use Rattle.smk_drive_course.specs.Steps.{Deed, HasBegun}
use Rattle.smk_laws_moments.specs.Courses.{child_of}
use Rattle.smk_laws_moments.proofs.ChainsOn.{clear_stays, planned_again}
use Rattle.smk_laws_moments.proofs.ChildrenOf.{run_more}
use Rattle.smk_laws_moments.proofs.LooksLike.{IsLike, like_looks}
use Rattle.smk_laws_moments.proofs.StandsOf.{first_follows, looks_keep_stands}
use Rattle.smk_laws_moments.specs.Staying.{AreDerivedStill, IsDerivedStill}
use Rattle.smk_laws_turns.specs.Standing.{BeginningIsMoment, IsGoing}
use Rattle.smk_laws_turns.proofs.Beginning.{OnItsWay, all_calls, first_ahead, started}
use Rattle.smk_laws_turns.proofs.Onward.{At, goes_at, is_it}
use Rattle.smk_laws_turns.proofs.Requests.{begins_each, done_last}

-- what reads stands in folders after each event
pub tree_run : (act : Act) (w : World) (es : List Event) → Follows act w es → IsTree w → IsTree (run w es)
tree_run act w [] follows tree = tree
tree_run act w (e ∷ es) follows tree = tree_run act (after w e) es follows.1 follows.0.tree

-- a start that was made
record IsStart (f : Event) (recipe : Recipe) (logs : List Path) : Type 0 where
  command : List ℕ
  number : ℕ
  its_recipe : Recipe
  its_logs : List Path
  is : f ≡ record { call = Started its_recipe its_logs command (Ok number); left = f.left }
  same_recipe : its_recipe ≡ recipe
  same_logs : its_logs ≡ logs

start_of : (f : Event) (recipe : Recipe) (logs : List Path) (command : List ℕ) → request f.call ≡ Start recipe logs command → failed f.call ≡ false → IsStart f recipe logs
start_of f recipe logs command h ok = go f.call refl h ok
  where
    recipe_in : Request → Recipe
    recipe_in (Start r l c) = r
    recipe_in (Look p) = recipe
    recipe_in (ReadUpTo p limit) = recipe
    recipe_in (ListFolder p) = recipe
    recipe_in (Write p bytes) = recipe
    recipe_in (Create p) = recipe
    recipe_in (Remove p) = recipe
    recipe_in (MakeParents p) = recipe
    recipe_in (Settle ps) = recipe
    recipe_in (Protect p) = recipe
    recipe_in Wait = recipe

    logs_in : Request → List Path
    logs_in (Start r l c) = l
    logs_in (Look p) = logs
    logs_in (ReadUpTo p limit) = logs
    logs_in (ListFolder p) = logs
    logs_in (Write p bytes) = logs
    logs_in (Create p) = logs
    logs_in (Remove p) = logs
    logs_in (MakeParents p) = logs
    logs_in (Settle ps) = logs
    logs_in (Protect p) = logs
    logs_in Wait = logs

    starts : Request → Bool
    starts (Start r l c) = true
    starts (Look p) = false
    starts (ReadUpTo p limit) = false
    starts (ListFolder p) = false
    starts (Write p bytes) = false
    starts (Create p) = false
    starts (Remove p) = false
    starts (MakeParents p) = false
    starts (Settle ps) = false
    starts (Protect p) = false
    starts Wait = false

    other : (call : Call) → request call ≡ Start recipe logs command → starts (request call) ≡ false → ⊥
    other call k none = true≢false (sym (ap starts k) ∙ none)

    go : (call : Call) → f.call ≡ call → request call ≡ Start recipe logs command → failed call ≡ false → IsStart f recipe logs
    go (Started r l c (Ok n)) is k fine =
        record {
          command = c;
          number = n;
          its_recipe = r;
          its_logs = l;
          is = λ i. record { call = is i; left = f.left };
          same_recipe = ap recipe_in k;
          same_logs = ap logs_in k;
        }
    go (Started r l c (Err e)) is k fine = absurd (true≢false fine)
    go (Looked p r) is k fine = absurd (other (Looked p r) k refl)
    go (ReadFile p limit r) is k fine = absurd (other (ReadFile p limit r) k refl)
    go (ReadFolder p r) is k fine = absurd (other (ReadFolder p r) k refl)
    go (Written p bytes r) is k fine = absurd (other (Written p bytes r) k refl)
    go (Created p r) is k fine = absurd (other (Created p r) k refl)
    go (Removed p r) is k fine = absurd (other (Removed p r) k refl)
    go (MadeParents p r) is k fine = absurd (other (MadeParents p r) k refl)
    go (Settled ps r) is k fine = absurd (other (Settled ps r) k refl)
    go (Protected p r) is k fine = absurd (other (Protected p r) k refl)
    go (Waited r) is k fine = absurd (other (Waited r) k refl)

any_mapped : {A : Type 0} (f : A → Path) (q : Path) (xs : List A) → among (map f xs) q ≡ list_any (λ x. bytes_eq (f x) q) xs
any_mapped f q [] = refl
any_mapped f q (x ∷ xs) = λ i. same_flipped q (f x) i || any_mapped f q xs i

none_of : {A : Type 0} (f : A → Bool) (xs : List A) → ((x : A) → IsIn xs x → f x ≡ true → ⊥) → list_any f xs ≡ false
none_of f [] h = refl
none_of f (x ∷ xs) h = go (f x) refl (none_of f xs (λ y i. h y (inr i)))
  where
    go : (b : Bool) → f x ≡ b → list_any f xs ≡ false → (b || list_any f xs) ≡ false
    go true e rest = absurd (h x (inl refl) e)
    go false e rest = rest

mapped_in : {A B : Type 0} (f : A → B) (xs : List A) (y : B) → IsIn (map f xs) y → (x : A) × IsIn xs x × (y ≡ f x)
mapped_in f [] y h = absurd h
mapped_in f (x ∷ xs) y (inl e) = (x, inl refl, e)
mapped_in f (x ∷ xs) y (inr i) = let r = mapped_in f xs y i in (r.0, inr r.1, r.2)

-- the job that is next may start by the plan in force, and hasn't begun
module _ (rules : Rules) (s : Stand) (w : World) (before : List Event) (e : Job × State) (is_next : first_of (may_start rules (moment_of s w before)) ≡ Some e) where
  pub record IsStarting : Type 0 where
    pub plan : Plan
    pub in_force : s.plan ≡ Some plan
    pub is_staged : IsIn (staged plan) e
    pub startable : is_startable (seen rules w) rules.settings (progress_of w s.begun) plan e ≡ true

  pub starting : IsStarting
  starting =
      let m = moment_of s w before in
      let i = (find_in (λ (k : Job × State). list_all (λ (x : Job × State). nat_le x.0.priority k.0.priority) (may_start rules m)) (may_start rules m) e is_next).0 in
      let r = flat_in may_of (none_or_one s.plan) e i in
      let free = filter_in (λ (k : Job × State). is_free_to_start rules m r.0 k && fit_together rules (k.0 ∷ running_jobs m)) (staged r.0) e r.2 in
      record { plan = r.0; in_force = one_plan s.plan r.0 r.1; is_staged = free.0; startable = and_left _ _ (and_left _ _ free.1) }
    where
      may_of : Plan → List (Job × State)
      may_of plan = filter (λ (k : Job × State). is_free_to_start rules (moment_of s w before) plan k && fit_together rules (k.0 ∷ running_jobs (moment_of s w before))) (staged plan)

      one_plan : (o : Option Plan) (plan : Plan) → IsIn (none_or_one o) plan → o ≡ Some plan
      one_plan None plan k = absurd k
      one_plan (Some p) plan (inl same) = ap Some (sym same)
      one_plan (Some p) plan (inr k) = absurd k

  pub to_run : is_to_run e.1 ≡ true
  to_run = and_left (is_to_run e.1) _ starting.startable

  pub unbegun : list_any (λ (b : Begun). bytes_eq (job_path b.job) (job_path e.0)) s.begun ≡ false
  unbegun =
      sym (any_mapped (λ (b : Begun). job_path b.job) (job_path e.0) s.begun)
      ∙ not_true _ (and_left (not (among (map (λ (b : Begun). job_path b.job) s.begun) (job_path e.0))) _ (and_right (is_to_run e.1) _ starting.startable))

-- a child that runs is of a job that has begun
pub begun_child :
    (rules : Rules) (entry : World) (s : Stand) (j : Job) (g : Underway) → AreDerivedStill rules entry s → IsIn s.runs g → or_empty (first (out_paths g.recipe)) ≡ job_path j →
    list_any (λ (b : Begun). bytes_eq (job_path b.job) (job_path j)) s.begun ≡ true
begun_child rules entry s j g derived i same =
    let d = each_in (IsDerivedStill rules entry s) s.runs g derived.running i in
    let paths : job_path d.begun.job ≡ job_path j = ap (λ (r : Recipe). or_empty (first (out_paths r))) d.recipe ∙ same in
    any_from (λ (b : Begun). bytes_eq (job_path b.job) (job_path j)) s.begun d.begun d.has_begun
    (subst (λ q. bytes_eq q (job_path j) ≡ true) (sym paths) (place_itself (job_path j)))

module _ (rules : Rules) (entry : World) (formed : IsFormed entry) (act : Act) (s t : Stand) (before es : List Event) (deeds : List Deed) (h : HasBegun rules entry s (run entry before) before es deeds t)
    (follows : Follows act (run entry before) es) (going : IsGoing rules entry s (run entry before)) (at : At rules entry formed s before) where
  abbrev w : World
  w = run entry before

  abbrev e : Job × State
  e = h.job

  abbrev start0 : IsStarting rules s w before e h.to_begin.next.first
  start0 = starting rules s w before e h.to_begin.next.first

  abbrev p : Plan
  p = start0.plan

  abbrev runs_now : is_to_run e.1 ≡ true
  runs_now = to_run rules s w before e h.to_begin.next.first

  abbrev fresh : list_any (λ (b : Begun). bytes_eq (job_path b.job) (job_path e.0)) s.begun ≡ false
  fresh = unbegun rules s w before e h.to_begin.next.first

  -- no child of it runs
  no_child : (c : Child) → IsIn w.children c → is_child_of e.0 c ≡ true → ⊥
  no_child c i same =
      let g = mapped_in child_of s.runs c (subst (λ cs. IsIn cs c) going.children i) in
      let outs : out_paths c.recipe ≡ out_paths e.0.recipe = pointwise_same bytes_eq same_place (out_paths c.recipe) (out_paths e.0.recipe) same in
      let named : or_empty (first (out_paths g.0.recipe)) ≡ job_path e.0 =
      ap (λ ps. or_empty (first ps)) (sym (ap (λ (x : Child). out_paths x.recipe) g.2) ∙ outs) in
      true≢false (sym (begun_child rules entry s e.0 g.0 going.derived g.1 named) ∙ fresh)

  -- ## Once sources have been read

  abbrev read : List Event
  read = before ++ h.reads

  abbrev w1 : World
  w1 = run entry read

  worlds : w1 ≡ run w h.reads
  worlds = run_more entry before h.reads

  parts : Follows act w h.reads × Follows act (run w h.reads) h.beginning
  parts = first_follows rules entry formed act w h.reads h.beginning (subst (λ xs. Follows act w xs) h.events follows)

  like : IsLike w (run w h.reads)
  like = like_looks act false w h.reads h.only_read parts.0

  idle : runs w1 e.0 ≡ false
  idle =
      ap (λ (v : World). runs v e.0) worlds
      ∙ (ap (λ (cs : List Child). list_any (is_child_of e.0) cs) (sym like.2) ∙ none_of (is_child_of e.0) w.children no_child)

  chain : LastPlan rules.flow (seen rules w1) rules.settings (progress_of w1 s.begun) p.lists p
  chain =
      let clear = clear_stays act rules s w before h.reads false h.only_read parts.0 h.to_begin.next.clear in
      subst (λ (v : World). LastPlan rules.flow (seen rules v) rules.settings (progress_of v s.begun) p.lists p) (sym worlds)
      (subst (λ (o : Option Plan). IsInForce rules (run w h.reads) s.begun (lists_of o s.from) o) start0.in_force (planned_again rules (run w h.reads) s.begun s.from s.plan clear.planned))

  at_read : At rules entry formed s read
  at_read =
      let n = has_moment rules entry read formed in
      (n.0, n.1, looks_keep_stands act rules entry s before h.reads false at.0 n.0 formed h.only_read parts.0 at.1 at.2 n.1)

  -- it begins with what it was to have
  same_new : begun_of rules entry (moment_of s w before) e ≡ begun_of rules entry (moment_of s w1 read) e
  same_new =
      (λ i. begun_of rules entry (moment_of s (record (run w h.reads) { names = like.0 i; nodes = like.1 i }) before) e)
      ∙ ap (λ (v : World). begun_of rules entry (moment_of s v read) e) (sym worlds)

  abbrev requests : List Request
  requests = mark_requests (places_of (out_paths e.0.recipe) e.0.logs) ++ clear_requests (out_paths e.0.recipe) (owned_paths e.0.recipe e.0.logs)

  on_its_way : (events : List Event) → Type 0
  on_its_way events = OnItsWay rules entry formed act s read e p start0.in_force chain (going.derived.planned p start0.in_force) start0.is_staged runs_now fresh idle events

  abbrev u : Stand
  u = with_job (begun_of rules entry (moment_of s w before) e) h.going s

  begun_at : At rules entry formed h.next (before ++ es)
  begun_at =
      let d = done_last requests (Start e.0.recipe e.0.logs (rules.command e.0 (threads_in rules.settings.cores e.0.threads))) h.beginning h.calls in
      let front = d.0 in
      let last = d.1 in
      let start = start_of last e.0.recipe e.0.logs _ d.4 d.5 in
      let two = first_follows rules entry formed act (run w h.reads) front (last ∷ []) (subst (λ xs. Follows act (run w h.reads) xs) d.2 parts.1) in
      let tree1 : IsTree w1 = subst IsTree (sym worlds) (tree_run act w h.reads parts.0 going.tree) in
      let way =
      all_calls rules entry formed act s read e p start0.in_force chain (going.derived.planned p start0.in_force) start0.is_staged runs_now fresh idle read front requests
      (begins_each e.0) d.3 (subst (λ (v : World). Follows act v front) (sym worlds) two.0) tree1
      (first_ahead rules entry formed act s read e p start0.in_force chain (going.derived.planned p start0.in_force) start0.is_staged runs_now fresh idle at_read) in
      let start_event : Event = record { call = Started start.its_recipe start.its_logs start.command (Ok start.number); left = last.left } in
      let all_events : before ++ es ≡ (read ++ front) ++ start_event ∷ [] =
      ap (λ xs. before ++ xs) (h.events ∙ ap (λ xs. h.reads ++ xs) (d.2 ∙ (λ i. front ++ start.is i ∷ [])))
      ∙ (sym (append_assoc before h.reads (front ++ start_event ∷ [])) ∙ sym (append_assoc read front (start_event ∷ []))) in
      let end : run w es ≡ after (run entry (read ++ front)) start_event =
      sym (run_more entry before es) ∙ (ap (λ xs. run entry xs) all_events ∙ run_more entry (read ++ front) (start_event ∷ [])) in
      subst (At rules entry formed h.next) (sym all_events)
      (started rules entry formed act s read e p start0.in_force chain (going.derived.planned p start0.in_force) start0.is_staged runs_now fresh idle (read ++ front) start.its_recipe
      start.its_logs start.command start.number last.left u h.next start.same_recipe start.same_logs (λ i. s.begun ++ same_new i ∷ []) refl refl way.0
      (subst (λ (v : World). IsReplanned rules u v h.next) end h.replanned))

  pub begins_at : At rules entry formed t (before ++ es)
  begins_at = goes_at rules entry formed h.next t (run w es) (before ++ es) (before ++ es) h.goes_by begun_at

pub beginning_is_moment : BeginningIsMoment
beginning_is_moment act rules entry s t before es deeds m n formed going keeps h follows is of isn =
    is_it rules entry formed t (before ++ es) n (begins_at rules entry formed act s t before es deeds h follows going (m, is, of)) isn
