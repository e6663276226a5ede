-- A child is waited for, and its job is closed: until its marks are gone for good, between two rests, the stand with its end is the moment.
use Rattle.std.proofs.Common.{◌≡◌, ℕ, Bool, true, false, ◌&&◌, ◌||◌, List, [], ◌∷◌, ◌++◌, map, refl, sym, ap, subst, ◌∙◌, inl, inr, Some, Ok, append_assoc, append-nil, nat_eq}
use Rattle.std.specs.Prelude.{bytes_eq, if◌then◌else◌, is_some}
use Rattle.std.specs.List.{IsDistinct, list_all, list_any}
use Rattle.smk_base.specs.Path.{is_path}
use Rattle.smk_base.specs.Place.{mark_place}
use Rattle.smk_base.proofs.Places.{place_itself}
use Rattle.smk_world.specs.declared.event.Call.{Call}
use Rattle.smk_world.specs.declared.event.Call.TheVariants.{Waited}
use Rattle.smk_world.specs.declared.event.Change.{Change}
use Rattle.smk_world.specs.declared.event.Child.{Child}
use Rattle.smk_world.specs.declared.event.Ended.{Ended}
use Rattle.smk_world.specs.declared.event.Event.{Event}
use Rattle.smk_world.specs.declared.recipe.Recipe.{Recipe}
use Rattle.smk_world.specs.World.{World, IsFormed, after, children_after, numbers, out_paths, owned_by, owned_of, owned_paths, run}
use Rattle.smk_world.specs.Requests.{request}
use Rattle.smk_world.specs.Requests.Request.{Settle}
use Rattle.smk_world.specs.Trees.{Each, IsIn, Path}
use Rattle.smk_flow.specs.declared.job.Job.{Job}
use Rattle.smk_store.specs.Images.{Image}
use Rattle.smk_chain.specs.Derive.{sources_of}
use Rattle.smk_plan.specs.States.{Plan, job_path}
use Rattle.smk_laws_plan.proofs.CurrentLists.{any_from}
use Rattle.smk_laws_protocol.proofs.Basics.{each_in}
use Rattle.smk_job.specs.Jobs.{Underway}
use Rattle.smk_run.specs.Closings.{wait_event}
use Rattle.smk_run.proofs.Calls.{EachCall}
use Rattle.smk_drive.specs.Moments.{Begun, Rules, ending, is_child_of, is_closed, is_gone, is_rest, runs, seen, with_end}
use Rattle.smk_drive_course.specs.Stands as stands
use Rattle.smk_drive_course.specs.Stands.{IsReplanned, Stand, ended_if, is_job_of, lists, without_child}
use Rattle.smk_laws_moments.specs.Courses.{child_of}
use Rattle.smk_laws_moments.specs.Owning.{IsOwnCall}
use Rattle.smk_laws_moments.proofs.ChildrenOf.{run_more}
use Rattle.smk_laws_moments.proofs.QuietCalls.{quiet_children}
use Rattle.smk_laws_moments.proofs.StandsOf.{world_is}
use Rattle.smk_laws_moments.specs.Staying.{IsDerivedStill, IsPlanOfSources}
use Rattle.smk_laws_moments.proofs.Planned.{planned_jobs}
use Rattle.smk_laws_turns.specs.Standing.{IsGoing}
use Rattle.smk_laws_turns.proofs.DerivedJobs.{is_named_so, outs_are_paths}
use Rattle.smk_laws_turns.proofs.Numbers.{AllOther, all_other, any_numbered, none_of_job, numbered}
use Rattle.smk_laws_turns.proofs.Onward.{At, anew_event, own_begins_none, own_event, own_keeps}
use Rattle.smk_laws_turns.proofs.Requests.{IsOwn, no_wait, own_call, own_quiet}
use Rattle.smk_laws_turns.proofs.Signs.{Spares, sign_stays}

in_mapped : {A B : Type 0} (f : A → B) (xs : List A) (x : A) → IsIn xs x → IsIn (map f xs) (f x)
in_mapped f [] x h = absurd h
in_mapped f (y ∷ xs) x (inl e) = inl (ap f e)
in_mapped f (y ∷ xs) x (inr i) = inr (in_mapped f xs x i)

all_false : {A : Type 0} (f : A → Bool) (xs : List A) (x : A) → IsIn xs x → f x ≡ false → list_all f xs ≡ false
all_false f [] x i h = absurd i
all_false f (y ∷ xs) x (inl e) h = ap (λ b. b && list_all f xs) (ap f (sym e) ∙ h)
all_false f (y ∷ xs) x (inr i) h = go (f y) (all_false f xs x i h)
  where
    go : (b : Bool) → list_all f xs ≡ false → (b && list_all f xs) ≡ false
    go true k = k
    go false k = refl

none_of : (a b : Bool) → a ≡ false → b ≡ false → (a || b) ≡ false
none_of a b h k = ap (λ x. x || b) h ∙ k

second_false : (a b : Bool) → b ≡ false → (a && b) ≡ false
second_false true b h = h
second_false false b h = refl

job_kept : (image : Image) (going : Underway) (status : ℕ) (b : Begun) → (ended_if image going status b).job ≡ b.job
job_kept image going status b = go (is_job_of going b)
  where
    go : (c : Bool) → (if c then (record b { ended = Some (ending image b.job status) }) else b).job ≡ b.job
    go true = refl
    go false = refl

module _ (rules : Rules) (entry : World) (formed : IsFormed entry) (s : Stand) (before : List Event) (going : Underway) (ended : Ended) (left : List Change)
    (ran : IsIn s.runs going) (number : ended.number ≡ going.number) (g : IsGoing rules entry s (run entry before)) where
  abbrev w : World
  w = run entry before

  abbrev pub waited : Event
  waited = wait_event ended left

  abbrev w1 : World
  w1 = after w waited

  -- the stand with its end
  abbrev pub u : Stand
  u = without_child (seen rules w1) going ended.status s

  apart : AllOther s.runs
  apart = all_other s.runs (subst (λ (cs : List Child). IsDistinct nat_eq (numbers cs)) g.children g.distinct) g.alone

  pub d : IsDerivedStill rules entry s going
  d = each_in (IsDerivedStill rules entry s) s.runs going g.derived.running ran

  abbrev pub closing_job : Job
  closing_job = d.begun.job

  abbrev j : Job
  j = closing_job

  abbrev ends : Begun → Begun
  ends b = ended_if (seen rules w1) going ended.status b

  planned : (plan : Plan) → s.plan ≡ Some plan → IsPlanOfSources rules entry plan × IsIn plan.jobs j
  planned plan some =
      let of = g.derived.planned plan some in (of, subst (λ js. IsIn js j) (planned_jobs rules entry s formed plan some of) d.derived)

  planned_there : (plan : Plan) → u.plan ≡ Some plan → IsPlanOfSources rules entry plan × IsIn plan.jobs j
  planned_there plan some = planned plan some

  begun_here : list_any (λ (b : Begun). bytes_eq (job_path b.job) (job_path j)) s.begun ≡ true
  begun_here = any_from (λ (b : Begun). bytes_eq (job_path b.job) (job_path j)) s.begun d.begun d.has_begun (place_itself (job_path j))

  -- its job among those that have begun, with its end
  abbrev it : Begun
  it = ends d.begun

  it_in : IsIn u.begun it
  it_in = in_mapped ends s.begun d.begun d.has_begun

  it_job : it.job ≡ j
  it_job = job_kept (seen rules w1) going ended.status d.begun

  pub begun_there : list_any (λ (b : Begun). bytes_eq (job_path b.job) (job_path j)) u.begun ≡ true
  begun_there =
      any_from (λ (b : Begun). bytes_eq (job_path b.job) (job_path j)) u.begun it it_in
      (subst (λ (k : Job). bytes_eq (job_path k) (job_path j) ≡ true) (sym it_job) (place_itself (job_path j)))

  -- ## The mark

  named : IsIn (out_paths j.recipe) (job_path j)
  named = is_named_so rules.flow (sources_of (seen rules entry)) (lists s) rules.settings.targets j d.derived

  pub paths : Each (λ p. is_path p ≡ true) (out_paths j.recipe)
  paths = outs_are_paths rules.flow (sources_of (seen rules entry)) (lists s) rules.settings.targets j d.derived

  abbrev pub mark : Path
  mark = mark_place (job_path j)

  marked : is_gone (w.nodes mark) ≡ false
  marked =
      let c : IsIn w.children (child_of going) = subst (λ cs. IsIn cs (child_of going)) (sym g.children) (in_mapped child_of s.runs going ran) in
      each_in (λ p. is_gone (w.nodes (mark_place p)) ≡ false) (out_paths going.recipe) (job_path j)
      (each_in (λ (c : Child). Each (λ p. is_gone (w.nodes (mark_place p)) ≡ false) (out_paths c.recipe)) w.children (child_of going) g.marked c)
      (subst (λ (r : Recipe). IsIn (out_paths r) (job_path j)) d.recipe named)

  marked_after : is_gone (w1.nodes mark) ≡ false
  marked_after = sign_stays mark (Waited (Ok ended)) left w.children (w.nodes mark) tt marked

  -- while it stands, or may come back, there is no rest
  unrested : (v : World) → v.children ≡ w1.children → is_gone (v.nodes mark) ≡ false → is_rest v u.begun ≡ false
  unrested v children sign =
      all_false (λ (b : Begun). runs v b.job || is_closed v b) u.begun it it_in
      (none_of (runs v it.job) (is_closed v it)
      (ap (λ (k : Job). list_any (is_child_of k) v.children) it_job
      ∙ (ap (λ (cs : List Child). list_any (is_child_of j) cs) children ∙ none_of_job w.children s.runs going ended.number j g.children apart ran number d.recipe))
      (second_false (is_some it.ended) _
      (all_false (λ p. is_gone (v.nodes (mark_place p))) (out_paths it.job.recipe) (job_path j)
      (subst (λ (k : Job). IsIn (out_paths k.recipe) (job_path j)) (sym it_job) named) sign)))

  -- ## The wait

  own_wait : (v : World) → v ≡ w → IsOwnCall j v (Waited (Ok ended))
  own_wait v same =
      ap (λ (x : World). owned_by ended.number x.children) same
      ∙ (ap (λ (cs : List Child). owned_by ended.number cs) g.children
      ∙ (ap owned_of (numbered s.runs going ended.number apart ran number) ∙ (λ i. owned_paths (sym d.recipe i) (sym d.logs i))))

  -- it tells of the job how its child ended, and of no other
  told : (v : World) → v ≡ w → (b : Begun) → with_end rules v (after v waited) (Waited (Ok ended)) b ≡ ends b
  told v same b =
      ap (λ (x : World). with_end rules x (after x waited) (Waited (Ok ended)) b) same
      ∙ ap (λ c. if c then (record b { ended = Some (ending (seen rules w1) b.job ended.status) }) else b)
      (ap (λ (cs : List Child). list_any (λ (c : Child). nat_eq c.number ended.number && is_child_of b.job c) cs) g.children
      ∙ any_numbered s.runs going ended.number (is_child_of b.job) apart ran number)

  each_told : (v : World) → v ≡ w → (bs : List Begun) → map (with_end rules v (after v waited) (Waited (Ok ended))) bs ≡ map ends bs
  each_told v same [] = refl
  each_told v same (b ∷ bs) = λ i. told v same b i ∷ each_told v same bs i

  pub waited_at : At rules entry formed s before → At rules entry formed u (before ++ waited ∷ [])
  waited_at at =
      anew_event rules entry formed s u u before waited at
      (λ m is of. record {
        begun =
            own_begins_none rules entry formed s j planned m waited of
            (ap (λ (bs : List Begun). list_any (λ (b : Begun). bytes_eq (job_path b.job) (job_path j)) bs) of.begun ∙ begun_here)
            (own_wait m.world (world_is rules entry before m is))
            ∙ (each_told m.world (world_is rules entry before m is) m.begun ∙ ap (map ends) of.begun);
        plan = refl;
        since = refl;
        listed = refl;
      }) (stands.Between (unrested w1 refl marked_after))

  -- ## Closing

  -- what holds on the way
  pub record IsOpen (events : List Event) : Type 0 where
    pub at : At rules entry formed u events
    pub children : (run entry events).children ≡ w1.children
    pub sign : is_gone ((run entry events).nodes mark) ≡ false

  there : (events : List Event) (f : Event) → run entry (events ++ f ∷ []) ≡ after (run entry events) f
  there events f = run_more entry events (f ∷ [])

  pub open_first : At rules entry formed s before → IsOpen (before ++ waited ∷ [])
  open_first at =
      record {
        at = waited_at at;
        children = ap (λ (v : World). v.children) (there before waited);
        sign = ap (λ (v : World). is_gone (v.nodes mark)) (there before waited) ∙ marked_after;
      }

  next_open : (events : List Event) (f : Event) → IsOwn j (request f.call) → Spares mark (request f.call) → IsOpen events → IsOpen (events ++ f ∷ [])
  next_open events f own spares o =
      let v = run entry events in
      let children : (after v f).children ≡ w1.children = own_children f.call v.children own ∙ o.children in
      let sign = sign_stays mark f.call f.left v.children (v.nodes mark) spares o.sign in
      record {
        at =
            own_event rules entry formed u j planned_there events f begun_there (own_call j v f.call own) (no_wait j f.call own) (unrested (after v f) children sign)
            o.at;
        children = ap (λ (x : World). x.children) (there events f) ∙ children;
        sign = ap (λ (x : World). is_gone (x.nodes mark)) (there events f) ∙ sign;
      }
    where
      own_children : (call : Call) (cs : List Child) → IsOwn j (request call) → children_after call cs ≡ cs
      own_children call cs own = quiet_children call cs (own_quiet j (request call) own)

  pub all_open : (events fs : List Event) → EachCall (λ r. IsOwn j r × Spares mark r) fs → IsOpen events → IsOpen (events ++ fs)
  all_open events [] each o = subst IsOpen (sym (append-nil events)) o
  all_open events (f ∷ fs) each o =
      subst IsOpen (append_assoc events (f ∷ []) fs) (all_open (events ++ f ∷ []) fs each.1 (next_open events f each.0.0 each.0.1 o))

  -- with the last call of its closing, the plan is made anew
  pub closed_at :
      (events : List Event) (f : Event) (ps : List Path) (t : Stand) → request f.call ≡ Settle ps → IsOpen events → IsReplanned rules u (after (run entry events) f) t →
      At rules entry formed t (events ++ f ∷ [])
  closed_at events f ps t settles o plans =
      let own : IsOwn j (request f.call) = subst (IsOwn j) (sym settles) tt in
      anew_event rules entry formed u u t events f o.at
      (λ m is of. record {
        begun =
            own_keeps rules entry formed u j planned_there m f of
            (ap (λ (bs : List Begun). list_any (λ (b : Begun). bytes_eq (job_path b.job) (job_path j)) bs) of.begun ∙ begun_there)
            (own_call j m.world f.call own) (no_wait j f.call own)
            ∙ of.begun;
        plan = refl;
        since = refl;
        listed = refl;
      }) plans
