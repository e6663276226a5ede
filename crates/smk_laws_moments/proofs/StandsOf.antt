-- The first stand is the moment at the entry and while the folder is opened, and looks leave what stands are moments.
use Rattle.std.proofs.Common.{◌≡◌, ◌⊎◌, Bool, true, false, ◌&&◌, List, [], ◌∷◌, ◌++◌, map, filter, refl, sym, ap, subst, ◌∙◌, inl, inr, Option, Some, None, Result, Ok, Err, append_assoc, append-nil, true≢false}
use Rattle.std.specs.Prelude.{if◌then◌else◌}
use Rattle.std.specs.List.{list_any}
use Rattle.smk_world.specs.declared.event.Call.{Call}
use Rattle.smk_world.specs.declared.event.Call.TheVariants.{Looked, ReadFile, ReadFolder, Written, Created, Removed, MadeParents, Settled, Protected, Started, Waited}
use Rattle.smk_world.specs.declared.event.Change.{Change}
use Rattle.smk_world.specs.declared.event.Event.{Event}
use Rattle.smk_world.specs.declared.event.Failed.{Failed}
use Rattle.smk_world.specs.declared.event.NodeState.{NodeState}
use Rattle.smk_world.specs.declared.event.NodeState.TheVariants.{Owned, Known}
use Rattle.smk_world.specs.declared.event.Besides.TheVariants.{Anything, OneOf}
use Rattle.smk_world.specs.World.{World, IsFormed, after, firm, node_after, reading, run}
use Rattle.smk_world.specs.Calls.{Lets}
use Rattle.smk_world.specs.Devices.{AreLooks, is_look}
use Rattle.smk_world.specs.Requests.{HasDone, IsCutShort, Request, request}
use Rattle.smk_world.specs.Requests.Request.{Settle}
use Rattle.smk_world.specs.Runs.{Follows}
use Rattle.smk_world.specs.Trees.{Act, Path}
use Rattle.smk_flow.specs.declared.job.Job.{Job}
use Rattle.smk_store.specs.Images.{image_by}
use Rattle.smk_chain.specs.Derive.{Listings}
use Rattle.smk_trigger.specs.declared.reason.State.{State}
use Rattle.smk_plan.specs.States.{LastPlan, Plan}
use Rattle.smk_keep.specs.declared.fault.KeepFault.{KeepFault}
use Rattle.smk_drive.specs.Moments.{Rules, Moment, Begun, IsMoment, AtEntry, AtRest, Between, IsInForce, begins, begun_after, begun_of, is_gone, is_rest, lists_of, places, progress_of, seen, staged_now, with_end}
use Rattle.smk_drive_course.specs.Moments.{IsStill}
use Rattle.smk_drive_course.proofs.OneMoment.{one_moment}
use Rattle.smk_drive_course.proofs.HasMoment.{has_moment}
use Rattle.smk_drive_course.proofs.Looks.{looks_keep_moments}
use Rattle.smk_drive_course.proofs.Fronts.{front_same, none_last}
use Rattle.smk_drive_course.specs.Stands.{IsPlanned, Stand, first_stand, lists, moment_of}
use Rattle.smk_drive_course.specs.Driven.{IsOpening, LacksMemory, LoadingFails, LooksFail, Opens, SettlingFails}
use Rattle.smk_laws_moments.specs.Standing.{FirstIsMoment, IsStandOf, LooksKeepStands, RefusedAtEntry}
use Rattle.smk_laws_moments.proofs.LooksLike.{looks_leave_none}
use Rattle.smk_laws_moments.proofs.ChainsOn.{planned_again}
use Rattle.smk_laws_moments.proofs.ChildrenOf.{run_more}
use Rattle.smk_laws_moments.proofs.Rests.{rest_mono}

-- ## Nothing begins

map_kept : {A : Type 0} (f : A → A) → ((x : A) → f x ≡ x) → (xs : List A) → map f xs ≡ xs
map_kept f same [] = refl
map_kept f same (x ∷ xs) = let rest = map_kept f same xs in λ i. same x i ∷ rest i

filter_none : {A : Type 0} (f : A → Bool) → ((x : A) → f x ≡ false) → (xs : List A) → filter f xs ≡ []
filter_none f none [] = refl
filter_none f none (x ∷ xs) = rw (none x) (filter_none f none xs)

none_any : {A : Type 0} (xs : List A) → list_any (λ x. false) xs ≡ false
none_any [] = refl
none_any (x ∷ xs) = none_any xs

never : (a c : Bool) → c ≡ false → (a && c) ≡ false
never true c h = h
never false c h = refl

-- where no job ends and none begins the same have begun
pub begun_kept :
    (ended : Begun → Begun) (new : Job × State → Bool) (begin : Job × State → Begun) (begun : List Begun) (all : List (Job × State)) →
    ((b : Begun) → ended b ≡ b) → ((k : Job × State) → new k ≡ false) → map ended begun ++ map begin (filter new all) ≡ begun
begun_kept ended new begin begun all same none =
    ap (λ ks. map ended begun ++ map begin ks) (filter_none new none all) ∙ (append-nil (map ended begun) ∙ map_kept ended same begun)

-- ## Requests

abbrev settles_now : Request → Bool
settles_now (Settle ps) = true
settles_now r = false

is_settle : (call : Call) (ps : List Path) → settles_now (request call) ≡ false → request call ≡ Settle ps → ⊥
is_settle call ps none h = true≢false (sym (ap settles_now h) ∙ none)

-- ## What reads

firm_reads : (s : NodeState) → reading s ≡ reading (firm s)
firm_reads Owned = refl
firm_reads (Known now besides) = refl

firm_or : (b : Bool) (s : NodeState) → reading s ≡ reading (if b then firm s else s)
firm_or true s = firm_reads s
firm_or false s = refl

module _ (rules : Rules) where
  -- it goes by how the world reads, and by what runs
  force_same :
      (w v : World) (begun : List Begun) (from : Listings) (plan : Option Plan) → seen rules w ≡ seen rules v → progress_of w begun ≡ progress_of v begun →
      IsInForce rules w begun from plan → IsInForce rules v begun from plan
  force_same w v begun from None reads runs none =
      λ plan last. none plan
      (subst (λ x. LastPlan rules.flow x rules.settings (progress_of w begun) from plan) (sym reads)
      (subst (λ x. LastPlan rules.flow (seen rules v) rules.settings x from plan) (sym runs) last))
  force_same w v begun from (Some plan) reads runs last =
      subst (λ x. LastPlan rules.flow x rules.settings (progress_of v begun) from plan) reads
      (subst (λ x. LastPlan rules.flow (seen rules w) rules.settings x from plan) runs last)

  again_lists : (plan : Option Plan) (from : Listings) → lists_of plan (lists_of plan from) ≡ lists_of plan from
  again_lists None from = refl
  again_lists (Some plan) from = refl

  module _ (entry : World) where
    -- at a rest, the plan in force is that of the moment's own listings
    at_rest : (events : List Event) (m : Moment) → IsMoment rules entry events m → is_rest m.world m.begun ≡ true → IsInForce rules m.world m.begun m.lists m.plan × (lists_of m.plan m.lists ≡ m.lists)
    at_rest events m (AtEntry plan force) r = (planned_again rules entry [] [] plan force, again_lists plan [])
    at_rest events m (AtRest before earlier e plan is rest force) r =
        (planned_again rules (after earlier.world e) (begun_after rules entry earlier e) earlier.lists plan force, again_lists plan earlier.lists)
    at_rest events m (Between before earlier e is rest) r = absurd (true≢false (sym r ∙ rest))

    abbrev Follow : List Event → Event → Moment → Type 0
    Follow events e m = (n : Moment) × IsMoment rules entry (events ++ e ∷ []) n × IsStill m n

    -- after an event with which none begins, none ends, and the world reads and runs as before
    still :
        (events : List Event) (m : Moment) (e : Event) → begun_after rules entry m e ≡ m.begun →
        is_rest m.world m.begun ≡ is_rest (after m.world e) m.begun →
        seen rules m.world ≡ seen rules (after m.world e) →
        progress_of m.world m.begun ≡ progress_of (after m.world e) m.begun → IsMoment rules entry events m → Follow events e m
    still events m e begun rests reads runs is = go (is_rest m.world m.begun) refl
      where
        go : (b : Bool) → is_rest m.world m.begun ≡ b → Follow events e m
        go true r =
            let there = at_rest events m is r in (
              _,
              AtRest events m e m.plan is (subst (λ bs. is_rest (after m.world e) bs ≡ true) (sym begun) (sym rests ∙ r))
                  (subst (λ bs. IsInForce rules (after m.world e) bs m.lists m.plan) (sym begun)
                  (force_same m.world (after m.world e) m.begun m.lists m.plan reads runs there.0)),
              record { begun = begun; plan = refl; lists = there.1 },
            )
        go false r = (
          _,
          Between events m e is (subst (λ bs. is_rest (after m.world e) bs ≡ false) (sym begun) (sym rests ∙ r)),
          record { begun = begun; plan = refl; lists = refl },
        )

    abbrev settling : List Path → Result (Unit {0}) Failed → Event
    settling ps r = record { call = Settled ps r; left = [] }

    settled_reads : (w : World) (ps : List Path) (r : Result (Unit {0}) Failed) (q : Path) → reading (w.nodes q) ≡ reading (node_after (Settled ps r) [] w.children q (w.nodes q))
    settled_reads w ps (Ok u) q = firm_or _ (w.nodes q)
    settled_reads w ps (Err e) q = refl

    -- what is gone stays gone
    firm_gone : (b : Bool) (s : NodeState) → is_gone s ≡ true → is_gone (if b then firm s else s) ≡ true
    firm_gone false s h = h
    firm_gone true Owned h = absurd (true≢false (sym h))
    firm_gone true (Known n Anything) h = absurd (true≢false (sym h))
    firm_gone true (Known None (OneOf ns)) h = refl
    firm_gone true (Known (Some n) (OneOf ns)) h = absurd (true≢false (sym h))

    settled_gone : (w : World) (ps : List Path) (r : Result (Unit {0}) Failed) (q : Path) → is_gone (w.nodes q) ≡ true → is_gone (node_after (Settled ps r) [] w.children q (w.nodes q)) ≡ true
    settled_gone w ps (Ok u) q h = firm_gone _ (w.nodes q) h
    settled_gone w ps (Err e) q h = h

    -- a settling at a rest
    after_settling : (events : List Event) (m : Moment) (ps : List Path) (r : Result (Unit {0}) Failed) → is_rest m.world m.begun ≡ true → IsMoment rules entry events m → Follow events (settling ps r) m
    after_settling events m ps r rest is =
        still events m (settling ps r)
        (begun_kept (with_end rules m.world (after m.world (settling ps r)) (Settled ps r)) (λ k. begins rules m (settling ps r) k.0) (begun_of rules entry m) m.begun (staged_now m.plan)
        (λ b. refl) (λ k. never _ _ (none_any (places k.0))))
        (rest ∙ sym (rest_mono m.world (after m.world (settling ps r)) m.begun refl (λ q g. settled_gone m.world ps r q g) rest))
        (λ i. image_by rules.read m.world.names (λ q. settled_reads m.world ps r q i)) refl is

    -- ## Stands

    pub world_is : (events : List Event) (m : Moment) → IsMoment rules entry events m → m.world ≡ run entry events
    world_is events m (AtEntry plan force) = refl
    world_is events m (AtRest before earlier e plan is rest force) = ap (λ v. after v e) (world_is before earlier is) ∙ sym (run_more entry before (e ∷ []))
    world_is events m (Between before earlier e is rest) = ap (λ v. after v e) (world_is before earlier is) ∙ sym (run_more entry before (e ∷ []))

    module _ (formed : IsFormed entry) where
      -- the chain of the next moment begins with all listings, or with those that this one's began with
      from_next :
          (xs events : List Event) (e : Event) (m k : Moment) → IsMoment rules entry xs k → xs ≡ events ++ e ∷ [] → IsMoment rules entry events m → (k.from ≡ m.lists) ⊎ (k.from ≡ m.from)
      from_next xs events e m k (AtEntry plan force) h is = absurd (none_last events e h)
      from_next xs events e m k (AtRest before earlier d plan isk rest force) h is =
          inl (ap (λ (x : Moment). x.lists) (one_moment rules entry events earlier m formed (subst (λ es. IsMoment rules entry es earlier) (front_same before events d e h) isk) is))
      from_next xs events e m k (Between before earlier d isk rest) h is =
          inr (ap (λ (x : Moment). x.from) (one_moment rules entry events earlier m formed (subst (λ es. IsMoment rules entry es earlier) (front_same before events d e h) isk) is))

      still_stand :
          (s : Stand) (events : List Event) (e : Event) (m k : Moment) → IsMoment rules entry events m → IsMoment rules entry (events ++ e ∷ []) k → IsStill m k → IsStandOf s m → IsStandOf s k
      still_stand s events e m k is isk kept of =
          record {
            begun = kept.begun ∙ of.begun;
            plan = kept.plan ∙ of.plan;
            listed = kept.lists ∙ of.listed;
            since = go (from_next (events ++ e ∷ []) events e m k isk refl is) of.since;
          }
        where
          go : (k.from ≡ m.lists) ⊎ (k.from ≡ m.from) → (m.from ≡ s.from) ⊎ (m.from ≡ lists s) → (k.from ≡ s.from) ⊎ (k.from ≡ lists s)
          go (inl all) since = inr (all ∙ of.listed)
          go (inr same) (inl before) = inl (same ∙ before)
          go (inr same) (inr all) = inr (same ∙ all)

      look_stand :
          (act : Act) (w : World) (s : Stand) (events : List Event) (e : Event) (m k : Moment) → is_look e.call ≡ true → Lets act w e.call e.left →
          IsMoment rules entry events m → IsStandOf s m → IsMoment rules entry (events ++ e ∷ []) k → IsStandOf s k
      look_stand act w s events e m k look lets is of isk =
          still_stand s events e m k is isk
          (looks_keep_moments rules entry events e.call m k formed look is
          (subst (λ (l : List Change). IsMoment rules entry (events ++ record { call = e.call; left = l } ∷ []) k) (looks_leave_none act w e.call e.left look lets) isk)) of

      looks_stand :
          (act : Act) (failure : Bool) (s : Stand) (before looks : List Event) (m n : Moment) → AreLooks failure looks → Follows act (run entry before) looks →
          IsMoment rules entry before m → IsStandOf s m → IsMoment rules entry (before ++ looks) n → IsStandOf s n
      looks_stand act failure s before [] m n are follows is of isn =
          subst (IsStandOf s) (one_moment rules entry before m n formed is (subst (λ es. IsMoment rules entry es n) (append-nil before) isn)) of
      looks_stand act failure s before (e ∷ []) m n are follows is of isn = look_stand act (run entry before) s before e m n are.0 follows.0.lets is of isn
      looks_stand act failure s before (e ∷ (f ∷ es)) m n are follows is of isn =
          let k = has_moment rules entry (before ++ e ∷ []) formed in
          looks_stand act failure s (before ++ e ∷ []) (f ∷ es) k.0 n are.2 (subst (λ v. Follows act v (f ∷ es)) (sym (run_more entry before (e ∷ []))) follows.1) k.1
          (look_stand act (run entry before) s before e m k.0 are.0 follows.0.lets is of k.1) (subst (λ xs. IsMoment rules entry xs n) (sym (append_assoc before (e ∷ []) (f ∷ es))) isn)

      -- a call that settles
      settle_call :
          (act : Act) (w : World) (s : Stand) (events : List Event) (call : Call) (left : List Change) (ps : List Path) (m k : Moment) → request call ≡ Settle ps → Lets act w call left →
          is_rest m.world m.begun ≡ true → IsMoment rules entry events m → IsStandOf s m → IsMoment rules entry (events ++ record { call = call; left = left } ∷ []) k → IsStandOf s k
      settle_call act w s events (Settled qs r) left ps m k h lets none is of isk =
          let there = subst (λ (l : List Change). IsMoment rules entry (events ++ record { call = Settled qs r; left = l } ∷ []) k) lets isk in
          let n = after_settling events m qs r none is in
          still_stand s events (settling qs r) m k is there (subst (IsStill m) (one_moment rules entry (events ++ settling qs r ∷ []) n.0 k formed n.1 there) n.2) of
      settle_call act w s events (Looked p r) left ps m k h lets none is of isk = absurd (is_settle (Looked p r) ps refl h)
      settle_call act w s events (ReadFile p limit r) left ps m k h lets none is of isk = absurd (is_settle (ReadFile p limit r) ps refl h)
      settle_call act w s events (ReadFolder p r) left ps m k h lets none is of isk = absurd (is_settle (ReadFolder p r) ps refl h)
      settle_call act w s events (Written p bytes r) left ps m k h lets none is of isk = absurd (is_settle (Written p bytes r) ps refl h)
      settle_call act w s events (Created p r) left ps m k h lets none is of isk = absurd (is_settle (Created p r) ps refl h)
      settle_call act w s events (Removed p r) left ps m k h lets none is of isk = absurd (is_settle (Removed p r) ps refl h)
      settle_call act w s events (MadeParents p r) left ps m k h lets none is of isk = absurd (is_settle (MadeParents p r) ps refl h)
      settle_call act w s events (Protected p r) left ps m k h lets none is of isk = absurd (is_settle (Protected p r) ps refl h)
      settle_call act w s events (Started recipe logs command r) left ps m k h lets none is of isk = absurd (is_settle (Started recipe logs command r) ps refl h)
      settle_call act w s events (Waited r) left ps m k h lets none is of isk = absurd (is_settle (Waited r) ps refl h)

      -- the one settling of an opening, that failed or not
      pub settle_at_rest :
          (act : Act) (w : World) (s : Stand) (events : List Event) (e : Event) (ps : List Path) (m k : Moment) → request e.call ≡ Settle ps → Lets act w e.call e.left →
          is_rest m.world m.begun ≡ true → IsMoment rules entry events m → IsStandOf s m → IsMoment rules entry (events ++ e ∷ []) k → IsStandOf s k
      settle_at_rest act w s events e ps m k h lets none is of isk = settle_call act w s events e.call e.left ps m k h lets none is of isk

      abbrev There : Option Plan → List Event → Type 0
      There plan events = (m : Moment) × IsMoment rules entry events m × IsStandOf (first_stand plan) m

      moved : (plan : Option Plan) (events : List Event) (n : Moment) → There plan events → IsMoment rules entry events n → IsStandOf (first_stand plan) n
      moved plan events n (m, is, of) isn = subst (IsStandOf (first_stand plan)) (one_moment rules entry events m n formed is isn) of

      at_first : (plan : Option Plan) → IsPlanned rules (first_stand plan) entry → There plan []
      at_first plan force = (_, AtEntry plan force, record { begun = refl; plan = refl; listed = refl; since = inl refl })

      then_looks :
          (act : Act) (failure : Bool) (plan : Option Plan) (before looks : List Event) → AreLooks failure looks → Follows act (run entry before) looks → There plan before → There plan (before ++ looks)
      then_looks act failure plan before looks are follows (m, is, of) =
          let n = has_moment rules entry (before ++ looks) formed in (n.0, n.1, looks_stand act failure (first_stand plan) before looks m n.0 are follows is of n.1)

      then_settle :
          (act : Act) (plan : Option Plan) (before : List Event) (e : Event) (ps : List Path) → request e.call ≡ Settle ps → Lets act (run entry before) e.call e.left → There plan before → There plan (before ++ e ∷ [])
      then_settle act plan before e ps h lets (m, is, of) =
          let n = has_moment rules entry (before ++ e ∷ []) formed in (n.0, n.1, settle_at_rest act (run entry before) (first_stand plan) before e ps m n.0 h lets (ap (is_rest m.world) of.begun) is of n.1)

      -- what is done first, and what is done behind it
      pub first_follows : (act : Act) (w : World) (es fs : List Event) → Follows act w (es ++ fs) → Follows act w es × Follows act (run w es) fs
      first_follows act w [] fs h = (tt, h)
      first_follows act w (e ∷ es) fs h = let more = first_follows act (after w e) es fs h.1 in ((h.0, more.0), more.1)

      with_settling :
          (act : Act) (failure : Bool) (plan : Option Plan) (loading settles looks : List Event) (ps : List Path) → AreLooks false loading → HasDone (Settle ps ∷ []) settles → AreLooks failure looks →
          Follows act entry (loading ++ (settles ++ looks)) → There plan [] → There plan (loading ++ (settles ++ looks))
      with_settling act failure plan loading [] looks ps loaded done looked follows there = absurd done
      with_settling act failure plan loading (e ∷ (f ∷ es)) looks ps loaded done looked follows there = absurd done.2
      with_settling act failure plan loading (e ∷ []) looks ps loaded done looked follows there =
          let first = first_follows act entry loading (e ∷ looks) follows in
          let at_loaded = then_looks act false plan [] loading loaded first.0 there in
          let at_settled = then_settle act plan loading e ps done.0 first.1.0.lets at_loaded in
          subst (There plan) (append_assoc loading (e ∷ []) looks)
          (then_looks act failure plan (loading ++ e ∷ []) looks looked (subst (λ v. Follows act v looks) (sym (run_more entry loading (e ∷ []))) first.1.1) at_settled)

      cut_settling :
          (act : Act) (plan : Option Plan) (loading settles : List Event) (ps : List Path) → AreLooks false loading → IsCutShort (Settle ps ∷ []) settles →
          Follows act entry (loading ++ settles) → There plan [] → There plan (loading ++ settles)
      cut_settling act plan loading [] ps loaded cut follows there = absurd cut
      cut_settling act plan loading (e ∷ (f ∷ es)) ps loaded cut follows there = absurd cut.2
      cut_settling act plan loading (e ∷ []) ps loaded cut follows there =
          let first = first_follows act entry loading (e ∷ []) follows in
          then_settle act plan loading e ps cut.0 first.1.0.lets (then_looks act false plan [] loading loaded first.0 there)

      opened_stand : (act : Act) (plan : Option Plan) (opened : Result (Unit {0}) KeepFault) (es : List Event) → IsOpening rules entry opened es → Follows act entry es → There plan [] → There plan es
      opened_stand act plan opened es (Opens loading settles looks ps loaded signs done looked) follows there = with_settling act false plan loading settles looks ps loaded done looked follows there
      opened_stand act plan opened es (LacksMemory loading loaded) follows there = then_looks act false plan [] loading loaded follows there
      opened_stand act plan opened es (LoadingFails loading loaded) follows there = then_looks act true plan [] loading loaded follows there
      opened_stand act plan opened es (SettlingFails loading settles ps loaded signs cut) follows there = cut_settling act plan loading settles ps loaded cut follows there
      opened_stand act plan opened es (LooksFail loading settles looks ps loaded signs done looked) follows there = with_settling act true plan loading settles looks ps loaded done looked follows there

pub first_is_moment : FirstIsMoment
first_is_moment act rules entry plan opened es m formed planned opens follows is =
    moved rules entry formed plan es m (opened_stand rules entry formed act plan opened es opens follows (at_first rules entry formed plan planned)) is

pub looks_keep_stands : LooksKeepStands
looks_keep_stands act rules entry s before looks failure m n formed are follows is of isn = looks_stand rules entry formed act failure s before looks m n are follows is of isn

no_split : {A : Type 0} (front : List A) (e : A) (rest : List A) → [] ≡ front ++ e ∷ rest → ⊥
no_split [] e rest h = cc
no_split (x ∷ front) e rest h = cc

pub refused_at_entry : RefusedAtEntry
refused_at_entry rules entry plan log f planned refuses =
    record {
      events = [];
      rest = log;
      split = refl;
      moment = moment_of (first_stand plan) entry [];
      is_moment = AtEntry plan planned;
      none_before = λ front e rest m h is. absurd (no_split front e rest h);
      refuses = refuses;
    }
