-- A look leaves what has begun and the plan in force.
use Rattle.std.proofs.Common.{◌≡◌, Bool, true, false, ◌&&◌, List, [], ◌∷◌, ◌++◌, map, filter, refl, sym, ap, subst, ◌∙◌, Option, Some, None, append-nil, true≢false}
use Rattle.std.specs.List.{list_any}
use Rattle.smk_world.specs.declared.event.Call.{Call}
use Rattle.smk_world.specs.declared.event.Call.TheVariants.{Looked, ReadFile, ReadFolder, Written, Created, Removed, MadeParents, Settled, Protected, Started, Waited}
use Rattle.smk_world.specs.declared.event.Event.{Event}
use Rattle.smk_world.specs.Devices.{is_look}
use Rattle.smk_world.specs.World.{World, after}
use Rattle.smk_flow.specs.declared.job.Job.{Job}
use Rattle.smk_flow.specs.Flows.{Flow}
use Rattle.smk_store.specs.Images.{Image}
use Rattle.smk_chain.specs.Derive.{Listings}
use Rattle.smk_trigger.specs.declared.reason.State.{State}
use Rattle.smk_pick.specs.declared.settings.Settings.{Settings}
use Rattle.smk_plan.specs.States.{Plan, Progress, LastPlan, Last, Then}
use Rattle.smk_drive.specs.Moments.{Rules, Moment, Begun, IsMoment, AtEntry, AtRest, Between, IsInForce, begins, begun_after, begun_of, is_rest, lists_of, places, progress_of, seen, staged_now, with_end}
use Rattle.smk_drive_course.specs.Moments.{IsStill, LooksKeepMoments}
use Rattle.smk_drive_course.proofs.OneMoment.{one_moment}

-- ## What has begun

map_kept : {A : Type 0} (f : A → A) → ((x : A) → f x ≡ x) → (xs : List A) → map f xs ≡ xs
map_kept f same [] = refl
map_kept f same (x ∷ xs) = let rest = map_kept f same xs in λ i. same x i ∷ rest i

filter_none : {A : Type 0} (f : A → Bool) → ((x : A) → f x ≡ false) → (xs : List A) → filter f xs ≡ []
filter_none f none [] = refl
filter_none f none (x ∷ xs) = rw (none x) (filter_none f none xs)

none_any : {A : Type 0} (xs : List A) → list_any (λ x. false) xs ≡ false
none_any [] = refl
none_any (x ∷ xs) = none_any xs

never : (a c : Bool) → c ≡ false → (a && c) ≡ false
never true c h = h
never false c h = refl

-- where no job ends and none begins the same have begun
begun_kept :
    (ended : Begun → Begun) (new : Job × State → Bool) (begin : Job × State → Begun) (begun : List Begun) (all : List (Job × State)) →
    ((b : Begun) → ended b ≡ b) → ((k : Job × State) → new k ≡ false) → map ended begun ++ map begin (filter new all) ≡ begun
begun_kept ended new begin begun all same none =
    ap (λ ks. map ended begun ++ map begin ks) (filter_none new none all) ∙ (append-nil (map ended begun) ∙ map_kept ended same begun)

-- ## The plan in force

-- a last plan is one from its own listings
last_again :
    (flow : Flow) (image : Image) (settings : Settings) (progress : Progress) (L : Listings) (plan : Plan) →
    LastPlan flow image settings progress L plan → LastPlan flow image settings progress plan.lists plan
last_again flow image settings progress L plan (Last p is done) = Last p is done
last_again flow image settings progress L plan (Then p last is more rest) = last_again flow image settings progress _ plan rest

module _ (rules : Rules) where
  force_again :
      (w : World) (begun : List Begun) (from : Listings) (plan : Option Plan) → IsInForce rules w begun from plan →
      IsInForce rules w begun (lists_of plan from) plan × (lists_of plan (lists_of plan from) ≡ lists_of plan from)
  force_again w begun from None force = (force, refl)
  force_again w begun from (Some plan) force = (last_again rules.flow (seen rules w) rules.settings (progress_of w begun) from plan force, refl)

  -- it goes by how the world reads, and by what runs
  force_same :
      (w v : World) (begun : List Begun) (lists : Listings) (plan : Option Plan) → seen rules w ≡ seen rules v → progress_of w begun ≡ progress_of v begun →
      IsInForce rules w begun lists plan → IsInForce rules v begun lists plan
  force_same w v begun lists None reads runs none =
      λ plan last. none plan
      (subst (λ x. LastPlan rules.flow x rules.settings (progress_of w begun) lists plan) (sym reads)
      (subst (λ x. LastPlan rules.flow (seen rules v) rules.settings x lists plan) (sym runs) last))
  force_same w v begun lists (Some plan) reads runs last =
      subst (λ x. LastPlan rules.flow x rules.settings (progress_of v begun) lists plan) reads
      (subst (λ x. LastPlan rules.flow (seen rules w) rules.settings x lists plan) runs last)

  module _ (entry : World) where
    -- at a rest, the plan in force is that of the moment's own listings
    at_rest :
        (events : List Event) (m : Moment) → IsMoment rules entry events m → is_rest m.world m.begun ≡ true →
        IsInForce rules m.world m.begun m.lists m.plan × (lists_of m.plan m.lists ≡ m.lists)
    at_rest events m (AtEntry plan force) r = force_again entry [] [] plan force
    at_rest events m (AtRest before earlier e plan is rest force) r =
        force_again (after earlier.world e) (begun_after rules entry earlier e) earlier.lists plan force
    at_rest events m (Between before earlier e is rest) r = absurd (true≢false (sym r ∙ rest))

    -- ## One event

    abbrev Follow : List Event → Event → Moment → Type 0
    Follow events e m = (n : Moment) × IsMoment rules entry (events ++ e ∷ []) n × IsStill m n

    -- after an event with which none begins, none ends, and the world reads and runs as before
    still :
        (events : List Event) (m : Moment) (e : Event) → begun_after rules entry m e ≡ m.begun →
        is_rest m.world m.begun ≡ is_rest (after m.world e) m.begun →
        seen rules m.world ≡ seen rules (after m.world e) →
        progress_of m.world m.begun ≡ progress_of (after m.world e) m.begun → IsMoment rules entry events m → Follow events e m
    still events m e begun rests reads runs is = go (is_rest m.world m.begun) refl
      where
        go : (b : Bool) → is_rest m.world m.begun ≡ b → Follow events e m
        go true r =
            let there = at_rest events m is r in (
              _,
              AtRest events m e m.plan is (subst (λ bs. is_rest (after m.world e) bs ≡ true) (sym begun) (sym rests ∙ r))
                  (subst (λ bs. IsInForce rules (after m.world e) bs m.lists m.plan) (sym begun)
                  (force_same m.world (after m.world e) m.begun m.lists m.plan reads runs there.0)),
              record { begun = begun; plan = refl; lists = there.1 },
            )
        go false r = (
          _,
          Between events m e is (subst (λ bs. is_rest (after m.world e) bs ≡ false) (sym begun) (sym rests ∙ r)),
          record { begun = begun; plan = refl; lists = refl },
        )

    abbrev look : Call → Event
    look call = record { call = call; left = [] }

    after_look : (events : List Event) (m : Moment) (call : Call) → is_look call ≡ true → IsMoment rules entry events m → Follow events (look call) m
    after_look events m (Looked p r) h is =
        still events m (look (Looked p r))
        (begun_kept (with_end rules m.world (after m.world (look (Looked p r))) (Looked p r)) (λ k. begins rules m (look (Looked p r)) k.0) (begun_of rules entry m) m.begun (staged_now m.plan)
        (λ b. refl) (λ k. never _ _ (none_any (places k.0))))
        refl refl refl is
    after_look events m (ReadFile p limit r) h is =
        still events m (look (ReadFile p limit r))
        (begun_kept (with_end rules m.world (after m.world (look (ReadFile p limit r))) (ReadFile p limit r)) (λ k. begins rules m (look (ReadFile p limit r)) k.0) (begun_of rules entry m) m.begun
        (staged_now m.plan) (λ b. refl) (λ k. never _ _ (none_any (places k.0))))
        refl refl refl is
    after_look events m (ReadFolder p r) h is =
        still events m (look (ReadFolder p r))
        (begun_kept (with_end rules m.world (after m.world (look (ReadFolder p r))) (ReadFolder p r)) (λ k. begins rules m (look (ReadFolder p r)) k.0) (begun_of rules entry m) m.begun
        (staged_now m.plan) (λ b. refl) (λ k. never _ _ (none_any (places k.0))))
        refl refl refl is
    after_look events m (Written p bytes r) h is = absurd (true≢false (sym h))
    after_look events m (Created p r) h is = absurd (true≢false (sym h))
    after_look events m (Removed p r) h is = absurd (true≢false (sym h))
    after_look events m (MadeParents p r) h is = absurd (true≢false (sym h))
    after_look events m (Settled ps r) h is = absurd (true≢false (sym h))
    after_look events m (Protected p r) h is = absurd (true≢false (sym h))
    after_look events m (Started recipe logs command r) h is = absurd (true≢false (sym h))
    after_look events m (Waited r) h is = absurd (true≢false (sym h))

pub looks_keep_moments : LooksKeepMoments
looks_keep_moments rules entry events call before now formed look is is2 =
    let n = after_look rules entry events before call look is in
    subst (IsStill before) (one_moment rules entry (events ++ record { call = call; left = [] } ∷ []) n.0 now formed n.1 is2) n.2
