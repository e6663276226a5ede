-- From the stand of a moment to that of the next, by one event.
use Rattle.std.proofs.Common.{◌≡◌, ◌⊎◌, Bool, true, false, List, [], ◌∷◌, ◌++◌, map, filter, refl, sym, ap, subst, ◌∙◌, inl, inr, Option, Some, None, append-nil, true≢false}
use Rattle.std.specs.Prelude.{bytes_eq}
use Rattle.std.specs.List.{list_any}
use Rattle.smk_world.specs.declared.event.Call.{Call}
use Rattle.smk_world.specs.declared.event.Call.TheVariants.{Looked, ReadFile, ReadFolder, Written, Created, Removed, MadeParents, Settled, Protected, Started, Waited}
use Rattle.smk_world.specs.declared.event.Event.{Event}
use Rattle.smk_world.specs.World.{World, IsFormed, after, run}
use Rattle.smk_world.specs.Trees.{IsIn}
use Rattle.smk_flow.specs.declared.job.Job.{Job}
use Rattle.smk_chain.specs.Derive.{Listings}
use Rattle.smk_trigger.specs.declared.reason.State.{State}
use Rattle.smk_plan.specs.States.{Plan, job_path}
use Rattle.smk_report.specs.declared.fault.Fault.{Fault}
use Rattle.smk_report.specs.declared.fault.Fault.TheVariants as fault
use Rattle.smk_drive.specs.Moments.{AtRest, Begun, Between, IsInForce, IsMoment, Moment, Rules, begins, begun_after, begun_of, has_begun, is_rest, lists_of, staged_now, with_end}
use Rattle.smk_drive.specs.Lawful.{is_wait}
use Rattle.smk_drive_course.proofs.HasMoment.{has_moment}
use Rattle.smk_drive_course.proofs.OneMoment.{one_moment}
use Rattle.smk_drive_course.specs.Stands as stands
use Rattle.smk_drive_course.specs.Stands.{GoesBy, GoesOn, IsRefused, IsReplanned, LacksMemory, Stand, WasHalted, halted_by, lists}
use Rattle.smk_laws_moments.specs.Owning.{IsOwnCall}
use Rattle.smk_laws_moments.specs.Standing.{HasBegunAs, IsStandOf}
use Rattle.smk_laws_moments.proofs.OwnCalls.{own_calls_keep_begun}
use Rattle.smk_laws_moments.proofs.ReplanningOf.{replanning_is_moment}
use Rattle.smk_laws_moments.proofs.StandsOf.{world_is}
use Rattle.smk_laws_moments.specs.Staying.{IsPlanOfSources}

-- only a wait tells how a child ended
pub no_end : (rules : Rules) (w v : World) (call : Call) → is_wait call ≡ false → (b : Begun) → with_end rules w v call b ≡ b
no_end rules w v (Looked p r) h b = refl
no_end rules w v (ReadFile p limit r) h b = refl
no_end rules w v (ReadFolder p r) h b = refl
no_end rules w v (Written p bytes r) h b = refl
no_end rules w v (Created p r) h b = refl
no_end rules w v (Removed p r) h b = refl
no_end rules w v (MadeParents p r) h b = refl
no_end rules w v (Settled ps r) h b = refl
no_end rules w v (Protected p r) h b = refl
no_end rules w v (Started recipe logs command r) h b = refl
no_end rules w v (Waited r) h b = absurd (true≢false h)

pub all_kept : {A : Type 0} (f : A → A) → ((x : A) → f x ≡ x) → (xs : List A) → map f xs ≡ xs
all_kept f same [] = refl
all_kept f same (x ∷ xs) = let rest = all_kept f same xs in λ i. same x i ∷ rest i

module _ (rules : Rules) (entry : World) (formed : IsFormed entry) where
  -- it is the stand of the moment after these events
  abbrev pub At : Stand → List Event → Type 0
  At s events = (m : Moment) × IsMoment rules entry events m × IsStandOf s m

  pub is_it : (s : Stand) (events : List Event) (n : Moment) → At s events → IsMoment rules entry events n → IsStandOf s n
  is_it s events n (m, is, of) isn = subst (IsStandOf s) (one_moment rules entry events m n formed is isn) of

  -- a stand with the same jobs, plan and listings is the same moment's
  pub same_stand : (s t : Stand) (events : List Event) → t.begun ≡ s.begun → t.plan ≡ s.plan → t.from ≡ s.from → At s events → At t events
  same_stand s t events begun plan from (m, is, of) =
      let all : lists s ≡ lists t = sym (λ i. lists_of (plan i) (from i)) in (
        m,
        is,
        record { begun = of.begun ∙ sym begun; plan = of.plan ∙ sym plan; listed = of.listed ∙ all; since = since of.since all },
      )
    where
      since : (m.from ≡ s.from) ⊎ (m.from ≡ lists s) → lists s ≡ lists t → (m.from ≡ t.from) ⊎ (m.from ≡ lists t)
      since (inl h) all = inl (h ∙ sym from)
      since (inr h) all = inr (h ∙ all)

  pub goes_at : (s t : Stand) (w : World) (events before : List Event) → GoesBy rules entry s w events t → At s before → At t before
  goes_at s t w events before (GoesOn clear) at = at
  goes_at s t w events before (IsRefused f unhalted refused) at = same_stand s (halted_by f s) before refl refl refl at
  goes_at s t w events before LacksMemory at = same_stand s (halted_by fault.OutOfMemory s) before refl refl refl at
  goes_at s t w events before (WasHalted was) at = at

  pub halted_at : (s t : Stand) (f : Fault) (before : List Event) → t ≡ halted_by f s → At s before → At t before
  halted_at s t f before is at =
      same_stand s t before (ap (λ (x : Stand). x.begun) is) (ap (λ (x : Stand). x.plan) is) (ap (λ (x : Stand). x.from) is) at

  again_lists : (plan : Option Plan) (from : Listings) → lists_of plan (lists_of plan from) ≡ lists_of plan from
  again_lists None from = refl
  again_lists (Some plan) from = refl

  -- An event with which nothing begins or ends, and after which, at a rest, the plan in force is the same.
  pub quiet_event :
      (s : Stand) (before : List Event) (e : Event) → At s before →
      ((m : Moment) → IsMoment rules entry before m → IsStandOf s m → begun_after rules entry m e ≡ m.begun) →
      (is_rest (after (run entry before) e) s.begun ≡ true → IsInForce rules (after (run entry before) e) s.begun (lists s) s.plan) → At s (before ++ e ∷ [])
  quiet_event s before e (m, is, of) same force = go (is_rest (after (run entry before) e) s.begun) refl
    where
      begun : begun_after rules entry m e ≡ s.begun
      begun = same m is of ∙ of.begun

      world : after m.world e ≡ after (run entry before) e
      world = ap (λ (w : World). after w e) (world_is rules entry before m is)

      rests : is_rest (after m.world e) (begun_after rules entry m e) ≡ is_rest (after (run entry before) e) s.begun
      rests = λ i. is_rest (world i) (begun i)

      go : (b : Bool) → is_rest (after (run entry before) e) s.begun ≡ b → At s (before ++ e ∷ [])
      go true h =
          let there : IsInForce rules (after m.world e) (begun_after rules entry m e) m.lists s.plan =
          subst (λ (w : World). IsInForce rules w (begun_after rules entry m e) m.lists s.plan) (sym world)
          (subst (λ (bs : List Begun). IsInForce rules (after (run entry before) e) bs m.lists s.plan) (sym begun)
          (subst (λ (ls : Listings). IsInForce rules (after (run entry before) e) s.begun ls s.plan) (sym of.listed) (force h))) in (
            _,
            AtRest before m e s.plan is (rests ∙ h) there,
            record { begun = begun; plan = refl; listed = ap (lists_of s.plan) of.listed ∙ again_lists s.plan s.from; since = inr of.listed },
          )
      go false h = (_, Between before m e is (rests ∙ h), record { begun = begun; plan = of.plan; listed = of.listed; since = of.since })

  -- An event after which the jobs of another stand have begun, from which the plan is made anew.
  pub anew_event :
      (s u t : Stand) (before : List Event) (e : Event) → At s before →
      ((m : Moment) → IsMoment rules entry before m → IsStandOf s m → HasBegunAs rules entry m e s u) →
      IsReplanned rules u (after (run entry before) e) t → At t (before ++ e ∷ [])
  anew_event s u t before e (m, is, of) like plans =
      let n = has_moment rules entry (before ++ e ∷ []) formed in (
        n.0,
        n.1,
        replanning_is_moment rules entry before e s u t m n.0 formed is of (like m is of)
            (subst (λ (w : World). IsReplanned rules u (after w e) t) (sym (world_is rules entry before m is)) plans) n.1,
      )

  -- ## Calls of one job

  module _ (s : Stand) (j : Job) (planned : (plan : Plan) → s.plan ≡ Some plan → IsPlanOfSources rules entry plan × IsIn plan.jobs j) where
    -- with a call of a job that has begun no other begins
    pub own_begins_none :
        (m : Moment) (e : Event) → IsStandOf s m → has_begun rules m j ≡ true → IsOwnCall j m.world e.call →
        begun_after rules entry m e ≡ map (with_end rules m.world (after m.world e) e.call) m.begun
    own_begins_none m e of begun own = go s.plan refl
      where
        ended : Begun → Begun
        ended b = with_end rules m.world (after m.world e) e.call b

        go : (o : Option Plan) → s.plan ≡ o → begun_after rules entry m e ≡ map (with_end rules m.world (after m.world e) e.call) m.begun
        go None none =
            ap (λ (o : Option Plan). map ended m.begun ++ map (begun_of rules entry m) (filter (λ (k : Job × State). begins rules m e k.0) (staged_now o))) (of.plan ∙ none)
            ∙ append-nil (map ended m.begun)
        go (Some plan) some =
            let is = planned plan some in
            own_calls_keep_begun rules is.0.image is.0.progress plan entry m e j is.0.complete is.0.is_plan (of.plan ∙ some) is.1 begun own

    -- so the same have begun after it, but for a wait
    pub own_keeps : (m : Moment) (e : Event) → IsStandOf s m → has_begun rules m j ≡ true → IsOwnCall j m.world e.call → is_wait e.call ≡ false → begun_after rules entry m e ≡ m.begun
    own_keeps m e of begun own waits =
        own_begins_none m e of begun own ∙ all_kept (with_end rules m.world (after m.world e) e.call) (no_end rules m.world (after m.world e) e.call waits) m.begun

    -- Such a call after which there is no rest.
    pub own_event :
        (before : List Event) (e : Event) → list_any (λ (b : Begun). bytes_eq (job_path b.job) (job_path j)) s.begun ≡ true →
        IsOwnCall j (run entry before) e.call → is_wait e.call ≡ false → is_rest (after (run entry before) e) s.begun ≡ false → At s before → At s (before ++ e ∷ [])
    own_event before e begun own waits unrested at =
        anew_event s s s before e at
        (λ m is of. record {
          begun =
              own_keeps m e of
              (ap (λ (bs : List Begun). list_any (λ (b : Begun). bytes_eq (job_path b.job) (job_path j)) bs) of.begun ∙ begun)
              (subst (λ (w : World). IsOwnCall j w e.call) (sym (world_is rules entry before m is)) own) waits
              ∙ of.begun;
          plan = refl;
          since = refl;
          listed = refl;
        }) (stands.Between unrested)
