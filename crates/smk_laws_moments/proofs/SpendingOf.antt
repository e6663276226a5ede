-- Where spent outputs are removed, the stand after it is the moment.
use Rattle.std.proofs.Common.{◌≡◌, ◌≢◌, Bool, true, false, ◌&&◌, not, List, [], ◌∷◌, ◌++◌, refl, sym, ap, subst, ◌∙◌, inl, Option, Some, None, Ok, Err, append_assoc, append-nil, true≢false}
use Rattle.std.specs.Prelude.{if◌then◌else◌}
use Rattle.smk_base.specs.Path.{is_at_or_under}
use Rattle.smk_world.specs.declared.event.Besides.TheVariants.{Anything, OneOf}
use Rattle.smk_world.specs.declared.event.Call.{Call}
use Rattle.smk_world.specs.declared.event.Call.TheVariants.{Looked, ReadFile, ReadFolder, Written, Created, Removed, MadeParents, Settled, Protected, Started, Waited}
use Rattle.smk_world.specs.declared.event.Change.{Change}
use Rattle.smk_world.specs.declared.event.Event.{Event}
use Rattle.smk_world.specs.declared.event.NodeState.{NodeState}
use Rattle.smk_world.specs.declared.event.NodeState.TheVariants.{Owned, Known}
use Rattle.smk_world.specs.World.{World, IsFormed, after, going, run}
use Rattle.smk_world.specs.Calls.{Lets, failed}
use Rattle.smk_world.specs.Requests.{HasDone, Request, request}
use Rattle.smk_world.specs.Requests.Request.{Remove, Settle}
use Rattle.smk_world.specs.Runs.{Follows}
use Rattle.smk_world.specs.Trees.{Act, Path}
use Rattle.smk_flow.specs.declared.job.Job.{Job}
use Rattle.smk_chain.specs.Derive.{Listings}
use Rattle.smk_trigger.specs.declared.reason.State.{State}
use Rattle.smk_plan.specs.States.{Plan}
use Rattle.smk_drive.specs.Moments.{Rules, Moment, Begun, IsMoment, AtRest, Between, IsInForce, begins, begun_after, begun_of, is_gone, is_rest, is_spent_now, lists_of, staged_now, with_end}
use Rattle.smk_drive_course.proofs.OneMoment.{one_moment}
use Rattle.smk_drive_course.proofs.HasMoment.{has_moment}
use Rattle.smk_drive_course.specs.Stands as stands
use Rattle.smk_drive_course.specs.Stands.{GoesBy, GoesOn, IsRefused, IsReplanned, LacksMemory, Stand, WasHalted, lists, moment_of}
use Rattle.smk_drive_course.specs.Steps.{AreRemoved, NoMore, OneMore}
use Rattle.smk_laws_moments.specs.Standing.{IsStandOf, SpendingIsMoment}
use Rattle.smk_laws_moments.proofs.ChildrenOf.{run_more}
use Rattle.smk_laws_moments.proofs.Rests.{rest_mono}
use Rattle.smk_laws_moments.proofs.StandsOf.{begun_kept, first_follows, settle_at_rest, world_is}

-- ## What is gone stays gone

gone_going : (s : NodeState) → is_gone s ≡ true → is_gone (going None s) ≡ true
gone_going Owned h = absurd (true≢false (sym h))
gone_going (Known n Anything) h = absurd (true≢false (sym h))
gone_going (Known None (OneOf ns)) h = h
gone_going (Known (Some n) (OneOf ns)) h = absurd (true≢false (sym h))

gone_or : (b : Bool) (s : NodeState) → is_gone s ≡ true → is_gone (if b then going None s else s) ≡ true
gone_or true s h = gone_going s h
gone_or false s h = h

-- ## A removal

abbrev removes : Request → Bool
removes (Remove p) = true
removes r = false

abbrev removal : Path → Event
removal p = record { call = Removed p (Ok tt); left = [] }

abbrev path_of : Request → Path → Path
path_of (Remove p) other = p
path_of r other = other

-- a removal that didn't fail, of this path
is_removal : (act : Act) (w : World) (call : Call) (left : List Change) (p : Path) → request call ≡ Remove p → failed call ≡ false → Lets act w call left → record { call = call; left = left } ≡ removal p
is_removal act w (Removed q (Ok u)) left p h k lets = let same : q ≡ p = ap (λ r. path_of r q) h in λ i. record { call = Removed (same i) (Ok u); left = lets i }
is_removal act w (Removed q (Err e)) left p h k lets = absurd (true≢false k)
is_removal act w (Looked q r) left p h k lets = absurd (true≢false (sym (ap removes h)))
is_removal act w (ReadFile q limit r) left p h k lets = absurd (true≢false (sym (ap removes h)))
is_removal act w (ReadFolder q r) left p h k lets = absurd (true≢false (sym (ap removes h)))
is_removal act w (Written q bytes r) left p h k lets = absurd (true≢false (sym (ap removes h)))
is_removal act w (Created q r) left p h k lets = absurd (true≢false (sym (ap removes h)))
is_removal act w (MadeParents q r) left p h k lets = absurd (true≢false (sym (ap removes h)))
is_removal act w (Settled ps r) left p h k lets = absurd (true≢false (sym (ap removes h)))
is_removal act w (Protected q r) left p h k lets = absurd (true≢false (sym (ap removes h)))
is_removal act w (Started recipe logs command r) left p h k lets = absurd (true≢false (sym (ap removes h)))
is_removal act w (Waited r) left p h k lets = absurd (true≢false (sym (ap removes h)))

none_begins : (a b c : Bool) → b ≡ true → (a && (not b && c)) ≡ false
none_begins true true c h = refl
none_begins false true c h = refl
none_begins a false c h = absurd (true≢false (sym h))

module _ (rules : Rules) (entry : World) (formed : IsFormed entry) where
  abbrev At : Stand → List Event → Type 0
  At s events = (m : Moment) × IsMoment rules entry events m × IsStandOf s m

  rest_removed : (w : World) (p : Path) (begun : List Begun) → is_rest w begun ≡ true → is_rest (after w (removal p)) begun ≡ true
  rest_removed w p begun h = rest_mono w (after w (removal p)) begun refl (λ q g. gone_or (is_at_or_under q p) (w.nodes q) g) h

  spent_there : (s : Stand) (before : List Event) (m : Moment) (p : Path) → IsMoment rules entry before m → IsStandOf s m → is_spent_now rules (moment_of s (run entry before) before) p ≡ true → is_spent_now rules m p ≡ true
  spent_there s before m p is of h =
      let worlds = world_is rules entry before m is in
      ap (λ (w : World). is_spent_now rules (record m { world = w }) p) worlds
      ∙ (ap (λ (bs : List Begun). is_spent_now rules (record m { world = run entry before; begun = bs }) p) of.begun
      ∙ (ap (λ (plan : Option Plan). is_spent_now rules (record m { world = run entry before; begun = s.begun; plan = plan }) p) of.plan ∙ h))

  begun_there : (m : Moment) (p : Path) → is_spent_now rules m p ≡ true → begun_after rules entry m (removal p) ≡ m.begun
  begun_there m p spent =
      begun_kept (with_end rules m.world (after m.world (removal p)) (Removed p (Ok tt))) (λ (k : Job × State). begins rules m (removal p) k.0) (begun_of rules entry m) m.begun (staged_now m.plan)
      (λ b. refl) (λ k. none_begins _ (is_spent_now rules m p) _ spent)

  -- the moment after it
  removed_at :
      (s : Stand) (before : List Event) (p : Path) (plan : Option Plan) → At s before → is_spent_now rules (moment_of s (run entry before) before) p ≡ true →
      is_rest (after (run entry before) (removal p)) s.begun ≡ true →
      IsInForce rules (after (run entry before) (removal p)) s.begun (lists s) plan → At (stands.replanned plan s) (before ++ removal p ∷ [])
  removed_at s before p plan (m, is, of) spent rest force =
      let worlds = world_is rules entry before m is in
      let same = begun_there m p (spent_there s before m p is of spent) ∙ of.begun in
      let at_rest : is_rest (after m.world (removal p)) (begun_after rules entry m (removal p)) ≡ true =
      ap (λ (w : World). is_rest (after w (removal p)) (begun_after rules entry m (removal p))) worlds
      ∙ (ap (λ (bs : List Begun). is_rest (after (run entry before) (removal p)) bs) same ∙ rest) in
      let in_force : IsInForce rules (after m.world (removal p)) (begun_after rules entry m (removal p)) m.lists plan =
      subst (λ (w : World). IsInForce rules (after w (removal p)) (begun_after rules entry m (removal p)) m.lists plan) (sym worlds)
      (subst (λ (bs : List Begun). IsInForce rules (after (run entry before) (removal p)) bs m.lists plan) (sym same)
      (subst (λ (ls : Listings). IsInForce rules (after (run entry before) (removal p)) s.begun ls plan) (sym of.listed) force)) in
      (_, AtRest before m (removal p) plan is at_rest in_force, record { begun = same; plan = refl; listed = ap (lists_of plan) of.listed; since = inl of.listed })

  one_removed :
      (s t : Stand) (before : List Event) (p : Path) → At s before → is_rest (run entry before) s.begun ≡ true → is_spent_now rules (moment_of s (run entry before) before) p ≡ true →
      IsReplanned rules s (after (run entry before) (removal p)) t → At t (before ++ removal p ∷ [])
  one_removed s t before p at rest spent (stands.AtRest plan rested force) = removed_at s before p plan at spent rested force
  one_removed s t before p at rest spent (stands.Between unrested) = absurd (true≢false (sym (rest_removed (run entry before) p s.begun rest) ∙ unrested))

  rests_on : (s t : Stand) (w : World) (p : Path) → is_rest w s.begun ≡ true → IsReplanned rules s (after w (removal p)) t → is_rest (after w (removal p)) t.begun ≡ true
  rests_on s t w p rest (stands.AtRest plan rested force) = rested
  rests_on s t w p rest (stands.Between unrested) = rest_removed w p s.begun rest

  -- a stand and its moment, at a rest
  abbrev AtRested : Stand → List Event → Type 0
  AtRested s events = At s events × (is_rest (run entry events) s.begun ≡ true)

  -- one event more
  step_removed :
      (act : Act) (s t : Stand) (before : List Event) (p : Path) (e : Event) → e ≡ removal p → At s before → is_rest (run entry before) s.begun ≡ true →
      is_spent_now rules (moment_of s (run entry before) before) p ≡ true → IsReplanned rules s (after (run entry before) e) t → AtRested t (before ++ e ∷ [])
  step_removed act s t before p e same at rest spent plans =
      let there : IsReplanned rules s (after (run entry before) (removal p)) t = subst (λ (d : Event). IsReplanned rules s (after (run entry before) d) t) same plans in
      let moved : At t (before ++ removal p ∷ []) × (is_rest (run entry (before ++ removal p ∷ [])) t.begun ≡ true) =
      (one_removed s t before p at rest spent there, ap (λ (w : World). is_rest w t.begun) (run_more entry before (removal p ∷ [])) ∙ rests_on s t (run entry before) p rest there) in
      subst (λ (d : Event). AtRested t (before ++ d ∷ [])) (sym same) moved

  all_removed :
      (act : Act) (s t : Stand) (w : World) (before : List Event) (paths : List Path) (es : List Event) → AreRemoved rules s w before paths es t → w ≡ run entry before →
      Follows act w es → At s before → is_rest w s.begun ≡ true → AtRested t (before ++ es)
  all_removed act s t w before paths es (NoMore s1 w1 before1) worlds follows at rest =
      subst (AtRested s1) (sym (append-nil before1)) (at, ap (λ (v : World). is_rest v s1.begun) (sym worlds) ∙ rest)
  all_removed act s t w before paths es (OneMore s1 t1 u1 w1 before1 p ps e es1 clear spent listed done plans later) worlds follows at rest =
      let same = is_removal act w1 e.call e.left p done.0 done.1 follows.0.lets in
      let here =
      step_removed act s1 t1 before1 p e same at (ap (λ (v : World). is_rest v s1.begun) (sym worlds) ∙ rest)
      (subst (λ (v : World). is_spent_now rules (moment_of s1 v before1) p ≡ true) worlds spent) (subst (λ (v : World). IsReplanned rules s1 (after v e) t1) worlds plans) in
      let next_world : after w1 e ≡ run entry (before1 ++ e ∷ []) = ap (λ (v : World). after v e) worlds ∙ sym (run_more entry before1 (e ∷ [])) in
      subst (AtRested u1) (append_assoc before1 (e ∷ []) es1)
      (all_removed act t1 u1 (after w1 e) (before1 ++ e ∷ []) ps es1 later next_world follows.1 here.0 (ap (λ (v : World). is_rest v t1.begun) next_world ∙ here.1))

  -- the stand that a run makes of this one is the same moment
  goes_at : (s t : Stand) (w : World) (events : List Event) (m : Moment) → GoesBy rules entry s w events t → IsStandOf s m → IsStandOf t m
  goes_at s t w events m (GoesOn clear) of = of
  goes_at s t w events m (IsRefused f unhalted refused) of = record { begun = of.begun; plan = of.plan; listed = of.listed; since = of.since }
  goes_at s t w events m LacksMemory of = record { begun = of.begun; plan = of.plan; listed = of.listed; since = of.since }
  goes_at s t w events m (WasHalted was) of = of

  first_rest : (s t : Stand) (w : World) (before : List Event) (paths : List Path) (es : List Event) → AreRemoved rules s w before paths es t → paths ≢ [] → is_rest w s.begun ≡ true
  first_rest s t w before paths es (NoMore s1 w1 before1) some = absurd (some refl)
  first_rest s t w before paths es (OneMore s1 t1 u1 w1 before1 p ps e es1 clear spent listed done plans later) some = clear.at_rest

  settled_at :
      (act : Act) (s : Stand) (before settling : List Event) (ps : List Path) → HasDone (Settle ps ∷ []) settling → Follows act (run entry before) settling → AtRested s before → At s (before ++ settling)
  settled_at act s before [] ps done follows at = absurd done
  settled_at act s before (e ∷ (f ∷ es)) ps done follows at = absurd done.2
  settled_at act s before (e ∷ []) ps done follows ((m, is, of), rest) =
      let n = has_moment rules entry (before ++ e ∷ []) formed in (
        n.0,
        n.1,
        settle_at_rest rules entry formed act (run entry before) s before e ps m n.0 done.0 follows.0.lets
            (ap (λ (w : World). is_rest w m.begun) (world_is rules entry before m is) ∙ (ap (λ (bs : List Begun). is_rest (run entry before) bs) of.begun ∙ rest)) is of n.1,
      )

pub spending_is_moment : SpendingIsMoment
spending_is_moment act rules entry s t before es deeds m n formed h follows is of isn =
    let split = first_follows rules entry formed act (run entry before) h.removing h.settling (subst (λ xs. Follows act (run entry before) xs) h.events follows) in
    let gone =
    all_removed rules entry formed act s h.last (run entry before) before h.paths h.removing h.removed refl split.0 (m, is, of)
    (first_rest rules entry formed s h.last (run entry before) before h.paths h.removing h.removed h.some) in
    let firm_now =
    settled_at rules entry formed act h.last (before ++ h.removing) h.settling h.paths h.settled
    (subst (λ (v : World). Follows act v h.settling) (sym (run_more entry before h.removing)) split.1) gone in
    let there = subst (At rules entry formed h.last) (append_assoc before h.removing h.settling ∙ ap (λ xs. before ++ xs) (sym h.events)) firm_now in
    goes_at rules entry formed h.last t _ _ n h.goes_by (subst (IsStandOf h.last) (one_moment rules entry (before ++ es) there.0 n formed there.1 isn) there.2)
