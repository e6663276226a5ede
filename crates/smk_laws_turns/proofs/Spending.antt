-- The steps that remove spent outputs.
use Rattle.std.proofs.Common.{◌≡◌, ◌≢◌, ◌⊎◌, inl, inr, ℕ, true, false, List, [], ◌∷◌, ◌++◌, refl, sym, ap, subst, ◌∙◌, append_assoc, append-nil, IsTrue}
use Rattle.smk_world.specs.declared.event.Event.{Event}
use Rattle.smk_world.specs.World.{World, after, run}
use Rattle.smk_world.specs.Calls.{failed}
use Rattle.smk_world.specs.Runs.{Follows}
use Rattle.smk_world.specs.Requests.{HasDone, request}
use Rattle.smk_world.specs.Requests.Request.{Remove, Settle}
use Rattle.smk_world.specs.Trees.{Path}
use Rattle.smk_world.proofs.Runs.{run_append}
use Rattle.smk_record.specs.declared.record.Record.{Record}
use Rattle.smk_store.specs.Soundness.{Outside}
use Rattle.smk_store.specs.Trust.{Versions}
use Rattle.smk_laws_protocol.specs.Protocol.{RunState, Runs, Done, Step, Aside, Besides, Fail, IsFree, Settle as SettleMove, Spend, as_ok}
use Rattle.smk_laws_protocol.specs.Midway.{Midway}
use Rattle.smk_laws_job.specs.Laws.{stopped}
use Rattle.smk_laws_job.proofs.Abandoning.{removed_call, settled_call}
use Rattle.smk_laws_job.proofs.Called.{as_removed, as_settled}
use Rattle.smk_safe.proofs.Done.{follows_split}
use Rattle.smk_safe.proofs.Joining.{runs_then}
use Rattle.smk_drive.specs.Moments.{Rules, is_spent_now, seen}
use Rattle.smk_drive_course.specs.Stands.{IsClear, IsReplanned, Stand, moment_of}
use Rattle.smk_drive_course.specs.Steps.{AreRemoved, Deed, HasSpent, IsAsListed, NoMore, OneMore}
use Rattle.smk_drive_course.specs.Breaks.{HasNotSpent}
use Rattle.smk_laws_moments.specs.Opened.{IsStateOf}
use Rattle.smk_laws_moments.specs.Staying.{AreDerivedStill, DerivedArePlanned, MidwayKeepsSources, ReplanningStaysDerived}
use Rattle.smk_laws_turns.specs.Following.{HasCome, IsGiven, LeadsTo}
use Rattle.smk_laws_turns.proofs.Begun.{unbroken}
use Rattle.smk_laws_turns.proofs.Coming.{come_on, midway, one_step}
use Rattle.smk_laws_turns.proofs.Spent.{spent_is_free}
use Rattle.smk_laws_turns.proofs.StandStates.{broken_is, goes_later, replanned_later, state_broken, state_later}

module _ (o : Outside) (rules : Rules) (entry : World) (H : Versions) (top : ℕ) (given : IsGiven o rules entry H top)
    (anew : ReplanningStaysDerived) (derived_planned : DerivedArePlanned) (keeps_sources : MidwayKeepsSources) (state : RunState) where
  -- a stand between removals, after these events, in this world
  record IsBetween (s : Stand) (w : World) (events : List Event) : Type 0 where
    pub there : w ≡ run entry events
    pub come : HasCome o entry top events state
    pub is_state : IsStateOf rules entry s state
    pub derived : AreDerivedStill rules entry s

  here : (s : Stand) (w : World) (events : List Event) → IsBetween s w events → Midway o entry H state w
  here s w events h = subst (Midway o entry H state) (sym h.there) (midway o entry H top given.differ given.sound given.is_top events state h.come)

  free : (s : Stand) (w : World) (events : List Event) (p : Path) → IsBetween s w events → IsClear rules s w events → is_spent_now rules (moment_of s w events)
      p ≡ true
      → IsAsListed (seen rules w) p → (r : Record) × IsFree o state w p r
  free s w events p h clear spent listed =
      spent_is_free o rules entry w H events s state p given.reader (here s w events h) h.is_state (derived_planned rules entry s given.sound.formed h.derived)
      clear spent listed

  calm_at : (s : Stand) (w : World) (events : List Event) → IsBetween s w events → IsClear rules s w events → state.faulted ≡ false
  calm_at s w events h clear = h.is_state.faulted ∙ unbroken rules entry s state h.is_state clear.unhalted

  -- what the removals lead to
  record AreGone (s t : Stand) (w : World) (events es : List Event) : Type 0 where
    pub runs : Runs o state w es state
    pub between : IsBetween t (run w es) (events ++ es)

  removal_step : (s : Stand) (w : World) (events : List Event) (p : Path) (e : Event) → IsBetween s w events → IsClear rules s w events →
      is_spent_now rules (moment_of s w events) p ≡ true
      → IsAsListed (seen rules w) p → HasDone (Remove p ∷ []) (e ∷ []) → Step o state w e state
  removal_step s w events p e h clear spent listed done =
      let f = free s w events p h clear spent listed in
      Aside e (calm_at s w events h clear) (subst (Besides o state w) (sym (removed_call e.call p done.0 done.1)) (Spend p f.0 f.1))

  after_one : (s t : Stand) (w : World) (events : List Event) (e : Event) → IsBetween s w events → Step o state w e state → Follows o.act w (e ∷ []) →
      IsReplanned rules s (after w e) t
      → IsBetween t (after w e) (events ++ e ∷ [])
  after_one s t w events e h step follows plans =
      let come = come_on o entry top events (e ∷ []) state state h.come (subst (λ v. Follows o.act v (e ∷ [])) h.there follows)
      (subst (λ v. Runs o state v (e ∷ []) state) h.there (one_step o state state w e step)) in
      let there : after w e ≡ run entry (events ++ e ∷ []) = ap (λ v. after v e) h.there ∙ sym (run_append entry events (e ∷ [])) in
      let m = subst (Midway o entry H state) (sym there) (midway o entry H top given.differ given.sound given.is_top (events ++ e ∷ []) state come) in
      record {
        there = there;
        come = come;
        is_state = state_later rules entry s t state (replanned_later rules s t (after w e) plans) h.is_state;
        derived = anew rules entry (after w e) s t given.sound.formed m.images.formed (keeps_sources o rules entry H state (after w e) given.reader m) plans
            h.derived;
      }

  removed : (s t : Stand) (w : World) (events : List Event) (paths : List Path) (es : List Event) → AreRemoved rules s w events paths es t →
      IsBetween s w events → Follows o.act w es
      → AreGone s t w events es
  removed s t w events paths es (NoMore s1 w1 events1) h follows =
      record { runs = Done state w1; between = subst (IsBetween s1 w1) (sym (append-nil events1)) h }
  removed s t w events paths es (OneMore s1 t1 u1 w1 events1 p ps e es1 clear spent listed done plans later) h follows =
      let step = removal_step s1 w1 events1 p e h clear spent listed done in
      let next = after_one s1 t1 w1 events1 e h step (follows.0, tt) plans in
      let rest = removed t1 u1 (after w1 e) (events1 ++ e ∷ []) ps es1 later next follows.1 in
      record {
        runs = runs_then o state es1 state state w1 (e ∷ []) (one_step o state state w1 e step) rest.runs;
        between = subst (IsBetween u1 (run (after w1 e) es1)) (append_assoc events1 (e ∷ []) es1) rest.between;
      }

  first_calm : (s t : Stand) (w : World) (events : List Event) (paths : List Path) (es : List Event) → AreRemoved rules s w events paths es t → paths ≢ [] →
      IsBetween s w events → state.faulted ≡ false
  first_calm s t w events paths es (NoMore s1 w1 events1) some h = absurd (some refl)
  first_calm s t w events paths es (OneMore s1 t1 u1 w1 events1 p ps e es1 clear spent listed done plans later) some h = calm_at s1 w1 events1 h clear

  settles : (ps : List Path) (w : World) (es : List Event) → state.faulted ≡ false → HasDone (Settle ps ∷ []) es → Runs o state w es state
  settles ps w [] calm done = absurd done
  settles ps w (e ∷ (f ∷ es)) calm done = absurd done.2
  settles ps w (e ∷ []) calm done = one_step o state state w e (Aside e calm (subst (Besides o state w) (sym (settled_call e.call ps done.0 done.1))
      (SettleMove ps)))

  module _ (before : List Event) (s : Stand) (come : HasCome o entry top before state) (is_state : IsStateOf rules entry s state)
      (derived : AreDerivedStill rules entry s) where
    abbrev w : World
    w = run entry before

    at_first : IsBetween s w before
    at_first = record { there = refl; come = come; is_state = is_state; derived = derived }

    pub spends : (es : List Event) (deeds : List Deed) (t : Stand) → Follows o.act w es → HasSpent rules entry s w before es deeds t →
        LeadsTo o rules entry state w es t
    spends es deeds t follows h =
        let f = follows_split o.act w h.removing h.settling (subst (Follows o.act w) h.events follows) in
        let gone = removed s h.last w before h.paths h.removing h.removed at_first f.0 in
        let calm = first_calm s h.last w before h.paths h.removing h.removed h.some at_first in
        record {
          end = state;
          runs = subst (λ l. Runs o state w l state) (sym h.events)
              (runs_then o state h.settling state state w h.removing gone.runs (settles h.paths (run w h.removing) h.settling calm h.settled));
          is_state = state_later rules entry h.last t state (goes_later rules entry h.last t (run w h.removing) (before ++ h.removing) h.goes_by)
              gone.between.is_state;
        }

    -- the call that fails
    failing_step : (last : Stand) (v : World) (events : List Event) (paths : List Path) (e : Event) → IsBetween last v events →
        (paths ≢ [] → state.faulted ≡ false) → IsTrue (failed e.call)
        → ((p : Path) × (request e.call ≡ Remove p) × IsClear rules last v events × IsTrue (is_spent_now rules (moment_of last v events) p) × IsAsListed
        (seen rules v) p)
        ⊎ ((request e.call ≡ Settle paths) × (paths ≢ []))
        → Step o state v e (stopped o state)
    failing_step last v events paths e h calm fails (inl (p, is, clear, spent, listed)) =
        let f = free last v events p h clear spent listed in
        Fail e state fails (Aside (record e { call = as_ok e.call }) (calm_at last v events h clear) (subst (Besides o state v) (sym (as_removed e.call p is))
        (Spend p f.0 f.1)))
    failing_step last v events paths e h calm fails (inr (is, some)) =
        Fail e state fails (Aside (record e { call = as_ok e.call }) (calm some) (subst (Besides o state v) (sym (as_settled e.call paths is))
        (SettleMove paths)))

    pub spends_not : (es : List Event) (deeds : List Deed) (t : Stand) → Follows o.act w es → HasNotSpent rules entry s w before es deeds t →
        LeadsTo o rules entry state w es t
    spends_not es deeds t follows h =
        let f = follows_split o.act w h.removing (h.failing ∷ []) (subst (Follows o.act w) h.events follows) in
        let gone = removed s h.last w before h.paths h.removing h.removed at_first f.0 in
        let step =
        failing_step h.last (run w h.removing) (before ++ h.removing) h.paths h.failing gone.between (λ some. first_calm s h.last w before h.paths h.removing
        h.removed some at_first) h.fails h.called in
        record {
          end = stopped o state;
          runs = subst (λ l. Runs o state w l (stopped o state)) (sym h.events)
              (runs_then o (stopped o state) (h.failing ∷ []) state state w h.removing gone.runs (one_step o state (stopped o state) (run w h.removing)
              h.failing step));
          is_state = state_broken rules entry o h.last t state state.top (broken_is rules entry h.last t h.leaves) gone.between.is_state;
        }
