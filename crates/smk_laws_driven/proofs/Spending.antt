-- Outputs that are spent are removed: what running children read stays, and so does all that isn't at or under one of them.
use Rattle.std.proofs.Common.{◌≡◌, inl, ℕ, Bool, true, false, ◌&&◌, ◌||◌, List, [], ◌∷◌, ◌++◌, refl, sym, ap, subst, ◌∙◌}
use Rattle.std.specs.Prelude.{if◌then◌else◌}
use Rattle.std.specs.List.{list_any}
use Rattle.smk_base.specs.Path.{is_at_or_under, is_path, overlaps}
use Rattle.smk_base.proofs.Apart.{IsApart}
use Rattle.smk_base.proofs.Under.{false_unless, never_both, overlaps_above_both}
use Rattle.smk_world.specs.declared.event.Call.{Call}
use Rattle.smk_world.specs.declared.event.Event.{Event}
use Rattle.smk_world.specs.declared.event.NodeState.{NodeState}
use Rattle.smk_world.specs.declared.event.NodeState.TheVariants.{Owned, Known}
use Rattle.smk_world.specs.Calls.{any_overlap}
use Rattle.smk_world.specs.Requests.{HasDone}
use Rattle.smk_world.specs.Requests.Request.{Remove, Settle}
use Rattle.smk_world.specs.Runs.{Follows}
use Rattle.smk_world.specs.Trees.{Act, Each, IsIn, Path, is_text}
use Rattle.smk_world.specs.World.{World, after, firm, going, in_paths, is_above, is_within, node_after, out_paths, reading, reads_folder, run, standing}
use Rattle.smk_record.specs.declared.record.Record.{Record}
use Rattle.smk_store.specs.Soundness.{Outside, SoundWorld}
use Rattle.smk_store.specs.Trust.{SumsDiffer, Versions}
use Rattle.smk_job.specs.Jobs.{Underway}
use Rattle.smk_laws_plan.proofs.CurrentLists.{and_left}
use Rattle.smk_laws_protocol.specs.Protocol.{Aside, Besides, IsFree, OpenJob, Running, Spend, Step}
use Rattle.smk_laws_protocol.specs.Midway.{IsTop, Midway}
use Rattle.smk_laws_protocol.proofs.Basics.{each_in, each_on, none_of}
use Rattle.smk_laws_protocol.proofs.MidwayHolds.{holds_midway}
use Rattle.smk_laws_job.proofs.Abandoning.{removed_call, settled_call}
use Rattle.smk_safe.proofs.Done.{follows_split}
use Rattle.smk_drive.specs.Moments.{Begun, Rules, is_spent_now, seen}
use Rattle.smk_drive_course.specs.Stands.{IsClear, IsReplanned, Stand, moment_of}
use Rattle.smk_drive_course.specs.Steps.{AreRemoved, Deed, HasSpent, IsAsListed, NoMore, OneMore}
use Rattle.smk_laws_moments.specs.Opened.{IsOpen, opened}
use Rattle.smk_laws_moments.proofs.ChildrenOf.{run_more}
use Rattle.smk_laws_turns.specs.Places.{IsSameUnder}
use Rattle.smk_laws_moments.proofs.Planned.{derived_are_planned, midway_keeps_sources}
use Rattle.smk_laws_moments.proofs.StandsOn.{replanning_stays_derived}
use Rattle.smk_laws_turns.specs.Following.{IsReached}
use Rattle.smk_laws_turns.proofs.Begun.{unbroken}
use Rattle.smk_laws_turns.proofs.Coming.{come_on, one_step}
use Rattle.smk_laws_turns.proofs.Spent.{spent_is_free}
use Rattle.smk_laws_turns.proofs.StandStates.{IsLater, goes_later, later_then, replanned_later, state_later}

-- ## What calls leave

-- what is at or under a path isn't so of one that doesn't overlap that
apart_under : (p q x : Path) → overlaps p q ≡ false → is_at_or_under x q ≡ true → is_at_or_under x p ≡ false
apart_under p q x apart at = false_unless (is_at_or_under x p) (λ t. never_both (overlaps p q) (overlaps_above_both x p q t at) apart)

firm_reads : (s : NodeState) → reading (firm s) ≡ reading s
firm_reads Owned = refl
firm_reads (Known now besides) = refl

settled_reads : (b : Bool) (s : NodeState) → reading (if b then firm s else s) ≡ reading s
settled_reads true s = firm_reads s
settled_reads false s = refl

-- what makes removals firm leaves all that reads
settling_leaves : (w : World) (ps : List Path) (es : List Event) (x : Path) → HasDone (Settle ps ∷ []) es → reading ((run w es).nodes x) ≡ reading (w.nodes x)
settling_leaves w ps [] x done = absurd done
settling_leaves w ps (e ∷ (f ∷ es)) x done = absurd done.2
settling_leaves w ps (e ∷ []) x done =
    ap (λ (c : Call). reading (node_after c e.left w.children x (w.nodes x))) (settled_call e.call ps done.0 done.1)
    ∙ settled_reads (is_within x ps || (is_above x ps && reads_folder (w.nodes x))) (w.nodes x)

-- a removal leaves what isn't at or under its path,
removal_leaves :
    (w : World) (p : Path) (e : Event) (x : Path) → HasDone (Remove p ∷ []) (e ∷ []) → is_at_or_under x p ≡ false →
    reading ((after w e).nodes x) ≡ reading (w.nodes x)
removal_leaves w p e x done out =
    ap (λ (c : Call). reading (node_after c e.left w.children x (w.nodes x))) (removed_call e.call p done.0 done.1)
    ∙ ap (λ b. reading (if b then going (standing e.left x) (w.nodes x) else w.nodes x)) out

-- and removals what isn't so of any
removals_leave :
    (rules : Rules) (s t : Stand) (w : World) (before : List Event) (paths : List Path) (es : List Event) (x : Path) →
    AreRemoved rules s w before paths es t → Each (λ p. is_at_or_under x p ≡ false) paths → reading ((run w es).nodes x) ≡ reading (w.nodes x)
removals_leave rules s t w before paths es x (NoMore s1 w1 before1) out = refl
removals_leave rules s t w before paths es x (OneMore s1 t1 u1 w1 before1 p ps e es1 clear spent listed done plans rest) out =
    removals_leave rules t1 u1 (after w1 e) (before1 ++ e ∷ []) ps es1 x rest out.1 ∙ removal_leaves w1 p e x done out.0

-- ## Removals

-- It is a path that overlaps nothing that one of these children reads.
pub record IsUnread (runs : List Underway) (p : Path) : Type 0 where
  pub path : is_path p ≡ true
  pub unread : (g : Underway) → IsIn runs g → any_overlap (p ∷ []) (in_paths g.recipe) ≡ false

module _ (act : Act) (rules : Rules) (entry : World) (H : Versions) (top : ℕ) (differ : SumsDiffer H)
    (sound : SoundWorld (record { read = rules.read; act = act }) entry H) (is_top : IsTop (record { read = rules.read; act = act }) entry top) where
  abbrev o : Outside
  o = record { read = rules.read; act = act }

  -- one output is removed
  module _ (events : List Event) (s : Stand) (at : IsReached o rules entry top events s) (p : Path) (clear : IsClear rules s (run entry events) events)
      (spent : is_spent_now rules (moment_of s (run entry events) events) p ≡ true) (listed : IsAsListed (seen rules (run entry events)) p) where
    abbrev w : World
    w = run entry events

    free : (r : Record) × IsFree o at.state w p r
    free =
        spent_is_free o rules entry w H events s at.state p refl (holds_midway o entry H top events at.state differ sound is_top at.come.follows at.come.runs)
        at.is_state (derived_are_planned rules entry s sound.formed at.derived) clear spent listed

    one_unread : IsUnread s.runs p
    one_unread =
        record {
          path = and_left (is_path p) (is_text p) (free.1).path;
          unread = λ g i.
              let its = each_in (IsOpen s at.state.jobs) s.runs g at.is_state.running i in
              each_in (λ (k : OpenJob). any_overlap (p ∷ []) (in_paths k.recipe) ≡ false) at.state.jobs (opened g its.kept (Running g.number))
              (free.1).from_inputs its.is_open;
        }

    module _ (e : Event) (t : Stand) (done : HasDone (Remove p ∷ []) (e ∷ [])) (follows : Follows act w (e ∷ []))
        (plans : IsReplanned rules s (after w e) t) where
      step : Step o at.state w e at.state
      step =
          Aside e (at.is_state.faulted ∙ unbroken rules entry s at.state at.is_state clear.unhalted)
          (subst (Besides o at.state w) (sym (removed_call e.call p done.0 done.1)) (Spend p free.0 free.1))

      pub one_reached : IsReached o rules entry top (events ++ e ∷ []) t
      one_reached =
          let come = come_on o entry top events (e ∷ []) at.state at.state at.come follows (one_step o at.state at.state w e step) in
          let m : Midway o entry H at.state (after w e) =
          subst (Midway o entry H at.state) (run_more entry events (e ∷ []))
          (holds_midway o entry H top (events ++ e ∷ []) at.state differ sound is_top come.follows come.runs) in
          let later = replanned_later rules s t (after w e) plans in
          record {
            state = at.state;
            come = come;
            is_state = state_later rules entry s t at.state later at.is_state;
            derived = replanning_stays_derived rules entry (after w e) s t sound.formed m.images.formed
                (midway_keeps_sources o rules entry H at.state (after w e) refl m) plans at.derived;
            guards = subst (Each (λ (b : Begun). Each (IsIn (out_paths b.job.recipe)) b.job.guards)) (sym later.begun) at.guards;
          }

  -- outputs are removed, one after another
  removed_unread :
      (s t : Stand) (w : World) (before : List Event) (paths : List Path) (es : List Event) → AreRemoved rules s w before paths es t → w ≡ run entry before →
      IsReached o rules entry top before s → Follows act w es → Each (IsUnread s.runs) paths × IsLater s t
  removed_unread s t w before paths es (NoMore s1 w1 before1) world at follows =
      (tt, record { begun = refl; runs = refl; halted = λ none. none; broken = refl })
  removed_unread s t w before paths es (OneMore s1 t1 u1 w1 before1 p ps e es1 clear spent listed done plans rest) world at follows =
      let clear_here : IsClear rules s1 (run entry before1) before1 = subst (λ v. IsClear rules s1 v before1) world clear in
      let spent_here : is_spent_now rules (moment_of s1 (run entry before1) before1) p ≡ true =
      subst (λ v. is_spent_now rules (moment_of s1 v before1) p ≡ true) world spent in
      let listed_here : IsAsListed (seen rules (run entry before1)) p = subst (λ v. IsAsListed (seen rules v) p) world listed in
      let follows_here : Follows act (run entry before1) (e ∷ []) = subst (λ v. Follows act v (e ∷ [])) world (follows.0, tt) in
      let plans_here : IsReplanned rules s1 (after (run entry before1) e) t1 = subst (λ v. IsReplanned rules s1 (after v e) t1) world plans in
      let there : after w1 e ≡ run entry (before1 ++ e ∷ []) = ap (λ v. after v e) world ∙ sym (run_more entry before1 (e ∷ [])) in
      let next = one_reached before1 s1 at p clear_here spent_here listed_here e t1 done follows_here plans_here in
      let more = removed_unread t1 u1 (after w1 e) (before1 ++ e ∷ []) ps es1 rest there next follows.1 in
      let later = replanned_later rules s1 t1 (after w1 e) plans in (
        (one_unread before1 s1 at p clear_here spent_here listed_here, subst (λ gs. Each (IsUnread gs) ps) later.runs more.0),
        later_then s1 t1 u1 later more.1,
      )

  -- ## The step

  module _ (before : List Event) (s : Stand) (at : IsReached o rules entry top before s) (es : List Event) (deeds : List Deed) (t : Stand)
      (h : HasSpent rules entry s (run entry before) before es deeds t) (follows : Follows act (run entry before) es) where
    abbrev was : World
    was = run entry before

    gone : Each (IsUnread s.runs) h.paths × IsLater s h.last
    gone =
        removed_unread s h.last was before h.paths h.removing h.removed refl at
        (follows_split act was h.removing h.settling (subst (Follows act was) h.events follows)).0

    pub last_later : IsLater s h.last
    last_later = gone.1

    pub spent_later : IsLater s t
    spent_later = later_then s h.last t gone.1 (goes_later rules entry h.last t (run was h.removing) (before ++ h.removing) h.goes_by)

    -- in this world all reads as before but what is at or under one of the outputs
    abbrev pub IsLeft : World → Type 0
    IsLeft v = (x : Path) → Each (λ p. is_at_or_under x p ≡ false) h.paths → reading (v.nodes x) ≡ reading (was.nodes x)

    pub removed_leave : IsLeft (run was h.removing)
    removed_leave x out = removals_leave rules s h.last was before h.paths h.removing x h.removed out

    pub spent_leaves : IsLeft (run was es)
    spent_leaves x out =
        ap (λ ls. reading ((run was ls).nodes x)) h.events
        ∙ (ap (λ (v : World). reading (v.nodes x)) (run_more was h.removing h.settling)
        ∙ (settling_leaves (run was h.removing) h.paths h.settling x h.settled ∙ removed_leave x out))

    -- So it is with what is apart from all paths,
    pub aside_stays : (v : World) → IsLeft v → (x : Path) → ((p : Path) → is_path p ≡ true → IsApart p x) → reading (v.nodes x) ≡ reading (was.nodes x)
    aside_stays v left x apart =
        left x (each_on (IsUnread s.runs) (λ p. is_at_or_under x p ≡ false) (λ p u. (apart p u.path).at_or_over) h.paths gone.0)

    -- and with what a running child reads.
    pub reads_stay : (g : Underway) → IsIn s.runs g → (q : Path) → IsIn (in_paths g.recipe) q → IsSameUnder was (run was es) q
    reads_stay g i q iq x under =
        spent_leaves x
        (each_on (IsUnread s.runs) (λ p. is_at_or_under x p ≡ false) (λ p u.
        apart_under p q x
        (none_of (overlaps p) (in_paths g.recipe) q
        (none_of (λ (y : Path). list_any (overlaps y) (in_paths g.recipe)) (p ∷ []) p (u.unread g i) (inl refl)) iq) under) h.paths gone.0)
