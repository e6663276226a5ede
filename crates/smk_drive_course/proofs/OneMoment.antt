-- After some events of a log there is one moment.
use Rattle.std.proofs.Common.{◌≡◌, Bool, true, false, List, [], ◌∷◌, ◌++◌, Option, Some, None, refl, sym, ap, subst, ◌∙◌, true≢false}
use Rattle.smk_world.specs.declared.event.Event.{Event}
use Rattle.smk_world.specs.World.{World, IsFormed, after}
use Rattle.smk_world.proofs.Names.{formed_after}
use Rattle.smk_chain.specs.Derive.{Listings}
use Rattle.smk_plan.specs.States.{Plan}
use Rattle.smk_drive.specs.Moments.{Rules, Moment, Begun, IsMoment, AtEntry, AtRest, Between, IsInForce, seen, progress_of, begun_after, is_rest, lists_of}
use Rattle.smk_laws_plan.proofs.PlanOne.{one_last_plan}
use Rattle.smk_laws_history.proofs.CurrentComplete.{seen_is_complete}
use Rattle.smk_drive_course.specs.Moments.{OneMoment}
use Rattle.smk_drive_course.proofs.Fronts.{front_same, last_same, none_last}

-- ## Plans in force

-- there is one plan in force, or none
one_in_force :
    (rules : Rules) (w : World) (begun : List Begun) (lists : Listings) (a b : Option Plan) →
    IsFormed w → IsInForce rules w begun lists a → IsInForce rules w begun lists b → a ≡ b
one_in_force rules w begun lists None None formed x y = refl
one_in_force rules w begun lists None (Some q) formed x y = absurd (x q y)
one_in_force rules w begun lists (Some p) None formed x y = absurd (y p x)
one_in_force rules w begun lists (Some p) (Some q) formed x y =
    ap Some (one_last_plan rules.flow (seen rules w) rules.settings (progress_of w begun) lists p q (seen_is_complete rules.read w formed) x y)

-- ## Moments

module _ (rules : Rules) (entry : World) where
  pub formed_at : (events : List Event) (m : Moment) → IsFormed entry → IsMoment rules entry events m → IsFormed m.world
  formed_at events m formed (AtEntry plan force) = formed
  formed_at events m formed (AtRest before earlier e plan is rest force) = formed_after earlier.world e (formed_at before earlier formed is)
  formed_at events m formed (Between before earlier e is rest) = formed_after earlier.world e (formed_at before earlier formed is)

  abbrev entered : Option Plan → Moment
  entered plan = record { events = []; world = entry; begun = []; from = []; lists = lists_of plan []; plan = plan }

  abbrev rested : List Event → Moment → Event → Option Plan → Moment
  rested events m e plan =
      record {
        events = events ++ e ∷ [];
        world = after m.world e;
        begun = begun_after rules entry m e;
        from = m.lists;
        lists = lists_of plan m.lists;
        plan = plan;
      }

  abbrev gone_on : List Event → Moment → Event → Moment
  gone_on events m e = record m { events = events ++ e ∷ []; world = after m.world e; begun = begun_after rules entry m e }

  abbrev rests : Moment → Event → Bool
  rests m e = is_rest (after m.world e) (begun_after rules entry m e)

  abbrev Force : Moment → Event → Option Plan → Type 0
  Force m e plan = IsInForce rules (after m.world e) (begun_after rules entry m e) m.lists plan

  one : (xs ys : List Event) (a b : Moment) → IsFormed entry → IsMoment rules entry xs a → xs ≡ ys → IsMoment rules entry ys b → a ≡ b
  one xs ys a b formed (AtEntry plan force) h (AtEntry plan2 force2) = ap entered (one_in_force rules entry [] [] plan plan2 formed force force2)
  one xs ys a b formed (AtEntry plan force) h (AtRest before m e plan2 is rest force2) = absurd (none_last before e h)
  one xs ys a b formed (AtEntry plan force) h (Between before m e is rest) = absurd (none_last before e h)
  one xs ys a b formed (AtRest before m e plan is rest force) h (AtEntry plan2 force2) = absurd (none_last before e (sym h))
  one xs ys a b formed (Between before m e is rest) h (AtEntry plan2 force2) = absurd (none_last before e (sym h))
  one xs ys a b formed (AtRest before m e plan is rest force) h (AtRest before2 m2 e2 plan2 is2 rest2 force2) =
      let fronts = front_same before before2 e e2 h in
      let lasts = last_same before before2 e e2 h in
      let moments = one before before2 m m2 formed is fronts is2 in
      let there : Force m2 e2 plan = subst (λ k. Force k e2 plan) moments (subst (λ d. Force m d plan) lasts force) in
      let plans = one_in_force rules (after m2.world e2) (begun_after rules entry m2 e2) m2.lists plan plan2 (formed_after m2.world e2 (formed_at before2 m2 formed is2)) there force2 in
      λ i. rested (fronts i) (moments i) (lasts i) (plans i)
  one xs ys a b formed (Between before m e is rest) h (Between before2 m2 e2 is2 rest2) =
      let fronts = front_same before before2 e e2 h in
      let lasts = last_same before before2 e e2 h in
      let moments = one before before2 m m2 formed is fronts is2 in λ i. gone_on (fronts i) (moments i) (lasts i)
  one xs ys a b formed (AtRest before m e plan is rest force) h (Between before2 m2 e2 is2 rest2) =
      let lasts = last_same before before2 e e2 h in
      let moments = one before before2 m m2 formed is (front_same before before2 e e2 h) is2 in
      absurd (true≢false (sym (subst (λ k. rests k e2 ≡ true) moments (subst (λ d. rests m d ≡ true) lasts rest)) ∙ rest2))
  one xs ys a b formed (Between before m e is rest) h (AtRest before2 m2 e2 plan2 is2 rest2 force2) =
      let lasts = last_same before before2 e e2 h in
      let moments = one before before2 m m2 formed is (front_same before before2 e e2 h) is2 in
      absurd (true≢false (sym rest2 ∙ subst (λ k. rests k e2 ≡ false) moments (subst (λ d. rests m d ≡ false) lasts rest)))

pub one_moment : OneMoment
one_moment rules entry events a b formed x y = one rules entry events events a b formed x refl y
