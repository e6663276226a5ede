-- Where the plan of a stand is made anew after one event, the stand is that of the moment after it.
use Rattle.std.proofs.Common.{◌≡◌, ◌⊎◌, refl, true, false, List, [], ◌∷◌, ◌++◌, sym, ap, subst, ◌∙◌, inl, inr}
use Rattle.smk_world.specs.declared.event.Event.{Event}
use Rattle.smk_world.specs.World.{World, after}
use Rattle.smk_chain.specs.Derive.{Listings}
use Rattle.smk_drive.specs.Moments.{Rules, Moment, Begun, IsMoment, AtRest, Between, IsInForce, begun_after, is_rest, lists_of}
use Rattle.smk_drive_course.proofs.OneMoment.{one_moment}
use Rattle.smk_drive_course.specs.Stands as stands
use Rattle.smk_drive_course.specs.Stands.{IsReplanned, Stand, lists}
use Rattle.smk_laws_moments.specs.Standing.{HasBegunAs, IsStandOf, ReplanningIsMoment}

module _ (rules : Rules) (entry : World) (before : List Event) (e : Event) (s u : Stand) (m : Moment) (is : IsMoment rules entry before m) (of : IsStandOf s m) (like : HasBegunAs rules entry m e s u) where
  abbrev At : Stand → Type 0
  At t = (n : Moment) × IsMoment rules entry (before ++ e ∷ []) n × IsStandOf t n

  -- all listings so far are those of the moment
  all_lists : m.lists ≡ lists u
  all_lists = of.listed ∙ sym like.listed

  anew : (t : Stand) → IsReplanned rules u (after m.world e) t → At t
  anew t (stands.AtRest plan rest force) =
      let rested : is_rest (after m.world e) (begun_after rules entry m e) ≡ true = ap (λ (bs : List Begun). is_rest (after m.world e) bs) like.begun ∙ rest in
      let in_force : IsInForce rules (after m.world e) (begun_after rules entry m e) m.lists plan =
      subst (λ (bs : List Begun). IsInForce rules (after m.world e) bs m.lists plan) (sym like.begun)
      (subst (λ (ls : Listings). IsInForce rules (after m.world e) u.begun ls plan) (sym all_lists) force) in
      (_, AtRest before m e plan is rested in_force, record { begun = like.begun; plan = refl; listed = ap (lists_of plan) all_lists; since = inl all_lists })
  anew t (stands.Between unrested) =
      let between : is_rest (after m.world e) (begun_after rules entry m e) ≡ false = ap (λ (bs : List Begun). is_rest (after m.world e) bs) like.begun ∙ unrested in
      (_, Between before m e is between, record { begun = like.begun; plan = of.plan ∙ sym like.plan; listed = all_lists; since = since of.since })
    where
      since : (m.from ≡ s.from) ⊎ (m.from ≡ lists s) → (m.from ≡ u.from) ⊎ (m.from ≡ lists u)
      since (inl same) = inl (same ∙ sym like.since)
      since (inr all) = inr (all ∙ sym like.listed)

pub replanning_is_moment : ReplanningIsMoment
replanning_is_moment rules entry before e s u t m n formed is of like plans isn =
    let there = anew rules entry before e s u m is of like t plans in
    subst (IsStandOf t) (one_moment rules entry (before ++ e ∷ []) there.0 n formed there.1 isn) there.2
