-- Where the plan of a stand was made anew, the stand refuses what the moment does that it is.
use Rattle.std.proofs.Common.{◌≡◌, true, List, [], ◌∷◌, ◌++◌, refl, sym, ap, subst, ◌∙◌, true≢false}
use Rattle.smk_world.specs.declared.event.Event.{Event}
use Rattle.smk_world.specs.World.{World, IsFormed, run}
use Rattle.smk_report.specs.declared.fault.Fault.{Fault}
use Rattle.smk_drive.specs.Moments.{AtEntry, AtRest, Between, IsMoment, Moment, Rules, is_rest}
use Rattle.smk_drive_course.specs.Refusals.{LongRecord, MomentRefuses, NoSerial, PlansAreRefused}
use Rattle.smk_drive_course.proofs.Fronts.{front_same, none_last}
use Rattle.smk_drive_course.proofs.OneMoment.{one_moment}
use Rattle.smk_drive_course.specs.Stands.{AtRest as AnewAtRest, Between as AnewBetween, IsReplanned, Refuses, Stand, lists, moment_of}
use Rattle.smk_laws_moments.proofs.StandsOf.{world_is}
use Rattle.smk_laws_refusing.specs.Refusing.{AnewRefusesAsMoment}
use Rattle.smk_laws_refusing.proofs.AsMoments.{events_are}

-- it is refused at a rest
at_rest :
    (rules : Rules) (entry : World) (s : Stand) (w : World) (events : List Event) (f : Fault) →
    Refuses rules entry s w events f → is_rest w s.begun ≡ true
at_rest rules entry s w events f (PlansAreRefused g rest refused) = rest
at_rest rules entry s w events f (NoSerial e rest next full) = rest
at_rest rules entry s w events f (LongRecord e o earlier later rest next fits split short long) = rest

-- the chain of a stand whose plan was made anew at a rest begins with the listings of all plans before
anew_from : (rules : Rules) (u t : Stand) (w : World) → IsReplanned rules u w t → is_rest w t.begun ≡ true → t.from ≡ lists u
anew_from rules u t w (AnewAtRest plan rest force) is = refl
anew_from rules u t w (AnewBetween rest) is = absurd (true≢false (sym is ∙ rest))

module _ (rules : Rules) (entry : World) (formed : IsFormed entry) where
  -- so does that of a moment at a rest
  moment_from :
      (before xs : List Event) (e : Event) (m n : Moment) →
      IsMoment rules entry before m → IsMoment rules entry xs n → xs ≡ before ++ e ∷ [] → is_rest n.world n.begun ≡ true → n.from ≡ m.lists
  moment_from before xs e m n is (AtEntry plan force) h rest = absurd (none_last before e h)
  moment_from before xs e m n is (AtRest front earlier d plan isk at force) h rest =
      let same = subst (λ es. IsMoment rules entry es earlier) (front_same front before d e h) isk in
      ap (λ (x : Moment). x.lists) (one_moment rules entry before earlier m formed same is)
  moment_from before xs e m n is (Between front earlier d isk between) h rest = absurd (true≢false (sym rest ∙ between))

pub anew_refuses_as_moment : AnewRefusesAsMoment
anew_refuses_as_moment rules entry before e u t m n f formed is same plans isn of refused =
    let xs = before ++ e ∷ [] in
    let events = events_are rules entry xs n isn in
    let world = world_is rules entry xs n isn in
    let rest = at_rest rules entry t (run entry xs) xs f refused in
    let resting : is_rest n.world n.begun ≡ true = (λ i. is_rest (world i) (of.begun i)) ∙ rest in
    let from = moment_from rules entry formed before xs e m n is isn refl resting ∙ (same ∙ sym (anew_from rules u t (run entry xs) plans rest)) in
    let is_one : n ≡ moment_of t (run entry xs) xs =
    λ i. record { events = events i; world = world i; begun = of.begun i; from = from i; lists = of.listed i; plan = of.plan i } in
    subst (λ (x : Moment). MomentRefuses rules entry x f) (sym is_one) refused
