-- A clear stand refuses what the moment does that it is.
use Rattle.std.proofs.Common.{◌≡◌, ◌⊎◌, ◌++◌, List, refl, sym, subst, ◌∙◌, inl, inr, ap, Option, Some, None}
use Rattle.smk_world.specs.declared.event.Event.{Event}
use Rattle.smk_world.specs.World.{World, run}
use Rattle.smk_flow.specs.declared.job.Job.{Job}
use Rattle.smk_chain.specs.Derive.{Listings}
use Rattle.smk_trigger.specs.declared.reason.State.{State}
use Rattle.smk_plan.specs.States.{Plan}
use Rattle.smk_report.specs.declared.fault.Fault.{Fault}
use Rattle.smk_drive.specs.Moments.{AtEntry, AtRest, Between, IsMoment, Moment, Rules, lists_of}
use Rattle.smk_drive.specs.Lawful.{first_of}
use Rattle.smk_drive_course.specs.Refusals.{LongRecord, MomentRefuses, NoSerial, PlansAreRefused}
use Rattle.smk_drive_course.specs.Stands.{IsClear, NoneLeft, Refuses, Stand, lists, moment_of}
use Rattle.smk_laws_moments.specs.Chains.{from_lists}
use Rattle.smk_laws_moments.specs.Standing.{IsStandOf}
use Rattle.smk_laws_moments.proofs.ChainsOn.{clear_goes_on, clear_stays, next_is_unrefused}
use Rattle.smk_laws_moments.proofs.ChildrenOf.{run_more}
use Rattle.smk_laws_moments.proofs.LooksLike.{IsLike, like_looks}
use Rattle.smk_laws_moments.proofs.StandsOf.{looks_keep_stands, world_is}
use Rattle.smk_laws_refusing.specs.Refusing.{BeginsOnceLooked, BeginsWhereNoneRefuses, ClearRefusesAsMoment, LooksKeepRefusals, NoneLeftNoneRefuses}

pub events_are : (rules : Rules) (entry : World) (events : List Event) (m : Moment) → IsMoment rules entry events m → m.events ≡ events
events_are rules entry events m (AtEntry plan force) = refl
events_are rules entry events m (AtRest before earlier e plan is rest force) = refl
events_are rules entry events m (Between before earlier e is rest) = refl

-- the listings of all plans so far are those of the same stand with a chain from them on
lists_again : (plan : Option Plan) (from : Listings) → lists_of plan from ≡ lists_of plan (lists_of plan from)
lists_again None from = refl
lists_again (Some plan) from = refl

module _ (rules : Rules) (entry : World) where
  -- the moment of the stand, or of the same one with a chain from all listings on
  is_one_of :
      (s : Stand) (before : List Event) (m : Moment) →
      IsMoment rules entry before m →
      IsStandOf s m → (m ≡ moment_of s (run entry before) before) ⊎ (m ≡ moment_of (from_lists s) (run entry before) before)
  is_one_of s before m is of = go of.since
    where
      go : (m.from ≡ s.from) ⊎ (m.from ≡ lists s) → (m ≡ moment_of s (run entry before) before) ⊎ (m ≡ moment_of (from_lists s) (run entry before) before)
      go (inl since) =
          let events = events_are rules entry before m is in
          let world = world_is rules entry before m is in
          inl (λ i. record { events = events i; world = world i; begun = of.begun i; from = since i; lists = of.listed i; plan = of.plan i })
      go (inr since) =
          let events = events_are rules entry before m is in
          let world = world_is rules entry before m is in
          let listed = of.listed ∙ lists_again s.plan s.from in
          inr (λ i. record { events = events i; world = world i; begun = of.begun i; from = since i; lists = listed i; plan = of.plan i })

  -- two clear stands that differ in where their chains begin refuse the same
  from_lists_on :
      (s : Stand) (w : World) (before : List Event) (f : Fault) →
      IsClear rules s w before → Refuses rules entry s w before f → Refuses rules entry (from_lists s) w before f
  from_lists_on s w before f c (PlansAreRefused g rest refused) = absurd (c.unrefused g refused)
  from_lists_on s w before f c (NoSerial e rest next full) =
      NoSerial e rest (record { going = next.going; first = next.first; unrefused = (clear_goes_on rules s w before c).unrefused }) full
  from_lists_on s w before f c (LongRecord e o earlier later rest next fits split short long) =
      LongRecord e o earlier later rest (record { going = next.going; first = next.first; unrefused = (clear_goes_on rules s w before c).unrefused })
      fits split short long

  from_before :
      (s : Stand) (w : World) (before : List Event) (f : Fault) →
      IsClear rules s w before → Refuses rules entry (from_lists s) w before f → Refuses rules entry s w before f
  from_before s w before f c (PlansAreRefused g rest refused) = absurd ((clear_goes_on rules s w before c).unrefused g refused)
  from_before s w before f c (NoSerial e rest next full) = NoSerial e rest (record { going = next.going; first = next.first; unrefused = c.unrefused }) full
  from_before s w before f c (LongRecord e o earlier later rest next fits split short long) =
      LongRecord e o earlier later rest (record { going = next.going; first = next.first; unrefused = c.unrefused }) fits split short long

  to_moment :
      (s : Stand) (before : List Event) (m : Moment) (f : Fault) →
      IsMoment rules entry before m →
      IsStandOf s m → IsClear rules s (run entry before) before → Refuses rules entry s (run entry before) before f → MomentRefuses rules entry m f
  to_moment s before m f is of c refused =
      elim (is_one_of s before m is of) [
        | inl same ↦ subst (λ (x : Moment). MomentRefuses rules entry x f) (sym same) refused
        | inr same ↦ subst (λ (x : Moment). MomentRefuses rules entry x f) (sym same) (from_lists_on s (run entry before) before f c refused)
      ]

  of_moment :
      (s : Stand) (before : List Event) (m : Moment) (f : Fault) →
      IsMoment rules entry before m →
      IsStandOf s m → IsClear rules s (run entry before) before → MomentRefuses rules entry m f → Refuses rules entry s (run entry before) before f
  of_moment s before m f is of c refused =
      elim (is_one_of s before m is of) [
        | inl same ↦ subst (λ (x : Moment). MomentRefuses rules entry x f) same refused
        | inr same ↦ from_before s (run entry before) before f c (subst (λ (x : Moment). MomentRefuses rules entry x f) same refused)
      ]

  none_first : (k : Job × State) → None ≡ Some k → ⊥
  none_first k h = cc

  -- a clear stand at which nothing is left refuses nothing
  clear_refuses_none :
      (s : Stand) (w : World) (before : List Event) (f : Fault) →
      IsClear rules s w before → NoneLeft rules s w before → Refuses rules entry s w before f → ⊥
  clear_refuses_none s w before f c none (PlansAreRefused g rest refused) = c.unrefused g refused
  clear_refuses_none s w before f c none (NoSerial e rest next full) = none_first e (ap first_of (sym (none next.going)) ∙ next.first)
  clear_refuses_none s w before f c none (LongRecord e o earlier later rest next fits split short long) =
      none_first e (ap first_of (sym (none next.going)) ∙ next.first)

pub clear_refuses_as_moment : ClearRefusesAsMoment
clear_refuses_as_moment rules entry s before m f is of c = (to_moment rules entry s before m f is of c, of_moment rules entry s before m f is of c)

pub begins_where_none_refuses : BeginsWhereNoneRefuses
begins_where_none_refuses rules entry s before m e made stamps f is of begins refused =
    next_is_unrefused rules entry s (run entry before) before e made stamps f begins (of_moment rules entry s before m f is of begins.next.clear refused)

pub none_left_none_refuses : NoneLeftNoneRefuses
none_left_none_refuses rules entry s before m f is of c none refused =
    clear_refuses_none rules entry s (run entry before) before f c none (of_moment rules entry s before m f is of c refused)

-- ## Looks

-- what is refused goes by what stands where, and by which children run
like_now :
    (rules : Rules) (entry : World) (s : Stand) (w v : World) (before after : List Event) (f : Fault) →
    Refuses rules entry s w before f → Refuses rules entry s (record v { names = w.names; nodes = w.nodes; children = w.children }) after f
like_now rules entry s w v before after f (PlansAreRefused g rest refused) = PlansAreRefused g rest refused
like_now rules entry s w v before after f (NoSerial e rest next full) =
    NoSerial e rest (record { going = next.going; first = next.first; unrefused = next.unrefused }) full
like_now rules entry s w v before after f (LongRecord e o earlier later rest next fits split short long) =
    LongRecord e o earlier later rest (record { going = next.going; first = next.first; unrefused = next.unrefused }) fits split short long

like_refuses :
    (rules : Rules) (entry : World) (s : Stand) (w v : World) (before after : List Event) (f : Fault) →
    IsLike w v → Refuses rules entry s w before f → Refuses rules entry s v after f
like_refuses rules entry s w v before after f (names, nodes, children) refused =
    let first = like_now rules entry s w v before after f refused in
    let second = subst (λ ns. Refuses rules entry s (record v { names = ns; nodes = w.nodes; children = w.children }) after f) names first in
    let third = subst (λ ns. Refuses rules entry s (record v { nodes = ns; children = w.children }) after f) nodes second in
    subst (λ cs. Refuses rules entry s (record v { children = cs }) after f) children third

like_back : (w v : World) → IsLike w v → IsLike v w
like_back w v (names, nodes, children) = (sym names, sym nodes, sym children)

pub looks_keep_refusals : LooksKeepRefusals
looks_keep_refusals act rules entry s w before looks failure f are follows =
    let like = like_looks act failure w looks are follows in (
      λ refused. like_refuses rules entry s w (run w looks) before (before ++ looks) f like refused,
      λ refused. like_refuses rules entry s (run w looks) w (before ++ looks) before f (like_back w (run w looks) like) refused,
    )

pub begins_once_looked : BeginsOnceLooked
begins_once_looked act rules entry s before looks failure m n e made stamps f formed are follows is of isn begins refused =
    let of_later = looks_keep_stands act rules entry s before looks failure m n formed are follows is of isn in
    let clear = clear_stays act rules s (run entry before) before looks failure are follows begins.next.clear in
    let clear_now = subst (λ v. IsClear rules s v (before ++ looks)) (sym (run_more entry before looks)) clear in
    let here = of_moment rules entry s (before ++ looks) n f isn of_later clear_now refused in
    let later = subst (λ v. Refuses rules entry s v (before ++ looks) f) (run_more entry before looks) here in
    let earlier = (looks_keep_refusals act rules entry s (run entry before) before looks failure f are follows).1 later in
    next_is_unrefused rules entry s (run entry before) before e made stamps f begins earlier
