-- The job that is picked of the kept plan is the one that is next.
use Rattle.std.proofs.Common.{◌≡◌, ℕ, Bool, true, false, ◌||◌, not, List, map, refl, sym, ap, subst, ◌∙◌, nat_eq, Option, Some, None}
use Rattle.std.specs.Prelude.{option_map}
use Rattle.std.specs.List.{slice_get}
use Rattle.std.specs.List.Sorted.{IsPermutation}
use Rattle.std.proofs.lemmas.List.Sorted.{sum_by-IsPermutation}
use Rattle.smk_base.specs.declared.tree.Amount.{Amount}
use Rattle.smk_world.specs.declared.event.Event.{Event}
use Rattle.smk_world.specs.World.{World}
use Rattle.smk_flow.specs.declared.job.Job.{Job}
use Rattle.smk_trigger.specs.declared.reason.State.{State}
use Rattle.smk_pick.specs.declared.room.Ask.{Ask}
use Rattle.smk_pick.specs.declared.room.Room.{Room}
use Rattle.smk_pick.specs.declared.settings.Settings.{Settings}
use Rattle.smk_pick.specs.Rooms.{amount, threads_in}
use Rattle.smk_pick.specs.Shares.{Holds}
use Rattle.smk_plan.specs.States.{staged}
use Rattle.smk_plan_live.specs.Lives.{IsAgreed}
use Rattle.smk_drive.specs.Moments.{Moment, Rules, seen}
use Rattle.smk_drive.specs.Lawful.{ask_of, first_of, goes_on, running_jobs}
use Rattle.smk_drive_course.specs.Lawful.{may_start}
use Rattle.smk_drive_pick.specs.Picking.{AreToldOf, may_begin, plan_of, wrapped}
use Rattle.smk_drive_course.specs.Stands.{Stand, moment_of}
use Rattle.smk_drive_course.specs.Steps.{Deed}
use Rattle.smk_laws_begins.specs.Picked.{judging_at}
use Rattle.smk_laws_begins.proofs.Judged.{judged_as_kept}
use Rattle.smk_laws_begins.proofs.PickedOf.{may_start_as_kept}
use Rattle.smk_laws_turns.specs.Hubs.{IsAt, IsKept, Parts}
use Rattle.smk_laws_begins.specs.Begins.{IsNextAs, MayTake, PickedIsNext}

-- what a room holds is told in whatever order
pub holds_moved :
    (cores : ℕ) (bounds : List Amount) (room : Room) (asks more : List Ask) → IsPermutation asks more → Holds cores bounds room asks → Holds cores bounds room more
holds_moved cores bounds room asks more moved h =
    record {
      cores_are = h.cores_are;
      threads_are = h.threads_are ∙ sym (sum_by-IsPermutation (λ (a : Ask). threads_in cores a.threads) asks more moved);
      shares_are =
          h.shares_are
          ∙ (λ i.
          map
          (λ (b : Amount). record { bound = b; used = sym (sum_by-IsPermutation (λ (a : Ask). amount a.amounts b.name) asks more moved) i }) bounds);
    }

not_twice : (b : Bool) → not (not b) ≡ b
not_twice true = refl
not_twice false = refl

-- the one of the number, where one is first
found : {A : Type 0} (at : Option A) (o : Option A) → Some at ≡ option_map (λ x. Some x) o → (x : A) × (at ≡ Some x) × (o ≡ Some x)
found at None e = cc
found at (Some x) e = (x, first e, refl)
  where
    first : Some at ≡ Some (Some x) → at ≡ Some x
    first e = cc

module _ (rules : Rules) (entry : World) (h : Parts) (s : Stand) (w : World) (before : List Event) (deeds : List Deed) (number : ℕ)
    (at : IsAt rules entry h s w before deeds) (may : MayTake rules.settings h number) where
  pub unhalted : s.halted ≡ None
  unhalted = sym at.halted ∙ may.unhalted

  pub kept : IsKept rules entry h s w before
  kept = at.kept unhalted

  abbrev m : Moment
  m = moment_of s w before

  pub agrees : IsAgreed (seen rules w) h.live.settings h.live.base
  agrees = subst (λ (x : Settings). IsAgreed (seen rules w) x h.live.base) (sym at.settings) kept.agrees

  told : AreToldOf (judging_at rules m) h.live may.picked.wholes
  told = (judged_as_kept rules m h.live may.picked.wholes at.live at.settings kept.progressed agrees may.picked.whole).0

  abbrev asks : List Ask
  asks = map ask_of (running_jobs m)

  all : may_start rules m ≡ may_begin (judging_at rules m) (plan_of h.live) rules.settings.cores rules.settings.bounds asks
  all = may_start_as_kept rules m h.live kept.plan

  same :
      Some (slice_get (staged (plan_of h.live)) number)
      ≡ option_map wrapped (first_of (may_begin (judging_at rules m) (plan_of h.live) rules.settings.cores rules.settings.bounds asks))
  same =
      may.picked.next (judging_at rules m) rules.settings.cores rules.settings.bounds asks told
      (holds_moved rules.settings.cores rules.settings.bounds h.room _ asks kept.asks kept.room)

  one :
      (e : Job × State)
      × (slice_get (staged (plan_of h.live)) number ≡ Some e)
      × (first_of (may_begin (judging_at rules m) (plan_of h.live) rules.settings.cores rules.settings.bounds asks) ≡ Some e)
  one = found (slice_get (staged (plan_of h.live)) number) _ same

  on : goes_on rules m ≡ true
  on =
      ap (λ b. not b || rules.settings.keep_going) kept.failing
      ∙ (ap (λ b. b || rules.settings.keep_going) (not_twice (nat_eq h.tally.failed 0)) ∙ may.goes_on)

  pub next_as : IsNextAs rules h s w before number
  next_as = record { job = one.0; staged_at = one.1; next = record { clear = kept.clear; first = ap first_of all ∙ one.2; going_on = on } }

pub picked_is_next : PickedIsNext
picked_is_next rules entry h s w before deeds number at may = next_as rules entry h s w before deeds number at may
