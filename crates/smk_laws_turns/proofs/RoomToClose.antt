-- Once a child was waited for, the others leave room to close its job.
use Rattle.std.proofs.Common.{◌≡◌, ℕ, true, false, not, List, filter, refl, ap, sym, subst, ◌∙◌, nat_eq, eq-eqb, true≢false}
use Rattle.smk_base.proofs.Apart.{path-own}
use Rattle.smk_world.specs.declared.event.Change.{Change}
use Rattle.smk_world.specs.declared.event.Child.{Child as WorldChild}
use Rattle.smk_world.specs.declared.event.Ended.{Ended}
use Rattle.smk_world.specs.declared.event.Event.{Event}
use Rattle.smk_world.specs.Calls.{HasOwners, any_overlap}
use Rattle.smk_world.specs.Trees.{IsIn, Path}
use Rattle.smk_world.specs.World.{World, after, in_paths, out_paths, owned_paths}
use Rattle.smk_store.specs.Loading.{store_folder}
use Rattle.smk_store.specs.Unowned.{IsUnownedUnder}
use Rattle.smk_job.specs.Jobs.{LetsClose, Underway}
use Rattle.smk_run.specs.Closings.{wait_event}
use Rattle.smk_drive.specs.Moments.{Rules}
use Rattle.smk_drive_outcome.specs.Outcomes.{AreUnowned}
use Rattle.smk_drive_course.specs.Stands.{Stand}
use Rattle.smk_drive_course.specs.Steps.{Deed}
use Rattle.smk_laws_protocol.proofs.Basics.{each_of, in_filter}
use Rattle.smk_laws_plan.proofs.CurrentLists.{in_right}
use Rattle.smk_laws_turns.specs.Hubs.{IsAt, Parts}
use Rattle.smk_laws_turns.specs.Turning.{OfParts}
use Rattle.smk_laws_turns.specs.Room.{RoomToClose, UnownedToLook}
use Rattle.smk_laws_turns.proofs.Overlaps.{AreUnusedBy, apart_at, apart_first, unowned_under, unused_now, used_by, used_of}
use Rattle.smk_laws_turns.proofs.Staff.{child_runs, use_users, used_path}

other_number : (m n : ℕ) → not (nat_eq m n) ≡ true → m ≡ n → ⊥
other_number m n h same = true≢false (sym h ∙ ap not (eq-eqb m n same))

module _
    (rules : Rules) (entry : World) (h : Parts) (s : Stand) (w : World) (before : List Event) (deeds : List Deed) (g : Underway) (ended : Ended)
    (left : List Change) (at : IsAt rules entry h s w before deeds) (ran : IsIn s.runs g)
    (number : ended.number ≡ g.number) where
  -- the children that run still
  abbrev others : List WorldChild
  others = filter (λ (c : WorldChild). not (nat_eq c.number ended.number)) w.children

  still : (c : WorldChild) → IsIn others c → IsIn w.children c × (not (nat_eq c.number ended.number) ≡ true)
  still c i = in_filter (λ (x : WorldChild). not (nat_eq x.number ended.number)) w.children c i

  -- what the child that ended owned is apart from what they use
  unused_by : AreUnusedBy (out_paths g.recipe) others
  unused_by c i =
      let of = still c i in
      let k = child_runs rules entry h s w before deeds at c of.0 in
      subst (λ (x : WorldChild). any_overlap (out_paths g.recipe) (used_by x) ≡ false) (sym k.2)
      (apart_first (out_paths g.recipe) g.logs (used_of k.0)
      (at.spaced g k.0 ran k.1 (λ same. other_number c.number ended.number of.1 (ap (λ (x : WorldChild). x.number) k.2 ∙ same ∙ sym number))))

  lets_close : LetsClose (after w (wait_event ended left)) g.recipe
  lets_close = record {
    apart = unused_now (out_paths g.recipe) others unused_by;
    users = use_users rules entry h s w before deeds at others (λ c i. (still c i).0);
  }

  module _ (v : World) (same : v.children ≡ others) (owners : HasOwners v) where
    still_in : (c : WorldChild) → IsIn v.children c → IsIn others c
    still_in c i = subst (λ cs. IsIn cs c) same i

    own : IsUnownedUnder v.nodes store_folder
    own = unowned_under v store_folder owners (λ c i q iq.
        let user = used_path rules entry h s w before deeds at c q (still c (still_in c i)).0 (in_right q (in_paths c.recipe) (owned_paths c.recipe c.logs) iq) in
        (path-own q store_folder user refl).overlapped)

    outputs : (p : Path) → IsIn (out_paths g.recipe) p → IsUnownedUnder v.nodes p
    outputs p ip = unowned_under v p owners (λ c i q iq.
        apart_at (out_paths g.recipe) (used_by c) p q (unused_by c (still_in c i)) ip (in_right q (in_paths c.recipe) (owned_paths c.recipe c.logs) iq))

    are_unowned : AreUnowned v (out_paths g.recipe)
    are_unowned = record { own = own; outputs = each_of (IsUnownedUnder v.nodes) (out_paths g.recipe) outputs }

pub room_to_close : OfParts RoomToClose
room_to_close rules entry h s w before deeds g ended left at ran number = lets_close rules entry h s w before deeds g ended left at ran number

pub unowned_to_look : OfParts UnownedToLook
unowned_to_look rules entry h s w before deeds g ended left v at ran number same owners =
    are_unowned rules entry h s w before deeds g ended left at ran number v same owners
