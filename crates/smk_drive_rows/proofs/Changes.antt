-- What an event may change, by the places that its call names.
use Rattle.std.proofs.Common.{◌≡◌, Bool, true, false, ◌&&◌, ◌||◌, List, [], ◌∷◌, ◌++◌, Ok, Err, refl, sym, subst, ◌∙◌, IsTrue, true≢false}
use Rattle.std.specs.Prelude.{not, bytes_eq, is_some}
use Rattle.std.specs.List.{list_all}
use Rattle.smk_base.specs.Path.{is_at_or_under, is_under}
use Rattle.smk_base.proofs.Places.{same_place}
use Rattle.smk_base.proofs.Under.{at_or_under_further}
use Rattle.smk_world.specs.declared.event.Call.{Call}
use Rattle.smk_world.specs.declared.event.Call.TheVariants.{Looked, ReadFile, ReadFolder, Written, Created, Removed, MadeParents, Settled, Protected, Started, Waited}
use Rattle.smk_world.specs.declared.event.Event.{Event}
use Rattle.smk_world.specs.declared.event.Change.{Change}
use Rattle.smk_world.specs.World.{World, is_within, is_above, is_named, folders_above, owned_paths, owned_by, reads_nothing, standing}
use Rattle.smk_world.proofs.Names.{not_above}
use Rattle.smk_world.specs.Trees.{Path}
use Rattle.smk_drive.specs.Moments.{Rules, Moment, is_spent_removal}
use Rattle.smk_drive.specs.Lawful.{lock_places, makes_folders, protects}
use Rattle.smk_drive_course.specs.Lawful.{is_allowed, open_places, planned_places, ChangesWell}
use Rattle.smk_drive_rows.proofs.Truth.{and_left, and_right, or_left, or_right}

pub at_within : (q p : Path) (ps : List Path) → is_at_or_under q p ≡ true → is_within p ps ≡ true → is_within q ps ≡ true
at_within q p [] h k = k
at_within q p (x ∷ xs) h k = go (is_at_or_under p x) refl k (at_within q p xs h)
  where
    go : (b : Bool) → is_at_or_under p x ≡ b → (b || is_within p xs) ≡ true → (is_within p xs ≡ true → is_within q xs ≡ true) → (is_at_or_under q x || is_within q xs) ≡ true
    go true e t deeper = or_left (is_at_or_under q x) (is_within q xs) (at_or_under_further q p x h e)
    go false e t deeper = or_right (is_at_or_under q x) (is_within q xs) (deeper t)

abbrev pub all_within : List Path → List Path → Bool
all_within [] qs = true
all_within (p ∷ ps) qs = is_within p qs && all_within ps qs

pub within_all : (q : Path) (ps qs : List Path) → is_within q ps ≡ true → all_within ps qs ≡ true → is_within q qs ≡ true
within_all q [] qs h k = absurd (true≢false (sym h))
within_all q (p ∷ ps) qs h k = go (is_at_or_under q p) refl h (λ t. within_all q ps qs t (and_right (is_within p qs) (all_within ps qs) k))
  where
    go : (b : Bool) → is_at_or_under q p ≡ b → (b || is_within q ps) ≡ true → (is_within q ps ≡ true → is_within q qs ≡ true) → is_within q qs ≡ true
    go true e t later = at_within q p qs e (and_left (is_within p qs) (all_within ps qs) k)
    go false e t later = later t

pub each_named : (test : Path → Bool) (q : Path) (ps : List Path) → is_named q ps ≡ true → list_all test ps ≡ true → test q ≡ true
each_named test q [] h k = absurd (true≢false (sym h))
each_named test q (p ∷ ps) h k = go (bytes_eq q p) refl h (λ t. each_named test q ps t (and_right (test p) (list_all test ps) k))
  where
    go : (b : Bool) → bytes_eq q p ≡ b → (b || is_named q ps) ≡ true → (is_named q ps ≡ true → test q ≡ true) → test q ≡ true
    go true e t later = subst (λ x. test x ≡ true) (sym (same_place q p e)) (and_left (test p) (list_all test ps) k)
    go false e t later = later t

pub named_above : (p q : Path) → is_under p q ≡ true → is_named q (folders_above p) ≡ true
named_above p q h = go (is_named q (folders_above p)) refl
  where
    go : (b : Bool) → is_named q (folders_above p) ≡ b → b ≡ true
    go true e = refl
    go false e = absurd (true≢false (sym h ∙ not_above p q e))

module _ (rules : Rules) (entry : World) (m : Moment) where
  abbrev open_at : Event → List Path
  open_at e = open_places rules entry m e

  abbrev may : Event → Path → Bool
  may e q = is_allowed rules entry m e q

  -- the test of an event by the places that its call names; what is removed lies at or under a place of an open job, or is spent
  abbrev pub is_well : Event → Call → Bool
  is_well e (Looked p r) = true
  is_well e (ReadFile p limit r) = true
  is_well e (ReadFolder p r) = true
  is_well e (Written p bytes r) = may e p
  is_well e (Created p r) = may e p
  is_well e (Removed p r) = is_within p (open_at e) || is_spent_removal rules m e.call
  is_well e (MadeParents p r) = list_all (may e) (folders_above p)
  is_well e (Settled ps r) = true
  is_well e (Protected p r) = may e p
  is_well e (Started recipe logs command r) = all_within (owned_paths recipe logs) (open_at e)
  is_well e (Waited (Ok ended)) = all_within (owned_by ended.number m.world.children) (open_at e)
  is_well e (Waited (Err f)) = true

  abbrev pub changes_well : Event → Bool
  changes_well e = is_well e e.call

  same_may : (e : Event) (p q : Path) → bytes_eq q p ≡ true → may e p ≡ true → may e q ≡ true
  same_may e p q h k = subst (λ x. may e x ≡ true) (sym (same_place q p h)) k

  open_may : (e : Event) (q : Path) → is_within q (open_at e) ≡ true → may e q ≡ true
  open_may e q h = or_right (is_named q (lock_places rules)) _ (or_left (is_within q (open_at e)) _ h)

  spent_may : (e : Event) (q : Path) → is_spent_removal rules m e.call ≡ true → may e q ≡ true
  spent_may e q h =
      or_right (is_named q (lock_places rules)) _
      (or_right (is_within q (open_at e)) _
      (or_right (makes_folders e.call && is_above q (lock_places rules ++ (planned_places rules m ++ open_at e))) _
      (or_left (is_spent_removal rules m e.call) (protects rules m e.call q) h)))

  abbrev by : Call → List Change → Event
  by call left = record { call = call; left = left }

  pub well : (call : Call) (left : List Change) → is_well (by call left) call ≡ true → ChangesWell rules entry m (by call left)
  well (Looked p r) left t q h = absurd (true≢false (sym h))
  well (ReadFile p limit r) left t q h = absurd (true≢false (sym h))
  well (ReadFolder p r) left t q h = absurd (true≢false (sym h))
  well (Written p bytes r) left t q h = same_may (by (Written p bytes r) left) p q h t
  well (Created p (Ok made)) left t q h = same_may (by (Created p (Ok made)) left) p q (and_right made (bytes_eq q p) h) t
  well (Created p (Err e)) left t q h =
      same_may (by (Created p (Err e)) left) p q (and_left (bytes_eq q p) (is_some (standing left q)) (and_right (reads_nothing (m.world.nodes q)) (bytes_eq q p && is_some (standing left q)) h)) t
  well (Removed p r) left t q h = go (is_within p (open_at (by (Removed p r) left))) refl t
    where
      go : (b : Bool) → is_within p (open_at (by (Removed p r) left)) ≡ b → (b || is_spent_removal rules m (Removed p r)) ≡ true → IsTrue (may (by (Removed p r) left) q)
      go true e k = open_may (by (Removed p r) left) q (at_within q p (open_at (by (Removed p r) left)) (and_left (is_at_or_under q p) (not (reads_nothing (m.world.nodes q))) h) e)
      go false e k = spent_may (by (Removed p r) left) q k
  well (MadeParents p (Ok u)) left t q h =
      each_named (may (by (MadeParents p (Ok u)) left)) q (folders_above p) (named_above p q (and_left (is_under p q) (reads_nothing (m.world.nodes q)) h)) t
  well (MadeParents p (Err e)) left t q h =
      each_named (may (by (MadeParents p (Err e)) left)) q (folders_above p)
      (named_above p q (and_left (is_under p q) (reads_nothing (m.world.nodes q) && is_some (standing left q)) h)) t
  well (Settled ps r) left t q h = absurd (true≢false (sym h))
  well (Protected p r) left t q h = same_may (by (Protected p r) left) p q h t
  well (Started recipe logs command (Ok number)) left t q h =
      open_may (by (Started recipe logs command (Ok number)) left) q
      (within_all q (owned_paths recipe logs) (open_at (by (Started recipe logs command (Ok number)) left)) h t)
  well (Started recipe logs command (Err e)) left t q h = absurd (true≢false (sym h))
  well (Waited (Ok ended)) left t q h =
      open_may (by (Waited (Ok ended)) left) q (within_all q (owned_by ended.number m.world.children) (open_at (by (Waited (Ok ended)) left)) h t)
  well (Waited (Err e)) left t q h = absurd (true≢false (sym h))

  pub changes_are_well : (e : Event) → changes_well e ≡ true → ChangesWell rules entry m e
  changes_are_well e t = well e.call e.left t
