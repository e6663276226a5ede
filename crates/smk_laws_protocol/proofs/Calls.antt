-- Each call that an open job may make, failed or not, is a change of the world that keeps what holds between events.
use Rattle.smk_laws_protocol.proofs.Owners.{owner_of}
use Rattle.smk_laws_protocol.proofs.Formed.{all_named}
use Rattle.std.proofs.Common.{◌≡◌, ◌⊎◌, ℕ, Bool, true, false, List, [], ◌∷◌, ◌++◌, map, refl, sym, ap, subst, inl, inr, arith, ◌∙◌, Option, Some, None}
use Rattle.std.specs.Prelude.{bytes_eq, nat_eq, IsTrue, is_some, if◌then◌else◌, ◌&&◌, ◌||◌, Ok, Err, Result}
use Rattle.smk_world.specs.declared.event.Call.{Call}
use Rattle.smk_world.specs.declared.event.Call.TheVariants.{Looked, ReadFile, ReadFolder, Written, Created, Removed, MadeParents, Settled, Protected, Started, Waited}
use Rattle.smk_world.specs.declared.event.Change.{Change as LeftNode}
use Rattle.smk_world.specs.declared.event.Child.{Child}
use Rattle.smk_world.specs.declared.event.Event.{Event}
use Rattle.smk_world.specs.declared.event.Ended.{Ended as EndedChild}
use Rattle.smk_world.specs.declared.event.Failed.{Failed}
use Rattle.smk_world.specs.declared.event.Node.{Node}
use Rattle.smk_world.specs.declared.event.NodeState.{NodeState}
use Rattle.smk_world.specs.declared.event.NodeState.TheVariants.{Owned, Known}
use Rattle.smk_record.specs.declared.record.Record.{Record}
use Rattle.smk_world.specs.declared.recipe.Recipe.{Recipe}
use Rattle.smk_world.specs.Trees.{Path, IsIn}
use Rattle.smk_store.specs.Images.{is_outside}
use Rattle.smk_base.specs.Path.{is_under, is_at_or_under}
use Rattle.smk_store.specs.Trust.{Versions, Eased}
use Rattle.smk_laws_protocol.proofs.Views.{HasNames, reads, EachImage}
use Rattle.smk_world.specs.World.{World, IsFormed, MayLeave, after, reading, firmly, firm, loose, going, standing, reads_nothing, is_within, is_above, owned_paths, owned_by, reads_folder, with_folder}
use Rattle.smk_base.specs.Place.{mark_place, record_place, note_place}
use Rattle.smk_store.specs.Soundness.{Outside}
use Rattle.smk_laws_protocol.specs.Protocol.{OpenJob, Marking, Running, Recorded, Dropped, RunState, own, outputs, mark_places, record_places, eased_by}
use Rattle.smk_laws_protocol.proofs.Between.{Midway, Fits, InPhase, Lets, IsOfJob, has_firm_marks, is_marking}
use Rattle.smk_laws_protocol.proofs.After.{removed, started, waited}
use Rattle.smk_laws_protocol.proofs.Basics.{each_in, in_here, in_split, by_test, pick_none}
use Rattle.smk_laws_protocol.proofs.Change.{Change}
use Rattle.smk_laws_protocol.proofs.FolderChange.{MakesFolders, folder_change, own_folders_change}
use Rattle.smk_laws_protocol.proofs.Guarded.{IsGuarded, guarded, in_either}
use Rattle.smk_laws_protocol.proofs.Jobs.{pair_apart}
use Rattle.smk_laws_protocol.proofs.Holders.{by_option}
use Rattle.smk_laws_protocol.proofs.MarkChange.{mark_change}
use Rattle.smk_laws_protocol.proofs.NodeChange.{node_change}
use Rattle.smk_laws_protocol.proofs.Nodes.{ChangesWithin}
use Rattle.smk_laws_protocol.proofs.NoteChange.{note_change}
use Rattle.smk_laws_protocol.proofs.OwnHolds.{eased_now}
use Rattle.smk_laws_protocol.proofs.RecordChange.{record_change}
use Rattle.smk_base.proofs.Places.{same_place, place_itself}
use Rattle.smk_laws_protocol.proofs.Settling.{firm_leaves, firm_reads, either}
use Rattle.smk_laws_protocol.proofs.Stays.{in_left, in_right}
use Rattle.smk_laws_protocol.proofs.Still.{fewer_change, still_change}
use Rattle.smk_laws_protocol.proofs.Texts.{Texts, IsFree}
use Rattle.smk_laws_protocol.proofs.Unmarking.{unmark_nothing, unmark_recorded, unmark_dropped}

abbrev pub event : Call → List LeftNode → Event
event c left = record { call = c; left = left }

-- the calls of a job by its phase, whatever they are answered
abbrev pub Allows : Outside → OpenJob → Call → Type 0
Allows o j (Created p r) = (j.phase ≡ Marking) × IsIn (mark_places j) p
Allows o j (MadeParents p r) = (IsIn (mark_places j) p ⊎ IsIn (record_places j) p) ⊎ (has_firm_marks o j.phase ≡ true) × (is_marking o j.phase ≡ false) × IsIn (own j) p
Allows o j (Removed p r) =
    ((has_firm_marks o j.phase ≡ true) × (is_marking o j.phase ≡ false) × (IsIn (outputs j) p ⊎ IsIn (record_places j) p))
    ⊎ (((j.phase ≡ Recorded) ⊎ (j.phase ≡ Dropped)) × IsIn (map mark_place (outputs j)) p)
Allows o j (Written p bytes r) = (has_firm_marks o j.phase ≡ true) × (is_marking o j.phase ≡ false) × IsIn (record_places j) p
Allows o j (Started recipe logs command r) = (has_firm_marks o j.phase ≡ true) × (is_marking o j.phase ≡ false) × (recipe ≡ j.recipe) × (logs ≡ j.logs)
Allows o j (Waited (Ok end)) = (j.phase ≡ Running end.number)
Allows o j (Waited (Err x)) = Unit {0}
Allows o j (Settled ps r) = Unit {0}
Allows o j c = ⊥

pub in_map : {A B : Type 0} (f : A → B) (xs : List A) (y : B) → IsIn (map f xs) y → (x : A) × IsIn xs x × (y ≡ f x)
in_map f [] y i = absurd i
in_map f (x ∷ xs) y (inl e) = (x, inl refl, e)
in_map f (x ∷ xs) y (inr i) = let k = in_map f xs y i in (k.0, inr k.1, k.2)

nat_same : (a b : ℕ) → nat_eq a b ≡ true → a ≡ b
nat_same a b h = grind arith

going_nothing : (s : NodeState) (n : Option Node) → reading s ≡ None → n ≡ None → going n s ≡ s
going_nothing Owned n h k = refl
going_nothing (Known None besides) n h k = subst (λ x. going x (Known None besides) ≡ Known None besides) (sym k) refl
going_nothing (Known (Some m) besides) n h k = absurd (no h)
  where
    no : Some m ≡ None → ⊥
    no h = grind arith

left_nothing : (n m : Option Node) → m ≡ None → (n ≡ None) ⊎ (n ≡ m) → n ≡ None
left_nothing n m h (inl k) = k
left_nothing n m h (inr k) = k ∙ h

module _
    (o : Outside) (texts : Texts o.read) (entry : World) (H : Versions) (s : RunState) (js ks : List OpenJob) (j : OpenJob) (w : World)
    (m : Midway o entry H (record s { jobs = js ++ j ∷ ks }) w) (e' : Eased) (fewer : (p : Path) (r : Record) → e' p r → eased_by (js ++ j ∷ ks) p r)
    (left : List LeftNode) where
  abbrev e : Eased
  e = eased_by (js ++ j ∷ ks)

  fits : Fits o entry e s.top w j
  fits = each_in (Fits o entry e s.top w) (js ++ j ∷ ks) j m.fits (in_here js ks j)

  guard : has_firm_marks o j.phase ≡ true → is_marking o j.phase ≡ false → EachImage o.read w (IsGuarded j)
  guard firm marking = guarded o w j fits.texts firm marking (each_in (InPhase o w) (js ++ j ∷ ks) j m.phases (in_here js ks j))

  formed : (c : Call) → IsFormed (after w (event c left))
  formed c = texts.formed w (event c left) m.images.formed

  covered : (c : Call) → HasNames (after w (event c left)).names (reads w)
  covered c q h = texts.grown w (event c left) q ((all_named _ m.images.formed) q h)

  abbrev Changes : Call → Type 0
  Changes c = Change o entry H j e e' w (after w (event c left))

  still : (c : Call) → ((q : Path) → (after w (event c left)).nodes q ≡ w.nodes q) → Changes c
  still c same = still_change o texts.naming entry H j e e' s.top s.steady w (after w (event c left)) m.images fewer (formed c) (covered c) same

  -- ---- marks and notes

  may_create : (p : Path) (c : Call) → IsIn (mark_places j) p → reads_nothing (w.nodes p) ≡ true → ((q : Path) → bytes_eq q p ≡ false → (after w (event c left)).nodes q ≡ w.nodes q) → Changes c
  may_create p c i nothing others = turn (in_either (map mark_place (outputs j)) (map note_place j.logs) p i)
    where
      turn : IsIn (map mark_place (outputs j)) p ⊎ IsIn (map note_place j.logs) p → Changes c
      turn (inl k) =
          let x = in_map mark_place (outputs j) p k in
          mark_change o texts entry H j e e' s.top s.steady w (after w (event c left)) m.images fits fewer (formed c) (covered c) x.0 x.1
          (record { nothing = subst (λ y. reads_nothing (w.nodes y) ≡ true) x.2 nothing; others = λ q h. others q (subst (λ y. bytes_eq q y ≡ false) (sym x.2) h) })
      turn (inr k) =
          let x = in_map note_place j.logs p k in
          note_change o texts entry H j e e' s.top s.steady w (after w (event c left)) m.images fits fewer (formed c) (covered c) x.0 (in_right (outputs j) j.logs x.0 x.1)
          (record { nothing = subst (λ y. reads_nothing (w.nodes y) ≡ true) x.2 nothing; others = λ q h. others q (subst (λ y. bytes_eq q y ≡ false) (sym x.2) h) })

  created_change : (p : Path) (r : Result Bool Failed) → Lets o w (event (Created p r) left) (Created p r) → IsIn (mark_places j) p → Changes (Created p r)
  created_change p (Ok true) lets i = may_create p (Created p (Ok true)) i lets.0 (λ q h. rw h refl)
  created_change p (Ok false) lets i = still (Created p (Ok false)) (λ q. refl)
  created_change p (Err x) lets i =
      by_test (reads_nothing (w.nodes p))
      (λ nothing. may_create p (Created p (Err x)) i nothing (λ q h. ap (λ (b : Bool). if b then loose (standing left q) (w.nodes q) else w.nodes q) (and_no (reads_nothing (w.nodes q)) (bytes_eq q p) h)))
      (λ nothing. still (Created p (Err x)) (λ q. ap (λ (b : Bool). if b then loose (standing left q) (w.nodes q) else w.nodes q) (never q nothing)))
    where
      and_no : (a b : Bool) → b ≡ false → (a && b) ≡ false
      and_no a b h = grind arith

      and_no' : (a b : Bool) → a ≡ false → (a && b) ≡ false
      and_no' a b h = grind arith

      never : (q : Path) → reads_nothing (w.nodes p) ≡ false → (reads_nothing (w.nodes q) && bytes_eq q p) ≡ false
      never q h = by_test (bytes_eq q p) (λ k. and_no' (reads_nothing (w.nodes q)) (bytes_eq q p) (subst (λ y. reads_nothing (w.nodes y) ≡ false) (sym (same_place q p k)) h)) (λ k. and_no (reads_nothing (w.nodes q)) (bytes_eq q p) k)

  -- ---- folders_above

  makes : (p : Path) (r : Result (Unit {0}) Failed) → MakesFolders w (after w (event (MadeParents p r) left)) p
  makes p (Ok u) = record { others = λ q h. rw h refl; above = λ q h. inr (rw h refl) }
  makes p (Err x) =
      record {
        others = λ q h. pick_none (is_some (standing left q)) (is_under p q) (with_folder (w.nodes q)) (w.nodes q) h;
        above = λ q h. by_test (is_some (standing left q) && is_under p q) (λ k. inr (rw k refl)) (λ k. inl (rw k refl));
      }

  parents_change : (p : Path) (r : Result (Unit {0}) Failed) → Allows o j (MadeParents p r) → Changes (MadeParents p r)
  parents_change p r (inl (inr i)) =
      let x = in_map record_place (outputs j) p i in
      own_folders_change o texts entry H j e e' s.top s.steady w (after w (event (MadeParents p r) left)) m.images fewer (formed (MadeParents p r)) (covered (MadeParents p r))
      p (subst IsFree (sym x.2) (texts.above.record_free x.0)) (λ q h. subst (λ y. is_under y q ≡ false) (sym x.2) (texts.above.record_above x.0 q h)) (makes p r)
  parents_change p r (inl (inl i)) = turn (in_either (map mark_place (outputs j)) (map note_place j.logs) p i)
    where
      turn : IsIn (map mark_place (outputs j)) p ⊎ IsIn (map note_place j.logs) p → Changes (MadeParents p r)
      turn (inl k) =
          let x = in_map mark_place (outputs j) p k in
          own_folders_change o texts entry H j e e' s.top s.steady w (after w (event (MadeParents p r) left)) m.images fewer (formed (MadeParents p r)) (covered (MadeParents p r))
          p (subst IsFree (sym x.2) (texts.above.mark_free x.0)) (λ q h. subst (λ y. is_under y q ≡ false) (sym x.2) (texts.above.mark_above x.0 q h)) (makes p r)
      turn (inr k) =
          let x = in_map note_place j.logs p k in
          own_folders_change o texts entry H j e e' s.top s.steady w (after w (event (MadeParents p r) left)) m.images fewer (formed (MadeParents p r)) (covered (MadeParents p r))
          p (subst IsFree (sym x.2) (texts.above.note_free x.0)) (λ q h. subst (λ y. is_under y q ≡ false) (sym x.2) (texts.above.note_above x.0 q h)) (makes p r)
  parents_change p r (inr a) =
      folder_change o texts entry H j e e' s.top s.steady w (after w (event (MadeParents p r) left)) m.images fits fewer (formed (MadeParents p r)) (covered (MadeParents p r))
      (guard a.0 a.1) p a.2 (texts.above.path_free p (each_in (λ x. IsTrue (is_outside x)) (own j) p fits.paths a.2)) (makes p r)

  -- ---- nodes and records

  within : (c : Call) (places : List Path) → has_firm_marks o j.phase ≡ true → is_marking o j.phase ≡ false → ((p : Path) → IsIn places p → IsIn (own j) p) → ChangesWithin w (after w (event c left)) places → Changes c
  within c places firm marking own_places changes =
      node_change o texts entry H j e e' s.top s.steady w (after w (event c left)) m.images fits fewer (formed c) (covered c) (guard firm marking) places own_places changes

  at_record : (c : Call) (p : Path) → has_firm_marks o j.phase ≡ true → is_marking o j.phase ≡ false → IsIn (record_places j) p → ((q : Path) → is_at_or_under q p ≡ false → (after w (event c left)).nodes q ≡ w.nodes q) → Changes c
  at_record c p firm marking i others =
      let x = in_map record_place (outputs j) p i in
      record_change o texts entry H j e e' s.top s.steady w (after w (event c left)) m.images fits fewer (formed c) (covered c) (guard firm marking) x.0 x.1
      (λ r h. eased_now o texts entry H s js ks j w m x.0 r (fewer x.0 r h)) (λ q h. others q (subst (λ y. is_at_or_under q y ≡ false) (sym x.2) h))

  eq_or_under : (p q : Path) → is_at_or_under q p ≡ false → bytes_eq q p ≡ false
  eq_or_under p q h = left_false (bytes_eq q p) (is_under q p) h
    where
      left_false : (a b : Bool) → (a || b) ≡ false → a ≡ false
      left_false a b h = grind arith

  at_self : (x : Path) → is_at_or_under x x ≡ true
  at_self x = rw (place_itself x) refl

  removed_change : (p : Path) (r : Result (Unit {0}) Failed) → Lets o w (event (Removed p r) left) (Removed p r) → Allows o j (Removed p r) → Changes (Removed p r)
  removed_change p r lets (inl (firm, marking, inl i)) =
      within (Removed p r) (p ∷ []) firm marking (λ x k. only x k) (removed w p r left)
    where
      only : (x : Path) → IsIn (p ∷ []) x → IsIn (own j) x
      only x (inl k) = subst (λ y. IsIn (own j) y) (sym k) (in_left (outputs j) j.logs p i)
      only x (inr k) = absurd k
  removed_change p r lets (inl (firm, marking, inr i)) = at_record (Removed p r) p firm marking i (λ q h. rw h refl)
  removed_change p r lets (inr (phase, i)) =
      let x = in_map mark_place (outputs j) p i in
      unmark x.0 x.1 x.2
    where
      nothing_left : (r : Result (Unit {0}) Failed) → Lets o w (event (Removed p r) left) (Removed p r) → reading (w.nodes p) ≡ None → standing left p ≡ None
      nothing_left (Ok u) lets h = ap (λ l. standing l p) lets
      nothing_left (Err x) lets h = left_nothing (standing left p) (reading (w.nodes p)) h (lets p (at_self p))

      there : (after w (event (Removed p r) left)).nodes p ≡ going (standing left p) (w.nodes p)
      there = ap (λ (b : Bool). if b then going (standing left p) (w.nodes p) else w.nodes p) (at_self p)

      others : (x : Path) → is_at_or_under x p ≡ false → (after w (event (Removed p r) left)).nodes x ≡ w.nodes x
      others x h = rw h refl

      unmark : (q : Path) → IsIn (outputs j) q → p ≡ mark_place q → Changes (Removed p r)
      unmark q k is =
          by_option (reading (w.nodes (mark_place q)))
          (λ n h. by_phase n h phase)
          (λ h.
          let h' = ap (λ y. reading (w.nodes y)) is ∙ h in
          unmark_nothing o texts entry H s js ks j w (after w (event (Removed p r) left)) m e' fewer (formed (Removed p r)) (covered (Removed p r)) q k
          (λ x f. others x (subst (λ y. is_at_or_under x y ≡ false) (sym is) f))
          (subst (λ y. (after w (event (Removed p r) left)).nodes y ≡ w.nodes y) is (there ∙ going_nothing (w.nodes p) (standing left p) h' (nothing_left r lets h'))))
        where
          by_phase : (n : Node) → reading (w.nodes (mark_place q)) ≡ Some n → (j.phase ≡ Recorded) ⊎ (j.phase ≡ Dropped) → Changes (Removed p r)
          by_phase n h (inl is_recorded) =
              unmark_recorded o texts entry H s js ks j w (after w (event (Removed p r) left)) m e' fewer (formed (Removed p r)) (covered (Removed p r)) q k
              (λ x f. others x (subst (λ y. is_at_or_under x y ≡ false) (sym is) f)) is_recorded n h
          by_phase n h (inr is_dropped) =
              unmark_dropped o texts entry H s js ks j w (after w (event (Removed p r) left)) m e' fewer (formed (Removed p r)) (covered (Removed p r)) q k
              (λ x f. others x (subst (λ y. is_at_or_under x y ≡ false) (sym is) f)) is_dropped n h

  written_change : (p : Path) (bytes : List ℕ) (r : Result (Unit {0}) Failed) → Allows o j (Written p bytes r) → Changes (Written p bytes r)
  written_change p bytes r a = at_record (Written p bytes r) p a.0 a.1 a.2 (λ q h. rw (eq_or_under p q h) refl)

  -- ---- children

  started_change : (recipe : Recipe) (logs : List Path) (command : List ℕ) (r : Result ℕ Failed) → Allows o j (Started recipe logs command r) → Changes (Started recipe logs command r)
  started_change recipe logs command (Ok n) a =
      within (Started recipe logs command (Ok n)) (owned_paths recipe logs) a.0 a.1
      (λ p i. subst (λ l. IsIn (owned_paths j.recipe l) p) a.3 (subst (λ x. IsIn (owned_paths x logs) p) a.2 i)) (started w recipe logs command n left)
  started_change recipe logs command (Err x) a = still (Started recipe logs command (Err x)) (λ q. refl)

  -- what the children of this number own is the job's
  pub owned_own : (n : ℕ) → j.phase ≡ Running n → (p : Path) → IsIn (owned_by n w.children) p → IsIn (own j) p
  owned_own n runs p i =
      let c = owner_of n w.children p i in
      of_job c.0 (nat_same c.0.number n c.2) c.3 (each_in (IsOfJob o (js ++ j ∷ ks)) w.children c.0 m.children c.1)
    where
      of_job : (c : Child) → c.number ≡ n → IsIn (owned_paths c.recipe c.logs) p → IsOfJob o (js ++ j ∷ ks) c → IsIn (own j) p
      of_job c same i k = go (in_split js ks j k.0 k.1)
        where
          there : IsIn (own k.0) p
          there = subst (λ l. IsIn (owned_paths k.0.recipe l) p) k.4 (subst (λ x. IsIn (owned_paths x c.logs) p) k.3 i)

          go : (k.0 ≡ j) ⊎ IsIn (js ++ ks) k.0 → IsIn (own j) p
          go (inl h) = subst (λ x. IsIn (own x) p) h there
          go (inr h) = absurd ((pair_apart o texts.overlap js ks j k.0 m.apart h).3 n runs (subst (λ x. k.0.phase ≡ Running x) same k.2))

  waited_change : (r : Result EndedChild Failed) → Allows o j (Waited r) → Changes (Waited r)
  waited_change (Ok end) runs =
      within (Waited (Ok end)) (owned_by end.number w.children) (ap (has_firm_marks o) runs) (ap (is_marking o) runs) (owned_own end.number runs) (waited w end left)
  waited_change (Err x) runs = still (Waited (Err x)) (λ q. refl)

  -- ---- settling

  settled_change : (ps : List Path) (r : Result (Unit {0}) Failed) → Changes (Settled ps r)
  settled_change ps (Ok u) =
      fewer_change o texts.naming entry H j e e' s.top s.steady w (after w (event (Settled ps (Ok u)) left)) m.images fewer (formed (Settled ps (Ok u))) (covered (Settled ps (Ok u)))
      (λ q n. either (λ t. MayLeave t n → MayLeave (w.nodes q) n) (is_within q ps || is_above q ps && reads_folder (w.nodes q)) (w.nodes q) (firm_leaves (w.nodes q) n) (λ h. h))
      (λ q. either (λ t. reading t ≡ reading (w.nodes q)) (is_within q ps || is_above q ps && reads_folder (w.nodes q)) (w.nodes q) (firm_reads (w.nodes q)) refl)
      (λ q n h. either (λ t. t ≡ firmly n) (is_within q ps || is_above q ps && reads_folder (w.nodes q)) (w.nodes q) (ap firm h) h)
  settled_change ps (Err x) = still (Settled ps (Err x)) (λ q. refl)

  pub call_change : (c : Call) → Lets o w (event c left) c → Allows o j c → Changes c
  call_change (Created p r) lets a = created_change p r lets a.1
  call_change (MadeParents p r) lets a = parents_change p r a
  call_change (Removed p r) lets a = removed_change p r lets a
  call_change (Written p bytes r) lets a = written_change p bytes r a
  call_change (Started recipe logs command r) lets a = started_change recipe logs command r a
  call_change (Waited r) lets a = waited_change r a
  call_change (Settled ps r) lets a = settled_change ps r
  call_change (Looked p r) lets a = absurd a
  call_change (ReadFile p limit r) lets a = absurd a
  call_change (ReadFolder p r) lets a = absurd a
  call_change (Protected p r) lets a = absurd a
