-- An event after which the world reads as before and each image looks as one did before: looks, settling, and calls about the lock.
use Rattle.std.proofs.Common.{◌≡◌, Bool, true, false, List, refl, sym, ap, subst, arith, ◌∙◌, Option, None}
use Rattle.std.specs.Prelude.{IsTrue, IsSome, bytes_eq, is_some, if◌then◌else◌, ◌&&◌, ◌||◌, Ok, Err, Result}
use Rattle.smk_base.specs.Path.{is_under, is_at_or_under}
use Rattle.smk_base.specs.Place.{record_place, mark_place, note_place, lock_place}
use Rattle.smk_world.specs.declared.event.Call.{Call}
use Rattle.smk_world.specs.declared.event.Call.TheVariants.{Looked, ReadFile, ReadFolder, Written, Created, Removed, MadeParents, Settled, Protected, Started, Waited}
use Rattle.smk_world.specs.declared.event.Change.{Change as LeftNode}
use Rattle.smk_world.specs.declared.event.Failed.{Failed}
use Rattle.smk_world.specs.declared.event.Node.{Node}
use Rattle.smk_world.specs.World.{World, IsFormed, MayLeave, after, reading, reads_nothing, standing, with_folder, is_within, is_above, reads_folder}
use Rattle.smk_world.specs.Trees.{Path, among, is_path_text}
use Rattle.smk_store.specs.Images.{is_outside}
use Rattle.smk_store.specs.Soundness.{Outside}
use Rattle.smk_laws_protocol.specs.Protocol.{IsLook, IsLock}
use Rattle.smk_laws_protocol.proofs.View.{View}
use Rattle.smk_laws_protocol.proofs.Views.{Nodes, EachImage, HasNames, reads, view_of, view_by, path_node}
use Rattle.smk_laws_protocol.proofs.Rows.{now}
use Rattle.smk_laws_protocol.proofs.Along.{IsQuiet}
use Rattle.smk_laws_protocol.proofs.Basics.{pick_none}
use Rattle.smk_laws_protocol.proofs.Calls.{event}
use Rattle.smk_laws_protocol.proofs.Formed.{all_named, formed_after, grown}
use Rattle.smk_laws_protocol.proofs.Marking.{reads_stay}
use Rattle.smk_laws_protocol.proofs.Naming.{IsImage, IsWide, each_image, of_wide}
use Rattle.smk_laws_protocol.proofs.Quiet.{quiet_call}
use Rattle.smk_laws_protocol.proofs.Settling.{firm_leaves, firm_reads, either}
use Rattle.smk_laws_protocol.proofs.TextFacts.{text_laws}
use Rattle.smk_laws_protocol.proofs.ViewLaws.{naming_laws}

pub record Alike (o : Outside) (w w' : World) : Type 0 where
  pub formed : IsFormed w'
  pub now_same : now o w' ≡ now o w
  pub quiet : IsQuiet w w'
  pub before : Nodes → Nodes
  pub image : (names : List Path) (g : Nodes) → IsWide w w' names g → IsImage w names (before g)
  pub same : (names : List Path) (g : Nodes) → view_of o.read names (before g) ≡ view_of o.read names g

pub alike_each : (o : Outside) (w w' : World) → IsFormed w → Alike o w w' → (P : View → Type 0) → EachImage o.read w P → EachImage o.read w' P
alike_each o w w' formed alike P each =
    of_wide o.read (naming_laws o.read) w formed w' P (λ names g i. subst P (alike.same names g) (each_image o.read w P each names (alike.before g) (alike.image names g i)))

module _ (o : Outside) (w w' : World) (formed : IsFormed w) (formed' : IsFormed w') (quiet : IsQuiet w w') where
  -- the world's names don't matter for its view
  renamed : HasNames w'.names (reads w) → view_of o.read w'.names (reads w) ≡ now o w
  renamed covered = (naming_laws o.read).same w'.names w.names (reads w) formed'.rising formed.rising covered (all_named w formed)

  -- each place leaves no more, and reads as before
  fewer_alike : ((q : Path) (n : Option Node) → MayLeave (w'.nodes q) n → MayLeave (w.nodes q) n) → ((q : Path) → reads w' q ≡ reads w q) → Alike o w w'
  fewer_alike leaves same =
      record {
        formed = formed';
        now_same = (λ k. view_of o.read w'.names (λ q. same q k)) ∙ renamed (λ q h. all_named w' formed' q (subst (λ (n : Option Node). IsSome n) (sym (same q)) h));
        quiet = quiet;
        before = λ g. g;
        image = λ names g i. record { rising = i.image.rising; complete = i.image.complete; covered = i.before; leaves = λ q. leaves q (g q) (i.image.leaves q) };
        same = λ names g. refl;
      }

  still_alike : ((q : Path) → w'.nodes q ≡ w.nodes q) → Alike o w w'
  still_alike same = fewer_alike (λ q n h. subst (λ s. MayLeave s n) (same q) h) (λ q. ap reading (same q))

  -- what changes is no path, and no record, mark or note
  module _
      (X : Path → Bool) (others : (q : Path) → X q ≡ false → w'.nodes q ≡ w.nodes q) (covered : HasNames w'.names (reads w))
      (paths : (q : Path) → is_outside q ≡ true → X q ≡ false) (records : (q : Path) → X (record_place q) ≡ false)
      (marks : (q : Path) → X (mark_place q) ≡ false) (notes : (q : Path) → X (note_place q) ≡ false) where
    abbrev shown : Nodes → Nodes
    shown g q = if X q then reads w q else g q

    other : (g : Nodes) (q : Path) → X q ≡ false → shown g q ≡ g q
    other g q h = ap (λ (b : Bool). if b then reads w q else g q) h

    path : (g : Nodes) (q : Path) → path_node (shown g) q ≡ path_node g q
    path g q = go (is_outside q) refl
      where
        go : (b : Bool) → is_outside q ≡ b → (if b then shown g q else None) ≡ (if b then g q else None)
        go true h = other g q (paths q h)
        go false h = refl

    shown_same : (names : List Path) (g : Nodes) → view_of o.read names (shown g) ≡ view_of o.read names g
    shown_same names g k =
        view_by o.read names (λ q. path g q k) (λ q. if is_path_text q then other g (record_place q) (records q) k else None)
        (λ q. if is_path_text q then other g (mark_place q) (marks q) k else None) (λ q. if is_path_text q then other g (note_place q) (notes q) k else None)

    shown_image : (names : List Path) (g : Nodes) → IsWide w w' names g → IsImage w names (shown g)
    shown_image names g i =
        record { rising = i.image.rising; complete = λ q. complete q (X q); covered = i.before; leaves = λ q. leaves q (X q) refl }
      where
        complete : (q : Path) (b : Bool) → IsSome (if b then reads w q else g q) → IsTrue (among names q)
        complete q true h = i.before q h
        complete q false h = i.image.complete q h

        leaves : (q : Path) (b : Bool) → X q ≡ b → MayLeave (w.nodes q) (if b then reads w q else g q)
        leaves q true h = reads_stay (w.nodes q)
        leaves q false h = subst (λ s. MayLeave s (g q)) (others q h) (i.image.leaves q)

    back : (q : Path) → shown (reads w') q ≡ reads w q
    back q = go (X q) refl
      where
        go : (b : Bool) → X q ≡ b → (if b then reads w q else reads w' q) ≡ reads w q
        go true h = refl
        go false h = ap reading (others q h)

    hidden_alike : Alike o w w'
    hidden_alike =
        record {
          formed = formed';
          now_same = sym (shown_same w'.names (reads w')) ∙ (λ k. view_of o.read w'.names (λ q. back q k)) ∙ renamed covered;
          quiet = quiet;
          before = shown;
          image = shown_image;
          same = shown_same;
        }

eq_false : (p q : Path) → is_at_or_under q p ≡ false → bytes_eq q p ≡ false
eq_false p q h = left (bytes_eq q p) (is_under q p) h
  where
    left : (a b : Bool) → (a || b) ≡ false → a ≡ false
    left a b h = grind arith

and_false : (a b : Bool) → b ≡ false → (a && b) ≡ false
and_false a b h = grind arith

module _ (o : Outside) (w : World) (formed : IsFormed w) where
  covered : (c : Call) (left : List LeftNode) → HasNames (after w (event c left)).names (reads w)
  covered c left q h = grown w (event c left) q (all_named w formed q h)

  formed_on : (c : Call) (left : List LeftNode) → IsFormed (after w (event c left))
  formed_on c left = formed_after w (event c left) formed

  pub look_alike : (c : Call) (left : List LeftNode) → IsLook o c → Alike o w (after w (event c left))
  look_alike (Looked p r) left is = still_alike o w (after w (event (Looked p r) left)) formed (formed_on (Looked p r) left) (quiet_call w (Looked p r) left tt) (λ q. refl)
  look_alike (ReadFile p limit r) left is = still_alike o w (after w (event (ReadFile p limit r) left)) formed (formed_on (ReadFile p limit r) left) (quiet_call w (ReadFile p limit r) left tt) (λ q. refl)
  look_alike (ReadFolder p r) left is = still_alike o w (after w (event (ReadFolder p r) left)) formed (formed_on (ReadFolder p r) left) (quiet_call w (ReadFolder p r) left tt) (λ q. refl)
  look_alike (Written p bytes r) left is = absurd is
  look_alike (Created p r) left is = absurd is
  look_alike (Removed p r) left is = absurd is
  look_alike (MadeParents p r) left is = absurd is
  look_alike (Settled ps r) left is = absurd is
  look_alike (Protected p r) left is = absurd is
  look_alike (Started recipe logs command r) left is = absurd is
  look_alike (Waited r) left is = absurd is

  pub settled_alike : (ps : List Path) (r : Result (Unit {0}) Failed) (left : List LeftNode) → Alike o w (after w (event (Settled ps r) left))
  settled_alike ps (Ok u) left =
      fewer_alike o w (after w (event (Settled ps (Ok u)) left)) formed (formed_on (Settled ps (Ok u)) left) (quiet_call w (Settled ps (Ok u)) left tt)
      (λ q n. either (λ t. MayLeave t n → MayLeave (w.nodes q) n) (is_within q ps || is_above q ps && reads_folder (w.nodes q)) (w.nodes q) (firm_leaves (w.nodes q) n) (λ h. h))
      (λ q. either (λ t. reading t ≡ reading (w.nodes q)) (is_within q ps || is_above q ps && reads_folder (w.nodes q)) (w.nodes q) (firm_reads (w.nodes q)) refl)
  settled_alike ps (Err x) left = still_alike o w (after w (event (Settled ps (Err x)) left)) formed (formed_on (Settled ps (Err x)) left) (quiet_call w (Settled ps (Err x)) left tt) (λ q. refl)

  -- at the lock, and above it
  at_lock : (c : Call) (left : List LeftNode) → IsQuiet w (after w (event c left)) → ((q : Path) → is_at_or_under q lock_place ≡ false → (after w (event c left)).nodes q ≡ w.nodes q) → Alike o w (after w (event c left))
  at_lock c left quiet others =
      hidden_alike o w (after w (event c left)) formed (formed_on c left) quiet (λ q. is_at_or_under q lock_place) others (covered c left)
      text_laws.lock.lock_path text_laws.lock.lock_record text_laws.lock.lock_mark text_laws.lock.lock_note

  above_lock : (c : Call) (left : List LeftNode) → IsQuiet w (after w (event c left)) → ((q : Path) → is_under lock_place q ≡ false → (after w (event c left)).nodes q ≡ w.nodes q) → Alike o w (after w (event c left))
  above_lock c left quiet others =
      hidden_alike o w (after w (event c left)) formed (formed_on c left) quiet (λ q. is_under lock_place q) others (covered c left)
      text_laws.above.lock_above text_laws.above.lock_free.above_record text_laws.above.lock_free.above_mark text_laws.above.lock_free.above_note

  at_it : (p q : Path) → p ≡ lock_place → is_at_or_under q lock_place ≡ false → is_at_or_under q p ≡ false
  at_it p q is h = subst (λ y. is_at_or_under q y ≡ false) (sym is) h

  over_it : (p q : Path) → p ≡ lock_place → is_under lock_place q ≡ false → is_under p q ≡ false
  over_it p q is h = subst (λ y. is_under y q ≡ false) (sym is) h

  pub lock_alike : (c : Call) (left : List LeftNode) → IsLock o c → Alike o w (after w (event c left))
  lock_alike (Created p (Ok made)) left is =
      at_lock (Created p (Ok made)) left (quiet_call w (Created p (Ok made)) left tt) (λ q h. rw (and_false made (bytes_eq q p) (eq_false p q (at_it p q is h))) refl)
  lock_alike (Created p (Err x)) left is =
      at_lock (Created p (Err x)) left (quiet_call w (Created p (Err x)) left tt) (λ q h. rw (and_false (reads_nothing (w.nodes q)) (bytes_eq q p) (eq_false p q (at_it p q is h))) refl)
  lock_alike (Removed p r) left is = at_lock (Removed p r) left (quiet_call w (Removed p r) left tt) (λ q h. rw (at_it p q is h) refl)
  lock_alike (MadeParents p (Ok u)) left is = above_lock (MadeParents p (Ok u)) left (quiet_call w (MadeParents p (Ok u)) left tt) (λ q h. rw (over_it p q is h) refl)
  lock_alike (MadeParents p (Err x)) left is =
      above_lock (MadeParents p (Err x)) left (quiet_call w (MadeParents p (Err x)) left tt)
      (λ q h. pick_none (is_some (standing left q)) (is_under p q) (with_folder (w.nodes q)) (w.nodes q) (over_it p q is h))
  lock_alike (Looked p r) left is = absurd is
  lock_alike (ReadFile p limit r) left is = absurd is
  lock_alike (ReadFolder p r) left is = absurd is
  lock_alike (Written p bytes r) left is = absurd is
  lock_alike (Settled ps r) left is = absurd is
  lock_alike (Protected p r) left is = absurd is
  lock_alike (Started recipe logs command r) left is = absurd is
  lock_alike (Waited r) left is = absurd is
