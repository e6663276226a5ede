-- What a call of an open job leaves as it was: the marks and notes that are firm, and records but for those that it writes or removes.
use Rattle.std.proofs.Common.{◌≡◌, ◌⊎◌, ℕ, Bool, true, false, List, map, refl, sym, ap, subst, inl, inr, arith, ◌∙◌, Option, None}
use Rattle.std.specs.Prelude.{bytes_eq, IsTrue, option_map, ◌&&◌, ◌||◌, Ok, Err, Result, is_some, if◌then◌else◌}
use Rattle.smk_world.specs.declared.event.Call.{Call}
use Rattle.smk_world.specs.declared.event.Call.TheVariants.{Looked, ReadFile, ReadFolder, Written, Created, Removed, MadeParents, Settled, Protected, Started, Waited}
use Rattle.smk_world.specs.declared.event.Change.{Change as LeftNode}
use Rattle.smk_world.specs.declared.event.Failed.{Failed}
use Rattle.smk_world.specs.declared.event.Node.{Node}
use Rattle.smk_world.specs.declared.recipe.Recipe.{Recipe}
use Rattle.smk_world.specs.Trees.{Path, IsIn, Each, is_path_text}
use Rattle.smk_store.specs.Images.{is_outside}
use Rattle.smk_base.specs.Path.{is_under, is_at_or_under}
use Rattle.smk_record.specs.Records.{core}
use Rattle.smk_laws_protocol.proofs.Views.{reads, read_at}
use Rattle.smk_world.specs.World.{World, after, reading, reads_nothing, firmly, firm, is_within, is_above, owned_paths, owned_by, reads_folder, with_folder, standing}
use Rattle.smk_base.specs.Place.{mark_place, record_place, note_place}
use Rattle.smk_store.specs.Soundness.{Outside}
use Rattle.smk_laws_protocol.specs.Protocol.{OpenJob, Running, own, outputs, record_places}
use Rattle.smk_laws_protocol.proofs.Rows.{now}
use Rattle.smk_laws_protocol.proofs.Between.{has_firm_marks, is_marking}
use Rattle.smk_laws_protocol.proofs.Basics.{each_in, clash, pick_none}
use Rattle.smk_laws_protocol.proofs.Calls.{event, Allows, in_map}
use Rattle.smk_laws_protocol.proofs.Guarded.{in_either}
use Rattle.smk_laws_protocol.proofs.NodeChange.{places_outside}
use Rattle.smk_laws_protocol.proofs.Nodes.{AreOutside}
use Rattle.smk_laws_protocol.proofs.Settling.{firm_reads, either}
use Rattle.smk_laws_protocol.proofs.Stays.{in_left}
use Rattle.smk_laws_protocol.proofs.Texts.{Texts, IsFree}

-- the call changes nothing at the place, or makes it firm
abbrev pub Untouched : World → Path → Call → Type 0
Untouched w q (Written p bytes r) = bytes_eq q p ≡ false
Untouched w q (Created p r) = bytes_eq q p ≡ false
Untouched w q (Removed p r) = is_at_or_under q p ≡ false
Untouched w q (MadeParents p r) = is_under p q ≡ false
Untouched w q (Settled ps r) = Unit {0}
Untouched w q (Protected p r) = bytes_eq q p ≡ false
Untouched w q (Started recipe logs command r) = is_within q (owned_paths recipe logs) ≡ false
Untouched w q (Waited (Ok end)) = is_within q (owned_by end.number w.children) ≡ false
Untouched w q (Waited (Err x)) = Unit {0}
Untouched w q c = Unit {0}

-- it reads as before, and what is firm there stays so
pub record Same (w w' : World) (q : Path) : Type 0 where
  pub reads_same : reads w' q ≡ reads w q
  pub firm_same : (n : Option Node) → w.nodes q ≡ firmly n → w'.nodes q ≡ firmly n

pub same_by : (w w' : World) (q : Path) → w'.nodes q ≡ w.nodes q → Same w w' q
same_by w w' q h = record { reads_same = ap reading h; firm_same = λ n k. h ∙ k }

and_right_false : (a b : Bool) → b ≡ false → (a && b) ≡ false
and_right_false a b h = grind arith

pub untouched_same : (w : World) (q : Path) (c : Call) (left : List LeftNode) → Untouched w q c → Same w (after w (event c left)) q
untouched_same w q (Written p bytes r) left h = same_by w (after w (event (Written p bytes r) left)) q (rw h refl)
untouched_same w q (Created p (Ok made)) left h = same_by w (after w (event (Created p (Ok made)) left)) q (rw (and_right_false made (bytes_eq q p) h) refl)
untouched_same w q (Created p (Err x)) left h = same_by w (after w (event (Created p (Err x)) left)) q (rw (and_right_false (reads_nothing (w.nodes q)) (bytes_eq q p) h) refl)
untouched_same w q (Removed p r) left h = same_by w (after w (event (Removed p r) left)) q (rw h refl)
untouched_same w q (MadeParents p (Ok u)) left h = same_by w (after w (event (MadeParents p (Ok u)) left)) q (rw h refl)
untouched_same w q (MadeParents p (Err x)) left h = same_by w (after w (event (MadeParents p (Err x)) left)) q (pick_none (is_some (standing left q)) (is_under p q) (with_folder (w.nodes q)) (w.nodes q) h)
untouched_same w q (Settled ps (Ok u)) left h =
    let test = is_within q ps || is_above q ps && reads_folder (w.nodes q) in
    record {
      reads_same = either (λ t. reading t ≡ reading (w.nodes q)) test (w.nodes q) (firm_reads (w.nodes q)) refl;
      firm_same = λ n k. either (λ t. t ≡ firmly n) test (w.nodes q) (ap firm k) k;
    }
untouched_same w q (Settled ps (Err x)) left h = same_by w (after w (event (Settled ps (Err x)) left)) q refl
untouched_same w q (Protected p (Ok u)) left h = same_by w (after w (event (Protected p (Ok u)) left)) q (rw h refl)
untouched_same w q (Protected p (Err x)) left h = same_by w (after w (event (Protected p (Err x)) left)) q (rw h refl)
untouched_same w q (Started recipe logs command (Ok n)) left h = same_by w (after w (event (Started recipe logs command (Ok n)) left)) q (rw h refl)
untouched_same w q (Started recipe logs command (Err x)) left h = same_by w (after w (event (Started recipe logs command (Err x)) left)) q refl
untouched_same w q (Waited (Ok end)) left h = same_by w (after w (event (Waited (Ok end)) left)) q (rw h refl)
untouched_same w q (Waited (Err x)) left h = same_by w (after w (event (Waited (Err x)) left)) q refl
untouched_same w q (Looked p r) left h = same_by w (after w (event (Looked p r) left)) q refl
untouched_same w q (ReadFile p limit r) left h = same_by w (after w (event (ReadFile p limit r) left)) q refl
untouched_same w q (ReadFolder p r) left h = same_by w (after w (event (ReadFolder p r) left)) q refl

pub record_same : (o : Outside) (w w' : World) (x : Path) → reads w' (record_place x) ≡ reads w (record_place x) → (now o w').record_at x ≡ (now o w).record_at x
record_same o w w' x h = ap (λ n. option_map core (read_at o.read x (if is_path_text x then n else None))) h

module _ (o : Outside) (texts : Texts o.read) (w : World) (j : OpenJob) (paths : Each (λ p. IsTrue (is_outside p)) (own j))
    (owned : (n : ℕ) (p : Path) → (j.phase ≡ Running n) → IsIn (owned_by n w.children) p → IsIn (own j) p) where
  is_a_path : (p : Path) → IsIn (own j) p → is_outside p ≡ true
  is_a_path p i = each_in (λ x. IsTrue (is_outside x)) (own j) p paths i

  pub parents_free : (p : Path) (r : Result (Unit {0}) Failed) → Allows o j (MadeParents p r) → IsFree p
  parents_free p r (inl (inr i)) = let x = in_map record_place (outputs j) p i in subst IsFree (sym x.2) (texts.above.record_free x.0)
  parents_free p r (inl (inl i)) = go (in_either (map mark_place (outputs j)) (map note_place j.logs) p i)
    where
      go : IsIn (map mark_place (outputs j)) p ⊎ IsIn (map note_place j.logs) p → IsFree p
      go (inl k) = let x = in_map mark_place (outputs j) p k in subst IsFree (sym x.2) (texts.above.mark_free x.0)
      go (inr k) = let x = in_map note_place j.logs p k in subst IsFree (sym x.2) (texts.above.note_free x.0)
  parents_free p r (inr a) = texts.above.path_free p (is_a_path p a.2)

  outside_own : (places : List Path) → ((p : Path) → IsIn places p → IsIn (own j) p) → AreOutside places
  outside_own places own_places = places_outside o texts places (λ p i. is_a_path p (own_places p i))

  under_false : (a b : Bool) → (a || b) ≡ false → a ≡ false
  under_false a b h = grind arith

  eq_false : (q p : Path) → is_at_or_under q p ≡ false → bytes_eq q p ≡ false
  eq_false q p h = under_false (bytes_eq q p) (is_under q p) h

  started_own : (recipe : Recipe) (logs : List Path) → recipe ≡ j.recipe → logs ≡ j.logs → (p : Path) → IsIn (owned_paths recipe logs) p → IsIn (own j) p
  started_own recipe logs a b p i = subst (λ l. IsIn (owned_paths j.recipe l) p) b (subst (λ x. IsIn (owned_paths x logs) p) a i)

  -- its marks, while they are firm
  pub mark_untouched : (c : Call) → Allows o j c → has_firm_marks o j.phase ≡ true → (x : Path) → Untouched w (mark_place x) c
  mark_untouched (Created p r) a firm x = clash (has_firm_marks o j.phase) firm (ap (has_firm_marks o) a.0)
  mark_untouched (MadeParents p r) a firm x = (parents_free p r a).above_mark x
  mark_untouched (Removed p r) (inl (f, g, inl i)) firm x = texts.outside.mark_out p x (is_a_path p (in_left (outputs j) j.logs p i))
  mark_untouched (Removed p r) (inl (f, g, inr i)) firm x = let y = in_map record_place (outputs j) p i in subst (λ z. is_at_or_under (mark_place x) z ≡ false) (sym y.2) (texts.records.record_mark y.0 x)
  mark_untouched (Removed p r) (inr (inl h, i)) firm x = clash (has_firm_marks o j.phase) firm (ap (has_firm_marks o) h)
  mark_untouched (Removed p r) (inr (inr h, i)) firm x = clash (has_firm_marks o j.phase) firm (ap (has_firm_marks o) h)
  mark_untouched (Written p bytes r) a firm x = let y = in_map record_place (outputs j) p a.2 in eq_false (mark_place x) p (subst (λ z. is_at_or_under (mark_place x) z ≡ false) (sym y.2) (texts.records.record_mark y.0 x))
  mark_untouched (Started recipe logs command r) a firm x = (outside_own (owned_paths recipe logs) (started_own recipe logs a.2 a.3)).mark_out x
  mark_untouched (Waited (Ok end)) a firm x = (outside_own (owned_by end.number w.children) (λ p i. owned end.number p a i)).mark_out x
  mark_untouched (Waited (Err e)) a firm x = tt
  mark_untouched (Settled ps r) a firm x = tt
  mark_untouched (Looked p r) a firm x = absurd a
  mark_untouched (ReadFile p limit r) a firm x = absurd a
  mark_untouched (ReadFolder p r) a firm x = absurd a
  mark_untouched (Protected p r) a firm x = absurd a

  -- its notes, once they are firm
  pub note_untouched : (c : Call) → Allows o j c → is_marking o j.phase ≡ false → (x : Path) → Untouched w (note_place x) c
  note_untouched (Created p r) a firm x = clash (is_marking o j.phase) (ap (is_marking o) a.0) firm
  note_untouched (MadeParents p r) a firm x = (parents_free p r a).above_note x
  note_untouched (Removed p r) (inl (f, g, inl i)) firm x = texts.outside.note_out p x (is_a_path p (in_left (outputs j) j.logs p i))
  note_untouched (Removed p r) (inl (f, g, inr i)) firm x = let y = in_map record_place (outputs j) p i in subst (λ z. is_at_or_under (note_place x) z ≡ false) (sym y.2) (texts.records.record_note y.0 x)
  note_untouched (Removed p r) (inr (h, i)) firm x = let y = in_map mark_place (outputs j) p i in subst (λ z. is_at_or_under (note_place x) z ≡ false) (sym y.2) (texts.marks.mark_note y.0 x)
  note_untouched (Written p bytes r) a firm x = let y = in_map record_place (outputs j) p a.2 in eq_false (note_place x) p (subst (λ z. is_at_or_under (note_place x) z ≡ false) (sym y.2) (texts.records.record_note y.0 x))
  note_untouched (Started recipe logs command r) a firm x = (outside_own (owned_paths recipe logs) (started_own recipe logs a.2 a.3)).note_out x
  note_untouched (Waited (Ok end)) a firm x = (outside_own (owned_by end.number w.children) (λ p i. owned end.number p a i)).note_out x
  note_untouched (Waited (Err e)) a firm x = tt
  note_untouched (Settled ps r) a firm x = tt
  note_untouched (Looked p r) a firm x = absurd a
  note_untouched (ReadFile p limit r) a firm x = absurd a
  note_untouched (ReadFolder p r) a firm x = absurd a
  note_untouched (Protected p r) a firm x = absurd a

  -- the call writes or removes no record
  abbrev pub HasNoRecords : Call → Type 0
  HasNoRecords (Written p bytes r) = ⊥
  HasNoRecords (Removed p r) = (IsIn (record_places j) p → ⊥)
  HasNoRecords c = Unit {0}

  pub record_untouched : (c : Call) → Allows o j c → HasNoRecords c → (x : Path) → Untouched w (record_place x) c
  record_untouched (Created p r) a none x = go (in_either (map mark_place (outputs j)) (map note_place j.logs) p a.1)
    where
      go : IsIn (map mark_place (outputs j)) p ⊎ IsIn (map note_place j.logs) p → bytes_eq (record_place x) p ≡ false
      go (inl k) = let y = in_map mark_place (outputs j) p k in eq_false (record_place x) p (subst (λ z. is_at_or_under (record_place x) z ≡ false) (sym y.2) (texts.marks.mark_record y.0 x))
      go (inr k) = let y = in_map note_place j.logs p k in eq_false (record_place x) p (subst (λ z. is_at_or_under (record_place x) z ≡ false) (sym y.2) (texts.notes.note_record y.0 x))
  record_untouched (MadeParents p r) a none x = (parents_free p r a).above_record x
  record_untouched (Removed p r) (inl (f, g, inl i)) none x = texts.outside.record_out p x (is_a_path p (in_left (outputs j) j.logs p i))
  record_untouched (Removed p r) (inl (f, g, inr i)) none x = absurd (none i)
  record_untouched (Removed p r) (inr (h, i)) none x = let y = in_map mark_place (outputs j) p i in subst (λ z. is_at_or_under (record_place x) z ≡ false) (sym y.2) (texts.marks.mark_record y.0 x)
  record_untouched (Written p bytes r) a none x = absurd none
  record_untouched (Started recipe logs command r) a none x = (outside_own (owned_paths recipe logs) (started_own recipe logs a.2 a.3)).record_out x
  record_untouched (Waited (Ok end)) a none x = (outside_own (owned_by end.number w.children) (λ p i. owned end.number p a i)).record_out x
  record_untouched (Waited (Err e)) a none x = tt
  record_untouched (Settled ps r) a none x = tt
  record_untouched (Looked p r) a none x = absurd a
  record_untouched (ReadFile p limit r) a none x = absurd a
  record_untouched (ReadFolder p r) a none x = absurd a
  record_untouched (Protected p r) a none x = absurd a
