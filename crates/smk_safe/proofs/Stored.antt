-- What a loaded store tells a run.
use Rattle.std.proofs.Common.{◌≡◌, inl, inr, ℕ, suc, ◌≤◌, max, Bool, true, false, List, [], ◌∷◌, refl, ap, sym, subst, ◌∙◌, arith, bytes_eq, flat_map, Some, None}
use Rattle.std.specs.Prelude.{nat_lt, if◌then◌else◌, option_map}
use Rattle.std.specs.List.{fold}
use Rattle.std.proofs.Math.Nat.{le-max_left, le-max_right}
use Rattle.smk_laws_job.proofs.Abandoning.{in_first, in_second}
use Rattle.smk_base.specs.Place.{mark_place, note_place}
use Rattle.smk_base.proofs.Places.{same_place}
use Rattle.smk_base.proofs.Under.{or_first, or_second}
use Rattle.smk_world.specs.World.{World}
use Rattle.smk_world.specs.Trees.{Path, IsIn}
use Rattle.smk_record.specs.declared.record.Record.{Record}
use Rattle.smk_record.specs.Records.{core, serials}
use Rattle.smk_store.specs.declared.store.Entry.{Entry}
use Rattle.smk_store.specs.declared.store.Kept.{Kept}
use Rattle.smk_store.specs.declared.store.Kept.TheVariants.{Absent, Unreadable, Held}
use Rattle.smk_store.specs.Images.{Image, is_known, readable, stands}
use Rattle.smk_store.specs.Loading.{IsStoreOf, entry_at}
use Rattle.smk_store.specs.Serials.{all_serials, greatest_serial, unmarked_serials}
use Rattle.smk_store.specs.Soundness.{Outside}
use Rattle.smk_store.specs.Steadying.{all_signs, signs_of}
use Rattle.smk_store.specs.Stores.{Known, entry_of}
use Rattle.smk_laws_protocol.specs.Protocol.{now}
use Rattle.smk_laws_protocol.specs.Midway.{IsTop}
use Rattle.smk_laws_plan.proofs.CurrentLists.{in_flat}
use Rattle.smk_laws_plan.proofs.CurrentPaths.{in_among}
use Rattle.smk_safe.specs.Stored.{NextSerialIsAbove, SignsAreAll}

-- ## The greatest of some numbers

fold_above : (a : ℕ) (xs : List ℕ) → a ≤ fold max a xs
fold_above a [] = omega arith
fold_above a (x ∷ xs) = omega (arith, le-max_left a x, fold_above (max a x) xs)

pub fold_holds : (a : ℕ) (xs : List ℕ) (n : ℕ) → IsIn xs n → n ≤ fold max a xs
fold_holds a [] n i = absurd i
fold_holds a (x ∷ xs) n (inl e) = omega (arith, e, le-max_right a x, fold_above (max a x) xs)
fold_holds a (x ∷ xs) n (inr i) = fold_holds (max a x) xs n i

-- ## What is known of a path

-- the store has the path with this entry
found_in : (ks : List Known) (p : Path) (e : Entry) → entry_of ks p ≡ Some e → (k : Known) × IsIn ks k × (k.path ≡ p) × (k.entry ≡ e)
found_in [] p e h = cc
found_in (k ∷ ks) p e h = go (bytes_eq k.path p) refl h (found_in ks p e)
  where
    same : {a b : Entry} → Some a ≡ Some b → a ≡ b
    same x = cc

    go : (b : Bool) → bytes_eq k.path p ≡ b → (if b then Some k.entry else entry_of ks p) ≡ Some e → (entry_of ks p ≡ Some e → (l : Known) × IsIn ks l × (l.path ≡ p) × (l.entry ≡ e))
        → (l : Known) × IsIn (k ∷ ks) l × (l.path ≡ p) × (l.entry ≡ e)
    go true is x again = (k, inl refl, same_place k.path p is, same x)
    go false is x again = let l = again x in (l.0, inr l.1, l.2, l.3)

module _ (image : Image) (store : List Known) (is : IsStoreOf image store) where
  known_entry : (p : Path) → is_known image p ≡ true → (k : Known) × IsIn store k × (k.path ≡ p) × (k.entry ≡ entry_at image p)
  known_entry p known = found_in store p (entry_at image p) (is.entries p ∙ ap (λ b. if b then Some (entry_at image p) else None) known)

pub kept_stands : (k : Kept) (r : Record) → option_map core (readable k) ≡ Some r → stands k ≡ true
kept_stands Absent r h = cc
kept_stands Unreadable r h = cc
kept_stands (Held s) r h = refl

-- the serials of the record there are those of the record without its members
kept_serials : (k : Kept) (r : Record) → option_map core (readable k) ≡ Some r → all_serials (readable k) ≡ serials r
kept_serials Absent r h = cc
kept_serials Unreadable r h = cc
kept_serials (Held s) r h = ap serials (same h)
  where
    same : {a b : Record} → Some a ≡ Some b → a ≡ b
    same x = cc

pub is_top : (o : Outside) (w : World) (store : List Known) → IsStoreOf (now o w) store → IsTop o w (greatest_serial store)
is_top o w store is p r n (reads, clear) i =
    let image = now o w in
    let at = known_entry image store is p (or_first (stands (image.kept p)) _ (kept_stands (image.kept p) r reads)) in
    let unmarked : image.marked p ≡ false = elim clear [ inl e ↦ e | inr never ↦ absurd never ] in
    let here : unmarked_serials (at.0).entry ≡ serials r =
    ap unmarked_serials at.3 ∙ ap (λ b. if b then [] else all_serials (readable (image.kept p))) unmarked ∙ kept_serials (image.kept p) r reads in
    fold_holds 0 (flat_map (λ (k : Known). unmarked_serials k.entry) store) n (in_flat (λ (k : Known). unmarked_serials k.entry) store at.0 n at.1 (subst (λ l. IsIn l n) (sym here) i))

pub next_serial_is_above : NextSerialIsAbove
next_serial_is_above o w store first is next = (greatest_serial store, above (nat_lt (greatest_serial store) 18446744073709551615) next, is_top o w store is)
  where
    same : {a b : ℕ} → Some a ≡ Some b → b ≡ a
    same x = cc

    above : (b : Bool) → (if b then Some (suc (greatest_serial store)) else None) ≡ Some first → first ≡ suc (greatest_serial store)
    above true e = same e
    above false e = cc

-- ## Marks and notes

mark_sign : (k : Known) → k.entry.marked ≡ true → IsIn (signs_of k) (mark_place k.path)
mark_sign k h =
    in_first (if k.entry.marked then mark_place k.path ∷ [] else []) (if k.entry.noted then note_place k.path ∷ [] else []) (mark_place k.path)
    (subst (λ b. IsIn (if b then mark_place k.path ∷ [] else []) (mark_place k.path)) (sym h) (inl refl))

note_sign : (k : Known) → k.entry.noted ≡ true → IsIn (signs_of k) (note_place k.path)
note_sign k h =
    in_second (if k.entry.marked then mark_place k.path ∷ [] else []) (if k.entry.noted then note_place k.path ∷ [] else []) (note_place k.path)
    (subst (λ b. IsIn (if b then note_place k.path ∷ [] else []) (note_place k.path)) (sym h) (inl refl))

pub signs_are_all : SignsAreAll
signs_are_all o w store is =
    let image = now o w in record {
      marks = λ p marked.
          let at = known_entry image store is p (or_second (stands (image.kept p)) _ (or_first (image.marked p) _ marked)) in
          in_among (all_signs store) (mark_place p)
          (in_flat signs_of store at.0 (mark_place p) at.1 (subst (λ q. IsIn (signs_of at.0) (mark_place q)) at.2 (mark_sign at.0 (ap (λ (e : Entry). e.marked) at.3 ∙ marked))));
      notes = λ p noted.
          let at = known_entry image store is p (or_second (stands (image.kept p)) _ (or_second (image.marked p) _ noted)) in
          in_among (all_signs store) (note_place p)
          (in_flat signs_of store at.0 (note_place p) at.1 (subst (λ q. IsIn (signs_of at.0) (note_place q)) at.2 (note_sign at.0 (ap (λ (e : Entry). e.noted) at.3 ∙ noted))));
    }
