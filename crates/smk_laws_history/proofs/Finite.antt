-- A folder after a copy is sound, by a finite check of its nodes and records.
use Rattle.std.proofs.Common.{◌≡◌, ◌⊎◌, Bool, true, false, cond, List, [], ◌∷◌, Option, Some, None, refl, sym, ap, subst, ◌∙◌, inl, inr, IsTrue, IsSome, bytes_eq}
use Rattle.std.specs.Prelude.{option_map}
use Rattle.smk_base.specs.Path.{overlaps}
use Rattle.smk_base.proofs.Places.{same_place}
use Rattle.smk_world.specs.declared.event.Node.{Node}
use Rattle.smk_world.specs.declared.event.Node.TheVariants.{Regular, Directory}
use Rattle.smk_world.specs.World.{Nodes, node_in}
use Rattle.smk_world.specs.Trees.{Path, Act, IsIn, Each, kind_in}
use Rattle.smk_record.specs.declared.record.Stamp.{Stamp}
use Rattle.smk_record.specs.declared.record.Record.{Record}
use Rattle.smk_record.specs.Records.{core, stamped}
use Rattle.smk_store.specs.declared.store.Kept.TheVariants.{Held}
use Rattle.smk_store.specs.Images.{Image, Content, content_of, readable, is_source, source_at, core_at, is_whole}
use Rattle.smk_store.specs.Trust.{Versions, HasVersion, none_eased}
use Rattle.smk_store.specs.Soundness.{Sound, Holds}
use Rattle.smk_chain.proofs.Folders.{image_with, kept_in}

none_some : {A : Type 0} {B : Type 0} (x : A) → None ≡ Some x → B
none_some x h = absurd (none x h)
  where
    none : {A : Type 0} (x : A) → None ≡ Some x → ⊥
    none x h = cc

some_is : {A : Type 0} (x y : A) → Some x ≡ Some y → x ≡ y
some_is x y h = cc

true_false : {A : Type 0} → true ≡ false → A
true_false h = absurd (never h)
  where
    never : true ≡ false → ⊥
    never h = cc

each_in : {A : Type 0} (P : A → Type 0) (xs : List A) → Each P xs → (x : A) → IsIn xs x → P x
each_in P [] h x i = absurd i
each_in P (y ∷ xs) h x (inl e) = subst P (sym e) h.0
each_in P (y ∷ xs) h x (inr i) = each_in P xs h.1 x i

-- ## Where a node or a record comes from

pub node_from : (nodes : Nodes) (p : Path) (n : Node) → node_in nodes p ≡ Some n → IsIn nodes (p, n)
node_from [] p n h = none_some n h
node_from (e ∷ es) p n h = go (bytes_eq p e.0) refl h (λ k. node_from es p n k)
  where
    go : (b : Bool) → bytes_eq p e.0 ≡ b → cond b (Some e.1) (node_in es p) ≡ Some n → (node_in es p ≡ Some n → IsIn es (p, n)) → IsIn (e ∷ es) (p, n)
    go true is k later = inl (λ i. (same_place p e.0 is i, sym (some_is e.1 n k) i))
    go false is k later = inr (later k)

abbrev IsOf : List Record → Path → Record → Type 0
IsOf records p r = (s : Record) × IsIn records s × (s.path ≡ p) × (core s ≡ r)

record_from : (records : List Record) (p : Path) (r : Record) → option_map core (readable (kept_in records p)) ≡ Some r → IsOf records p r
record_from [] p r h = none_some r h
record_from (s ∷ ss) p r h = go (bytes_eq s.path p) refl h (λ k. record_from ss p r k)
  where
    go :
        (b : Bool) → bytes_eq s.path p ≡ b → option_map core (readable (cond b (Held s) (kept_in ss p))) ≡ Some r →
        (option_map core (readable (kept_in ss p)) ≡ Some r → IsOf ss p r) → IsOf (s ∷ ss) p r
    go true is k later = (s, inl refl, same_place s.path p is, some_is (core s) r k)
    go false is k later = let l = later k in (l.0, inr (l.1), l.2, l.3)

file_from : (n : Option Node) (f : Content) → content_of n ≡ Some f → n ≡ Some (Regular f.bytes f.time f.read_only)
file_from None f h = none_some f h
file_from (Some Directory) f h = none_some f h
file_from (Some (Regular bytes time read_only)) f h = ap (λ (g : Content). Some (Regular g.bytes g.time g.read_only)) (some_is _ f h)

-- ## The check

module _ (act : Act) (H : Versions) (nodes : Nodes) (records : List Record) where
  abbrev here : Image
  here = image_with nodes records []

  abbrev NodeHolds : Path × Node → Type 0
  NodeHolds (p, Directory) = Unit {0}
  NodeHolds (p, Regular bytes time read_only) = IsTrue (is_source here p) → H p time ≡ Some bytes

  abbrev StampHolds : Path × Stamp → Type 0
  StampHolds (q, s) = HasVersion H q s

  abbrev IsAlone : Record → Record → Type 0
  IsAlone r s = IsTrue (overlaps r.path s.path) → r.path ≡ s.path

  -- its stamps are versions; it holds what it vouches for, or isn't whole; and it overlaps no other
  pub record RecordHolds (s : Record) : Type 0 where
    pub stamps : Each StampHolds (stamped (core s))
    pub value : Holds act H here s.path ⊎ (is_whole here s.path (kind_in s.recipe s.path) ≡ false)
    pub alone : Each (IsAlone s) records

  source_holds : Each NodeHolds nodes → (p : Path) (f : Content) → source_at here p ≡ Some f → H p f.time ≡ Some f.bytes
  source_holds all p f h = go (is_source here p) refl h
    where
      go : (b : Bool) → is_source here p ≡ b → cond b (content_of (node_in nodes p)) None ≡ Some f → H p f.time ≡ Some f.bytes
      go true is k =
          each_in NodeHolds nodes all (p, Regular f.bytes f.time f.read_only) (node_from nodes p (Regular f.bytes f.time f.read_only) (file_from (node_in nodes p) f k)) is
      go false is k = none_some f k

  stamp_holds :
      Each RecordHolds records → (p : Path) (r : Record) (q : Path) (s : Stamp) → core_at here p ≡ Some r → IsIn (stamped r) (q, s) → HasVersion H q s
  stamp_holds all p r q s h k =
      let from = record_from records p r h in
      let each : Each StampHolds (stamped r) = subst (λ (x : Record). Each StampHolds (stamped x)) from.3 (each_in RecordHolds records all from.0 from.1).stamps in
      each_in StampHolds (stamped r) each (q, s) k

  value_holds :
      Each RecordHolds records → (p : Path) (r : Record) → core_at here p ≡ Some r → IsTrue (is_whole here p (kind_in r.recipe p)) → Holds act H here p
  value_holds all p r h whole =
      let from = record_from records p r h in
      go from.0 from.2 from.3 (each_in RecordHolds records all from.0 from.1).value
    where
      go : (s : Record) → s.path ≡ p → core s ≡ r → Holds act H here s.path ⊎ (is_whole here s.path (kind_in s.recipe s.path) ≡ false) → Holds act H here p
      go s here_at same (inl held) = subst (λ x. Holds act H here x) here_at held
      go s here_at same (inr broken) =
          true_false (sym whole ∙ subst (λ (x : Record). is_whole here p (kind_in x.recipe p) ≡ false) same (subst (λ x. is_whole here x (kind_in s.recipe x) ≡ false) here_at broken))

  alone_holds : Each RecordHolds records → (p q : Path) → IsSome (core_at here p) → IsSome (core_at here q) → IsTrue (overlaps p q) → p ≡ q
  alone_holds all p q a b over = go (core_at here p) refl a (core_at here q) refl b
    where
      both : (r s : Record) → IsOf records p r → IsOf records q s → p ≡ q
      both r s x y =
          let alone = each_in (IsAlone x.0) records (each_in RecordHolds records all x.0 x.1).alone y.0 y.1 in
          sym x.2 ∙ (alone (subst (λ z. IsTrue (overlaps x.0.path z)) (sym y.2) (subst (λ z. IsTrue (overlaps z q)) (sym x.2) over)) ∙ y.2)

      go : (o : Option Record) → core_at here p ≡ o → IsSome o → (m : Option Record) → core_at here q ≡ m → IsSome m → p ≡ q
      go None e h m f k = true_false (sym h)
      go (Some r) e h None f k = true_false (sym k)
      go (Some r) e h (Some s) f k = both r s (record_from records p r e) (record_from records q s f)

  -- An image without marks is sound where each of its nodes and records is.
  pub sound_by : Each NodeHolds nodes → Each RecordHolds records → Sound act H here none_eased
  sound_by nodes_hold records_hold =
      record {
        has_sources = source_holds nodes_hold;
        has_recorded = λ p r q s clear k. stamp_holds records_hold p r q s clear.0 k;
        holds = λ p r h unmarked chain whole. value_holds records_hold p r h whole;
        none_nested = alone_holds records_hold;
      }
