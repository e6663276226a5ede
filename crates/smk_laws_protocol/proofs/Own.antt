-- The crux: what a job's outputs hold as its marks go is what its record vouches for, in each image in which it is chained.
use Rattle.std.proofs.Common.{◌≡◌, ◌<◌, ℕ, zero, suc, Bool, true, false, List, map, refl, sym, ap, arith, ◌∙◌, Option, Some}
use Rattle.std.specs.Prelude.{IsTrue}
use Rattle.std.specs.Option.{option_and_then}
use Rattle.smk_base.specs.declared.tree.Tree.{Tree}
use Rattle.smk_record.specs.declared.record.Member.{Member}
use Rattle.smk_record.specs.declared.record.Stamp.{Stamp}
use Rattle.smk_record.specs.declared.record.Stamp.TheVariants.{Time, Sum, Made}
use Rattle.smk_record.specs.declared.record.Record.{Record}
use Rattle.smk_world.specs.Trees.{Path, Act, all_of, value_at, part_at, IsIn}
use Rattle.smk_store.specs.Images.{Content}
use Rattle.smk_store.specs.Trust.{Versions, Eased, vouched}
use Rattle.smk_record.specs.Records.{is_of_source, stamped}
use Rattle.smk_laws_protocol.proofs.View.{kind_in, View, Speaks, Chain, Link, Holds, Sound, is_source, is_whole, input_value, vir}
use Rattle.smk_laws_protocol.proofs.Chains.{Passes, chain_on, map_same, value_of_product}
use Rattle.smk_laws_protocol.proofs.Moves.{with_nodes}

-- the serials that a record names are below its own
abbrev pub Falls : Record → Type 0
Falls r = (q : Path) (m : ℕ) → IsIn (stamped r) (q, Made m) → m < r.made

low : (a b c n : ℕ) → a ≡ b → b < c → c < suc n → a < n
low a b c n h k l = omega arith

never : (n : ℕ) → n < 0 → ⊥
never n h = omega arith

-- the inputs' values by two depths
inputs_deep :
    (H : Versions) (v : View) (e : Eased) (V V' : Path → Option Tree) (r : Record) → Chain v e r →
    ((q : Path) (m : ℕ) (h : Path) (s : Record) → IsIn (stamped r) (q, Made m) → s.made ≡ m → Chain v e s → v.record_at h ≡ Some s → V h ≡ V' h) →
    (x : Path × Stamp) → IsIn (stamped r) x → input_value v H V x ≡ input_value v H V' x
inputs_deep H v e V V' r chain same (q, Time t) i = refl
inputs_deep H v e V V' r chain same (q, Sum t d) i = refl
inputs_deep H v e V V' _ (Link r place by speaks chains) same (q, Made m) i =
    let s = (speaks q m i).0 in
    value_of_product v H V q (place q m) m (by q m) s.holder s.clear.0 (speaks q m i).1
    ∙ ap (option_and_then (part_at (place q m) q)) (same q m (place q m) (by q m) i (speaks q m i).1 (chains q m i) s.clear.0)
    ∙ sym (value_of_product v H V' q (place q m) m (by q m) s.holder s.clear.0 (speaks q m i).1)

module _ (act : Act) (H : Versions) (v : View) (e : Eased) (falls : (h : Path) (r : Record) → v.record_at h ≡ Some r → Falls r) where
  -- more depth than the serial changes nothing
  pub deep_enough :
      (n k : ℕ) (p : Path) (r : Record) → v.record_at p ≡ Some r → Chain v e r → r.made < n → r.made < k → vir v act H n p ≡ vir v act H k p
  deep_enough zero k p r at chain l l' = absurd (never r.made l)
  deep_enough (suc n) zero p r at chain l l' = absurd (never r.made l')
  deep_enough (suc n) (suc k) p r at chain l l' =
      ap (vouched act p (input_value v H (vir v act H n))) at
      ∙ ap (λ xs. value_at act r.recipe p (all_of xs))
      (map_same (input_value v H (vir v act H n)) (input_value v H (vir v act H k)) (stamped r)
      (inputs_deep H v e (vir v act H n) (vir v act H k) r chain
      (λ q m h s i same c is.
      deep_enough n k h s is c (low s.made m r.made n same (falls p r at q m i) l) (low s.made m r.made k same (falls p r at q m i) l'))))
      ∙ sym (ap (vouched act p (input_value v H (vir v act H k))) at)

  -- Another image, with other nodes and the same sources, is sound too, and the directory or file of an input is whole in it with
  -- this content.
  pub record Mixed (q h : Path) (s : Record) (content : Option Tree) : Type 0 where
    pub file : Path → Option Content
    pub folder : Path → Bool
    pub members : Path → List Member
    pub tree : Path → Option Tree
    pub sound : Sound act H (with_nodes v file folder members tree) e
    pub same_sources : (x : Path) → is_source (with_nodes v file folder members tree) x ≡ is_source v x
    pub unmarked : v.marked h ≡ false
    pub whole : IsTrue (is_whole (with_nodes v file folder members tree) h (kind_in s h))
    pub part : option_and_then (part_at h q) (tree h) ≡ content

  abbrev mixed_view : (q h : Path) (s : Record) (content : Option Tree) → Mixed q h s content → View
  mixed_view q h s content mixed = with_nodes v mixed.file mixed.folder mixed.members mixed.tree

  -- what a chained record vouches for is what stands at its path in the mixed image
  pub mixed_value :
      (q h : Path) (s : Record) (content : Option Tree) → v.record_at h ≡ Some s → Chain v e s → Mixed q h s content →
      option_and_then (part_at h q) (vir v act H (suc s.made) h) ≡ content
  mixed_value q h s content at chain mixed = value (mixed.sound.holds h s at mixed.unmarked (chain_on v (mixed_view q h s content mixed) e e passes s chain) mixed.whole)
    where
      passes : Passes v e (mixed_view q h s content mixed) e
      passes q h r s = record { no_source = mixed.same_sources q ∙ s.no_source; holder = s.holder; clear = s.clear }

      value : Holds (mixed_view q h s content mixed) act H h s → option_and_then (part_at h q) (vir v act H (suc s.made) h) ≡ content
      value k = ap (option_and_then (part_at h q)) k.2 ∙ sym (ap (option_and_then (part_at h q)) k.1) ∙ mixed.part

  less : (n : ℕ) → n < suc n
  less n = omega arith

  below : (a b c : ℕ) → a ≡ b → b < c → a < c
  below a b c h k = omega arith

  -- A job's output is what its record vouches for: its inputs' contents are those of the sources by H, or of whole outputs in a
  -- mixed image, and the output is what act gives on them.
  pub own_value :
      (p : Path) (r : Record) (content : Path → Option Tree) (tree : Tree) →
      v.record_at p ≡ Some r → Chain v e r →
      ((q : Path) (s : Stamp) → IsIn (stamped r) (q, s) → is_of_source s ≡ true → input_value v H (vir v act H r.made) (q, s) ≡ content q) →
      ((q : Path) (m : ℕ) (h : Path) (s : Record) → IsIn (stamped r) (q, Made m) → Speaks v e q h s → s.made ≡ m → Mixed q h s (content q)) →
      value_at act r.recipe p (all_of (map (λ (x : Path × Stamp). content x.0) (stamped r))) ≡ Some tree →
      v.tree p ≡ Some tree → Holds v act H p r
  own_value p r content tree at chain sources products acted stands = (
    tree,
    stands,
    ap (vouched act p (input_value v H (vir v act H r.made))) at
        ∙ ap (λ xs. value_at act r.recipe p (all_of xs)) (map_same (input_value v H (vir v act H r.made)) (λ (x : Path × Stamp). content x.0) (stamped r) (each r chain (falls p r at) sources products))
        ∙ acted,
  )
    where
      each :
          (r : Record) → Chain v e r → Falls r →
          ((q : Path) (s : Stamp) → IsIn (stamped r) (q, s) → is_of_source s ≡ true → input_value v H (vir v act H r.made) (q, s) ≡ content q) →
          ((q : Path) (m : ℕ) (h : Path) (s : Record) → IsIn (stamped r) (q, Made m) → Speaks v e q h s → s.made ≡ m → Mixed q h s (content q)) →
          (x : Path × Stamp) → IsIn (stamped r) x → input_value v H (vir v act H r.made) x ≡ content x.0
      each r chain falls sources products (q, Time t) i = sources q (Time t) i refl
      each r chain falls sources products (q, Sum t d) i = sources q (Sum t d) i refl
      each _ (Link r place by speaks chains) falls sources products (q, Made m) i =
          let h = place q m in
          let s = by q m in
          let k = (speaks q m i).0 in
          value_of_product v H (vir v act H r.made) q h m s k.holder k.clear.0 (speaks q m i).1
          ∙ ap (option_and_then (part_at h q))
          (deep_enough r.made (suc s.made) h s k.clear.0 (chains q m i) (below s.made m r.made (speaks q m i).1 (falls q m i)) (less s.made))
          ∙ mixed_value q h s (content q) k.clear.0 (chains q m i) (products q m h s i k (speaks q m i).1)
