-- A view in which a path's record, mark or note is gone, the mark only where the record is: it is sound with its sources put into the
-- versions, where no record names a file there by its time.
use Rattle.std.proofs.Common.{◌≡◌, ◌⊎◌, ℕ, zero, suc, Bool, true, false, List, [], ◌∷◌, refl, sym, ap, subst, inl, inr, arith, ◌∙◌, Option, Some, None, eqb-true}
use Rattle.std.specs.Prelude.{IsTrue, IsSome, bytes_eq, is_some, ◌||◌, ◌&&◌, ◌==◌, not, if◌then◌else◌}
use Rattle.std.specs.List.{list_any}
use Rattle.std.specs.Option.{option_map, option_and_then}
use Rattle.smk_base.specs.Path.{is_under, is_at_or_under, overlaps}
use Rattle.smk_base.specs.declared.tree.Tree.TheVariants.{File}
use Rattle.smk_base.proofs.Places.{same_place, place_itself}
use Rattle.smk_world.specs.declared.recipe.Kind.{Kind}
use Rattle.smk_world.specs.World.{folders_above}
use Rattle.smk_world.specs.Trees.{Path, Act, IsIn, among, is_path_text, all_of, value_at, part_at}
use Rattle.smk_record.specs.declared.record.Stamp.{Stamp}
use Rattle.smk_record.specs.declared.record.Stamp.TheVariants.{Time, Sum, Made}
use Rattle.smk_record.specs.declared.record.Record.{Record}
use Rattle.smk_record.specs.Records.{stamped, source_time}
use Rattle.smk_store.specs.Images.{Content}
use Rattle.smk_store.specs.Safety.{or_put}
use Rattle.smk_store.specs.Soundness.{Outside}
use Rattle.smk_store.specs.Trust.{Versions, none_eased, vouched}
use Rattle.smk_laws_protocol.proofs.View.{kind_in, View, Clear, Speaks, Chain, Link, Sound, holder, is_known, is_covered, is_source, source_at, is_whole, input_value, vir}
use Rattle.smk_laws_protocol.proofs.Between.{HasNoNested}
use Rattle.smk_laws_protocol.proofs.Basics.{by_test, clash, none_some, some_of, any_by}
use Rattle.smk_store.proofs.Versions.{version_on}
use Rattle.smk_laws_protocol.proofs.Chains.{Passes, map_same, chain_on, vir_on, value_of_product}
use Rattle.smk_laws_protocol.proofs.Crux.{whole_on}
use Rattle.smk_laws_protocol.proofs.Holders.{HasBefore, holder_stays, by_option}
use Rattle.smk_laws_protocol.proofs.TextFacts.{text_laws}
use Rattle.smk_laws_protocol.proofs.TextFolders.{folders_are, among_by}

-- the versions with the sources of a view put at their times
abbrev pub put : Versions → View → Versions
put H v p t = or_put (H p t) t (source_at v p)

-- the record of q is the same
pub record SameRecord (v0 v1 : View) (q : Path) : Type 0 where
  pub has : v1.has_record q ≡ v0.has_record q
  pub at : v1.record_at q ≡ v0.record_at q
  pub list : v1.listed q ≡ v0.listed q

-- What the first view knows of p the second may not; the mark is gone only where no record reads.
pub record Less (p : Path) (v0 v1 : View) : Type 0 where
  pub file : (q : Path) → v1.file q ≡ v0.file q
  pub folder : (q : Path) → v1.is_folder q ≡ v0.is_folder q
  pub members : (q : Path) → v1.members q ≡ v0.members q
  pub tree : (q : Path) → v1.tree q ≡ v0.tree q
  pub records : (q : Path) → SameRecord v0 v1 q ⊎ ((q ≡ p) × (v1.has_record q ≡ false) × (v1.record_at q ≡ None))
  pub marks : (q : Path) → (v1.marked q ≡ v0.marked q) ⊎ ((q ≡ p) × (v1.marked q ≡ false) × (v1.record_at q ≡ None))
  pub notes : (q : Path) → (v1.noted q ≡ v0.noted q) ⊎ ((q ≡ p) × (v1.noted q ≡ false))

-- no unmarked record names a file at or under p by its time
abbrev pub Unseen : Path → View → Type 0
Unseen p v =
    (q x : Path) (r : Record) (f : Content) →
    v.record_at q ≡ Some r → v.marked q ≡ false → is_at_or_under x p ≡ true → v.file x ≡ Some f → (s : Stamp) → IsIn (stamped r) (x, s) → source_time s ≡ Some f.time → ⊥

-- ---- tests

either_known : (a b c x y z : Bool) → (a ≡ true → x ≡ true) → (b ≡ true → y ≡ true) → (c ≡ true → z ≡ true) → (a || b || c) ≡ true → (x || y || z) ≡ true
either_known true b c x y z f g h k = let e = f refl in grind arith
either_known false true c x y z f g h k = let e = g refl in grind arith
either_known false false true x y z f g h k = let e = h refl in grind arith
either_known false false false x y z f g h k = clash false k refl

any_more : {A : Type 0} (t u : A → Bool) (xs : List A) → ((x : A) → IsIn xs x → t x ≡ true → u x ≡ true) → list_any t xs ≡ true → list_any u xs ≡ true
any_more t u xs more h = let x = some_of t xs h in any_by u xs x.0 x.1 (more x.0 x.1 x.2)

pub any_same : {A : Type 0} (t u : A → Bool) (xs : List A) → ((x : A) → IsIn xs x → t x ≡ u x) → list_any t xs ≡ list_any u xs
any_same t u [] same = refl
any_same t u (x ∷ xs) same = λ k. same x (inl refl) k || any_same t u xs (λ y i. same y (inr i)) k

or_more : (a b x y : Bool) → (a ≡ true → x ≡ true) → (b ≡ true → y ≡ true) → (a || b) ≡ true → (x || y) ≡ true
or_more true b x y f g h = let e = f refl in grind arith
or_more false b x y f g h = let e = g h in grind arith

less_source : (a b c d : Bool) → (d ≡ true → c ≡ true) → (a && b && not c) ≡ true → (a && b && not d) ≡ true
less_source a b c true h k = let e = h refl in grind arith
less_source a b c false h k = grind arith

eq_false : (q p : Path) → is_at_or_under q p ≡ false → bytes_eq q p ≡ false
eq_false q p h = left (bytes_eq q p) (is_under q p) h
  where
    left : (a b : Bool) → (a || b) ≡ false → a ≡ false
    left a b h = grind arith

under_false : (q p : Path) → is_at_or_under q p ≡ false → is_under q p ≡ false
under_false q p h = right (bytes_eq q p) (is_under q p) h
  where
    right : (a b : Bool) → (a || b) ≡ false → b ≡ false
    right a b h = grind arith

pub other_path : (q p : Path) → bytes_eq q p ≡ false → q ≡ p → ⊥
other_path q p h e = clash (bytes_eq q p) (subst (λ y. bytes_eq q y ≡ true) e (place_itself q)) h

-- ---- versions that agree on what the records of a chain name

abbrev Unmarked : View → Record → Type 0
Unmarked v r = (q : Path) × (v.record_at q ≡ Some r) × (v.marked q ≡ false)

unmarked_of : (v : View) (h : Path) (r : Record) → Clear v none_eased h r → Unmarked v r
unmarked_of v h r (at, inl m) = (h, at, m)
unmarked_of v h r (at, inr m) = absurd m

vir_put :
    (v : View) (act : Act) (H V : Versions) → ((r : Record) → Unmarked v r → (x : Path) (s : Stamp) (t : ℕ) → IsIn (stamped r) (x, s) → source_time s ≡ Some t → H x t ≡ V x t) →
    (n : ℕ) (p : Path) (r : Record) → v.record_at p ≡ Some r → Unmarked v r → Chain v none_eased r → vir v act H n p ≡ vir v act V n p
vir_put v act H V agree zero p r at ok chain = refl
vir_put v act H V agree (suc n) p r at ok (Link _ place by speaks chains) =
    ap (vouched act p (input_value v H (vir v act H n))) at
    ∙ ap (λ xs. value_at act r.recipe p (all_of xs)) (map_same (input_value v H (vir v act H n)) (input_value v V (vir v act V n)) (stamped r) (inputs (λ h s is k c. vir_put v act H V agree n h s is k c)))
    ∙ sym (ap (vouched act p (input_value v V (vir v act V n))) at)
  where
    inputs :
        ((h : Path) (s : Record) → v.record_at h ≡ Some s → Unmarked v s → Chain v none_eased s → vir v act H n h ≡ vir v act V n h) →
        (x : Path × Stamp) → IsIn (stamped r) x → input_value v H (vir v act H n) x ≡ input_value v V (vir v act V n) x
    inputs ih (q, Time t) i = ap (option_map File) (agree r ok q (Time t) t i refl)
    inputs ih (q, Sum t d) i = ap (option_map File) (agree r ok q (Sum t d) t i refl)
    inputs ih (q, Made m) i =
        let s = (speaks q m i).0 in
        value_of_product v H (vir v act H n) q (place q m) m (by q m) s.holder s.clear.0 (speaks q m i).1
        ∙ ap (option_and_then (part_at (place q m) q)) (ih (place q m) (by q m) s.clear.0 (unmarked_of v (place q m) (by q m) s.clear) (chains q m i))
        ∙ sym (value_of_product v V (vir v act V n) q (place q m) m (by q m) s.holder s.clear.0 (speaks q m i).1)

module _ (p : Path) (v0 v1 : View) (less : Less p v0 v1) where
  -- ---- what is known

  pub record_before : (q : Path) (r : Record) → v1.record_at q ≡ Some r → v0.record_at q ≡ Some r
  record_before q r at = go (less.records q)
    where
      go : SameRecord v0 v1 q ⊎ ((q ≡ p) × (v1.has_record q ≡ false) × (v1.record_at q ≡ None)) → v0.record_at q ≡ Some r
      go (inl same) = sym same.at ∙ at
      go (inr gone) = none_some (v1.record_at q) gone.2 at

  pub unmarked_before : (q : Path) (r : Record) → v1.record_at q ≡ Some r → v1.marked q ≡ false → v0.marked q ≡ false
  unmarked_before q r at unmarked = go (less.marks q)
    where
      go : (v1.marked q ≡ v0.marked q) ⊎ ((q ≡ p) × (v1.marked q ≡ false) × (v1.record_at q ≡ None)) → v0.marked q ≡ false
      go (inl same) = sym same ∙ unmarked
      go (inr gone) = none_some (v1.record_at q) gone.2 at

  pub has_before : (q : Path) → v1.has_record q ≡ true → v0.has_record q ≡ true
  has_before q h = go (less.records q)
    where
      go : SameRecord v0 v1 q ⊎ ((q ≡ p) × (v1.has_record q ≡ false) × (v1.record_at q ≡ None)) → v0.has_record q ≡ true
      go (inl same) = sym same.has ∙ h
      go (inr gone) = clash (v1.has_record q) h gone.1

  known_before : (q : Path) → is_known v1 q ≡ true → is_known v0 q ≡ true
  known_before q = either_known (v1.has_record q) (v1.marked q) (v1.noted q) (v0.has_record q) (v0.marked q) (v0.noted q) (has_before q) (λ h. mark h (less.marks q)) (λ h. note h (less.notes q))
    where
      mark : v1.marked q ≡ true → (v1.marked q ≡ v0.marked q) ⊎ ((q ≡ p) × (v1.marked q ≡ false) × (v1.record_at q ≡ None)) → v0.marked q ≡ true
      mark h (inl same) = sym same ∙ h
      mark h (inr gone) = clash (v1.marked q) h gone.1

      note : v1.noted q ≡ true → (v1.noted q ≡ v0.noted q) ⊎ ((q ≡ p) × (v1.noted q ≡ false)) → v0.noted q ≡ true
      note h (inl same) = sym same ∙ h
      note h (inr gone) = clash (v1.noted q) h gone.1

  -- of another path
  pub same_record : (q : Path) → bytes_eq q p ≡ false → SameRecord v0 v1 q
  same_record q other = go (less.records q)
    where
      go : SameRecord v0 v1 q ⊎ ((q ≡ p) × (v1.has_record q ≡ false) × (v1.record_at q ≡ None)) → SameRecord v0 v1 q
      go (inl same) = same
      go (inr gone) = absurd (other_path q p other gone.0)

  pub same_mark : (q : Path) → bytes_eq q p ≡ false → v1.marked q ≡ v0.marked q
  same_mark q other = go (less.marks q)
    where
      go : (v1.marked q ≡ v0.marked q) ⊎ ((q ≡ p) × (v1.marked q ≡ false) × (v1.record_at q ≡ None)) → v1.marked q ≡ v0.marked q
      go (inl same) = same
      go (inr gone) = absurd (other_path q p other gone.0)

  pub same_note : (q : Path) → bytes_eq q p ≡ false → v1.noted q ≡ v0.noted q
  same_note q other = go (less.notes q)
    where
      go : (v1.noted q ≡ v0.noted q) ⊎ ((q ≡ p) × (v1.noted q ≡ false)) → v1.noted q ≡ v0.noted q
      go (inl same) = same
      go (inr gone) = absurd (other_path q p other gone.0)

  pub known_same : (q : Path) → bytes_eq q p ≡ false → is_known v1 q ≡ is_known v0 q
  known_same q other k = (same_record q other).has k || same_mark q other k || same_note q other k

  covered_before : (q : Path) → is_covered v1 q ≡ true → is_covered v0 q ≡ true
  covered_before q =
      or_more (is_known v1 q) (list_any (is_known v1) (folders_above q)) (is_known v0 q) (list_any (is_known v0) (folders_above q)) (known_before q)
      (any_more (is_known v1) (is_known v0) (folders_above q) (λ x i. known_before x))

  covered_same : (q : Path) → is_at_or_under q p ≡ false → is_covered v1 q ≡ is_covered v0 q
  covered_same q other k = known_same q (eq_false q p other) k || any_same (is_known v1) (is_known v0) (folders_above q) above k
    where
      above : (x : Path) → IsIn (folders_above q) x → is_known v1 x ≡ is_known v0 x
      above x i =
          by_test (bytes_eq x p)
          (λ e. clash (is_under q p) (sym (folders_are q p) ∙ subst (λ y. among (folders_above q) y ≡ true) (same_place x p e) (among_by (folders_above q) x i)) (under_false q p other))
          (known_same x)

  -- ---- sources

  pub source_kept : (q : Path) → is_source v0 q ≡ true → is_source v1 q ≡ true
  source_kept q h =
      less_source (is_path_text q) (is_some (v1.file q)) (is_covered v0 q) (is_covered v1 q) (covered_before q)
      (ap (λ f. is_path_text q && is_some f && not (is_covered v0 q)) (less.file q) ∙ h)

  source_same : (q : Path) → is_at_or_under q p ≡ false → is_source v1 q ≡ is_source v0 q
  source_same q other k = is_path_text q && is_some (less.file q k) && not (covered_same q other k)

  pub no_source_before : (q : Path) → is_source v1 q ≡ false → is_source v0 q ≡ false
  no_source_before q h = by_test (is_source v0 q) (λ k. clash (is_source v1 q) (source_kept q k) h) (λ k. k)

  pub same_sources : (q : Path) → is_at_or_under q p ≡ false → source_at v1 q ≡ source_at v0 q
  same_sources q other k = if source_same q other k then less.file q k else None

  -- a source is as it was, or lies at or under the path
  pub sources_less : (q : Path) → (source_at v1 q ≡ source_at v0 q) ⊎ ((is_at_or_under q p ≡ true) × (is_source v0 q ≡ false) × (is_source v1 q ≡ true))
  sources_less q = by_test (is_at_or_under q p) here (λ other. inl (same_sources q other))
    where
      both : (b c : Bool) → is_source v1 q ≡ b → is_source v0 q ≡ c → b ≡ c → source_at v1 q ≡ source_at v0 q
      both b c e f same = (λ k. if (e ∙ same ∙ sym f) k then less.file q k else None)

      here : is_at_or_under q p ≡ true → (source_at v1 q ≡ source_at v0 q) ⊎ ((is_at_or_under q p ≡ true) × (is_source v0 q ≡ false) × (is_source v1 q ≡ true))
      here under =
          by_test (is_source v0 q) (λ h. inl (both true true (source_kept q h) h refl))
          (λ h. by_test (is_source v1 q)
          (λ k. inr (under, h, k))
          (λ k. inl (both false false k h refl)))

  -- ---- what speaks

  module _ (o : Outside) (nested : HasNoNested o v0) where
    holder_before : (q h : Path) (r : Record) → holder v1 q ≡ Some h → v1.record_at h ≡ Some r → v1.marked h ≡ false → holder v0 q ≡ Some h
    holder_before q h r is at unmarked =
        by_option (v0.record_at p)
        (λ s there. holder_stays text_laws.holders v0 p v1.has_record v1.record_at v1.listed none_eased (λ x other. (same_record x other).at) (alone s there) q h r is (at, inl (unmarked_before h r at unmarked)))
        (λ none. subst (λ (f : Path → Option Record). holder (record v1 { record_at = f }) q ≡ Some h) (same_all none) is)
      where
        some_is : {A : Type 0} (x : Option A) (a : A) → x ≡ Some a → IsSome x
        some_is x a e = rw e refl

        alone : (s : Record) → v0.record_at p ≡ Some s → (x : Path) (c : Record) → (v1.record_at x ≡ Some c) × ((v0.marked x ≡ false) ⊎ ⊥) → overlaps x p ≡ true → (x ≡ p) × HasBefore v0 p c
        alone s there x c clear over =
            let same = nested x p (some_is (v0.record_at x) c (record_before x c clear.0)) (some_is (v0.record_at p) s there) over in
            (same, (c, subst (λ y. v0.record_at y ≡ Some c) same (record_before x c clear.0), refl))

        same_all : v0.record_at p ≡ None → v1.record_at ≡ v0.record_at
        same_all none k x = by_test (bytes_eq x p) (λ e. here x (same_place x p e) (less.records x)) (λ other. (same_record x other).at) k
          where
            here : (x : Path) → x ≡ p → SameRecord v0 v1 x ⊎ ((x ≡ p) × (v1.has_record x ≡ false) × (v1.record_at x ≡ None)) → v1.record_at x ≡ v0.record_at x
            here x e (inl same) = same.at
            here x e (inr gone) = gone.2 ∙ sym (subst (λ y. v0.record_at y ≡ None) (sym e) none)

    passes : Passes v1 none_eased v0 none_eased
    passes q h r speaks = go speaks.clear
      where
        go : Clear v1 none_eased h r → Speaks v0 none_eased q h r
        go (at, inl unmarked) =
            record { no_source = no_source_before q speaks.no_source; holder = holder_before q h r speaks.holder at unmarked; clear = (record_before h r at, inl (unmarked_before h r at unmarked)) }
        go (at, inr m) = absurd m

    whole_before : (q : Path) (k : Kind) (r : Record) → v1.record_at q ≡ Some r → IsTrue (is_whole v1 q k) → IsTrue (is_whole v0 q k)
    whole_before q k r at whole = go (less.records q)
      where
        go : SameRecord v0 v1 q ⊎ ((q ≡ p) × (v1.has_record q ≡ false) × (v1.record_at q ≡ None)) → IsTrue (is_whole v0 q k)
        go (inl same) = whole_on v1 v0 q k (sym (less.file q)) (sym (less.folder q)) (sym (less.members q)) (sym same.list) whole
        go (inr gone) = none_some (v1.record_at q) gone.2 at

    -- ---- soundness

    module _ (act : Act) (H : Versions) (unseen : Unseen p v0) (sound : Sound act (put H v0) v0 none_eased) where
      -- what a record of the second view names of a source has the same bytes in both
      agree : (r : Record) → Unmarked v1 r → (x : Path) (s : Stamp) (t : ℕ) → IsIn (stamped r) (x, s) → source_time s ≡ Some t → put H v1 x t ≡ put H v0 x t
      agree r ok x s t i time = go (sources_less x)
        where
          named : (f : Content) → is_at_or_under x p ≡ true → v1.file x ≡ Some f → f.time ≡ t → ⊥
          named f under file same =
              unseen ok.0 x r f (record_before ok.0 r ok.1) (unmarked_before ok.0 r ok.1 ok.2) under (sym (less.file x) ∙ file) s i (time ∙ ap (λ n. Some n) (sym same))

          other : (y : Option Content) → v1.file x ≡ y → is_at_or_under x p ≡ true → or_put (H x t) t y ≡ H x t
          other None e under = refl
          other (Some f) e under =
              by_test (f.time == t) (λ same. absurd (named f under e (eqb-true f.time t same))) (λ differs. ap (λ (b : Bool). if b then Some f.bytes else H x t) differs)

          go : (source_at v1 x ≡ source_at v0 x) ⊎ ((is_at_or_under x p ≡ true) × (is_source v0 x ≡ false) × (is_source v1 x ≡ true)) → put H v1 x t ≡ put H v0 x t
          go (inl same) = ap (or_put (H x t) t) same
          go (inr (under, none, is)) =
              ap (λ (b : Bool). or_put (H x t) t (if b then v1.file x else None)) is ∙ other (v1.file x) refl under
              ∙ sym (ap (λ (b : Bool). or_put (H x t) t (if b then v0.file x else None)) none)

      pub less_sound : Sound act (put H v1) v1 none_eased
      less_sound =
          record {
            has_sources = λ q f is. ap (or_put (H q f.time) f.time) is ∙ ap (λ (b : Bool). if b then Some f.bytes else H q f.time) (itself f.time);
            has_recorded = λ q r x s at unmarked i.
                version_on (put H v0) (put H v1) x s (λ t time. sym (agree r (q, at, unmarked) x s t i time)) (sound.has_recorded q r x s (record_before q r at) (unmarked_before q r at unmarked) i);
            holds = λ q r at unmarked chain whole.
                let h = sound.holds q r (record_before q r at) (unmarked_before q r at unmarked) (chain_on v1 v0 none_eased none_eased passes r chain) (whole_before q (kind_in r q) r at whole) in (
                  h.0,
                  less.tree q ∙ h.1,
                  vir_put v1 act (put H v1) (put H v0) agree (suc r.made) q r at (q, at, unmarked) chain
                      ∙ vir_on act (put H v0) v1 v0 none_eased none_eased passes (suc r.made) q r at (record_before q r at) chain ∙ h.2,
                );
          }
        where
          itself : (n : ℕ) → (n == n) ≡ true
          itself n = grind arith

    pub less_nested : HasNoNested o v1
    less_nested a b is is' over = nested a b (some_before a is) (some_before b is') over
      where
        some_before : (x : Path) → IsSome (v1.record_at x) → IsSome (v0.record_at x)
        some_before x h = go (less.records x)
          where
            no : {A : Type 0} (y : Option Record) → y ≡ None → IsSome y → A
            no None e k = clash false k refl
            no (Some y) e k = none_some (Some y) e refl

            go : SameRecord v0 v1 x ⊎ ((x ≡ p) × (v1.has_record x ≡ false) × (v1.record_at x ≡ None)) → IsSome (v0.record_at x)
            go (inl same) = subst (λ (y : Option Record). IsSome y) same.at h
            go (inr gone) = no (v1.record_at x) gone.2 h
