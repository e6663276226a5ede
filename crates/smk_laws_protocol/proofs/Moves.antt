-- How soundness goes from one image to another that differs in one place: by a mark, a record, or nodes under a mark.
use Rattle.std.proofs.Common.{◌≡◌, ◌⊎◌, suc, Bool, true, false, List, [], ◌∷◌, refl, sym, ap, subst, inl, inr, arith, ◌∙◌, Option, Some, None}
use Rattle.std.specs.Prelude.{bytes_eq, if◌then◌else◌, ◌&&◌, ◌||◌, not, is_some, IsTrue}
use Rattle.std.specs.List.{list_any}
use lib.Pointwise.{pointwise}
use Rattle.smk_base.specs.declared.tree.Tree.{Tree}
use Rattle.smk_record.specs.declared.record.Stamp.{Stamp}
use Rattle.smk_record.specs.declared.record.Stamp.TheVariants.{Made}
use Rattle.smk_record.specs.declared.record.Record.{Record}
use Rattle.smk_record.specs.declared.record.Member.{Member}
use Rattle.smk_world.specs.declared.recipe.Kind.{Kind}
use Rattle.smk_world.specs.declared.recipe.Kind.TheVariants.{Plain, Folder as Directory}
use Rattle.smk_world.specs.Trees.{Path, Act, IsIn, is_path_text}
use Rattle.smk_store.specs.Images.{Content}
use Rattle.smk_world.specs.World.{folders_above}
use Rattle.smk_store.specs.Trust.{Versions, HasVersion, Eased}
use Rattle.smk_record.specs.Records.{stamped, same_member}
use Rattle.smk_laws_protocol.proofs.View.{kind_in, View, Chain, Clear, holder, is_source, source_at, is_known, is_covered, is_whole, Holds, Sound, vir}
use Rattle.smk_base.proofs.Places.{same_place}
use Rattle.smk_laws_protocol.proofs.Chains.{Passes, PassesFor, Any, for_any, chain_on, vir_on, chain_for, vir_for}
use Rattle.smk_laws_protocol.proofs.Like.{IsLike, PassesLike, like_self, chain_like, vir_like}

by_bool : {A : Type 0} (b : Bool) → (b ≡ true → A) → (b ≡ false → A) → A
by_bool true f g = f refl
by_bool false f g = g refl

none_some : {A : Type 0} {n : A} (o : Option A) → o ≡ None → o ≡ Some n → ⊥
none_some o h k = grind arith

some_same : {A : Type 0} {n m : A} → Some n ≡ Some m → n ≡ m
some_same h = cc

true_false : (b : Bool) → b ≡ true → b ≡ false → ⊥
true_false b h k = grind arith

-- p is the path or a folder above it
abbrev pub covers : Path → Path → Bool
covers p q = bytes_eq q p || list_any (λ f. bytes_eq f p) (folders_above q)

any_or : (k k' : Path → Bool) (p : Path) → ((f : Path) → k' f ≡ (k f || bytes_eq f p)) → (fs : List Path) → list_any k' fs ≡ (list_any k fs || list_any (λ f. bytes_eq f p) fs)
any_or k k' p h [] = refl
any_or k k' p h (f ∷ fs) = let ih = any_or k k' p h fs in let hd = h f in grind arith

or_left : (a b : Bool) → (a || b) ≡ false → a ≡ false
or_left a b h = grind arith

covered_more :
    (a b c k x : Bool) → ((a && b && not c) ≡ true → k ≡ false) → x ≡ (c || k) → (a && b && not x) ≡ (a && b && not c)
covered_more false b c k x h e = refl
covered_more true false c k x h e = refl
covered_more true true true k x h e = rw e refl
covered_more true true false k x h e = rw (e, h refl) refl

-- ---- a mark more

abbrev pub with_mark : View → Path → View
with_mark v p = record v { marked = λ q. v.marked q || bytes_eq q p }

module _ (v : View) (p : Path) (no_source : (q : Path) → is_source v q ≡ true → covers p q ≡ false) where
  known_or : (f : Path) → is_known (with_mark v p) f ≡ (is_known v f || bytes_eq f p)
  known_or f = grind arith

  covered_or : (q : Path) → is_covered (with_mark v p) q ≡ (is_covered v q || covers p q)
  covered_or q =
      let a = any_or (is_known v) (is_known (with_mark v p)) p known_or (folders_above q) in
      let b = known_or q in
      grind arith

  pub mark_source : (q : Path) → is_source (with_mark v p) q ≡ is_source v q
  mark_source q =
      covered_more (is_path_text q) (is_some (v.file q)) (is_covered v q) (covers p q) (is_covered (with_mark v p) q) (no_source q) (covered_or q)

  no_source_on : (q : Path) → is_source (with_mark v p) q ≡ false → is_source v q ≡ false
  no_source_on q h = sym (mark_source q) ∙ h

  -- a chain with the mark is one without
  mark_passes : (e : Eased) → Passes (with_mark v p) e v e
  mark_passes e q h r s =
      record { no_source = no_source_on q s.no_source; holder = s.holder; clear = (s.clear.0, fewer h r s.clear.1) }
    where
      fewer : (h : Path) (r : Record) → ((v.marked h || bytes_eq h p) ≡ false) ⊎ (e h r) → (v.marked h ≡ false) ⊎ (e h r)
      fewer h r (inl k) = inl (or_left (v.marked h) (bytes_eq h p) k)
      fewer h r (inr k) = inr k

  mark_source_at : (q : Path) → source_at (with_mark v p) q ≡ source_at v q
  mark_source_at q = ap (λ b. if b then v.file q else None) (mark_source q)

  -- 1. a mark may have been made
  pub mark_sound : (act : Act) (H : Versions) (e : Eased) → Sound act H v e → Sound act H (with_mark v p) e
  mark_sound act H e sound =
      record {
        has_sources = λ q f is. sound.has_sources q f (sym (mark_source_at q) ∙ is);
        has_recorded = λ q r x s is clear i. sound.has_recorded q r x s is (or_left (v.marked q) (bytes_eq q p) clear) i;
        holds = λ q r is clear chain whole.
            hold q r is (sound.holds q r is (or_left (v.marked q) (bytes_eq q p) clear) (chain_on (with_mark v p) v e e (mark_passes e) r chain) whole) chain;
      }
    where
      hold : (q : Path) (r : Record) → v.record_at q ≡ Some r → Holds v act H q r → Chain (with_mark v p) e r → Holds (with_mark v p) act H q r
      hold q r is k chain =
          (k.0, k.1, vir_on act H (with_mark v p) v e e (mark_passes e) (suc r.made) q r is is chain ∙ k.2)

-- ---- what the other moves share

-- what stands at q is what its record vouches for in the other image
abbrev pub HoldsBy : View → View → Act → Versions → Path → Record → Type 0
HoldsBy v' v act H q r = (v.record_at q ≡ Some r) × ((tree : Tree) × (v'.tree q ≡ Some tree) × (vir v act H (suc r.made) q ≡ Some tree))

pub sound_for :
    (Q : Record → Type 0) (act : Act) (H : Versions) (v v' : View) (e e' : Eased) →
    Sound act H v e →
    ((q : Path) → source_at v' q ≡ source_at v q) →
    PassesFor Q v' e' v e →
    ((q : Path) (r : Record) → v'.record_at q ≡ Some r → v'.marked q ≡ false → Q r) →
    ((q : Path) (r : Record) (x : Path) (s : Stamp) → v'.record_at q ≡ Some r → v'.marked q ≡ false → IsIn (stamped r) (x, s) → HasVersion H x s) →
    ((q : Path) (r : Record) → v'.record_at q ≡ Some r → v'.marked q ≡ false → Chain v e r → IsTrue (is_whole v' q (kind_in r q)) → HoldsBy v' v act H q r) →
    Sound act H v' e'
sound_for Q act H v v' e e' sound sources passes ok recorded each =
    record {
      has_sources = λ q f is. sound.has_sources q f (sym (sources q) ∙ is);
      has_recorded = recorded;
      holds = λ q r is clear chain whole.
          hold q r is (ok q r is clear) chain (each q r is clear (chain_for Q v' v e' e passes r (ok q r is clear) chain) whole);
    }
  where
    hold : (q : Path) (r : Record) → v'.record_at q ≡ Some r → Q r → Chain v' e' r → HoldsBy v' v act H q r → Holds v' act H q r
    hold q r is k chain b = (b.1.0, b.1.1, vir_for Q act H v' v e' e passes (suc r.made) q r is b.0 k chain ∙ b.1.2)

pub sound_on :
    (act : Act) (H : Versions) (v v' : View) (e e' : Eased) →
    Sound act H v e →
    ((q : Path) → source_at v' q ≡ source_at v q) →
    Passes v' e' v e →
    ((q : Path) (r : Record) (x : Path) (s : Stamp) → v'.record_at q ≡ Some r → v'.marked q ≡ false → IsIn (stamped r) (x, s) → HasVersion H x s) →
    ((q : Path) (r : Record) → v'.record_at q ≡ Some r → v'.marked q ≡ false → Chain v e r → IsTrue (is_whole v' q (kind_in r q)) → HoldsBy v' v act H q r) →
    Sound act H v' e'
sound_on act H v v' e e' sound sources passes recorded each =
    sound_for Any act H v v' e e' sound sources (for_any v' v e' e passes) (λ q r is clear. tt) recorded each

-- the same where what speaks in the one speaks in the other by a record that vouches for the same
pub sound_like :
    (act : Act) (H : Versions) (v v' : View) (e e' : Eased) →
    Sound act H v e →
    ((q : Path) → source_at v' q ≡ source_at v q) →
    PassesLike H v' e' v e →
    ((q : Path) (r : Record) (x : Path) (s : Stamp) → v'.record_at q ≡ Some r → v'.marked q ≡ false → IsIn (stamped r) (x, s) → HasVersion H x s) →
    ((q : Path) (r : Record) → v'.record_at q ≡ Some r → v'.marked q ≡ false → Chain v e r → IsTrue (is_whole v' q (kind_in r q)) → HoldsBy v' v act H q r) →
    Sound act H v' e'
sound_like act H v v' e e' sound sources passes recorded each =
    record {
      has_sources = λ q f is. sound.has_sources q f (sym (sources q) ∙ is);
      has_recorded = recorded;
      holds = λ q r is clear chain whole.
          hold q r is chain (each q r is clear (chain_like H v' v e' e passes r r (like_self H r) chain) whole);
    }
  where
    hold : (q : Path) (r : Record) → v'.record_at q ≡ Some r → Chain v' e' r → HoldsBy v' v act H q r → Holds v' act H q r
    hold q r is chain b = (b.1.0, b.1.1, vir_like act H v' v e' e passes (suc r.made) q r r is b.0 (like_self H r) chain ∙ b.1.2)

-- a record that counts there and vouches for the same
abbrev pub Counted : Versions → View → Eased → Path → Record → Type 0
Counted H v e q r = (s : Record) × Clear v e q s × IsLike H r s

-- ---- another record at a marked path

abbrev pub with_record : View → (Path → Bool) → (Path → Option Record) → (Path → List Member) → View
with_record v has at listed = record v { has_record = has; record_at = at; listed = listed }

module _
    (H : Versions) (v : View) (p : Path) (has : Path → Bool) (at : Path → Option Record) (listed : Path → List Member) (e e' : Eased) (marked : v.marked p ≡ true)
    (has_same : (q : Path) → bytes_eq q p ≡ false → has q ≡ v.has_record q)
    (at_same : (q : Path) → bytes_eq q p ≡ false → at q ≡ v.record_at q)
    (list_same : (q : Path) → bytes_eq q p ≡ false → listed q ≡ v.listed q)
    (fewer : (q : Path) (r : Record) → e' q r → e q r)
    (kept : (r : Record) → e' p r → (s : Record) × (v.record_at p ≡ Some s) × e p s × IsLike H r s)
    (holder_stays : (q h : Path) (r : Record) → holder (with_record v has at listed) q ≡ Some h → Clear (with_record v has at listed) e' h r → holder v q ≡ Some h) where
  known_record : (q : Path) → is_known (with_record v has at listed) q ≡ is_known v q
  known_record q = by_bool (bytes_eq q p) here (λ k. ap (λ b. b || v.marked q || v.noted q) (has_same q k))
    where
      here : bytes_eq q p ≡ true → (has q || v.marked q || v.noted q) ≡ (v.has_record q || v.marked q || v.noted q)
      here k = let m = subst (λ x. v.marked x ≡ true) (sym (same_place q p k)) marked in grind arith

  pub record_source : (q : Path) → is_source (with_record v has at listed) q ≡ is_source v q
  record_source q = λ i. is_path_text q && is_some (v.file q) && not (known_record q i || list_any (λ f. known_record f i) (folders_above q))

  pub record_clear : (q : Path) (r : Record) → Clear (with_record v has at listed) e' q r → Counted H v e q r
  record_clear q r c = by_bool (bytes_eq q p) (here c.1) (λ k. (r, (sym (at_same q k) ∙ c.0, other c.1), like_self H r))
    where
      other : (v.marked q ≡ false) ⊎ (e' q r) → (v.marked q ≡ false) ⊎ (e q r)
      other (inl k) = inl k
      other (inr k) = inr (fewer q r k)

      at_p : (s : Record) × (v.record_at p ≡ Some s) × e p s × IsLike H r s → Counted H v e p r
      at_p k = (k.0, (k.1, inr k.2), k.3)

      here : (v.marked q ≡ false) ⊎ (e' q r) → bytes_eq q p ≡ true → Counted H v e q r
      here (inl c) k = absurd (true_false (v.marked q) (subst (λ x. v.marked x ≡ true) (sym (same_place q p k)) marked) c)
      here (inr c) k = subst (λ x. Counted H v e x r) (sym (same_place q p k)) (at_p (kept r (subst (λ x. e' x r) (same_place q p k) c)))

  record_passes : PassesLike H (with_record v has at listed) e' v e
  record_passes q h r s =
      let c = record_clear h r s.clear in (
        c.0,
        record { no_source = sym (record_source q) ∙ s.no_source; holder = holder_stays q h r s.holder s.clear; clear = c.1 },
        c.2,
      )

  here_not : (q : Path) → v.marked q ≡ false → bytes_eq q p ≡ false
  here_not q k =
      by_bool (bytes_eq q p)
      (λ s. absurd (true_false (v.marked q) (subst (λ x. v.marked x ≡ true) (sym (same_place q p s)) marked) k))
      (λ s. s)

  -- 4. a record is written, or removed, under a mark
  pub record_sound : (act : Act) → Sound act H v e → Sound act H (with_record v has at listed) e'
  record_sound act sound =
      sound_like act H v (with_record v has at listed) e e' sound
      (λ q. ap (λ b. if b then v.file q else None) (record_source q))
      record_passes
      (λ q r x s is clear i. sound.has_recorded q r x s (sym (at_same q (here_not q clear)) ∙ is) clear i)
      (λ q r is clear chain whole.
      let at_v = sym (at_same q (here_not q clear)) ∙ is in
      (at_v, sound.holds q r at_v clear chain (whole_on q (kind_in r q) (list_same q (here_not q clear)) whole)))
    where
      whole_on : (q : Path) (k : Kind) → listed q ≡ v.listed q → IsTrue (is_whole (with_record v has at listed) q k) → IsTrue (is_whole v q k)
      whole_on q Plain e h = h
      whole_on q Directory e h = subst (λ ms. IsTrue (v.is_folder q && pointwise same_member (v.members q) ms)) e h

-- ---- a mark less

abbrev pub without_mark : View → Path → View
without_mark v p = record v { marked = λ q. v.marked q && not (bytes_eq q p) }

module _ (v : View) (p : Path) (e : Eased) where
  still : (q : Path) → bytes_eq q p ≡ false → (v.marked q && not (bytes_eq q p)) ≡ false → v.marked q ≡ false
  still q k h = grind arith

  module _ (r0 : Record) (stands : v.has_record p ≡ true) (at : v.record_at p ≡ Some r0) where
    known_less : (q : Path) → is_known (without_mark v p) q ≡ is_known v q
    known_less q = by_bool (bytes_eq q p) here (λ k. ap (λ b. v.has_record q || (v.marked q && not b) || v.noted q) k ∙ or_true (v.has_record q) (v.marked q) (v.noted q))
      where
        or_true : (a b c : Bool) → (a || (b && not false) || c) ≡ (a || b || c)
        or_true a b c = grind arith

        here : bytes_eq q p ≡ true → (v.has_record q || (v.marked q && not (bytes_eq q p)) || v.noted q) ≡ (v.has_record q || v.marked q || v.noted q)
        here k = let m = subst (λ x. v.has_record x ≡ true) (sym (same_place q p k)) stands in rw m refl

    pub less_source : (q : Path) → is_source (without_mark v p) q ≡ is_source v q
    less_source q = λ i. is_path_text q && is_some (v.file q) && not (known_less q i || list_any (λ f. known_less f i) (folders_above q))

    -- the mark of a Restore didn't count
    eased_passes : e p r0 → Passes (without_mark v p) e v e
    eased_passes kept q h r s =
        record { no_source = sym (less_source q) ∙ s.no_source; holder = s.holder; clear = (s.clear.0, clear_on h r s.clear) }
      where
        clear_on : (h : Path) (r : Record) → Clear (without_mark v p) e h r → (v.marked h ≡ false) ⊎ (e h r)
        clear_on h r c = by_bool (bytes_eq h p) here (λ k. other k c.1)
          where
            here : bytes_eq h p ≡ true → (v.marked h ≡ false) ⊎ (e h r)
            here k =
                inr (subst (λ x. e x r) (sym (same_place h p k)) (subst (λ s. e p s) (some_same (sym at ∙ subst (λ x. v.record_at x ≡ Some r) (same_place h p k) c.0)) kept))

            other : bytes_eq h p ≡ false → ((v.marked h && not (bytes_eq h p)) ≡ false) ⊎ (e h r) → (v.marked h ≡ false) ⊎ (e h r)
            other k (inl m) = inl (still h k m)
            other k (inr m) = inr m

    -- 5. the mark of a Restore is removed: its users are chained again
    pub eased_sound :
        (act : Act) (H : Versions) → e p r0 → Sound act H v e →
        ((x : Path) (s : Stamp) → IsIn (stamped r0) (x, s) → HasVersion H x s) →
        (Chain v e r0 → IsTrue (is_whole v p (kind_in r0 p)) → Holds v act H p r0) →
        Sound act H (without_mark v p) e
    eased_sound act H kept sound recorded own =
        sound_on act H v (without_mark v p) e e sound
        (λ q. ap (λ b. if b then v.file q else None) (less_source q))
        (eased_passes kept)
        (λ q r x s is clear i.
        by_bool (bytes_eq q p)
        (λ k. recorded x s (subst (λ (y : Record). IsIn (stamped y) (x, s)) (sym (same q r k is)) i))
        (λ k. sound.has_recorded q r x s is (still q k clear) i))
        (λ q r is clear chain whole.
        by_bool (bytes_eq q p)
        (λ k. (is, here q r k is chain (whole_on r q (kind_in r q) whole)))
        (λ k. (is, sound.holds q r is (still q k clear) chain (whole_on r q (kind_in r q) whole))))
      where
        whole_on : (r : Record) (q : Path) (k : Kind) → IsTrue (is_whole (without_mark v p) q k) → IsTrue (is_whole v q k)
        whole_on r q Plain h = h
        whole_on r q Directory h = h

        same : (q : Path) (r : Record) → bytes_eq q p ≡ true → v.record_at q ≡ Some r → r0 ≡ r
        same q r k is = some_same (sym at ∙ subst (λ x. v.record_at x ≡ Some r) (same_place q p k) is)

        here : (q : Path) (r : Record) → bytes_eq q p ≡ true → v.record_at q ≡ Some r → Chain v e r → IsTrue (is_whole v q (kind_in r q)) → Holds v act H q r
        here q r k is =
            subst (λ x. Chain v e r → IsTrue (is_whole v x (kind_in r x)) → Holds v act H x r) (sym (same_place q p k))
            (subst (λ s. Chain v e s → IsTrue (is_whole v p (kind_in s p)) → Holds v act H p s) (same q r k is) own)

    -- The mark of another job is removed: no record that counts names the new serial.
    module _ (nobody : (h : Path) (r : Record) (q : Path) → Clear (without_mark v p) e h r → IsIn (stamped r) (q, Made r0.made) → ⊥) where
      fresh_clear : (h : Path) (r : Record) → Clear (without_mark v p) e h r → (r.made ≡ r0.made → ⊥) → Clear v e h r
      fresh_clear h r c other = by_bool (bytes_eq h p) (λ k. absurd (other (ap (λ (s : Record). s.made) (same k)))) (λ k. (c.0, clear k c.1))
        where
          same : bytes_eq h p ≡ true → r ≡ r0
          same k = some_same (sym (subst (λ x. v.record_at x ≡ Some r) (same_place h p k) c.0) ∙ at)

          clear : bytes_eq h p ≡ false → ((v.marked h && not (bytes_eq h p)) ≡ false) ⊎ (e h r) → (v.marked h ≡ false) ⊎ (e h r)
          clear k (inl m) = inl (still h k m)
          clear k (inr m) = inr m

      abbrev NamesNot : Record → Type 0
      NamesNot r = (q : Path) → IsIn (stamped r) (q, Made r0.made) → ⊥

      fresh_passes : PassesFor NamesNot (without_mark v p) e v e
      fresh_passes r ok q m i h s speaks same = (
        record {
          no_source = sym (less_source q) ∙ speaks.no_source;
          holder = speaks.holder;
          clear =
              fresh_clear h s speaks.clear
              (λ k. ok q (subst (λ n. IsIn (stamped r) (q, Made n)) (sym same ∙ k) i));
        },
        λ x j. nobody h s x speaks.clear j,
      )

      pub fresh_sound :
          (act : Act) (H : Versions) → Sound act H v e →
          ((x : Path) (s : Stamp) → IsIn (stamped r0) (x, s) → HasVersion H x s) →
          (Chain v e r0 → IsTrue (is_whole v p (kind_in r0 p)) → Holds v act H p r0) →
          Sound act H (without_mark v p) e
      fresh_sound act H sound recorded own =
          sound_for NamesNot act H v (without_mark v p) e e sound
          (λ q. ap (λ b. if b then v.file q else None) (less_source q))
          fresh_passes
          (λ q r is clear x i. nobody q r x (is, inl clear) i)
          (λ q r x s is clear i.
          by_bool (bytes_eq q p)
          (λ k. recorded x s (subst (λ (y : Record). IsIn (stamped y) (x, s)) (sym (same q r k is)) i))
          (λ k. sound.has_recorded q r x s is (still q k clear) i))
          (λ q r is clear chain whole.
          by_bool (bytes_eq q p)
          (λ k. (is, here q r k is chain (whole_on r q (kind_in r q) whole)))
          (λ k. (is, sound.holds q r is (still q k clear) chain (whole_on r q (kind_in r q) whole))))
        where
          whole_on : (r : Record) (q : Path) (k : Kind) → IsTrue (is_whole (without_mark v p) q k) → IsTrue (is_whole v q k)
          whole_on r q Plain h = h
          whole_on r q Directory h = h

          same : (q : Path) (r : Record) → bytes_eq q p ≡ true → v.record_at q ≡ Some r → r0 ≡ r
          same q r k is = some_same (sym at ∙ subst (λ x. v.record_at x ≡ Some r) (same_place q p k) is)

          here : (q : Path) (r : Record) → bytes_eq q p ≡ true → v.record_at q ≡ Some r → Chain v e r → IsTrue (is_whole v q (kind_in r q)) → Holds v act H q r
          here q r k is =
              subst (λ x. Chain v e r → IsTrue (is_whole v x (kind_in r x)) → Holds v act H x r) (sym (same_place q p k))
              (subst (λ s. Chain v e s → IsTrue (is_whole v p (kind_in s p)) → Holds v act H p s) (same q r k is) own)

-- ---- a mark less where nothing is left

any_less : (k k' : Path → Bool) (p : Path) → ((f : Path) → bytes_eq f p ≡ false → k' f ≡ k f) → (fs : List Path) → list_any (λ f. bytes_eq f p) fs ≡ false → list_any k' fs ≡ list_any k fs
any_less k k' p h [] n = refl
any_less k k' p h (f ∷ fs) n = let ih = any_less k k' p h fs in let hd = h f in grind arith

any_has : (k : Path → Bool) (p : Path) → k p ≡ true → (fs : List Path) → list_any (λ f. bytes_eq f p) fs ≡ true → list_any k fs ≡ true
any_has k p h [] n = n
any_has k p h (f ∷ fs) n =
    by_bool (bytes_eq f p)
    (λ e. let here = subst (λ x. k x ≡ true) (sym (same_place f p e)) h in grind arith)
    (λ e. let ih = any_has k p h fs in grind arith)

left_false : (a b : Bool) → (a || b) ≡ false → a ≡ false
left_false a b h = grind arith

right_false : (a b : Bool) → (a || b) ≡ false → b ≡ false
right_false a b h = grind arith

no_file : (a c : Bool) (f : Option Content) → f ≡ None → (a && is_some f && not c) ≡ false
no_file a c f h = grind arith

module _
    (v : View) (p : Path) (e : Eased) (no_record : v.record_at p ≡ None)
    (nothing : (q : Path) → covers p q ≡ true → v.file q ≡ None) where
  known_but : (f : Path) → bytes_eq f p ≡ false → is_known (without_mark v p) f ≡ is_known v f
  known_but f h = grind arith

  covered_but : (q : Path) → covers p q ≡ false → is_covered (without_mark v p) q ≡ is_covered v q
  covered_but q h =
      let a = any_less (is_known v) (is_known (without_mark v p)) p known_but (folders_above q) (right_false (bytes_eq q p) (list_any (λ f. bytes_eq f p) (folders_above q)) h) in
      let b = known_but q (left_false (bytes_eq q p) (list_any (λ f. bytes_eq f p) (folders_above q)) h) in
      λ i. b i || a i

  pub dropped_source : (q : Path) → is_source (without_mark v p) q ≡ is_source v q
  dropped_source q =
      by_bool (covers p q)
      (λ h. no_file (is_path_text q) (is_covered (without_mark v p) q) (v.file q) (nothing q h)
      ∙ sym (no_file (is_path_text q) (is_covered v q) (v.file q) (nothing q h)))
      (λ h i. is_path_text q && is_some (v.file q) && not (covered_but q h i))

  elsewhere : (h : Path) (r : Record) → v.record_at h ≡ Some r → bytes_eq h p ≡ false
  elsewhere h r is =
      by_bool (bytes_eq h p)
      (λ k. absurd (none_some (v.record_at p) no_record (subst (λ x. v.record_at x ≡ Some r) (same_place h p k) is)))
      (λ k. k)

  clear_less : (h : Path) (r : Record) → v.record_at h ≡ Some r → (v.marked h && not (bytes_eq h p)) ≡ false → v.marked h ≡ false
  clear_less h r is m = let k = elsewhere h r is in grind arith

  dropped_passes : Passes (without_mark v p) e v e
  dropped_passes q h r s =
      record { no_source = sym (dropped_source q) ∙ s.no_source; holder = s.holder; clear = (s.clear.0, clear s.clear.1) }
    where
      clear : ((v.marked h && not (bytes_eq h p)) ≡ false) ⊎ (e h r) → (v.marked h ≡ false) ⊎ (e h r)
      clear (inl m) = inl (clear_less h r s.clear.0 m)
      clear (inr m) = inr m

  -- 5. the mark of a job that was given up is removed
  pub dropped_sound : (act : Act) (H : Versions) → Sound act H v e → Sound act H (without_mark v p) e
  dropped_sound act H sound =
      sound_on act H v (without_mark v p) e e sound
      (λ q. ap (λ b. if b then v.file q else None) (dropped_source q))
      dropped_passes
      (λ q r x s is clear i. sound.has_recorded q r x s is (clear_less q r is clear) i)
      (λ q r is clear chain whole. (is, sound.holds q r is (clear_less q r is clear) chain (whole_on r q (kind_in r q) whole)))
    where
      whole_on : (r : Record) (q : Path) (k : Kind) → IsTrue (is_whole (without_mark v p) q k) → IsTrue (is_whole v q k)
      whole_on r q Plain h = h
      whole_on r q Directory h = h

-- ---- other nodes at and under a path that is known

abbrev pub with_nodes : View → (Path → Option Content) → (Path → Bool) → (Path → List Member) → (Path → Option Tree) → View
with_nodes v file folder members tree = record v { file = file; is_folder = folder; members = members; tree = tree }

pub record SameAt (v v' : View) (q : Path) : Type 0 where
  pub file : v'.file q ≡ v.file q
  pub folder : v'.is_folder q ≡ v.is_folder q
  pub members : v'.members q ≡ v.members q
  pub tree : v'.tree q ≡ v.tree q

-- a path that covers q and is known covers it
pub is_covered_by : (v : View) (p q : Path) → is_known v p ≡ true → covers p q ≡ true → is_covered v q ≡ true
is_covered_by v p q known h =
    by_bool (bytes_eq q p)
    (λ k. let here = subst (λ x. is_known v x ≡ true) (sym (same_place q p k)) known in or_true_left (is_known v q) (list_any (is_known v) (folders_above q)) here)
    (λ k. or_true_right (is_known v q) (list_any (is_known v) (folders_above q))
    (any_has (is_known v) p known (folders_above q) (right_true (bytes_eq q p) (list_any (λ f. bytes_eq f p) (folders_above q)) k h)))
  where
    or_true_left : (a b : Bool) → a ≡ true → (a || b) ≡ true
    or_true_left a b h = grind arith

    or_true_right : (a b : Bool) → b ≡ true → (a || b) ≡ true
    or_true_right a b h = grind arith

    right_true : (a b : Bool) → a ≡ false → (a || b) ≡ true → b ≡ true
    right_true a b h k = grind arith

module _
    (v : View) (C : Path → Bool) (e : Eased) (file : Path → Option Content) (folder : Path → Bool) (members : Path → List Member) (tree : Path → Option Tree)
    (is_covered_there : (q : Path) → C q ≡ true → is_covered v q ≡ true)
    (file_same : (q : Path) → C q ≡ false → file q ≡ v.file q)
    (same : (q : Path) (r : Record) → v.record_at q ≡ Some r → v.marked q ≡ false → SameAt v (with_nodes v file folder members tree) q) where
  not_there : (a b c : Bool) → c ≡ true → (a && b && not c) ≡ false
  not_there a b c h = grind arith

  node_source : (q : Path) → is_source (with_nodes v file folder members tree) q ≡ is_source v q
  node_source q =
      by_bool (C q)
      (λ h. not_there (is_path_text q) (is_some (file q)) (is_covered v q) (is_covered_there q h)
      ∙ sym (not_there (is_path_text q) (is_some (v.file q)) (is_covered v q) (is_covered_there q h)))
      (λ h i. is_path_text q && is_some (file_same q h i) && not (is_covered v q))

  pub node_source_at : (q : Path) → source_at (with_nodes v file folder members tree) q ≡ source_at v q
  node_source_at q =
      by_bool (C q)
      (λ h. none (is_source (with_nodes v file folder members tree) q) (file q)
      (not_there (is_path_text q) (is_some (file q)) (is_covered v q) (is_covered_there q h))
      ∙ sym (none (is_source v q) (v.file q) (not_there (is_path_text q) (is_some (v.file q)) (is_covered v q) (is_covered_there q h))))
      (λ h i. if node_source q i then file_same q h i else None)
    where
      none : (b : Bool) (f : Option Content) → b ≡ false → (if b then f else None) ≡ None
      none b f h = rw h refl

  -- 3. an output is removed or written anew under its mark
  pub node_sound : (act : Act) (H : Versions) → Sound act H v e → Sound act H (with_nodes v file folder members tree) e
  node_sound act H sound =
      sound_on act H v (with_nodes v file folder members tree) e e sound node_source_at
      (λ q h r s. record { no_source = sym (node_source q) ∙ s.no_source; holder = s.holder; clear = s.clear })
      (λ q r x s is clear i. sound.has_recorded q r x s is clear i)
      (λ q r is clear chain whole. hold q r is (sound.holds q r is clear chain (whole_on r q (kind_in r q) (same q r is clear) whole)) (same q r is clear))
    where
      whole_on : (r : Record) (q : Path) (k : Kind) → SameAt v (with_nodes v file folder members tree) q → IsTrue (is_whole (with_nodes v file folder members tree) q k) → IsTrue (is_whole v q k)
      whole_on r q Plain s h = subst (λ f. IsTrue (is_some f)) s.file h
      whole_on r q Directory s h =
          subst (λ (b : Bool). IsTrue (b && pointwise same_member (v.members q) (v.listed q))) s.folder
          (subst (λ ms. IsTrue (folder q && pointwise same_member ms (v.listed q))) s.members h)

      hold : (q : Path) (r : Record) → v.record_at q ≡ Some r → Holds v act H q r → SameAt v (with_nodes v file folder members tree) q → HoldsBy (with_nodes v file folder members tree) v act H q r
      hold q r is k s = (is, (k.0, s.tree ∙ k.1, k.2))
