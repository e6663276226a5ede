-- Where no two records overlap, one record at most speaks for a path, and a record elsewhere changes nothing.
use Rattle.std.proofs.Common.{◌≡◌, ◌⊎◌, Bool, true, false, List, [], ◌∷◌, refl, sym, ap, subst, inl, inr, arith, ◌∙◌, Option, Some, None}
use Rattle.std.specs.Prelude.{bytes_eq, IsSome, if◌then◌else◌, find, reverse}
use Rattle.smk_record.specs.declared.record.Record.{Record}
use Rattle.smk_record.specs.declared.record.Member.{Member}
use Rattle.smk_world.specs.Trees.{Path, IsIn, among, folders_of}
use Rattle.smk_base.specs.Path.{overlaps}
use Rattle.smk_world.specs.World.{folders_above}
use Rattle.smk_store.specs.Trust.{is_folder_record, Eased, none_eased}
use Rattle.smk_laws_protocol.proofs.View.{View, Clear, Speaks, holder}
use Rattle.smk_store.specs.Soundness.{Outside}
use Rattle.smk_laws_protocol.proofs.Between.{HasNoNested}
use Rattle.smk_base.proofs.Places.{same_place}
use Rattle.smk_laws_protocol.proofs.Moves.{with_record}
use Rattle.smk_laws_protocol.proofs.Marking.{by_bool}

-- the path or a folder above it
abbrev pub IsOver : Path → Path → Type 0
IsOver q h = (h ≡ q) ⊎ IsIn (reverse (folders_above q)) h

pub record FolderLaws : Type 0 where
  pub nested : (q h g : Path) → IsOver q h → IsOver q g → overlaps h g ≡ true
  pub proper : (q : Path) → IsIn (reverse (folders_above q)) q → ⊥

some_same : {A : Type 0} {a b : A} → Some a ≡ Some b → a ≡ b
some_same k = cc

none_some : {A : Type 0} {a : A} → None ≡ Some a → ⊥
none_some k = grind arith

pub found_in : (t : Path → Bool) (xs : List Path) (h : Path) → find t xs ≡ Some h → IsIn xs h
found_in t [] h is = absurd (none_some is)
found_in t (x ∷ xs) h is = go (found_in t xs h) (t x) is
  where
    go : (find t xs ≡ Some h → IsIn xs h) → (b : Bool) → (if b then Some x else find t xs) ≡ Some h → IsIn (x ∷ xs) h
    go ih true k = inl (sym (some_same k))
    go ih false k = inr (ih k)

pub found_test : (t : Path → Bool) (xs : List Path) (h : Path) → find t xs ≡ Some h → t h ≡ true
found_test t [] h is = absurd (none_some is)
found_test t (x ∷ xs) h is = go (found_test t xs h) (t x) refl is
  where
    go : (find t xs ≡ Some h → t h ≡ true) → (b : Bool) → t x ≡ b → (if b then Some x else find t xs) ≡ Some h → t h ≡ true
    go ih true e k = subst (λ y. t y ≡ true) (some_same k) e
    go ih false e k = ih k

pub found_same : (t u : Path → Bool) (xs : List Path) → ((x : Path) → IsIn xs x → t x ≡ u x) → find t xs ≡ find u xs
found_same t u [] h = refl
found_same t u (x ∷ xs) h = λ i. if h x (inl refl) i then Some x else found_same t u xs (λ y k. h y (inr k)) i

pub by_option : {A : Type 0} {P : Type 0} (x : Option A) → ((a : A) → x ≡ Some a → P) → (x ≡ None → P) → P
by_option None f g = g refl
by_option (Some a) f g = f a refl

-- the holder is the path, or found above it where its own record doesn't read
pub own_holder : (v : View) (q : Path) (r : Record) → v.record_at q ≡ Some r → holder v q ≡ Some q
own_holder v q r at = rw at refl

pub far_holder : (v : View) (q : Path) → v.record_at q ≡ None → holder v q ≡ find (λ f. is_folder_record f (v.record_at f)) (reverse (folders_above q))
far_holder v q at = rw at refl

pub holder_over : (v : View) (q h : Path) → holder v q ≡ Some h → IsOver q h
holder_over v q h is =
    by_option (v.record_at q)
    (λ r at. inl (some_same (sym is ∙ own_holder v q r at)))
    (λ at. inr (found_in (λ f. is_folder_record f (v.record_at f)) (reverse (folders_above q)) h (sym (far_holder v q at) ∙ is)))

pub is_some_of : {A : Type 0} (a : A) (x : Option A) → x ≡ Some a → IsSome x
is_some_of a x h = rw h refl

pub one_holder :
    (o : Outside) → FolderLaws → (now v : View) (e : Eased) → HasNoNested o now →
    (q h g : Path) (r s : Record) → Speaks v e q h r → IsSome (now.record_at h) → Speaks now none_eased q g s → h ≡ g
one_holder o laws now v e nested q h g r s speaks there speaks' =
    nested h g there (is_some_of s (now.record_at g) speaks'.clear.0)
    (laws.nested q h g (holder_over v q h speaks.holder) (holder_over now q g speaks'.holder))

-- a record with the same recipe read there
abbrev pub HasBefore : View → Path → Record → Type 0
HasBefore v p r = (s : Record) × (v.record_at p ≡ Some s) × (s.recipe ≡ r.recipe)

-- Another record at a path that none that counts overlaps, or at least not before: what spoke still does.
module _
    (laws : FolderLaws) (v : View) (p : Path) (has : Path → Bool) (at : Path → Option Record) (listed : Path → List Member) (e : Eased)
    (at_same : (q : Path) → bytes_eq q p ≡ false → at q ≡ v.record_at q)
    (alone : (h : Path) (r : Record) → Clear (with_record v has at listed) e h r → overlaps h p ≡ true → (h ≡ p) × HasBefore v p r) where
  pub holder_stays : (q h : Path) (r : Record) → holder (with_record v has at listed) q ≡ Some h → Clear (with_record v has at listed) e h r → holder v q ≡ Some h
  holder_stays q h r is clear = by_option (at q) near far
    where
      near : (s : Record) → at q ≡ Some s → holder v q ≡ Some h
      near s k =
          by_bool (bytes_eq q p)
          (λ same.
          let e1 = some_same (sym (own_holder (with_record v has at listed) q s k) ∙ is) in
          let there = alone h r clear (laws.nested q h p (inl (sym e1)) (inl (sym (same_place q p same)))) in
          own_holder v q there.1.0 (subst (λ x. v.record_at x ≡ Some there.1.0) (sym (same_place q p same)) there.1.1) ∙ ap Some e1)
          (λ other. own_holder v q s (sym (at_same q other) ∙ k) ∙ sym (own_holder (with_record v has at listed) q s k) ∙ is)

      far : at q ≡ None → holder v q ≡ Some h
      far k =
          by_bool (bytes_eq q p)
          (λ same. absurd (laws.proper q (subst (λ x. IsIn (reverse (folders_above q)) x) (above same) found)))
          (λ other. far_holder v q (sym (at_same q other) ∙ k)
          ∙ found_same (λ f. is_folder_record f (v.record_at f)) (λ f. is_folder_record f (at f)) (reverse (folders_above q)) tests
          ∙ sym (far_holder (with_record v has at listed) q k) ∙ is)
        where
          found : IsIn (reverse (folders_above q)) h
          found = found_in (λ f. is_folder_record f (at f)) (reverse (folders_above q)) h (sym (far_holder (with_record v has at listed) q k) ∙ is)

          above : bytes_eq q p ≡ true → h ≡ q
          above same = (alone h r clear (laws.nested q h p (inr found) (inl (sym (same_place q p same))))).0 ∙ sym (same_place q p same)

          tests : (x : Path) → IsIn (reverse (folders_above q)) x → is_folder_record x (v.record_at x) ≡ is_folder_record x (at x)
          tests x i = by_bool (bytes_eq x p) here (λ other. ap (is_folder_record x) (sym (at_same x other)))
            where
              here : bytes_eq x p ≡ true → is_folder_record x (v.record_at x) ≡ is_folder_record x (at x)
              here same =
                  let there = alone h r clear (laws.nested q h p (inr found) (inr (subst (λ y. IsIn (reverse (folders_above q)) y) (same_place x p same) i))) in
                  ap (is_folder_record x) (subst (λ y. v.record_at y ≡ Some there.1.0) (sym (same_place x p same)) there.1.1)
                  ∙ ap (λ c. among (folders_of c) x) there.1.2
                  ∙ sym (ap (is_folder_record x) (subst (λ y. at y ≡ Some r) (there.0 ∙ sym (same_place x p same)) clear.0))
