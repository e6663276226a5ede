-- Records that vouch for the same: they differ at most in the stamps of sources that had the same content.
use Rattle.std.proofs.Common.{◌≡◌, ◌⊎◌, ℕ, zero, suc, Bool, true, false, List, [], ◌∷◌, map, refl, sym, ap, subst, inl, inr, ◌∙◌, Option, Some, None}
use Rattle.std.specs.Prelude.{◌||◌, ◌==◌, ◌++◌, IsTrue, zip, if◌then◌else◌}
use Rattle.std.specs.List.{AllZip, flat_map}
use Rattle.std.specs.Option.{option_map, option_and_then}
use Rattle.smk_base.specs.declared.tree.Tree.{Tree}
use Rattle.smk_base.specs.declared.tree.Tree.TheVariants.{File}
use Rattle.smk_world.specs.World.{in_paths}
use Rattle.smk_world.specs.Trees.{Path, Act, IsIn, all_of, value_at, part_at}
use Rattle.smk_record.specs.declared.record.Stamp.{Stamp}
use Rattle.smk_record.specs.declared.record.Stamp.TheVariants.{Time, Sum, Made}
use Rattle.smk_record.specs.declared.record.Record.{Record}
use Rattle.smk_record.specs.Records.{agree, stamped, serial_in, serials}
use Rattle.smk_store.specs.Trust.{Versions, HasVersion, SumsDiffer, Eased, vouched}
use Rattle.smk_store.proofs.Versions.{agreed, serial_agreed, what_input}
use Rattle.smk_laws_protocol.specs.Protocol.{IsAgain}
use Rattle.smk_laws_protocol.proofs.View.{View, Speaks, Chain, Link, holder, has_made, input_value, vir}
use Rattle.smk_laws_protocol.proofs.Basics.{clash}
use Rattle.smk_laws_protocol.proofs.Chains.{map_same, value_of_product}

-- ## What an input was

abbrev pub input_by : Versions → Path × Stamp → Path × (Option (List ℕ) ⊎ ℕ)
input_by H (q, s) = (q, what_input (H q) s)

-- the two records have one serial and recipe, and by the versions their inputs were the same
pub record IsLike (H : Versions) (r s : Record) : Type 0 where
  pub made : r.made ≡ s.made
  pub recipe : r.recipe ≡ s.recipe
  pub inputs : map (input_by H) (stamped r) ≡ map (input_by H) (stamped s)
  pub serials : serials r ≡ serials s

pub like_self : (H : Versions) (r : Record) → IsLike H r r
like_self H r = record { made = refl; recipe = refl; inputs = refl; serials = refl }

pub like_of : (H : Versions) (r s : Record) → r ≡ s → IsLike H r s
like_of H r s e = subst (IsLike H r) e (like_self H r)

pub like_swap : (H : Versions) (r s : Record) → IsLike H r s → IsLike H s r
like_swap H r s like = record { made = sym like.made; recipe = sym like.recipe; inputs = sym like.inputs; serials = sym like.serials }

pub like_then : (H : Versions) (r s t : Record) → IsLike H r s → IsLike H s t → IsLike H r t
like_then H r s t a b = record { made = a.made ∙ b.made; recipe = a.recipe ∙ b.recipe; inputs = a.inputs ∙ b.inputs; serials = a.serials ∙ b.serials }

-- ## Products that are named

abbrev product_in : Path → ℕ → Path × (Option (List ℕ) ⊎ ℕ)
product_in q m = (q, inr m)

abbrev by_serial : Path → ℕ → Path × Stamp
by_serial q m = (q, Made m)

abbrev serial_of : Option (List ℕ) ⊎ ℕ → ℕ → ℕ
serial_of (inl c) d = d
serial_of (inr m) d = m

abbrev is_product : Option (List ℕ) ⊎ ℕ → Bool
is_product (inl c) = false
is_product (inr m) = true

named_by : (H : Versions) (xs : List (Path × Stamp)) (q : Path) (m : ℕ) → IsIn xs (q, Made m) → IsIn (map (input_by H) xs) (product_in q m)
named_by H [] q m i = absurd i
named_by H (x ∷ xs) q m (inl e) = inl (λ k. input_by H (e k))
named_by H (x ∷ xs) q m (inr i) = inr (named_by H xs q m i)

same_product : (H : Versions) (x : Path × Stamp) (q : Path) (m : ℕ) → product_in q m ≡ input_by H x → by_serial q m ≡ x
same_product H (y, Time t) q m e = clash (is_product (inl (H y t))) (ap (λ (z : Path × (Option (List ℕ) ⊎ ℕ)). is_product z.1) (sym e)) refl
same_product H (y, Sum t d) q m e = clash (is_product (inl (H y t))) (ap (λ (z : Path × (Option (List ℕ) ⊎ ℕ)). is_product z.1) (sym e)) refl
same_product H (y, Made n) q m e = λ k. (ap (λ (z : Path × (Option (List ℕ) ⊎ ℕ)). z.0) e k, Made (ap (λ (z : Path × (Option (List ℕ) ⊎ ℕ)). serial_of z.1 0) e k))

named_from : (H : Versions) (xs : List (Path × Stamp)) (q : Path) (m : ℕ) → IsIn (map (input_by H) xs) (product_in q m) → IsIn xs (q, Made m)
named_from H [] q m i = absurd i
named_from H (x ∷ xs) q m (inl e) = inl (same_product H x q m e)
named_from H (x ∷ xs) q m (inr i) = inr (named_from H xs q m i)

pub like_named : (H : Versions) (r s : Record) → IsLike H r s → (q : Path) (m : ℕ) → IsIn (stamped r) (q, Made m) → IsIn (stamped s) (q, Made m)
like_named H r s like q m i = named_from H (stamped s) q m (subst (λ xs. IsIn xs (product_in q m)) like.inputs (named_by H (stamped r) q m i))

-- ## What inputs give

abbrev given_value : View → (Path → Option Tree) → Path × (Option (List ℕ) ⊎ ℕ) → Option Tree
given_value v V (q, inl content) = option_map File content
given_value v V (q, inr m) = option_and_then (λ h. if has_made m (v.record_at h) then option_and_then (part_at h q) (V h) else None) (holder v q)

value_by : (v : View) (H : Versions) (V : Path → Option Tree) (x : Path × Stamp) → input_value v H V x ≡ given_value v V (input_by H x)
value_by v H V (q, Time t) = refl
value_by v H V (q, Sum t d) = refl
value_by v H V (q, Made m) = refl

values_by : (v : View) (H : Versions) (V : Path → Option Tree) (xs : List (Path × Stamp)) → map (input_value v H V) xs ≡ map (given_value v V) (map (input_by H) xs)
values_by v H V [] = refl
values_by v H V (x ∷ xs) = λ k. value_by v H V x k ∷ values_by v H V xs k

pub like_values : (H : Versions) (r s : Record) → IsLike H r s → (v : View) (V : Path → Option Tree) → map (input_value v H V) (stamped r) ≡ map (input_value v H V) (stamped s)
like_values H r s like v V = values_by v H V (stamped r) ∙ ap (map (given_value v V)) like.inputs ∙ sym (values_by v H V (stamped s))

-- ## From one image to another in which such records speak

-- what speaks in the one speaks in the other, by a record that vouches for the same
abbrev pub PassesLike : Versions → View → Eased → View → Eased → Type 0
PassesLike H v e v' e' = (q h : Path) (r : Record) → Speaks v e q h r → (s : Record) × Speaks v' e' q h s × IsLike H r s

record_or : Record → Option Record → Record
record_or d None = d
record_or d (Some r) = r

-- for an input of the like record
record Speaker (H : Versions) (v' : View) (e' : Eased) (q h : Path) (m : ℕ) (r s : Record) : Type 0 where
  speaks : Speaks v' e' q h s
  made : s.made ≡ m
  like : IsLike H r s

speaker : (H : Versions) (v' : View) (e' : Eased) (q h : Path) (m : ℕ) (r : Record) → (s : Record) × Speaks v' e' q h s × IsLike H r s → r.made ≡ m → Speaker H v' e' q h m r (record_or r (v'.record_at h))
unfolding record_or
speaker H v' e' q h m r p same =
    subst (Speaker H v' e' q h m r) (sym (ap (record_or r) p.1.clear.0)) (record { speaks = p.1; made = sym p.2.made ∙ same; like = p.2 })

pub chain_like : (H : Versions) (v v' : View) (e e' : Eased) → PassesLike H v e v' e' → (r s : Record) → IsLike H r s → Chain v e r → Chain v' e' s
chain_like H v v' e e' on _ s like (Link r place by speaks chains) =
    Link s place (λ q m. record_or (by q m) (v'.record_at (place q m)))
    (λ q m i. let k = there q m i in (k.speaks, k.made))
    (λ q m i. chain_like H v v' e e' on (by q m) (record_or (by q m) (v'.record_at (place q m))) (there q m i).like (chains q m (back q m i)))
  where
    back : (q : Path) (m : ℕ) → IsIn (stamped s) (q, Made m) → IsIn (stamped r) (q, Made m)
    back q m i = like_named H s r (like_swap H r s like) q m i

    there : (q : Path) (m : ℕ) → IsIn (stamped s) (q, Made m) → Speaker H v' e' q (place q m) m (by q m) (record_or (by q m) (v'.record_at (place q m)))
    there q m i =
        let k = speaks q m (back q m i) in
        speaker H v' e' q (place q m) m (by q m) (on q (place q m) (by q m) k.0) k.1

inputs_like :
    (H : Versions) (v v' : View) (e e' : Eased) (V V' : Path → Option Tree) → PassesLike H v e v' e' → (r : Record) → Chain v e r →
    ((h : Path) (r s : Record) → IsLike H r s → Chain v e r → v.record_at h ≡ Some r → v'.record_at h ≡ Some s → V h ≡ V' h) →
    (x : Path × Stamp) → IsIn (stamped r) x → input_value v H V x ≡ input_value v' H V' x
inputs_like H v v' e e' V V' on r chain same (q, Time t) i = refl
inputs_like H v v' e e' V V' on r chain same (q, Sum t d) i = refl
inputs_like H v v' e e' V V' on _ (Link r place by speaks chains) same (q, Made m) i =
    let s = (speaks q m i).0 in
    let k = on q (place q m) (by q m) s in
    value_of_product v H V q (place q m) m (by q m) s.holder s.clear.0 (speaks q m i).1
    ∙ ap (option_and_then (part_at (place q m) q)) (same (place q m) (by q m) k.0 k.2 (chains q m i) s.clear.0 k.1.clear.0)
    ∙ sym (value_of_product v' H V' q (place q m) m k.0 k.1.holder k.1.clear.0 (sym k.2.made ∙ (speaks q m i).1))

pub vir_like :
    (act : Act) (H : Versions) (v v' : View) (e e' : Eased) → PassesLike H v e v' e' → (n : ℕ) (p : Path) (r s : Record) →
    v.record_at p ≡ Some r → v'.record_at p ≡ Some s → IsLike H r s → Chain v e r → vir v act H n p ≡ vir v' act H n p
vir_like act H v v' e e' on zero p r s at at' like chain = refl
vir_like act H v v' e e' on (suc n) p r s at at' like chain =
    ap (vouched act p (input_value v H (vir v act H n))) at
    ∙ ap (λ xs. value_at act r.recipe p (all_of xs))
    (map_same (input_value v H (vir v act H n)) (input_value v' H (vir v' act H n)) (stamped r)
    (inputs_like H v v' e e' (vir v act H n) (vir v' act H n) on r chain (λ h x y l c is is'. vir_like act H v v' e e' on n h x y is is' l c))
    ∙ like_values H r s like v' (vir v' act H n))
    ∙ ap (λ c. value_at act c p (all_of (map (input_value v' H (vir v' act H n)) (stamped s)))) like.recipe
    ∙ sym (ap (vouched act p (input_value v' H (vir v' act H n))) at')

-- ## A record that is written in the place of one that was found

abbrev pub HasVersions : Versions → List (Path × Stamp) → Type 0
HasVersions H xs = (q : Path) (s : Stamp) → IsIn xs (q, s) → HasVersion H q s

inputs_agreed :
    (H : Versions) → SumsDiffer H → (ps : List Path) (ss ts : List Stamp) → AllZip (λ (a b : Stamp). IsTrue (agree a b)) ss ts →
    HasVersions H (zip ps ss) → HasVersions H (zip ps ts) → map (input_by H) (zip ps ss) ≡ map (input_by H) (zip ps ts)
inputs_agreed H differ [] ss ts all hs ht = refl
inputs_agreed H differ (p ∷ ps) [] [] all hs ht = refl
inputs_agreed H differ (p ∷ ps) [] (t ∷ ts) all hs ht = absurd all
inputs_agreed H differ (p ∷ ps) (s ∷ ss) [] all hs ht = absurd all
inputs_agreed H differ (p ∷ ps) (s ∷ ss) (t ∷ ts) all hs ht =
    λ k. (p, agreed H differ p s t all.0 (hs p s (inl refl)) (ht p t (inl refl)) k) ∷ inputs_agreed H differ ps ss ts all.1 (λ q x i. hs q x (inr i)) (λ q x i. ht q x (inr i)) k

serials_agreed : (ss ts : List Stamp) → AllZip (λ (a b : Stamp). IsTrue (agree a b)) ss ts → flat_map serial_in ss ≡ flat_map serial_in ts
serials_agreed [] [] all = refl
serials_agreed [] (t ∷ ts) all = absurd all
serials_agreed (s ∷ ss) [] all = absurd all
serials_agreed (s ∷ ss) (t ∷ ts) all = λ k. serial_agreed s t all.0 k ++ serials_agreed ss ts all.1 k

-- Two records vouch for the same, and the versions have each source as either tells of it.
pub record AreLike (H : Versions) (r s : Record) : Type 0 where
  pub like : IsLike H r s
  pub had : HasVersions H (stamped r)
  pub has : HasVersions H (stamped s)

-- A record that is found, and the one that is written in its place, vouch for the same, where no two different contents have the same SHA-256.
pub like_again :
    (H : Versions) → SumsDiffer H → (found written : Record) → IsAgain found written → HasVersions H (stamped found) → HasVersions H (stamped written) → IsLike H found written
like_again H differ found written again has now =
    record {
      made = again.made;
      recipe = again.recipe;
      inputs =
          ap (λ c. map (input_by H) (zip (in_paths c) found.stamps)) again.recipe
          ∙ inputs_agreed H differ (in_paths written.recipe) found.stamps written.stamps again.stamps
          (subst (λ c. HasVersions H (zip (in_paths c) found.stamps)) again.recipe has) now;
      serials = λ k. again.made k ∷ serials_agreed found.stamps written.stamps again.stamps k;
    }
