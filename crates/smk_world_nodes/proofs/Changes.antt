-- What the changes of nodes leave.
use Rattle.std.proofs.Common.{◌≡◌, inl, inr, ℕ, Bool, true, false, cond, ◌||◌, ◌&&◌, not, List, [], ◌∷◌, ◌++◌, map, refl, ap, sym, subst, ◌∙◌, Some, None, bytes_eq, string_bytes, String, true≢false}
use Rattle.std.specs.Prelude.{if◌then◌else◌}
use Rattle.std.specs.List.{list_any, filter}
use Rattle.std.specs.Map.{lookup, keys_of}
use Rattle.std.specs.List.{AllByRecursion}
use Rattle.std.specs.List.Sorted.{IsStrictlySortedBy}
use Rattle.std.specs.declared.cmp.Ordering.TheVariants.{Less}
use Rattle.std.specs.Ordering.{is_eq, nat_cmp, is_le}
use Rattle.std.specs.Cmp.Lexicographic.{slice_cmp}
use Rattle.std.specs.declared.alloc.Global.{Global}
use Rattle.std.proofs.lemmas.Map.Text.{is_eq-slice_cmp}
use Rattle.std.proofs.lemmas.Bool.{or_cases, or_parts}
use Rattle.smk_base.proofs.Places.{same_flipped, same_place}
use Rattle.smk_world.specs.declared.event.Node.{Node}
use Rattle.smk_base.specs.Path.{is_under}
use Rattle.smk_base.proofs.Ranges.{is_between, between_is_under}
use Rattle.smk_world_nodes.specs.Nodes.{is_listed}

if_cond : {A : Type 0} (b : Bool) (s t : A) → cond b s t ≡ if b then s else t
if_cond true s t = refl
if_cond false s t = refl

pub set_is : {A : Type 0} (place q : List ℕ) (s t : A) → cond (bytes_eq place q) s t ≡ if bytes_eq q place then s else t
set_is place q s t = if_cond (bytes_eq place q) s t ∙ ap (λ b. if b then s else t) (same_flipped place q)

-- the texts of keys
abbrev pub texts : List (String Global) → List (List ℕ)
texts keys = map (λ k. string_bytes k) keys

abbrev pub entry_texts : List (String Global × Node) → List (List ℕ)
entry_texts es = map (λ e. string_bytes e.0) es

pub listed_texts : (q : List ℕ) (keys : List (String Global)) → is_listed q keys ≡ list_any (bytes_eq q) (texts keys)
listed_texts q [] = refl
listed_texts q (k ∷ keys) = ap (λ b. bytes_eq q (string_bytes k) || b) (listed_texts q keys)

-- the entries that pass a test on their text
abbrev pub passing : (List ℕ → Bool) → List (String Global × Node) → List (String Global × Node)
passing test es = filter (λ e. test (string_bytes e.0)) es

pub listed_pass : (test : List ℕ → Bool) (q : List ℕ) (es : List (String Global × Node)) → list_any (bytes_eq q) (entry_texts (passing test es)) ≡ true → test q ≡ true
listed_pass test q [] h = absurd (true≢false (sym h))
listed_pass test q (e ∷ es) h =
    elim (test (string_bytes e.0)) as (λ v. test (string_bytes e.0) ≡ v → list_any (bytes_eq q) (entry_texts (cond v (e ∷ passing test es) (passing test es))) ≡ true → test q ≡ true) [
      | true ↦ λ t k. elim (or_cases (bytes_eq q (string_bytes e.0)) _ k) [
        | inl same ↦ subst (λ x. test x ≡ true) (sym (same_place q (string_bytes e.0) same)) t
        | inr rest ↦ listed_pass test q es rest
      ]
      | false ↦ λ t k. listed_pass test q es k
    ] refl h

pub none_listed : (test : List ℕ → Bool) (q : List ℕ) (es : List (String Global × Node)) → test q ≡ true → list_any (bytes_eq q) (entry_texts (passing test es)) ≡ false → lookup (λ k. is_eq (slice_cmp nat_cmp q (string_bytes k))) es ≡ None
none_listed test q [] pass h = refl
none_listed test q (e ∷ es) pass h =
    let k = string_bytes e.0 in
    let rest : list_any (bytes_eq q) (entry_texts (passing test es)) ≡ false =
    elim (test k) as (λ v. list_any (bytes_eq q) (entry_texts (cond v (e ∷ passing test es) (passing test es))) ≡ false → list_any (bytes_eq q) (entry_texts (passing test es)) ≡ false) [
      | true ↦ λ w. (or_parts (bytes_eq q k) _ w).1
      | false ↦ λ w. w
    ] h in
    let other : bytes_eq q k ≡ false =
    elim (bytes_eq q k) as (λ v. bytes_eq q k ≡ v → v ≡ false) [
      | true ↦ λ same. let passes : test k ≡ true = subst (λ x. test x ≡ true) (same_place q k same) pass in
          absurd (true≢false (ap (λ b. b || list_any (bytes_eq q) (entry_texts (passing test es))) (sym same) ∙ subst (λ v. list_any (bytes_eq q) (entry_texts (cond v (e ∷ passing test es) (passing test es))) ≡ false) passes h))
      | false ↦ λ same. refl
    ] refl in
    ap (λ b. cond b (Some e.1) (lookup (λ k. is_eq (slice_cmp nat_cmp q (string_bytes k))) es)) (is_eq-slice_cmp q k ∙ other) ∙ none_listed test q es pass rest

append_none : (ts : List (List ℕ)) → ts ++ [] ≡ ts
append_none [] = refl
append_none (t ∷ ts) = ap (λ r. t ∷ r) (append_none ts)

-- the keys between two texts, once all are listed
abbrev pub is_in_texts : List ℕ → List ℕ → List ℕ → Bool
is_in_texts low high q = is_le (slice_cmp nat_cmp low q) && not (is_le (slice_cmp nat_cmp high q))

pub all_listed : (p low high : List ℕ) (keys : List (String Global)) (left first es : List (String Global × Node)) → left ≡ [] → texts keys ++ entry_texts left ≡ entry_texts first → first ≡ passing (is_in_texts low high) es → low ≡ p ++ 47 ∷ [] → high ≡ p ++ 48 ∷ [] → texts keys ≡ entry_texts (passing (is_between p) es)
all_listed p low high keys left first es done invariant from is_low is_high =
    sym (append_none (texts keys)) ∙ ap (λ r. texts keys ++ entry_texts r) (sym done) ∙ invariant ∙ ap entry_texts from
    ∙ ap (λ l. entry_texts (passing (is_in_texts l high) es)) is_low ∙ ap (λ h. entry_texts (passing (is_in_texts (p ++ 47 ∷ []) h) es)) is_high

pub listed_are_under : (p q : List ℕ) (keys : List (String Global)) (es : List (String Global × Node)) → texts keys ≡ entry_texts (passing (is_between p) es) → is_listed q keys ≡ true → is_under q p ≡ true
listed_are_under p q keys es all h = sym (between_is_under p q) ∙ listed_pass (is_between p) q es (ap (list_any (bytes_eq q)) (sym all) ∙ sym (listed_texts q keys) ∙ h)

pub others_are_not : (p q : List ℕ) (keys : List (String Global)) (es : List (String Global × Node)) → texts keys ≡ entry_texts (passing (is_between p) es) → is_under q p ≡ true → is_listed q keys ≡ false → lookup (λ k. is_eq (slice_cmp nat_cmp q (string_bytes k))) es ≡ None
others_are_not p q keys es all under h = none_listed (is_between p) q es (between_is_under p q ∙ under) (ap (list_any (bytes_eq q)) (sym all) ∙ sym (listed_texts q keys) ∙ h)

all_passing : (k : List ℕ) (test : List ℕ → Bool) (es : List (String Global × Node)) → AllByRecursion (λ y. slice_cmp nat_cmp k (string_bytes y) ≡ Less) (keys_of es) → AllByRecursion (λ y. slice_cmp nat_cmp k y ≡ Less) (entry_texts (passing test es))
all_passing k test [] all = tt
all_passing k test (e ∷ es) all = go (test (string_bytes e.0)) (all_passing k test es all.1)
  where
    go : (b : Bool) → AllByRecursion (λ y. slice_cmp nat_cmp k y ≡ Less) (entry_texts (passing test es)) → AllByRecursion (λ y. slice_cmp nat_cmp k y ≡ Less) (entry_texts (cond b (e ∷ passing test es) (passing test es)))
    go true ih = (all.0, ih)
    go false ih = ih

passing_rising : (test : List ℕ → Bool) (es : List (String Global × Node)) → IsStrictlySortedBy (λ x y. slice_cmp nat_cmp (string_bytes x) (string_bytes y)) (keys_of es) → IsStrictlySortedBy (slice_cmp nat_cmp) (entry_texts (passing test es))
unfolding IsStrictlySortedBy
passing_rising test [] s = tt
passing_rising test (e ∷ es) s = go (test (string_bytes e.0)) (passing_rising test es s.1)
  where
    go : (b : Bool) → IsStrictlySortedBy (slice_cmp nat_cmp) (entry_texts (passing test es)) → IsStrictlySortedBy (slice_cmp nat_cmp) (entry_texts (cond b (e ∷ passing test es) (passing test es)))
    go true ih = (all_passing (string_bytes e.0) test es s.0, ih)
    go false ih = ih

-- the keys under a folder rise
pub keys_rising : (p : List ℕ) (es : List (String Global × Node)) → IsStrictlySortedBy (λ x y. slice_cmp nat_cmp (string_bytes x) (string_bytes y)) (keys_of es) → IsStrictlySortedBy (slice_cmp nat_cmp) (entry_texts (passing (is_between p) es))
keys_rising p es s = passing_rising (is_between p) es s
