-- The places of texts, as one more is added; and paths, where none is.
use Rattle.std.proofs.Common.{◌≡◌, ◌∙◌, ℕ, suc, ◌+◌, Bool, true, false, ◌||◌, cond, List, [], ◌∷◌, ◌++◌, length, Some, None, option_map, String, string_bytes, refl, sym, ap, arith, true≢false}
use Rattle.std.specs.Prelude.{bytes_eq, position}
use Rattle.std.specs.List.{list_any, position_from}
use Rattle.std.specs.Map.{lookup}
use Rattle.std.specs.declared.alloc.Global.{Global}
use Rattle.std.proofs.lemmas.Iterator.Adapters.{position_from-zero}
use Rattle.std.proofs.lemmas.Slice.Eq.{bytes_eq-Decides}
use Rattle.indexmap.specs.IndexSet.{insert_key}
use Rattle.smk_base.proofs.Places.{same_flipped}
use Rattle.smk_world.specs.Trees.{Path}
use Rattle.smk_chain.specs.declared.jobs.Maker.{Maker}
use Rattle.smk_chain_walk.specs.declared.reached.Reached.{Reached}
use Rattle.smk_chain_walk.specs.Steps.{done_at, same_text}

abbrev is_text : List ℕ → String Global → Bool
is_text t k = bytes_eq t (string_bytes k)

none_any : (test : String Global → Bool) (n : ℕ) (ks : List (String Global)) → position_from test n ks ≡ None → list_any test ks ≡ false
none_any test n [] e = refl
none_any test n (k ∷ ks) e = go (test k) e (λ h. none_any test (n + 1) ks h)
  where
    go : (b : Bool) → cond b (Some n) (position_from test (n + 1) ks) ≡ None → (position_from test (n + 1) ks ≡ None → list_any test ks ≡ false) → b || list_any test ks ≡ false
    go true h more = absurd cc
    go false h more = more h

-- a text without a place isn't there
pub unplaced_text : (ks : List (String Global)) (t : List ℕ) → position (is_text t) ks ≡ None → list_any (is_text t) ks ≡ false
unplaced_text ks t e = none_any (is_text t) 0 ks (sym (position_from-zero (is_text t) ks) ∙ e)

-- a new text goes last
pub inserted_last : (ks new : List (String Global)) (k : String Global) → position (is_text (string_bytes k)) ks ≡ None → new ≡ insert_key same_text ks k → new ≡ ks ++ k ∷ []
inserted_last ks new k none is = is ∙ ap (λ b. cond b ks (ks ++ k ∷ [])) (unplaced_text ks (string_bytes k) none)

from_more : (ks : List (String Global)) (k : String Global) (q : List ℕ) (n : ℕ) → list_any (is_text (string_bytes k)) ks ≡ false →
    position_from (is_text q) n (ks ++ k ∷ []) ≡ cond (bytes_eq (string_bytes k) q) (Some (n + length ks)) (position_from (is_text q) n ks)
from_more [] k q n absent =
    let here : n ≡ n + 0 = omega arith in
    ap (λ b. cond b (Some n) None) (same_flipped q (string_bytes k)) ∙ ap (λ m. cond (bytes_eq (string_bytes k) q) (Some m) None) here
from_more (x ∷ ks) k q n absent = go (bytes_eq (string_bytes k) (string_bytes x)) (bytes_eq q (string_bytes x)) (bytes_eq (string_bytes k) q) refl refl refl absent (λ h. from_more ks k q (n + 1) h)
  where
    there : n + 1 + length ks ≡ n + suc (length ks)
    there = omega arith

    go : (a b c : Bool) → bytes_eq (string_bytes k) (string_bytes x) ≡ a → bytes_eq q (string_bytes x) ≡ b → bytes_eq (string_bytes k) q ≡ c → a || list_any (is_text (string_bytes k)) ks ≡ false →
        (list_any (is_text (string_bytes k)) ks ≡ false → position_from (is_text q) (n + 1) (ks ++ k ∷ []) ≡ cond (bytes_eq (string_bytes k) q) (Some (n + 1 + length ks)) (position_from (is_text q) (n + 1) ks)) →
        cond b (Some n) (position_from (is_text q) (n + 1) (ks ++ k ∷ [])) ≡ cond c (Some (n + suc (length ks))) (cond b (Some n) (position_from (is_text q) (n + 1) ks))
    go true b c ea eb ec h more = absurd (true≢false h)
    go false true true ea eb ec h more =
        let one : string_bytes k ≡ q = (bytes_eq-Decides (string_bytes k) q).0 ec in
        let two : q ≡ string_bytes x = (bytes_eq-Decides q (string_bytes x)).0 eb in
        absurd (true≢false (sym ((bytes_eq-Decides (string_bytes k) (string_bytes x)).1 (one ∙ two)) ∙ ea))
    go false true false ea eb ec h more = refl
    go false false c ea eb ec h more =
        more h ∙ ap (λ b. cond b (Some (n + 1 + length ks)) (position_from (is_text q) (n + 1) ks)) ec ∙ ap (λ m. cond c (Some m) (position_from (is_text q) (n + 1) ks)) there

-- the place of a text, once one more stands behind the others
pub place_more : (ks : List (String Global)) (k : String Global) (q : List ℕ) → position (is_text (string_bytes k)) ks ≡ None →
    position (is_text q) (ks ++ k ∷ []) ≡ cond (bytes_eq (string_bytes k) q) (Some (length ks)) (position (is_text q) ks)
place_more ks k q none =
    let first : 0 + length ks ≡ length ks = omega arith in
    position_from-zero (is_text q) (ks ++ k ∷ [])
    ∙ from_more ks k q 0 (unplaced_text ks (string_bytes k) none)
    ∙ ap (λ m. cond (bytes_eq (string_bytes k) q) (Some m) (position_from (is_text q) 0 ks)) first
    ∙ ap (λ o. cond (bytes_eq (string_bytes k) q) (Some (length ks)) o) (sym (position_from-zero (is_text q) ks))

pub done_same : (old new : Reached) → new.done.entries ≡ old.done.entries → (q : Path) → done_at new q ≡ done_at old q
done_same old new same q = ap (λ es. option_map (λ (m : Maker). m.job) (lookup (λ k. bytes_eq q (string_bytes k)) es)) same
