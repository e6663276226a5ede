-- The texts of paths, kept.
use Rattle.std.proofs.Common.{◌≡◌, ℕ, Bool, true, false, ◌||◌, cond, List, [], ◌∷◌, ◌++◌, refl, sym, ap, ◌∙◌, bytes_eq}
use Rattle.std.specs.Prelude.{String, string_bytes}
use Rattle.std.specs.Global.{Global}
use Rattle.std.specs.BTreeSet.{BTreeSet, contains_text}
use Rattle.std.specs.BTreeSet as sorted
use Rattle.std.specs.Cmp.Lexicographic.{slice_cmp}
use Rattle.std.specs.Ordering.{nat_cmp}
use Rattle.std.specs.String.{string_cmp}
use Rattle.std.proofs.lemmas.Map.Text.{btree_set_updates_text}
use Rattle.std.proofs.Math.Bool.{or_comm}
use Rattle.smk_base.proofs.Places.{same_flipped}
use Rattle.smk_world.specs.World.{is_named}
use Rattle.smk_world.specs.Trees.{Path, among}
use Rattle.smk_chain_sight.proofs.Distinct.{once, not_there, named_push}

cond_or : (a b : Bool) → cond a true b ≡ (a || b)
cond_or true b = refl
cond_or false b = refl

pub key_added : (s n : BTreeSet (String Global)) (bs text : List ℕ) → bs ≡ text
    → sorted.UpdatesBy string_cmp (λ (k : String Global). slice_cmp nat_cmp bs (string_bytes k)) s n true → (q : Path) → contains_text n q ≡ (bytes_eq text q || contains_text s q)
key_added s n bs text e updates q =
    btree_set_updates_text bs s n true updates q ∙ cond_or (bytes_eq bs q) (contains_text s q) ∙ ap (λ (t : List ℕ). bytes_eq t q || contains_text s q) e

pub named_more : (x q : Path) (xs ys : List Path) (was now : Bool) → now ≡ (bytes_eq x q || was) → was ≡ among xs q → ys ≡ xs ++ x ∷ [] → now ≡ among ys q
named_more x q xs ys was now e same are =
    e ∙ ap (λ b. bytes_eq x q || b) same ∙ or_comm (bytes_eq x q) (among xs q) ∙ ap (λ b. among xs q || b) (same_flipped x q)
    ∙ sym (ap (is_named q) are ∙ named_push q x xs)

pub each_once : (x : Path) (xs ys : List Path) → once xs ≡ xs → is_named x xs ≡ false → ys ≡ xs ++ x ∷ [] → once ys ≡ ys
each_once x xs ys e h are = ap once are ∙ sym (not_there xs x e h) ∙ sym are

pub put_last : (x : Path) (xs ys : List Path) → once xs ≡ xs → is_named x xs ≡ false → ys ≡ xs ++ x ∷ [] → ys ≡ once (xs ++ x ∷ [])
put_last x xs ys e h are = are ∙ not_there xs x e h
