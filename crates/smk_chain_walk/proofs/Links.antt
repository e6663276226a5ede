-- What is told of paths, and the numbers before jobs, as more is added.
use Rattle.std.proofs.Common.{◌≡◌, ◌∙◌, ℕ, suc, ◌+◌, ◌<◌, Bool, true, false, cond, List, [], ◌∷◌, ◌++◌, length, Option, Some, None, option_map, String, string_bytes, refl, sym, ap, subst, arith}
use Rattle.std.specs.Prelude.{bytes_eq}
use Rattle.std.specs.List.{find, AllByRecursion, IsDistinct}
use Rattle.std.specs.Map.{keys_of, values_of, lookup}
use Rattle.std.specs.declared.alloc.Global.{Global}
use Rattle.std.proofs.lemmas.Slice.Eq.{bytes_eq-Decides}
use Rattle.indexmap.specs.IndexMap.{insert_entry}
use Rattle.smk_base.proofs.Places.{same_flipped}
use Rattle.smk_world.specs.Trees.{Path}
use Rattle.smk_chain.specs.declared.jobs.Maker.{Maker}
use Rattle.smk_chain_walk.specs.Links.{maker_told, AreOnce, AreLower}
use Rattle.smk_chain_walk.specs.Steps.{same_text, AreTold}

abbrev Entry : Type 0
Entry = String Global × Maker

abbrev Own : Entry → Type 0
Own e = e.1.path ≡ string_bytes e.0

-- ---- what is kept under paths

own_more : (es : List Entry) (k : String Global) (m : Maker) → m.path ≡ string_bytes k → AllByRecursion Own es → AllByRecursion Own (insert_entry same_text es k m)
own_more [] k m e h = (e, tt)
own_more (x ∷ es) k m e h = go (same_text k x.0) refl (own_more es k m e h.1)
  where
    go : (b : Bool) → same_text k x.0 ≡ b → AllByRecursion Own (insert_entry same_text es k m) → AllByRecursion Own (cond b ((x.0, m) ∷ es) (x ∷ insert_entry same_text es k m))
    go true f rest = (e ∙ (bytes_eq-Decides (string_bytes k) (string_bytes x.0)).0 f, h.1)
    go false f rest = (h.0, rest)

-- one more path is told of, or one anew
pub told_more : (old new : List Entry) (k : String Global) (m : Maker) → new ≡ insert_entry same_text old k m → m.path ≡ string_bytes k → IsDistinct same_text (keys_of new) → AreTold old → AreTold new
told_more old new k m is path once h = record { own = subst (AllByRecursion Own) (sym is) (own_more old k m path h.own); once = once }

-- the number that is kept under a text, where the one before is written over
pub job_over : (b : Bool) (m : Maker) (o : Option Maker) → option_map (λ (x : Maker). x.job) (cond b (Some m) o) ≡ cond b (Some m.job) (option_map (λ (x : Maker). x.job) o)
job_over true m o = refl
job_over false m o = refl

-- ---- what is told in the end

-- the makers in order tell of a path what is kept under it
pub told_is : (es : List Entry) → AllByRecursion Own es → (q : Path) → maker_told (values_of es) q ≡ option_map (λ (m : Maker). m.job) (lookup (λ k. bytes_eq q (string_bytes k)) es)
told_is [] h q = refl
told_is (e ∷ es) h q =
    ap (λ b. option_map (λ (m : Maker). m.job) (cond b (Some e.1) (find (λ (m : Maker). bytes_eq m.path q) (values_of es)))) (ap (λ p. bytes_eq p q) h.0 ∙ same_flipped (string_bytes e.0) q)
    ∙ job_over (bytes_eq q (string_bytes e.0)) e.1 (find (λ (m : Maker). bytes_eq m.path q) (values_of es))
    ∙ ap (λ o. cond (bytes_eq q (string_bytes e.0)) (Some e.1.job) o) (told_is es h.1 q)
    ∙ sym (job_over (bytes_eq q (string_bytes e.0)) e.1 (lookup (λ k. bytes_eq q (string_bytes k)) es))

none_under : (es : List Entry) (k : String Global) → AllByRecursion (λ y. same_text k y ≡ false) (keys_of es) → lookup (λ y. bytes_eq (string_bytes k) (string_bytes y)) es ≡ None
none_under [] k h = refl
none_under (e ∷ es) k h = ap (λ b. cond b (Some e.1) (lookup (λ y. bytes_eq (string_bytes k) (string_bytes y)) es)) h.0 ∙ none_under es k h.1

once_in : (es : List Entry) → AllByRecursion Own es → IsDistinct same_text (keys_of es) → AreOnce (values_of es)
unfolding IsDistinct
once_in [] h d = tt
once_in (e ∷ es) h d = (
  told_is es h.1 e.1.path
      ∙ ap (λ p. option_map (λ (m : Maker). m.job) (lookup (λ k. bytes_eq p (string_bytes k)) es)) h.0
      ∙ ap (option_map (λ (m : Maker). m.job)) (none_under es e.0 d.0),
  once_in es h.1 d.1,
)

-- and of no path twice
pub once_is : (es : List Entry) → AreTold es → AreOnce (values_of es)
once_is es h = once_in es h.own h.once

-- ---- the numbers before jobs

pub lower_push : (n : ℕ) (bs : List (List ℕ)) (b : List ℕ) → AreLower n bs → AllByRecursion (λ k. k < n + length bs) b → AreLower n (bs ++ b ∷ [])
lower_push n [] b h low = (subst (λ m. AllByRecursion (λ k. k < m) b) here low, tt)
  where
    here : n + 0 ≡ n
    here = omega arith
lower_push n (x ∷ bs) b h low = (h.0, lower_push (suc n) bs b h.1 (subst (λ m. AllByRecursion (λ k. k < m) b) there low))
  where
    there : n + length (x ∷ bs) ≡ suc n + length bs
    there = omega arith
