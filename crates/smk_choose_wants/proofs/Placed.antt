-- Listings that are found by their places.
use Rattle.std.proofs.Common.{◌≡◌, ℕ, zero, suc, ◌+◌, Bool, true, false, cond, [], ◌∷◌, drop, Option, Some, slice_get, sym, ap, ◌∙◌, bytes_eq}
use Rattle.std.specs.List.{find}
use Rattle.smk_world.specs.Trees.{Path}
use Rattle.smk_chain.specs.declared.jobs.Known.{Known}
use Rattle.smk_chain.specs.Derive.{Listings}
use Rattle.smk_choose_wants.specs.Wants.{placed_in}

there : (lists : Listings) (n : ℕ) (k : Known) (more : Listings) → drop n lists ≡ k ∷ more → slice_get lists n ≡ Some k
there [] zero k more e = absurd (cc)
there [] (suc n) k more e = absurd (cc)
there (x ∷ lists) zero k more e = let same : x ≡ k = cc in ap Some same
there (x ∷ lists) (suc n) k more e = there lists n k more e

-- the listing at this place comes before the later ones
pub one_before : (lists : Listings) (n : ℕ) (k : Known) (q : Path) (old new : Option ℕ) → drop n lists ≡ k ∷ drop (n + 1) lists →
    new ≡ cond (bytes_eq k.folder q) (Some n) old → placed_in lists old ≡ find (λ (k : Known). bytes_eq k.folder q) (drop (n + 1) lists) →
    placed_in lists new ≡ find (λ (k : Known). bytes_eq k.folder q) (drop n lists)
one_before lists n k q old new e is h =
    ap (placed_in lists) is
    ∙ go (bytes_eq k.folder q)
    ∙ ap (λ (ks : Listings). find (λ (k : Known). bytes_eq k.folder q) ks) (sym e)
  where
    go : (b : Bool) → placed_in lists (cond b (Some n) old) ≡ cond b (Some k) (find (λ (k : Known). bytes_eq k.folder q) (drop (n + 1) lists))
    go true = there lists n k (drop (n + 1) lists) e
    go false = h
