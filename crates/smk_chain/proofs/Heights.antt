-- A height that is counted to n is at most n.
use Rattle.std.proofs.Common.{◌≡◌, ℕ, zero, suc, ◌+◌, ◌≤◌, max, eqb, false-eqb, zero-le, false, List, [], ◌∷◌, map, refl, arith, Some, None}
use Rattle.std.specs.List.{fold}
use Rattle.smk_world.specs.Trees.{Path}
use Rattle.smk_flow.specs.Flows.{Flow}
use Rattle.smk_choose.specs.Choose.{Sources, Choice, Source, Make, Nothing, Ambiguous, choose, maker}
use Rattle.smk_chain.specs.Derive.{Listings, wanted_paths, height}

pub fold_above : (xs : List ℕ) (a : ℕ) → a ≤ fold max a xs
fold_above [] a = omega arith
fold_above (x ∷ xs) a = let h = fold_above xs (max a x) in omega arith

fold_least : {A : Type 0} (f : A → ℕ) (n : ℕ) → ((x : A) → f x ≤ n) → (xs : List A) (a : ℕ) → a ≤ n → fold max a (map f xs) ≤ n
fold_least f n h [] a k = k
fold_least f n h (x ∷ xs) a k = fold_least f n h xs (max a (f x)) (let e = h x in omega arith)

pub below_top : (a n : ℕ) → a ≤ suc n → eqb a (suc n) ≡ false → a ≤ n
below_top a n h e = grind (arith, false-eqb)

module _ (flow : Flow) (sources : Sources) (L : Listings) where
  abbrev pub height_by : ℕ → Choice → ℕ
  height_by n ch =
      elim (maker ch) as (λ _. ℕ) [ None ↦ 0 | Some c ↦ 1 + fold max 0 (map (height flow sources L n) (wanted_paths flow L c)) ]

  pub height_within : (n : ℕ) (p : Path) → height flow sources L n p ≤ n
  height_within zero p = omega arith
  height_within (suc n) p = go (choose flow sources p) refl (height_within n)
    where
      go : (ch : Choice) → choose flow sources p ≡ ch → ((q : Path) → height flow sources L n q ≤ n) → height_by n ch ≤ suc n
      go Source e ih = omega arith
      go (Make c) e ih = let h = fold_least (height flow sources L n) n ih (wanted_paths flow L c) 0 (zero-le) in omega arith
      go (Nothing lack) e ih = omega arith
      go (Ambiguous a b) e ih = omega arith
