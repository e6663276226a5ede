-- Heights, and what is told of them.
use Rattle.std.proofs.Common.{◌≡◌, ℕ, zero, suc, ◌+◌, ◌<◌, ◌≤◌, ◌==◌, max, min, nat_lt, Bool, true, false, cond, List, [], ◌∷◌, ◌++◌, map, filter, Option, Some, None, option_map, bytes_eq, get_or, length, refl, sym, ap, ◌∙◌, arith, subst}
use Rattle.std.specs.List.{fold}
use Rattle.std.proofs.lemmas.Bool.Decides.{nat_tests}
use Rattle.std.proofs.lemmas.List.{append_assoc}
use Rattle.std.proofs.lemmas.Option.{same_Some}
use Rattle.smk_base.proofs.Places.{same_place}
use Rattle.smk_base.specs.Path.{is_path}
use Rattle.smk_world.specs.Trees.{Path}
use Rattle.smk_pattern.specs.Shapes.{Text}
use Rattle.smk_flow.specs.Flows.{Flow, Candidate, first_wants, declared_inputs, gathered_folders}
use Rattle.smk_choose.specs.Choose.{Sources, Choice, Make, choose, maker}
use Rattle.smk_chain.specs.Derive.{Listings, height, wanted_paths, gathered_files}
use Rattle.smk_chain.proofs.Heights.{height_within}
use Rattle.smk_chain_walk.specs.declared.kept.Heights.{Heights}
use Rattle.smk_choose_wants.specs.declared.wanted.Want.{Want}
use Rattle.smk_choose_wants.specs.declared.wanted.Want.TheVariants as want
use Rattle.smk_choose_wants.specs.Wants.{want_of}
use Rattle.smk_chain_walk.specs.Heights.{noted, path_of, paths_in, most, IsHeight, AreHeights, Tells, TellsMost}
use Rattle.smk_chain_walk.proofs.Tops.{top_both, top_within, top_above, top_min}

-- those of the wants that are paths
pub paths_told : (ts : List Text) → paths_in (map want_of ts) ≡ filter is_path ts
paths_told [] = refl
paths_told (t ∷ ts) = go (is_path t) (paths_told ts)
  where
    go : (b : Bool) → paths_in (map want_of ts) ≡ filter is_path ts →
        path_of (elim b as (λ _. Want) [ true ↦ want.Path t | false ↦ want.NoPath t ]) ++ paths_in (map want_of ts) ≡ cond b (t ∷ filter is_path ts) (filter is_path ts)
    go true e = ap (λ ps. t ∷ ps) e
    go false e = e

module _ (flow : Flow) (sources : Sources) (L : Listings) where
  abbrev height_by : ℕ → Option Candidate → ℕ
  height_by n o = elim o as (λ _. ℕ) [ None ↦ 0 | Some c ↦ 1 + fold max 0 (map (height flow sources L n) (wanted_paths flow L c)) ]

  -- a height that is counted to n is the lesser of n and what is counted further
  by_less : (n m : ℕ) → ((q : Path) → height flow sources L n q ≡ min n (height flow sources L m q)) → (o : Option Candidate) → height_by n o ≡ min (suc n) (height_by m o)
  by_less n m h None = omega arith
  by_less n m h (Some c) =
      let k = top_min (height flow sources L n) (height flow sources L m) n h (wanted_paths flow L c) in omega arith

  pub height_less : (n m : ℕ) (p : Path) → n ≤ m → height flow sources L n p ≡ min n (height flow sources L m p)
  height_less zero m p le = omega arith
  height_less (suc n) zero p le = absurd (omega (arith, le))
  height_less (suc n) (suc m) p le = by_less n m (λ q. height_less n m q (omega (arith, le))) (maker (choose flow sources p))

  most_within : (n : ℕ) (ps : List Path) → most (height flow sources L n) ps ≤ n
  most_within n ps = top_within (height flow sources L n) n (height_within flow sources L n) ps

  -- a height that is known tells whether it is less
  pub tells_below : (n : ℕ) (p : Path) (h : ℕ) → IsHeight flow sources L p h → Tells flow sources L n p (cond (nat_lt h n) (Some h) None)
  tells_below n p h is = go (nat_lt h n) refl
    where
      go : (b : Bool) → nat_lt h n ≡ b → Tells flow sources L n p (cond b (Some h) None)
      go true e = (grind (arith, e), is)
      go false e =
          let le : n ≤ h = grind (arith, e) in
          let far = is (suc h) (omega arith) in
          let less = height_less n (suc h) p (omega (arith, le)) in omega arith

  -- what no job makes has the height 0
  pub unmade : (p : Path) → maker (choose flow sources p) ≡ None → IsHeight flow sources L p 0
  unmade p none = λ m lt. at m lt
    where
      at : (m : ℕ) → 0 < m → height flow sources L m p ≡ 0
      at zero lt = absurd (omega (arith, lt))
      at (suc m) lt = ap (height_by m) none

  -- what a job makes is one higher than the highest that it wants
  pub made : (n : ℕ) (p : Path) (c : Candidate) (h : ℕ) → choose flow sources p ≡ Make c → TellsMost flow sources L n (wanted_paths flow L c) (Some h) →
      IsHeight flow sources L p (h + 1)
  made n p c h is tells = λ m lt. at m lt
    where
      at : (m : ℕ) → h + 1 < m → height flow sources L m p ≡ h + 1
      at zero lt = absurd (omega (arith, lt))
      at (suc m) lt =
          let e : height flow sources L (suc m) p ≡ 1 + most (height flow sources L m) (wanted_paths flow L c) = ap (λ (ch : Choice). height_by m (maker ch)) is in
          let k = tells.1 m (omega (arith, lt)) in omega arith

  pub made_deep : (n : ℕ) (p : Path) (c : Candidate) → choose flow sources p ≡ Make c → TellsMost flow sources L n (wanted_paths flow L c) None →
      Tells flow sources L (suc n) p None
  made_deep n p c is tells =
      let e : height flow sources L (suc n) p ≡ 1 + most (height flow sources L n) (wanted_paths flow L c) = ap (λ (ch : Choice). height_by n (maker ch)) is in
      omega (arith, e, tells)

  -- ## Several paths

  pub both_tell : (n : ℕ) (xs ys : List Path) (a : ℕ) (o : Option ℕ) → TellsMost flow sources L n xs (Some a) → TellsMost flow sources L n ys o →
      TellsMost flow sources L n (xs ++ ys) (option_map (max a) o)
  both_tell n xs ys a None s t =
      let e = top_both (height flow sources L n) xs ys in let k = most_within n xs in omega (arith, e, k, t)
  both_tell n xs ys a (Some b) s t = (
    let l : a ≤ n = s.0 in let r : b ≤ n = t.0 in omega (arith, l, r),
    λ m lt.
        let e = top_both (height flow sources L m) xs ys in
        let l = s.1 m (omega (arith, lt)) in let r = t.1 m (omega (arith, lt)) in omega (arith, e, l, r),
  )

  pub front_tells : (n : ℕ) (xs ys : List Path) → TellsMost flow sources L n xs None → TellsMost flow sources L n (xs ++ ys) None
  front_tells n xs ys t =
      let e = top_both (height flow sources L n) xs ys in let k = most_within n ys in omega (arith, e, k, t)

  pub none_tells : (n : ℕ) → TellsMost flow sources L n [] (Some 0)
  none_tells n = (omega arith, λ m lt. refl)

  -- one of them is as high as can be
  pub one_deep : (n : ℕ) (ps : List Path) (i : ℕ) (p : Path) → i < length ps → p ≡ get_or ps i p → Tells flow sources L n p None → TellsMost flow sources L n ps None
  one_deep n ps i p lt at t =
      let k = most_within n ps in let j = top_above (height flow sources L n) ps i p lt at in omega (arith, k, j, t)

  -- the highest so far of those that are gone through
  abbrev pub Reaches : List Path → List Path → ℕ → Type 0
  Reaches ps rest h = (m : ℕ) → h < m → most (height flow sources L m) ps ≡ fold max h (map (height flow sources L m) rest)

  pub one_more : (n : ℕ) (ps rest : List Path) (p : Path) (h k : ℕ) → Reaches ps (p ∷ rest) h → Tells flow sources L n p (Some k) → Reaches ps rest (max h k)
  one_more n ps rest p h k reaches t = λ m lt.
      reaches m (omega (arith, lt)) ∙ ap (λ (j : ℕ). fold max (max h j) (map (height flow sources L m) rest)) (t.1 m (omega (arith, lt)))

  -- ## What a job wants

  filter_both : (f : Text → Bool) (xs ys : List Text) → filter f (xs ++ ys) ≡ filter f xs ++ filter f ys
  filter_both f [] ys = refl
  filter_both f (x ∷ xs) ys = go (f x) (filter_both f xs ys)
    where
      go : (b : Bool) → filter f (xs ++ ys) ≡ filter f xs ++ filter f ys → cond b (x ∷ filter f (xs ++ ys)) (filter f (xs ++ ys)) ≡ cond b (x ∷ filter f xs) (filter f xs) ++ filter f ys
      go true e = ap (λ zs. x ∷ zs) e
      go false e = e

  pub wanted_are : (c : Candidate) → filter is_path (first_wants flow c) ++ filter is_path (gathered_files flow L c) ≡ wanted_paths flow L c
  wanted_are c =
      sym (filter_both is_path (first_wants flow c) (gathered_files flow L c))
      ∙ ap (filter is_path) (append_assoc (declared_inputs flow c) (gathered_folders flow c) (gathered_files flow L c))

  -- ## What is kept

  pub kept_more : (old new : Heights) (p : Path) (h : ℕ) → AreHeights flow sources L old → IsHeight flow sources L p h →
      ((q : Path) → noted new q ≡ cond (bytes_eq p q) (Some h) (noted old q)) → AreHeights flow sources L new
  kept_more old new p h known is e = λ q k at. go q k (bytes_eq p q) refl (sym (e q) ∙ at)
    where
      go : (q : Path) (k : ℕ) (b : Bool) → bytes_eq p q ≡ b → cond b (Some h) (noted old q) ≡ Some k → IsHeight flow sources L q k
      go q k true same at = subst (λ (x : Path). IsHeight flow sources L x k) (same_place p q same) (subst (λ (j : ℕ). IsHeight flow sources L p j) (same_Some h k at) is)
      go q k false same at = known q k at

  -- ## The targets

  pub is_deep : (p : Path) → Tells flow sources L 201 p None → true ≡ (height flow sources L 201 p == 201)
  is_deep p e = sym (ap (λ (k : ℕ). k == 201) e)

  pub is_flat : (p : Path) (h : ℕ) → Tells flow sources L 201 p (Some h) → false ≡ (height flow sources L 201 p == 201)
  is_flat p h t = unequal h (height flow sources L 201 p) t.0 (t.1 201 t.0)
    where
      unequal : (h k : ℕ) → h < 201 → k ≡ h → false ≡ (k == 201)
      unequal h k lt e = grind (arith, nat_tests)
