-- Where no two spots clash, the outputs and logs of each job lie apart.
use Rattle.std.proofs.Common.{◌≡◌, ◌∙◌, Bool, true, false, cond, not, ◌||◌, List, [], ◌∷◌, ◌++◌, map, filter, refl, ap, ap₂, subst, append_assoc}
use Rattle.std.specs.List.{flat_map, list_any}
use Rattle.std.proofs.lemmas.List.{map-append}
use Rattle.std.proofs.lemmas.Bool.{or_from, or_parts}
use Rattle.std.proofs.Math.Bool.{or_comm}
use Rattle.smk_base.specs.Path.{overlaps, is_under}
use Rattle.smk_base.proofs.Places.{and_first, and_second, same_flipped}
use Rattle.smk_base.proofs.Under.{both_true, false_of_not}
use Rattle.smk_world.specs.Trees.{Path, Each}
use Rattle.smk_world.specs.World.{out_paths, owned_paths}
use Rattle.smk_world.specs.Calls.{are_apart}
use Rattle.smk_flow.specs.declared.job.Job.{Job}
use Rattle.smk_store.specs.Stores.{Known}
use Rattle.smk_chain.specs.Derive.{Clash, spots}
use Rattle.smk_chain_derive.specs.Clashes.{spot_paths, paths_in, hinders_in, clashes_in}
use Rattle.smk_chain_derive.proofs.Lists.{map_nil}
use Rattle.smk_chain_walk.proofs.Depths.{front_nil, back_nil}

abbrev Spot : Type 0
Spot = Path × Bool

overlaps_turned : (p q : Path) → overlaps p q ≡ overlaps q p
overlaps_turned p q = ap₂ ◌||◌ (same_flipped p q) (or_comm (is_under p q) (is_under q p))

none_at : (test : Path → Bool) (before : List Path) (p : Path) (after : List Path) → filter test (before ++ p ∷ after) ≡ [] → test p ≡ false
none_at test [] p after h = go (test p) h
  where
    go : (b : Bool) → cond b (p ∷ filter test after) (filter test after) ≡ [] → b ≡ false
    go true e = absurd cc
    go false e = refl
none_at test (x ∷ before) p after h = go (test x) (none_at test before p after) h
  where
    go : (b : Bool) → (filter test (before ++ p ∷ after) ≡ [] → test p ≡ false) → cond b (x ∷ filter test (before ++ p ∷ after)) (filter test (before ++ p ∷ after)) ≡ [] → test p ≡ false
    go true more e = absurd cc
    go false more e = more e

none_earlier : (store : List Known) (earlier : List Path) (s : Spot) (rest : List Spot) → clashes_in store earlier (s ∷ rest) ≡ [] → filter (overlaps s.0) earlier ≡ []
none_earlier store earlier s rest h =
    front_nil (filter (overlaps s.0) earlier) (filter (hinders_in store s) (paths_in store))
    (map_nil (Clash s.0) (filter (overlaps s.0) earlier ++ filter (hinders_in store s) (paths_in store))
    (front_nil (map (Clash s.0) (filter (overlaps s.0) earlier ++ filter (hinders_in store s) (paths_in store))) (clashes_in store (earlier ++ s.0 ∷ []) rest) h))

none_later : (store : List Known) (earlier : List Path) (s : Spot) (rest : List Spot) → clashes_in store earlier (s ∷ rest) ≡ [] → clashes_in store (earlier ++ s.0 ∷ []) rest ≡ []
none_later store earlier s rest h =
    back_nil (map (Clash s.0) (filter (overlaps s.0) earlier ++ filter (hinders_in store s) (paths_in store))) (clashes_in store (earlier ++ s.0 ∷ []) rest) h

-- an earlier path overlaps no spot
misses : (store : List Known) (before : List Path) (p : Path) (after : List Path) (ss : List Spot) → clashes_in store (before ++ p ∷ after) ss ≡ [] → list_any (overlaps p) (spot_paths ss) ≡ false
misses store before p after [] h = refl
misses store before p after (s ∷ ss) h =
    or_from (overlaps p s.0) (list_any (overlaps p) (spot_paths ss))
    (overlaps_turned p s.0 ∙ none_at (overlaps s.0) before p after (none_earlier store (before ++ p ∷ after) s ss h))
    (misses store before p (after ++ s.0 ∷ []) ss
    (subst (λ (e : List Path). clashes_in store e ss ≡ []) (append_assoc before (p ∷ after) (s.0 ∷ [])) (none_later store (before ++ p ∷ after) s ss h)))

spots_apart : (store : List Known) (earlier : List Path) (ss : List Spot) → clashes_in store earlier ss ≡ [] → are_apart (spot_paths ss) ≡ true
spots_apart store earlier [] h = refl
spots_apart store earlier (s ∷ ss) h =
    let later = none_later store earlier s ss h in
    both_true (not (list_any (overlaps s.0) (spot_paths ss))) (are_apart (spot_paths ss)) (ap not (misses store earlier s.0 [] ss later)) (spots_apart store (earlier ++ s.0 ∷ []) ss later)

any_front : (test : Path → Bool) (xs ys : List Path) → list_any test (xs ++ ys) ≡ false → list_any test xs ≡ false
any_front test [] ys h = refl
any_front test (x ∷ xs) ys h =
    or_from (test x) (list_any test xs) (or_parts (test x) (list_any test (xs ++ ys)) h).0 (any_front test xs ys (or_parts (test x) (list_any test (xs ++ ys)) h).1)

front_apart : (xs ys : List Path) → are_apart (xs ++ ys) ≡ true → are_apart xs ≡ true
front_apart [] ys h = refl
front_apart (x ∷ xs) ys h =
    let one = and_first (not (list_any (overlaps x) (xs ++ ys))) (are_apart (xs ++ ys)) h in
    both_true (not (list_any (overlaps x) xs)) (are_apart xs) (ap not (any_front (overlaps x) xs ys (false_of_not (list_any (overlaps x) (xs ++ ys)) one)))
    (front_apart xs ys (and_second (not (list_any (overlaps x) (xs ++ ys))) (are_apart (xs ++ ys)) h))

back_apart : (xs ys : List Path) → are_apart (xs ++ ys) ≡ true → are_apart ys ≡ true
back_apart [] ys h = h
back_apart (x ∷ xs) ys h = back_apart xs ys (and_second (not (list_any (overlaps x) (xs ++ ys))) (are_apart (xs ++ ys)) h)

marked : (b : Bool) (ps : List Path) → spot_paths (map (λ p. (p, b)) ps) ≡ ps
marked b [] = refl
marked b (p ∷ ps) = ap (λ qs. p ∷ qs) (marked b ps)

own_paths : (j : Job) → spot_paths (spots j) ≡ owned_paths j.recipe j.logs
own_paths j =
    map-append (λ (s : Spot). s.0) (map (λ p. (p, true)) (out_paths j.recipe)) (map (λ p. (p, false)) j.logs)
    ∙ ap₂ ◌++◌ (marked true (out_paths j.recipe)) (marked false j.logs)

all_apart : (js : List Job) → are_apart (spot_paths (flat_map spots js)) ≡ true → Each (λ (j : Job). are_apart (owned_paths j.recipe j.logs) ≡ true) js
all_apart [] h = tt
all_apart (j ∷ js) h =
    let cut = subst (λ (ps : List Path). are_apart ps ≡ true) (map-append (λ (s : Spot). s.0) (spots j) (flat_map spots js)) h in (
      subst (λ (ps : List Path). are_apart ps ≡ true) (own_paths j) (front_apart (spot_paths (spots j)) (spot_paths (flat_map spots js)) cut),
      all_apart js (back_apart (spot_paths (spots j)) (spot_paths (flat_map spots js)) cut),
    )

-- the outputs and logs of each of these jobs lie apart
pub jobs_apart : (store : List Known) (js : List Job) → clashes_in store [] (flat_map spots js) ≡ [] → Each (λ (j : Job). are_apart (owned_paths j.recipe j.logs) ≡ true) js
jobs_apart store js h = all_apart js (spots_apart store [] (flat_map spots js) h)
