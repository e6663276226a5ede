-- The least of some numbers, kept in a tree.
use Rattle.std.proofs.Common.{◌≡◌, ℕ, zero, suc, ◌+◌, ◌*◌, ◌-◌, ◌/◌, ◌<◌, ◌≤◌, ◌≢◌, ◌⊎◌, List, [], ◌∷◌, length, set, drop, min, refl, sym, ap, ap₂, ◌∙◌, subst, inl, inr, arith, length-set, length-drop, get_or-drop}
use Rattle.std.specs.Prelude.{slice_index, slice_set}
use Rattle.std.proofs.lemmas.Bool.{cases_lt, cases_eq}
use Rattle.std.proofs.lemmas.List.{get_or-set_same, get_or-set_other, drop-set-lt, drop-set-add}
use Rattle.smk_core.specs.declared.place.TheConstants.{NONE}
use Rattle.smk_core.specs.Lines.{least, IsLesser, IsTree}

-- what the loop keeps that puts the lesser of two into each node above a place
pub record IsLifting (places at number : ℕ) (old nodes : List ℕ) (node : ℕ) : Type 0 where
  pub sized : length nodes ≡ places + places
  pub inside : node < places + places
  pub leaves : drop places nodes ≡ slice_set (drop places old) at number
  pub lesser : (k : ℕ) → 1 ≤ k → k < places → k ≢ node / 2 → IsLesser nodes k

-- ## Halves

half_of_double : (k m : ℕ) → 2 * k ≡ m → k ≡ m / 2
half_of_double k m e = omega arith

half_of_next : (k m : ℕ) → 2 * k + 1 ≡ m → k ≡ m / 2
half_of_next k m e = omega arith

half_below : (m n : ℕ) → m < n + n → m / 2 < n
half_below m n h = omega arith

half_above : (m : ℕ) → 1 < m → 1 ≤ m / 2
half_above m h = omega arith

half_small : (m : ℕ) → m ≤ 1 → m / 2 ≡ 0
half_small m h = omega arith

-- ## Putting a number

kept_lesser : (nodes : List ℕ) (i v k : ℕ) → k ≢ i → 2 * k ≢ i → 2 * k + 1 ≢ i → IsLesser nodes k → IsLesser (set nodes i v) k
kept_lesser nodes i v k here left right h =
    get_or-set_other nodes i k v 0 here ∙ h ∙ sym (ap₂ min (get_or-set_other nodes i (2 * k) v 0 left) (get_or-set_other nodes i (2 * k + 1) v 0 right))

made_lesser : (nodes : List ℕ) (k v : ℕ) → 1 ≤ k → k < length nodes → v ≡ min (slice_index nodes (2 * k)) (slice_index nodes (2 * k + 1)) → IsLesser (set nodes k v) k
made_lesser nodes k v one inside e =
    let left : 2 * k ≢ k = λ d. omega arith in
    let right : 2 * k + 1 ≢ k = λ d. omega arith in
    get_or-set_same nodes k v 0 inside ∙ e ∙ sym (ap₂ min (get_or-set_other nodes k (2 * k) v 0 left) (get_or-set_other nodes k (2 * k + 1) v 0 right))

pub begun_lifting : (places at number : ℕ) (old : List ℕ) → at < places → IsTree places old → IsLifting places at number old (set old (places + at) number) (places + at)
begun_lifting places at number old lt h = record {
  sized = length-set old (places + at) number ∙ h.sized;
  inside = omega arith;
  leaves = drop-set-add places old at number;
  lesser = λ k one below other.
      kept_lesser old (places + at) number k (λ e. omega arith) (λ e. other (half_of_double k (places + at) e)) (λ e. other (half_of_next k (places + at) e)) (h.lesser k one below);
}

module _ (places at number : ℕ) (old nodes : List ℕ) (node v : ℕ) (h : IsLifting places at number old nodes node) (more : 1 < node) (e : v ≡ min (slice_index nodes (2 * (node / 2))) (slice_index nodes (2 * (node / 2) + 1))) where
  lifted_lesser : (k : ℕ) → 1 ≤ k → k < places → k ≢ node / 2 / 2 → (k ≡ node / 2) ⊎ (k ≢ node / 2) → IsLesser (set nodes (node / 2) v) k
  lifted_lesser k one below other (inl same) =
      subst (λ (n : ℕ). IsLesser (set nodes (node / 2) v) n) (sym same)
      (made_lesser nodes (node / 2) v (half_above node more) (subst (λ (n : ℕ). node / 2 < n) (sym h.sized) (let b : node / 2 < places = half_below node places h.inside in omega arith)) e)
  lifted_lesser k one below other (inr apart) =
      kept_lesser nodes (node / 2) v k apart (λ d. other (half_of_double k (node / 2) d)) (λ d. other (half_of_next k (node / 2) d)) (h.lesser k one below apart)

pub lifted : (places at number : ℕ) (old nodes : List ℕ) (node v : ℕ) → IsLifting places at number old nodes node → 1 < node
    → v ≡ min (slice_index nodes (2 * (node / 2))) (slice_index nodes (2 * (node / 2) + 1)) → IsLifting places at number old (set nodes (node / 2) v) (node / 2)
lifted places at number old nodes node v h more e = record {
  sized = length-set nodes (node / 2) v ∙ h.sized;
  inside = let b : node / 2 < places = half_below node places h.inside in omega arith;
  leaves = drop-set-lt places nodes (node / 2) v (half_below node places h.inside) ∙ h.leaves;
  lesser = λ k one below other. lifted_lesser places at number old nodes node v h more e k one below other (cases_eq k (node / 2));
}

pub lifted_all : (places at number : ℕ) (old nodes : List ℕ) (node : ℕ) → IsLifting places at number old nodes node → node ≤ 1 → IsTree places nodes
lifted_all places at number old nodes node h top = record {
  sized = h.sized;
  lesser = λ k one below. h.lesser k one below (λ e. let z : node / 2 ≡ 0 = half_small node top in omega arith);
}

-- ## The least

min_left : (a b x : ℕ) → x ≡ min a b → x ≤ a
min_left a b x e = omega arith

min_right : (a b x : ℕ) → x ≡ min a b → x ≤ b
min_right a b x e = omega arith

min_is : (a b : ℕ) → (min a b ≡ a) ⊎ (min a b ≡ b)
min_is a b = go (cases_lt a b)
  where
    go : (a < b) ⊎ (b ≤ a) → (min a b ≡ a) ⊎ (min a b ≡ b)
    go (inl h) = inl (omega arith)
    go (inr h) = inr (omega arith)

double_or_next : (k : ℕ) → (k ≡ 2 * (k / 2)) ⊎ (k ≡ 2 * (k / 2) + 1)
double_or_next k = go (cases_eq k (2 * (k / 2)))
  where
    go : (k ≡ 2 * (k / 2)) ⊎ (k ≢ 2 * (k / 2)) → (k ≡ 2 * (k / 2)) ⊎ (k ≡ 2 * (k / 2) + 1)
    go (inl e) = inl e
    go (inr n) = inr (omega arith)

one_or_more : (k : ℕ) → 1 ≤ k → (k ≡ 1) ⊎ (1 < k)
one_or_more k h = go (cases_lt 1 k)
  where
    go : (1 < k) ⊎ (k ≤ 1) → (k ≡ 1) ⊎ (1 < k)
    go (inl lt) = inr lt
    go (inr le) = inl (omega arith)

at_equal : (nodes : List ℕ) (j k x : ℕ) → k ≡ j → x ≤ slice_index nodes j → x ≤ slice_index nodes k
at_equal nodes j k x e h = subst (λ (n : ℕ). x ≤ slice_index nodes n) (sym e) h

module _ (places : ℕ) (nodes : List ℕ) (tree : IsTree places nodes) where
  -- a node is no greater than those right below it
  above : (k : ℕ) → 1 < k → k < places + places → slice_index nodes (k / 2) ≤ slice_index nodes k
  above k more inside = go (double_or_next k)
    where
      e : IsLesser nodes (k / 2)
      e = tree.lesser (k / 2) (half_above k more) (half_below k places inside)

      go : (k ≡ 2 * (k / 2)) ⊎ (k ≡ 2 * (k / 2) + 1) → slice_index nodes (k / 2) ≤ slice_index nodes k
      go (inl d) = at_equal nodes (2 * (k / 2)) k (slice_index nodes (k / 2)) d (min_left (slice_index nodes (2 * (k / 2))) (slice_index nodes (2 * (k / 2) + 1)) (slice_index nodes (k / 2)) e)
      go (inr d) = at_equal nodes (2 * (k / 2) + 1) k (slice_index nodes (k / 2)) d (min_right (slice_index nodes (2 * (k / 2))) (slice_index nodes (2 * (k / 2) + 1)) (slice_index nodes (k / 2)) e)

  -- so the top is no greater than any
  top_step : (fuel k : ℕ) → ((m : ℕ) → m ≤ fuel → 1 ≤ m → m < places + places → slice_index nodes 1 ≤ slice_index nodes m) → k ≤ suc fuel → 1 ≤ k → k < places + places → (k ≡ 1) ⊎ (1 < k)
      → slice_index nodes 1 ≤ slice_index nodes k
  top_step fuel k below le one inside (inl e) = at_equal nodes 1 k (slice_index nodes 1) e (omega arith)
  top_step fuel k below le one inside (inr more) =
      let here : slice_index nodes 1 ≤ slice_index nodes (k / 2) = below (k / 2) (omega arith) (half_above k more) (omega arith) in
      let there : slice_index nodes (k / 2) ≤ slice_index nodes k = above k more inside in
      omega arith

  top_below : (fuel k : ℕ) → k ≤ fuel → 1 ≤ k → k < places + places → slice_index nodes 1 ≤ slice_index nodes k
  top_below zero k le one inside = absurd (omega arith)
  top_below (suc fuel) k le one inside = top_step fuel k (top_below fuel) le one inside (one_or_more k one)

  -- and each node's number stands at a place
  abbrev Reached : ℕ → Type 0
  Reached x = (l : ℕ) × (places ≤ l) × (l < places + places) × (slice_index nodes l ≡ x)

  abbrev Reaches : ℕ → Type 0
  Reaches fuel = (k : ℕ) → places + places ≤ k + fuel → 1 ≤ k → k < places + places → Reached (slice_index nodes k)

  reached_below : (fuel k : ℕ) → Reaches fuel → places + places ≤ k + suc fuel → 1 ≤ k → k < places
      → (min (slice_index nodes (2 * k)) (slice_index nodes (2 * k + 1)) ≡ slice_index nodes (2 * k)) ⊎ (min (slice_index nodes (2 * k)) (slice_index nodes (2 * k + 1)) ≡ slice_index nodes (2 * k + 1))
      → Reached (slice_index nodes k)
  reached_below fuel k more much one node (inl e) =
      let r : Reached (slice_index nodes (2 * k)) = more (2 * k) (omega arith) (omega arith) (omega arith) in
      (r.0, r.1, r.2, r.3 ∙ sym e ∙ sym (tree.lesser k one node))
  reached_below fuel k more much one node (inr e) =
      let r : Reached (slice_index nodes (2 * k + 1)) = more (2 * k + 1) (omega arith) (omega arith) (omega arith) in
      (r.0, r.1, r.2, r.3 ∙ sym e ∙ sym (tree.lesser k one node))

  reached_last : (k : ℕ) → places + places ≤ k + 0 → (k < places) ⊎ (places ≤ k) → 1 ≤ k → k < places + places → Reached (slice_index nodes k)
  reached_last k much (inr leaf) one inside = (k, leaf, inside, refl)
  reached_last k much (inl node) one inside = absurd (omega arith)

  reached_more : (fuel k : ℕ) → Reaches fuel → places + places ≤ k + suc fuel → (k < places) ⊎ (places ≤ k) → 1 ≤ k → k < places + places → Reached (slice_index nodes k)
  reached_more fuel k more much (inr leaf) one inside = (k, leaf, inside, refl)
  reached_more fuel k more much (inl node) one inside = reached_below fuel k more much one node (min_is (slice_index nodes (2 * k)) (slice_index nodes (2 * k + 1)))

  reached : (fuel : ℕ) → Reaches fuel
  reached zero k much one inside = reached_last k much (cases_lt k places) one inside
  reached (suc fuel) k much one inside = reached_more fuel k (reached fuel) much (cases_lt k places) one inside

-- ## The least of a list

pub least_below : (xs : List ℕ) (i : ℕ) → i < length xs → least xs ≤ slice_index xs i
least_below [] i lt = absurd (omega arith)
least_below (x ∷ xs) zero lt = min_left x (least xs) (min x (least xs)) refl
least_below (x ∷ xs) (suc i) lt =
    let here : least xs ≤ slice_index xs i = least_below xs i (omega arith) in
    let there : min x (least xs) ≤ least xs = min_right x (least xs) (min x (least xs)) refl in
    omega arith

least_above : (xs : List ℕ) (m : ℕ) → m ≤ NONE → ((i : ℕ) → i < length xs → m ≤ slice_index xs i) → m ≤ least xs
least_above [] m few h = few
least_above (x ∷ xs) m few h =
    let here : m ≤ x = h 0 (omega arith) in
    let there : m ≤ least xs = least_above xs m few (λ i lt. h (suc i) (omega arith)) in
    let small : m ≤ min x (least xs) = omega arith in
    small

-- a number of the list that is no greater than any is the least
pub least_is : (xs : List ℕ) (m i : ℕ) → m ≤ NONE → i < length xs → slice_index xs i ≡ m → ((k : ℕ) → k < length xs → m ≤ slice_index xs k) → m ≡ least xs
least_is xs m i few lt e h =
    let one : least xs ≤ slice_index xs i = least_below xs i lt in
    let other : m ≤ least xs = least_above xs m few h in
    omega arith

abbrev HasLeast : List ℕ → Type 0
HasLeast xs = (i : ℕ) × (i < length xs) × (slice_index xs i ≡ least xs)

least_in_by : (x : ℕ) (xs : List ℕ) → (least xs < NONE → HasLeast xs) → min x (least xs) < NONE → (min x (least xs) ≡ x) ⊎ (min x (least xs) ≡ least xs)
    → (i : ℕ) × (i < suc (length xs)) × (slice_index (x ∷ xs) i ≡ min x (least xs))
least_in_by x xs more h (inl e) = (0, omega arith, sym e)
least_in_by x xs more h (inr e) =
    let r : HasLeast xs = more (subst (λ (n : ℕ). n < NONE) e h) in
    (suc r.0, (let b : r.0 < length xs = r.1 in omega arith), r.2 ∙ sym e)

-- the least is in the list, where there is a number at all
pub least_in : (xs : List ℕ) → least xs < NONE → (i : ℕ) × (i < length xs) × (slice_index xs i ≡ least xs)
least_in [] h = absurd (omega arith)
least_in (x ∷ xs) h = least_in_by x xs (least_in xs) h (min_is x (least xs))

-- ## The top of a tree

pub top_least : (places : ℕ) (nodes : List ℕ) → IsTree places nodes → 0 < places → slice_index nodes 1 ≤ NONE → slice_index nodes 1 ≡ least (drop places nodes)
top_least places nodes tree some few =
    let r : Reached places nodes tree (slice_index nodes 1) = reached places nodes tree (places + places) 1 (omega arith) (omega arith) (omega arith) in
    let low : places ≤ r.0 = r.1 in
    let high : r.0 < places + places = r.2 in
    let size : length (drop places nodes) ≡ places = length-drop places nodes ∙ ap (λ (n : ℕ). n - places) tree.sized ∙ less_one places in
    least_is (drop places nodes) (slice_index nodes 1) (r.0 - places) few (omega arith)
    (get_or-drop places nodes (r.0 - places) 0 ∙ ap (slice_index nodes) (back places r.0 low) ∙ r.3)
    (λ k lt. subst (λ (x : ℕ). slice_index nodes 1 ≤ x) (sym (get_or-drop places nodes k 0)) (top_below places nodes tree (places + k) (places + k) (omega arith) (omega arith) (omega arith)))
  where
    less_one : (n : ℕ) → (n + n) - n ≡ n
    less_one n = omega arith

    back : (n m : ℕ) → n ≤ m → n + (m - n) ≡ m
    back n m h = omega arith

-- a tree without places
pub least_none : (nodes : List ℕ) → IsTree 0 nodes → NONE ≡ least (drop 0 nodes)
least_none [] tree = refl
least_none (x ∷ nodes) tree = absurd (let e : suc (length nodes) ≡ 0 + 0 = tree.sized in omega arith)
