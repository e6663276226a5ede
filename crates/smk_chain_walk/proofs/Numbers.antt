-- Numbers that are added one by one, each once.
use Rattle.std.proofs.Common.{◌≡◌, ◌∙◌, ℕ, suc, ◌<◌, eqb-true, Bool, true, false, cond, not, List, [], ◌∷◌, ◌++◌, filter, length, Option, Some, None, option_map, refl, sym, ap, append_assoc, append-nil, arith, true≢false}
use Rattle.std.specs.Prelude.{nat_eq, option_to_list}
use Rattle.std.specs.List.{list_any, filter_map, AllByRecursion}
use Rattle.smk_choose.proofs.Listed.{all_filter}
use Rattle.smk_flow.specs.Flows.{Candidate}
use Rattle.smk_choose.specs.declared.choice.Making.{Making}
use Rattle.smk_chain.specs.Derive.{distinct}
use Rattle.smk_chain_walk.specs.Numbers.{is_job, place_of}
use Rattle.smk_chain_walk.specs.Once.{one_added, all_once}
use Rattle.smk_chain_walk.proofs.Adding.{any_push, filter_within, filter_both, filter_all, not_or}

abbrev holds_number : List ℕ → ℕ → Bool
holds_number ns k = list_any (λ d. nat_eq d k) ns

abbrev misses_number : List ℕ → ℕ → Bool
misses_number ns k = not (holds_number ns k)

once_is : (ns xs : List ℕ) → all_once ns xs ≡ ns ++ filter (misses_number ns) (distinct nat_eq xs)
once_is ns [] = sym (append-nil ns)
once_is ns (x ∷ xs) = go (λ ds. once_is ds xs) (holds_number ns x) refl
  where
    others : List ℕ
    others = filter (λ y. not (nat_eq x y)) (distinct nat_eq xs)

    go : ((ds : List ℕ) → all_once ds xs ≡ ds ++ filter (misses_number ds) (distinct nat_eq xs)) → (b : Bool) → holds_number ns x ≡ b →
        all_once (cond b ns (ns ++ x ∷ [])) xs ≡ ns ++ cond (not b) (x ∷ filter (misses_number ns) others) (filter (misses_number ns) others)
    go more true e = more ns ∙ ap (λ ys. ns ++ ys) (sym (filter_within (misses_number ns) (λ y. not (nat_eq x y)) (λ y h. ap not (there y h)) (distinct nat_eq xs)))
      where
        there : (y : ℕ) → not (nat_eq x y) ≡ false → holds_number ns y ≡ true
        there y h = ap (holds_number ns) (sym (eqb-true x y (twice (nat_eq x y) h))) ∙ e
          where
            twice : (b : Bool) → not b ≡ false → b ≡ true
            twice true h = refl
            twice false h = absurd (true≢false h)
    go more false e =
        more (ns ++ x ∷ [])
        ∙ append_assoc ns (x ∷ []) (filter (misses_number (ns ++ x ∷ [])) (distinct nat_eq xs))
        ∙ ap (λ ys. ns ++ x ∷ ys) (sym (filter_both (misses_number ns) (λ y. not (nat_eq x y)) (misses_number (ns ++ x ∷ []))
        (λ y. ap not (any_push (λ d. nat_eq d y) ns x) ∙ not_or (holds_number ns y) (nat_eq x y)) (distinct nat_eq xs)))

-- adding one by one to nothing gives each once
pub numbers_once : (xs : List ℕ) → all_once [] xs ≡ distinct nat_eq xs
numbers_once xs = once_is [] xs ∙ filter_all (misses_number []) (λ y. refl) (distinct nat_eq xs)

pub once_append : (ns xs ys : List ℕ) → all_once ns (xs ++ ys) ≡ all_once (all_once ns xs) ys
once_append ns [] ys = refl
once_append ns (x ∷ xs) ys = once_append (one_added ns x) xs ys

pub filter_push : {A B : Type 0} (f : A → Option B) (xs : List A) (x : A) → filter_map f (xs ++ x ∷ []) ≡ filter_map f xs ++ option_to_list (f x)
filter_push {A} {B} f [] x = go (f x)
  where
    go : (o : Option B) → Rattle.std.specs.List.cons_option o [] ≡ option_to_list o
    go None = refl
    go (Some b) = refl
filter_push {A} {B} f (y ∷ xs) x = go (f y) (filter_push f xs x)
  where
    go : (o : Option B) → filter_map f (xs ++ x ∷ []) ≡ filter_map f xs ++ option_to_list (f x) →
        Rattle.std.specs.List.cons_option o (filter_map f (xs ++ x ∷ [])) ≡ Rattle.std.specs.List.cons_option o (filter_map f xs) ++ option_to_list (f x)
    go None rest = rest
    go (Some b) rest = ap (λ bs. b ∷ bs) rest

pub all_distinct : {A : Type 0} (P : A → Type 0) (same : A → A → Bool) (xs : List A) → AllByRecursion P xs → AllByRecursion P (distinct same xs)
all_distinct P same [] h = tt
all_distinct P same (x ∷ xs) h = (h.0, all_filter P (λ y. not (same x y)) (distinct same xs) (all_distinct P same xs h.1))

pub place_low : (cs : List Candidate) (m : Making) (n : ℕ) → place_of cs m ≡ Some n → n < length cs
place_low [] m n e = absurd cc
place_low (c ∷ cs) m n e = go (is_job m c) (place_of cs m) refl (λ k p. place_low cs m k p) e
  where
    go : (b : Bool) (o : Option ℕ) → place_of cs m ≡ o → ((k : ℕ) → place_of cs m ≡ Some k → k < length cs) → cond b (Some 0) (option_map suc o) ≡ Some n → n < length (c ∷ cs)
    go true o p rest e = let z : 0 ≡ n = cc in omega arith
    go false None p rest e = absurd cc
    go false (Some k) p rest e = let z : suc k ≡ n = cc in let l = rest k p in omega arith

all_found : {A : Type 0} (P : ℕ → Type 0) (f : A → Option ℕ) → ((x : A) (k : ℕ) → f x ≡ Some k → P k) → (xs : List A) → AllByRecursion P (filter_map f xs)
all_found P f h [] = tt
all_found P f h (x ∷ xs) = go (f x) refl (all_found P f h xs)
  where
    go : (o : Option ℕ) → f x ≡ o → AllByRecursion P (filter_map f xs) → AllByRecursion P (Rattle.std.specs.List.cons_option o (filter_map f xs))
    go None e rest = rest
    go (Some k) e rest = (h x k e, rest)

-- each of these numbers, each once, is one that is found
pub all_low : {A : Type 0} (P : ℕ → Type 0) (f : A → Option ℕ) → ((x : A) (k : ℕ) → f x ≡ Some k → P k) → (xs : List A) → AllByRecursion P (distinct nat_eq (filter_map f xs))
all_low P f h xs = all_distinct P nat_eq (filter_map f xs) (all_found P f h xs)

pub filter_same : {A B : Type 0} (f g : A → Option B) (xs : List A) → AllByRecursion (λ x. f x ≡ g x) xs → filter_map f xs ≡ filter_map g xs
filter_same f g [] h = refl
filter_same f g (x ∷ xs) h = ap (λ o. Rattle.std.specs.List.cons_option o (filter_map f xs)) h.0 ∙ ap (λ ys. Rattle.std.specs.List.cons_option (g x) ys) (filter_same f g xs h.1)
