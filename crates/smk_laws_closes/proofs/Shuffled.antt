-- From two lists of asks with the same elements one that is in both may be taken away.
use Rattle.std.proofs.Common.{◌≡◌, ℕ, ◌+◌, Bool, true, false, ◌&&◌, List, [], ◌∷◌, ◌++◌, refl, arith, sym, ap, subst, ◌∙◌, bytes_eq, nat_eq, eqb-true, eq-eqb, true≢false}
use Rattle.std.specs.Prelude.{if◌then◌else◌, sum_by}
use Rattle.std.specs.List.Sorted.{IsPermutation}
use Rattle.std.proofs.lemmas.List.Sorted.{IsPermutation-cons, IsPermutation-middle, IsPermutation-refl, IsPermutation-sym, IsPermutation-trans, sum_by-IsPermutation}
use Rattle.std.proofs.lemmas.List.Sums.{sum_by-append, sum_by-cons}
use Rattle.smk_base.specs.declared.tree.Amount.{Amount}
use Rattle.smk_base.proofs.Places.{and_first, and_second, place_itself, same_place}
use Rattle.smk_base.proofs.Under.{both_true}
use Rattle.smk_pick.specs.declared.room.Ask.{Ask}

-- ## Equal asks

abbrev same_amount : Amount → Amount → Bool
same_amount a b = bytes_eq a.name b.name && nat_eq a.count b.count

abbrev same_amounts : List Amount → List Amount → Bool
same_amounts [] [] = true
same_amounts [] (b ∷ bs) = false
same_amounts (a ∷ as1) [] = false
same_amounts (a ∷ as1) (b ∷ bs) = same_amount a b && same_amounts as1 bs

abbrev same_ask : Ask → Ask → Bool
same_ask a b = nat_eq a.threads b.threads && (nat_eq a.priority b.priority && same_amounts a.amounts b.amounts)

number_itself : (n : ℕ) → nat_eq n n ≡ true
number_itself n = eq-eqb n n refl

amounts_itself : (xs : List Amount) → same_amounts xs xs ≡ true
amounts_itself [] = refl
amounts_itself (x ∷ xs) =
    both_true (same_amount x x) (same_amounts xs xs) (both_true (bytes_eq x.name x.name) (nat_eq x.count x.count) (place_itself x.name) (number_itself x.count))
    (amounts_itself xs)

ask_itself : (a : Ask) → same_ask a a ≡ true
ask_itself a =
    both_true (nat_eq a.threads a.threads) _ (number_itself a.threads)
    (both_true (nat_eq a.priority a.priority) _ (number_itself a.priority) (amounts_itself a.amounts))

amount_same : (a b : Amount) → same_amount a b ≡ true → a ≡ b
amount_same a b h =
    let name = same_place a.name b.name (and_first (bytes_eq a.name b.name) _ h) in
    let count = eqb-true a.count b.count (and_second (bytes_eq a.name b.name) _ h) in λ i. record { name = name i; count = count i }

amounts_same : (xs ys : List Amount) → same_amounts xs ys ≡ true → xs ≡ ys
amounts_same [] [] h = refl
amounts_same [] (y ∷ ys) h = absurd (true≢false (sym h))
amounts_same (x ∷ xs) [] h = absurd (true≢false (sym h))
amounts_same (x ∷ xs) (y ∷ ys) h =
    let one = amount_same x y (and_first (same_amount x y) _ h) in
    let rest = amounts_same xs ys (and_second (same_amount x y) _ h) in λ i. one i ∷ rest i

ask_same : (a b : Ask) → same_ask a b ≡ true → a ≡ b
ask_same a b h =
    let more = and_second (nat_eq a.threads b.threads) _ h in
    let threads = eqb-true a.threads b.threads (and_first (nat_eq a.threads b.threads) _ h) in
    let priority = eqb-true a.priority b.priority (and_first (nat_eq a.priority b.priority) _ more) in
    let amounts = amounts_same a.amounts b.amounts (and_second (nat_eq a.priority b.priority) _ more) in
    λ i. record { threads = threads i; amounts = amounts i; priority = priority i }

-- ## Counts

abbrev once : Ask → Ask → ℕ
once x y = if same_ask x y then 1 else 0

abbrev count : Ask → List Ask → ℕ
count x ys = sum_by (once x) ys

-- where it is once more
count_more : (x a : Ask) (xs ys : List Ask) → count x (xs ++ a ∷ ys) ≡ once x a + count x (xs ++ ys)
count_more x a xs ys =
    sum_by-append (once x) xs (a ∷ ys)
    ∙ swapped (count x xs) (once x a) (count x (a ∷ ys)) (count x ys) (count x (xs ++ ys)) (sum_by-cons (once x) a ys) (sum_by-append (once x) xs ys)
  where
    swapped : (m n k l t : ℕ) → k ≡ n + l → t ≡ m + l → m + k ≡ n + t
    swapped m n k l t h g = omega (arith, h, g)

count_itself : (x : Ask) (xs : List Ask) → count x (x ∷ xs) ≡ 1 + count x xs
count_itself x xs = sum_by-cons (once x) x xs ∙ ap (λ (b : Bool). (if b then 1 else 0) + count x xs) (ask_itself x)

none_here : (x y : Ask) (ys : List Ask) → same_ask x y ≡ false → count x ys ≡ 0 → count x (y ∷ ys) ≡ 0
none_here x y ys e h = sum_by-cons (once x) y ys ∙ (ap (λ (b : Bool). (if b then 1 else 0) + count x ys) e ∙ zeroes (count x ys) h)
  where
    zeroes : (n : ℕ) → n ≡ 0 → 0 + n ≡ 0
    zeroes n h = omega (arith, h)

abbrev IsThere : Ask → List Ask → Type 0
IsThere x ys = (front : List Ask) × (back : List Ask) × (ys ≡ front ++ x ∷ back)

found_by :
    (x y : Ask) (ys : List Ask) (b : Bool) → same_ask x y ≡ b → (count x (y ∷ ys) ≡ 0 → ⊥) → ((count x ys ≡ 0 → ⊥) → IsThere x ys) → IsThere x (y ∷ ys)
found_by x y ys true e some rest = ([], ys, ap (λ z. z ∷ ys) (sym (ask_same x y e)))
found_by x y ys false e some rest = let r = rest (λ h. some (none_here x y ys e h)) in (y ∷ r.0, r.1, ap (λ zs. y ∷ zs) r.2)

-- it is there
found : (x : Ask) (ys : List Ask) → (count x ys ≡ 0 → ⊥) → IsThere x ys
found x [] some = absurd (some refl)
found x (y ∷ ys) some = found_by x y ys (same_ask x y) refl some (found x ys)

by_counts : (xs ys : List Ask) → ((x : Ask) → count x xs ≡ count x ys) → IsPermutation xs ys
by_counts [] [] h = IsPermutation-refl []
by_counts [] (y ∷ ys) h = absurd (never (count y ys) (h y ∙ count_itself y ys))
  where
    never : (n : ℕ) → 0 ≡ 1 + n → ⊥
    never n e = omega (arith, e)
by_counts (x ∷ xs) ys h =
    let f = found x ys (λ none. some (count x xs) (sym (count_itself x xs) ∙ (h x ∙ none))) in
    let rest = by_counts xs (f.0 ++ f.1) (λ z. less (once z x) (count z xs) (count z (f.0 ++ f.1)) (sym (sum_by-cons (once z) x xs) ∙ (h z ∙ (ap (count z) f.2 ∙ count_more z x f.0 f.1)))) in
    subst (λ zs. IsPermutation (x ∷ xs) zs) (sym f.2)
    (IsPermutation-trans (x ∷ xs) (x ∷ (f.0 ++ f.1)) (f.0 ++ x ∷ f.1) (IsPermutation-cons x xs (f.0 ++ f.1) rest)
    (IsPermutation-sym (f.0 ++ x ∷ f.1) (x ∷ (f.0 ++ f.1)) (IsPermutation-middle f.0 x f.1)))
  where
    some : (n : ℕ) → 1 + n ≡ 0 → ⊥
    some n e = omega (arith, e)

    less : (m n k : ℕ) → m + n ≡ m + k → n ≡ k
    less m n k e = omega (arith, e)

pub one_less : (a : Ask) (ps qs xs ys : List Ask) → IsPermutation (ps ++ a ∷ qs) (xs ++ a ∷ ys) → IsPermutation (ps ++ qs) (xs ++ ys)
one_less a ps qs xs ys h =
    by_counts (ps ++ qs) (xs ++ ys)
    (λ z. less (once z a) (count z (ps ++ qs)) (count z (xs ++ ys))
    (sym (count_more z a ps qs) ∙ (sym (sum_by-IsPermutation (once z) (ps ++ a ∷ qs) (xs ++ a ∷ ys) h) ∙ count_more z a xs ys)))
  where
    less : (m n k : ℕ) → m + n ≡ m + k → n ≡ k
    less m n k e = omega (arith, e)
