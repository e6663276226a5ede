-- Lists of equal rows, one element after another.
use Rattle.std.proofs.Common.{◌≡◌, ◌<◌, ℕ, ◌+◌, true, length, List, ◌∷◌, drop, get_or, zip, sym, ap, ◌∙◌}
use Rattle.std.specs.Prelude.{nat_lt}
use Rattle.std.proofs.lemmas.Bool.{ltb-true}
use Rattle.std.proofs.lemmas.List.{drop_more}

-- of the first list it is known that there is one more
list_more : {A : Type 0} (xs : List A) (i : ℕ) (x : A) → i < length xs → x ≡ get_or xs i x → drop i xs ≡ x ∷ drop (i + 1) xs
list_more xs i x h e = drop_more xs i x h ∙ ap (λ y. y ∷ drop (i + 1) xs) (sym e)

-- of the second one it was asked
found_more : {A : Type 0} (xs : List A) (i : ℕ) (x : A) → true ≡ nat_lt i (length xs) → x ≡ get_or xs i x → drop i xs ≡ x ∷ drop (i + 1) xs
found_more xs i x h e = list_more xs i x (ltb-true i (length xs) (sym h)) e

pub zip_more :
    {A B : Type 0} (xs : List A) (ys : List B) (i : ℕ) (x : A) (y : B) → i < length xs → x ≡ get_or xs i x → true ≡ nat_lt i (length ys) → y ≡ get_or ys i y →
    zip (drop i xs) (drop i ys) ≡ (x, y) ∷ zip (drop (i + 1) xs) (drop (i + 1) ys)
zip_more xs ys i x y h e k f = λ n. zip (list_more xs i x h e n) (found_more ys i y k f n)

pub zip_thrice :
    {A B C : Type 0} (xs : List A) (ys : List B) (zs : List C) (i : ℕ) (x : A) (y : B) (z : C) →
    i < length xs → x ≡ get_or xs i x → true ≡ nat_lt i (length ys) → y ≡ get_or ys i y → true ≡ nat_lt i (length zs) → z ≡ get_or zs i z →
    zip (drop i xs) (zip (drop i ys) (drop i zs)) ≡ (x, (y, z)) ∷ zip (drop (i + 1) xs) (zip (drop (i + 1) ys) (drop (i + 1) zs))
zip_thrice xs ys zs i x y z h e k f l g = λ n. zip (list_more xs i x h e n) (zip (found_more ys i y k f n) (found_more zs i z l g n))
