-- Values with numbers and names in them.
use native.Mathlib.Omega.{arith}
use Rattle.std.proofs.Common.{◌≡◌, ℕ, ◌≤◌, ◌<◌, ◌^◌, Bool, true, false, cond, not, ◌&&◌, ◌||◌, List, [], ◌∷◌, ◌++◌, map, Option, Some, None, refl, sym, ◌∙◌, ap, subst, decimal, bytes_eq, nat_le, ◌==◌, Result, Ok, Err, map-id}
use Rattle.std.specs.List.{list_all}
use Rattle.std.specs.Str.Parse.{digits_value, ParsesUnsigned, AllDigits}
use Rattle.std.proofs.lemmas.Bool.{eqb-true, leb-true, le-leb, cond-true, and_parts, and_from, or_left, true≢false, false≢true}
use Rattle.std.proofs.lemmas.Option.{none-some, same_Some, cond_some, some_pair_parts}
use Rattle.std.proofs.lemmas.Slice.Eq.{bytes_eq-Decides}
use Rattle.std.proofs.lemmas.Fmt.{decimal_is_IsNumeral, parse-decimal, digits_decimal}
use Rattle.std.proofs.lemmas.Str.Parse.{IsNumeralModel, numerals_by_value, tells_digits, not_in_digits}
use Rattle.smk_base.specs.Path.{is_path}
use Rattle.smk_base.specs.declared.tree.Amount.{Amount}
use Rattle.smk_base.specs.declared.tree.Pair.{Pair}
use Rattle.smk_words_reading.specs.Words.{Text}
use Rattle.smk_words_reading.specs.Reading.{split_at}
use Rattle.smk_words_reading.specs.Asks.{is_letter, is_digit, is_name, is_pair, pair_text, is_amount, amount_text, seed_size_text}
use Rattle.smk_words_reading.specs.Asking.{is_number, number_in, path_in, pair_of, pair_in, amount_named, amount_of, amount_in, both, seed_size_of, seed_size_in, cons_both, all_of}
use Rattle.smk_words_reading.proofs.Cuts.{lacks, lacks_each, cut_is, cut_at}

-- ## Numbers

pub number_spelled : (least most : ℕ) (word : Text) (n : ℕ) → number_in least most word ≡ Some n → (word ≡ decimal n) × (least ≤ n) × (n ≤ most)
number_spelled least most word n e =
    let found = cond_some (is_number least most word (digits_value 10 word)) (digits_value 10 word) n e in
    let good : is_number least most word n ≡ true = subst (λ d. is_number least most word d ≡ true) found.1 found.0 in
    let parts = and_parts (bytes_eq (decimal n) word) (nat_le least n && nat_le n most) good in
    let limits = and_parts (nat_le least n) (nat_le n most) parts.1 in
    (sym ((bytes_eq-Decides (decimal n) word).0 parts.0), leb-true least n limits.0, leb-true n most limits.1)

number_good : (least most n : ℕ) → least ≤ n → n ≤ most → is_number least most (decimal n) n ≡ true
number_good least most n low high =
    and_from (bytes_eq (decimal n) (decimal n)) (nat_le least n && nat_le n most) ((bytes_eq-Decides (decimal n) (decimal n)).1 refl)
    (and_from (nat_le least n) (nat_le n most) (le-leb least n low) (le-leb n most high))

pub number_read : (least most n : ℕ) → n < 2 ^ 64 → least ≤ n → n ≤ most → number_in least most (decimal n) ≡ Some n
number_read least most n small low high =
    subst (λ d. cond (is_number least most (decimal n) d) (Some d) None ≡ Some n) (sym (decimal_is_IsNumeral n small).1)
    (cond-true (is_number least most (decimal n) n) (Some n) None (number_good least most n low high))

ok_same : {E : Type 0} (m n : ℕ) → ◌≡◌ {A = Result ℕ E} (Ok m) (Ok n) → m ≡ n
ok_same m n e = cc

err_ok : {E : Type 0} (f : E) (n : ℕ) → ◌≡◌ {A = Result ℕ E} (Err f) (Ok n) → ⊥
err_ok f n e = cc

unparsed_step : {E : Type 0} (least most : ℕ) (word : Text) (f : E) (r : Result ℕ E) → most < 2 ^ 64 → ParsesUnsigned 64 10 word r → r ≡ Err f →
    (q : Option ℕ) → number_in least most word ≡ q → q ≡ None
unparsed_step least most word f r small h bad None e = refl
unparsed_step least most word f r small h bad (Some n) e =
    let is = number_spelled least most word n e in
    let below : n < 2 ^ 64 = omega (arith, is.2, small) in
    absurd (err_ok f n (sym bad ∙ parse-decimal 64 n word r below below is.0 h))

-- what isn't parsed is no number
pub unparsed : {E : Type 0} (least most : ℕ) (word : Text) (f : E) (r : Result ℕ E) → most < 2 ^ 64 → ParsesUnsigned 64 10 word r → r ≡ Err f →
    None ≡ number_in least most word
unparsed least most word f r small h bad = sym (unparsed_step least most word f r small h bad (number_in least most word) refl)

spelled_other_step : {E : Type 0} (least most : ℕ) (word : Text) (number : ℕ) (r : Result ℕ E) → most < 2 ^ 64 → ParsesUnsigned 64 10 word r → r ≡ Ok number →
    is_number least most word number ≡ false → (q : Option ℕ) → number_in least most word ≡ q → q ≡ None
spelled_other_step least most word number r small h ok bad None e = refl
spelled_other_step {E} least most word number r small h ok bad (Some n) e =
    let is = number_spelled least most word n e in
    let below : n < 2 ^ 64 = omega (arith, is.2, small) in
    let same : number ≡ n = ok_same {E = E} number n (sym ok ∙ parse-decimal 64 n word r below below is.0 h) in
    let good : is_number least most word n ≡ true = subst (λ (w : Text). is_number least most w n ≡ true) (sym is.0) (number_good least most n is.1 is.2) in
    absurd (false≢true (sym bad ∙ subst (λ d. is_number least most word d ≡ true) (sym same) good))

-- what is spelled in another manner, or is out of the limits, is no number
pub spelled_other : {E : Type 0} (least most : ℕ) (word : Text) (number : ℕ) (r : Result ℕ E) → most < 2 ^ 64 → ParsesUnsigned 64 10 word r → r ≡ Ok number →
    is_number least most word number ≡ false → None ≡ number_in least most word
spelled_other least most word number r small h ok bad =
    sym (spelled_other_step least most word number r small h ok bad (number_in least most word) refl)

pub spelled_so : (least most : ℕ) (word : Text) (number : ℕ) → most < 2 ^ 64 → is_number least most word number ≡ true → Some number ≡ number_in least most word
spelled_so least most word number small good =
    let parts = and_parts (bytes_eq (decimal number) word) (nat_le least number && nat_le number most) good in
    let limits = and_parts (nat_le least number) (nat_le number most) parts.1 in
    let is : decimal number ≡ word = (bytes_eq-Decides (decimal number) word).0 parts.0 in
    let high : number ≤ most = leb-true number most limits.1 in
    let below : number < 2 ^ 64 = omega (arith, high, small) in
    sym (subst (λ (w : Text). number_in least most w ≡ Some number) is
    (number_read least most number below (leb-true least number limits.0) high))

-- ## Names

no_sign_step : (c : ℕ) (x : Bool) → (c == 61) ≡ x → (is_letter c || is_digit c) ≡ true → not x ≡ true
no_sign_step c true e h = absurd (false≢true (subst (λ d. (is_letter d || is_digit d) ≡ true) (eqb-true c 61 e) h))
no_sign_step c false e h = refl

no_sign : (c : ℕ) → (is_letter c || is_digit c) ≡ true → not (c == 61) ≡ true
no_sign c h = no_sign_step c (c == 61) refl h

no_signs : (text : Text) → list_all (λ c. is_letter c || is_digit c) text ≡ true → lacks 61 text ≡ true
no_signs [] h = refl
no_signs (c ∷ text) h =
    let parts = and_parts (is_letter c || is_digit c) (list_all (λ d. is_letter d || is_digit d) text) h in
    and_from (not (c == 61)) (lacks 61 text) (no_sign c parts.0) (no_signs text parts.1)

-- a name has no `=`
name_lacks : (name : Text) → is_name name ≡ true → lacks 61 name ≡ true
name_lacks [] h = refl
name_lacks (c ∷ text) h =
    let parts = and_parts (is_letter c) (list_all (λ d. is_letter d || is_digit d) text) h in
    and_from (not (c == 61)) (lacks 61 text) (no_sign c (or_left (is_letter c) (is_digit c) parts.0)) (no_signs text parts.1)

-- ## Pairs

pair_step : (word : Text) (s : Pair) (q : Option (Text × Text)) → split_at 61 word ≡ q → pair_of q ≡ Some s → (word ≡ pair_text s) × (is_pair s ≡ true)
pair_step word s None e f = absurd (none-some s f)
pair_step word s (Some p) e f =
    let found = cond_some (is_name p.0) (record { name = p.0; value = p.1 }) s f in
    subst (λ (z : Pair). (word ≡ pair_text z) × (is_pair z ≡ true)) found.1 (cut_is 61 word p.0 p.1 e, found.0)

pub pair_sound : (word : Text) (s : Pair) → pair_in word ≡ Some s → (word ≡ pair_text s) × (is_pair s ≡ true)
pair_sound word s e = pair_step word s (split_at 61 word) refl e

pub pair_whole : (s : Pair) → is_pair s ≡ true → pair_in (pair_text s) ≡ Some s
pair_whole s h = ap pair_of (cut_at 61 s.name s.value (name_lacks s.name h)) ∙ cond-true (is_name s.name) (Some s) None h

-- ## Amounts

amount_number : (word name number : Text) (b : Amount) → word ≡ name ++ 61 ∷ number → (q : Option ℕ) → number_in 0 4294967296 number ≡ q →
    cond (is_name name) (amount_named name q) None ≡ Some b → (word ≡ amount_text b) × (is_amount b ≡ true)
amount_number word name number b w None e f = absurd (nothing (is_name name) f)
  where
    nothing : (x : Bool) → cond x None None ≡ Some b → ⊥
    nothing true f = none-some b f
    nothing false f = none-some b f
amount_number word name number b w (Some count) e f =
    let found = cond_some (is_name name) (record { name = name; count = count }) b f in
    let is = number_spelled 0 4294967296 number count e in
    subst (λ (z : Amount). (word ≡ amount_text z) × (is_amount z ≡ true)) found.1
    (w ∙ ap (λ (m : Text). name ++ 61 ∷ m) is.0, and_from (is_name name) (nat_le count 4294967296) found.0 (le-leb count 4294967296 is.2))

amount_step : (word : Text) (b : Amount) (q : Option (Text × Text)) → split_at 61 word ≡ q → amount_of q ≡ Some b → (word ≡ amount_text b) × (is_amount b ≡ true)
amount_step word b None e f = absurd (none-some b f)
amount_step word b (Some p) e f = amount_number word p.0 p.1 b (cut_is 61 word p.0 p.1 e) (number_in 0 4294967296 p.1) refl f

pub amount_sound : (word : Text) (b : Amount) → amount_in word ≡ Some b → (word ≡ amount_text b) × (is_amount b ≡ true)
amount_sound word b e = amount_step word b (split_at 61 word) refl e

bound_small : (n : ℕ) → n ≤ 4294967296 → n < 2 ^ 64
bound_small n h = omega arith

pub amount_whole : (b : Amount) → is_amount b ≡ true → amount_in (amount_text b) ≡ Some b
amount_whole b h =
    let parts = and_parts (is_name b.name) (nat_le b.count 4294967296) h in
    let most : b.count ≤ 4294967296 = leb-true b.count 4294967296 parts.1 in
    ap amount_of (cut_at 61 b.name (decimal b.count) (name_lacks b.name parts.0))
    ∙ cond-true (is_name b.name) (amount_named b.name (number_in 0 4294967296 (decimal b.count))) None parts.0
    ∙ ap (amount_named b.name) (number_read 0 4294967296 b.count (bound_small b.count most) (omega arith) most)

-- ## Seeds and sizes

both_step : (m n : ℕ) (p q : Option ℕ) → both p q ≡ Some (m, n) → (p ≡ Some m) × (q ≡ Some n)
both_step m n None q e = absurd (none-some (m, n) e)
both_step m n (Some i) None e = absurd (none-some (m, n) e)
both_step m n (Some i) (Some j) e =
    let parts = some_pair_parts i m j n e in
    (ap (λ (k : ℕ). Some k) parts.0, ap (λ (k : ℕ). Some k) parts.1)

-- the text is that of a seed and a size within their limits
pub record AreSeedSize (word : Text) (seed size : ℕ) : Type 0 where
  pub spelled : word ≡ seed_size_text seed size
  pub most_seed : seed ≤ 4294967295
  pub least_size : 1 ≤ size
  pub most_size : size ≤ 2000

seed_size_step : (word : Text) (seed size : ℕ) (q : Option (Text × Text)) → split_at 58 word ≡ q → seed_size_of q ≡ Some (seed, size) → AreSeedSize word seed size
seed_size_step word seed size None e f = absurd (none-some (seed, size) f)
seed_size_step word seed size (Some p) e f =
    let found = both_step seed size (number_in 0 4294967295 p.0) (number_in 1 2000 p.1) f in
    let first = number_spelled 0 4294967295 p.0 seed found.0 in
    let second = number_spelled 1 2000 p.1 size found.1 in
    record {
      spelled = cut_is 58 word p.0 p.1 e ∙ ap (λ (m : Text). m ++ 58 ∷ p.1) first.0 ∙ ap (λ (m : Text). decimal seed ++ 58 ∷ m) second.0;
      most_seed = first.2;
      least_size = second.1;
      most_size = second.2;
    }

pub seed_size_sound : (word : Text) (seed size : ℕ) → seed_size_in word ≡ Some (seed, size) → AreSeedSize word seed size
seed_size_sound word seed size e = seed_size_step word seed size (split_at 58 word) refl e

numerals : IsNumeralModel (AllDigits 10) (digits_value 10)
numerals = numerals_by_value (AllDigits 10) tells_digits

seed_small : (n : ℕ) → n ≤ 4294967295 → n < 2 ^ 64
seed_small n h = omega arith

size_small : (n : ℕ) → n ≤ 2000 → n < 2 ^ 64
size_small n h = omega arith

number_lacks : (n : ℕ) → n < 2 ^ 64 → lacks 58 (decimal n) ≡ true
number_lacks n small =
    lacks_each 58 (decimal n) (not_in_digits numerals (decimal n) 58 (digits_decimal numerals n small) (λ h. omega (arith, h.1)))

pub seed_size_whole : (seed size : ℕ) → seed ≤ 4294967295 → 1 ≤ size → size ≤ 2000 → seed_size_in (seed_size_text seed size) ≡ Some (seed, size)
seed_size_whole seed size most low high =
    ap seed_size_of (cut_at 58 (decimal seed) (decimal size) (number_lacks seed (seed_small seed most)))
    ∙ ap (λ (q : Option ℕ). both q (number_in 1 2000 (decimal size))) (number_read 0 4294967295 seed (seed_small seed most) (omega arith) most)
    ∙ ap (both (Some seed)) (number_read 1 2000 size (size_small size high) low high)

-- ## Paths

pub path_sound : (word path : Text) → path_in word ≡ Some path → (word ≡ path) × (is_path path ≡ true)
path_sound word path e =
    let found = cond_some (is_path word) word path e in
    (found.1, subst (λ (p : Text). is_path p ≡ true) found.1 found.0)

pub path_whole : (path : Text) → is_path path ≡ true → path_in path ≡ Some path
path_whole path h = cond-true (is_path path) (Some path) None h

-- ## Lists of values

cons_step : {A : Type 0} (text_of : A → Text) (good : A → Bool) (word : Text) (words : List Text) (xs : List A) (q : Option A) (r : Option (List A)) →
    ((x : A) → q ≡ Some x → (word ≡ text_of x) × (good x ≡ true)) →
    ((ys : List A) → r ≡ Some ys → (words ≡ map text_of ys) × (list_all good ys ≡ true)) →
    cons_both q r ≡ Some xs → (word ∷ words ≡ map text_of xs) × (list_all good xs ≡ true)
cons_step text_of good word words xs None r first rest e = absurd (none-some xs e)
cons_step text_of good word words xs (Some x) None first rest e = absurd (none-some xs e)
cons_step {A} text_of good word words xs (Some x) (Some ys) first rest e =
    let a = first x refl in
    let b = rest ys refl in
    subst (λ (zs : List A). (word ∷ words ≡ map text_of zs) × (list_all good zs ≡ true)) (same_Some (x ∷ ys) xs e)
    (ap (λ (w : Text). w ∷ words) a.0 ∙ ap (λ (ws : List Text). text_of x ∷ ws) b.0, and_from (good x) (list_all good ys) a.1 b.1)

pub all_of_sound : {A : Type 0} (read : Text → Option A) (text_of : A → Text) (good : A → Bool) →
    ((word : Text) (x : A) → read word ≡ Some x → (word ≡ text_of x) × (good x ≡ true)) →
    (words : List Text) (xs : List A) → all_of read words ≡ Some xs → (words ≡ map text_of xs) × (list_all good xs ≡ true)
all_of_sound {A} read text_of good each [] xs e =
    subst (λ (zs : List A). ([] ≡ map text_of zs) × (list_all good zs ≡ true)) (same_Some [] xs e) (refl, refl)
all_of_sound read text_of good each (word ∷ words) xs e =
    cons_step text_of good word words xs (read word) (all_of read words) (each word) (all_of_sound read text_of good each words) e

pub all_of_whole : {A : Type 0} (read : Text → Option A) (text_of : A → Text) (good : A → Bool) →
    ((x : A) → good x ≡ true → read (text_of x) ≡ Some x) → (xs : List A) → list_all good xs ≡ true → all_of read (map text_of xs) ≡ Some xs
all_of_whole read text_of good each [] h = refl
all_of_whole {A} read text_of good each (x ∷ xs) h =
    let parts = and_parts (good x) (list_all good xs) h in
    ap (λ (q : Option A). cons_both q (all_of read (map text_of xs))) (each x parts.0)
    ∙ ap (cons_both (Some x)) (all_of_whole read text_of good each xs parts.1)

pub paths_sound : (words paths : List Text) → all_of path_in words ≡ Some paths → (words ≡ paths) × (list_all is_path paths ≡ true)
paths_sound words paths e =
    let found = all_of_sound path_in (λ (p : Text). p) is_path path_sound words paths e in
    (found.0 ∙ map-id paths, found.1)

pub paths_whole : (paths : List Text) → list_all is_path paths ≡ true → all_of path_in paths ≡ Some paths
paths_whole paths h = ap (all_of path_in) (sym (map-id paths)) ∙ all_of_whole path_in (λ (p : Text). p) is_path path_whole paths h
