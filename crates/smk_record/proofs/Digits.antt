-- What a text and a number are, against the library's words.
use Rattle.std.proofs.Common.{◌≡◌, inl, inr, ℕ, suc, ◌<◌, ◌^◌, Bool, true, false, ◌&&◌, cond, List, [], ◌∷◌, length, take, drop, Option, Some, None, Err, refl, sym, ap, subst, ◌∙◌, arith}
use Rattle.std.specs.Prelude.{◌/◌, ◌%◌, nat_lt, slice_index}
use Rattle.std.specs.List.{list_all}
use Rattle.std.specs.Str.{IsUtf8, is_utf8, IsAscii, all_ascii_digits}
use Rattle.std.specs.Str.Parse.{ParsesUnsigned, digits_value}
use Rattle.std.proofs.lemmas.Str.{IsUtf8-from_is_utf8, is_utf8-from_IsUtf8, IsUtf8-from_ascii}
use Rattle.std.proofs.lemmas.Str.Ascii.{IsAscii-cons, IsAscii-nil}
use Rattle.std.proofs.lemmas.Str.Parse.{IsNumeralModel, numerals_by_value, tells_all_ascii_digits, parse_digits}
use Rattle.std.proofs.lemmas.Fmt.{IsAscii-from_digits}
use Rattle.std.proofs.lemmas.Bool.{ltb-true}
use Rattle.std.proofs.lemmas.List.{drop_all}
use Rattle.smk_base.proofs.Places.{and_first, and_second}
use Rattle.smk_base.proofs.Under.{or_second, or_cases, false_unless, both_true}
use Rattle.smk_world.specs.Trees.{is_text}
use Rattle.hex.specs.Hex.{encode_lower, encode_with, lower_digits}
use Rattle.smk_record.specs.Reading.{◌>>=◌, digits_len, is_digit, is_numeral, number_of, after_byte, sum_in, sum_of, text_of}

pub all_below : (t : List ℕ) → list_all (λ b. nat_lt b 128) t ≡ true → IsAscii t
all_below [] h = IsAscii-nil
all_below (b ∷ t) h = IsAscii-cons b t (ltb-true _ _ (and_first (nat_lt b 128) (list_all (λ b. nat_lt b 128) t) h)) (all_below t (and_second (nat_lt b 128) (list_all (λ b. nat_lt b 128) t) h))

pub text_is_utf8 : (t : List ℕ) → is_text t ≡ true → IsUtf8 t
text_is_utf8 t h =
    elim (or_cases (list_all (λ b. nat_lt b 128) t) (is_utf8 t) h) [
      | inl low ↦ IsUtf8-from_ascii t (all_below t low)
      | inr u ↦ IsUtf8-from_is_utf8 t u
    ]

pub utf8_is_text : (t : List ℕ) → IsUtf8 t → is_text t ≡ true
utf8_is_text t u = or_second (list_all (λ b. nat_lt b 128) t) (is_utf8 t) (is_utf8-from_IsUtf8 t u)

pub not_text : (t : List ℕ) → (IsUtf8 t → ⊥) → is_text t ≡ false
not_text t no_utf8 = false_unless (is_text t) (λ h. no_utf8 (text_is_utf8 t h))

-- ---- SHA-256 in digits

low_digits : IsAscii lower_digits
low_digits = all_below lower_digits refl

hex_ascii : (bytes : List ℕ) → IsAscii (encode_lower bytes)
unfolding encode_with
hex_ascii [] = IsAscii-nil
hex_ascii (b ∷ bytes) =
    IsAscii-cons (slice_index lower_digits (b / 16)) (slice_index lower_digits (b % 16) ∷ encode_lower bytes) (low_digits (b / 16))
    (IsAscii-cons (slice_index lower_digits (b % 16)) (encode_lower bytes) (low_digits (b % 16)) (hex_ascii bytes))

pub hex_utf8 : (bytes : List ℕ) → IsUtf8 (encode_lower bytes)
hex_utf8 bytes = IsUtf8-from_ascii (encode_lower bytes) (hex_ascii bytes)

-- fewer than 64 bytes spell no SHA-256
pub short_sum : (bytes : List ℕ) → length bytes < 64 → sum_in bytes ≡ None
unfolding sum_in
short_sum bytes h = ap (λ rest. after_byte 10 rest >>= λ rest. sum_of (take 64 bytes) >>= λ s. Some (s, rest)) (drop_all 64 bytes (omega (arith, h)))

-- ---- digits

pub own : IsNumeralModel (λ ds. all_ascii_digits ds ≡ true) (digits_value 10)
own = numerals_by_value _ tells_all_ascii_digits

front_goes_on : (d : Bool) (b : ℕ) (bytes : List ℕ) → is_digit b ≡ d → all_ascii_digits (take (digits_len bytes) bytes) ≡ true → all_ascii_digits (take (cond d (suc (digits_len bytes)) 0) (b ∷ bytes)) ≡ true
front_goes_on true b bytes e more = both_true (is_digit b) (all_ascii_digits (take (digits_len bytes) bytes)) e more
front_goes_on false b bytes e more = refl

pub front_digits : (bytes : List ℕ) → all_ascii_digits (take (digits_len bytes) bytes) ≡ true
front_digits [] = refl
front_digits (b ∷ bytes) = front_goes_on (is_digit b) b bytes refl (front_digits bytes)

pub digits_utf8 : (ds : List ℕ) → all_ascii_digits ds ≡ true → IsUtf8 ds
digits_utf8 ds h = IsUtf8-from_ascii ds (IsAscii-from_digits ds (own.to ds h))

-- digits that don't parse are too great a number
pub too_great : {E : Type 0} (ds : List ℕ) (e : E) → all_ascii_digits ds ≡ true → 0 < length ds → ParsesUnsigned 64 10 ds (Err e) → number_of ds ≡ None
unfolding number_of
too_great ds e h some p =
    let q = parse_digits own 64 ds (Err e) p h in
    let big : nat_lt (digits_value 10 ds) (2 ^ 64) ≡ false = false_unless (nat_lt (digits_value 10 ds) (2 ^ 64)) (λ lt. q (some, ltb-true _ _ lt)) in
    go (is_numeral ds) (nat_lt (digits_value 10 ds) (2 ^ 64)) big
  where
    go : (a b : Bool) → b ≡ false → cond (a && b) (Some (digits_value 10 ds)) None ≡ None
    go true b e = ap (λ x. cond x (Some (digits_value 10 ds)) None) e
    go false b e = refl

-- ---- texts

guarded : (b : Bool) (t rest : List ℕ) → b ≡ true → cond {A = Option (List ℕ × List ℕ)} b (Some (t, rest)) None ≡ Some (t, rest)
guarded b t rest e = let kept : Option (List ℕ × List ℕ) = Some (t, rest) in ap (λ x. cond x kept None) e

unguarded : (b : Bool) (t rest : List ℕ) → b ≡ false → cond {A = Option (List ℕ × List ℕ)} b (Some (t, rest)) None ≡ None
unguarded b t rest e = let kept : Option (List ℕ × List ℕ) = Some (t, rest) in ap (λ x. cond x kept None) e

pub text_found : (n : ℕ) (bytes word front back rest : List ℕ) → front ≡ take n bytes → back ≡ drop n bytes → word ≡ front → IsUtf8 front → after_byte 10 back ≡ Some rest → text_of n bytes ≡ Some (word, rest)
unfolding text_of
text_found n bytes word front back rest f b w u a =
    let a2 : after_byte 10 (drop n bytes) ≡ Some rest = subst (λ t. after_byte 10 t ≡ Some rest) b a in
    let t : is_text (take n bytes) ≡ true = subst (λ t. is_text t ≡ true) f (utf8_is_text front u) in
    rw a2 (guarded (is_text (take n bytes)) (take n bytes) rest t ∙ ap (λ (x : List ℕ). Some (x, rest)) (sym (w ∙ f)))

pub text_not_found : (n : ℕ) (bytes front back rest : List ℕ) → front ≡ take n bytes → back ≡ drop n bytes → (IsUtf8 front → ⊥) → after_byte 10 back ≡ Some rest → text_of n bytes ≡ None
unfolding text_of
text_not_found n bytes front back rest f b u a =
    let a2 : after_byte 10 (drop n bytes) ≡ Some rest = subst (λ t. after_byte 10 t ≡ Some rest) b a in
    let t : is_text (take n bytes) ≡ false = subst (λ t. is_text t ≡ false) f (not_text front u) in
    rw a2 (unguarded (is_text (take n bytes)) (take n bytes) rest t)
