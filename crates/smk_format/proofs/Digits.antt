-- What digits are, against the library's words.
use Rattle.std.proofs.Common.{◌≡◌, ℕ, suc, ◌<◌, ◌^◌, Bool, true, false, ◌&&◌, cond, List, [], ◌∷◌, length, take, Err, refl, ap, sym}
use Rattle.std.specs.Prelude.{nat_lt}
use Rattle.std.specs.Str.{IsUtf8, all_ascii_digits}
use Rattle.std.specs.Str.Parse.{ParsesUnsigned, digits_value}
use Rattle.std.proofs.lemmas.Str.{IsUtf8-from_ascii}
use Rattle.std.proofs.lemmas.Str.Parse.{IsNumeralModel, numerals_by_value, tells_all_ascii_digits, parse_digits}
use Rattle.std.proofs.lemmas.Fmt.{IsAscii-from_digits}
use Rattle.std.proofs.lemmas.Bool.{ltb-true}
use Rattle.smk_base.proofs.Under.{false_unless, both_true}
use Rattle.smk_format.specs.Fields.{Place, Strange, digits_len, is_digit, is_numeral, place_of}

own : IsNumeralModel (λ ds. all_ascii_digits ds ≡ true) (digits_value 10)
own = numerals_by_value _ tells_all_ascii_digits

front_goes_on : (d : Bool) (b : ℕ) (bytes : List ℕ) → is_digit b ≡ d → all_ascii_digits (take (digits_len bytes) bytes) ≡ true → all_ascii_digits (take (cond d (suc (digits_len bytes)) 0) (b ∷ bytes)) ≡ true
front_goes_on true b bytes e more = both_true (is_digit b) (all_ascii_digits (take (digits_len bytes) bytes)) e more
front_goes_on false b bytes e more = refl

pub front_digits : (bytes : List ℕ) → all_ascii_digits (take (digits_len bytes) bytes) ≡ true
front_digits [] = refl
front_digits (b ∷ bytes) = front_goes_on (is_digit b) b bytes refl (front_digits bytes)

pub digits_utf8 : (ds : List ℕ) → all_ascii_digits ds ≡ true → IsUtf8 ds
digits_utf8 ds h = IsUtf8-from_ascii ds (IsAscii-from_digits ds (own.to ds h))

-- digits that don't parse are too great a number
pub too_great : {E : Type 0} (ds : List ℕ) (e : E) → all_ascii_digits ds ≡ true → 0 < length ds → ParsesUnsigned 64 10 ds (Err e) → Strange ≡ place_of ds
unfolding place_of
too_great ds e h some p =
    let q = parse_digits own 64 ds (Err e) p h in
    let big : nat_lt (digits_value 10 ds) (2 ^ 64) ≡ false = false_unless (nat_lt (digits_value 10 ds) (2 ^ 64)) (λ lt. q (some, ltb-true _ _ lt)) in
    go (is_numeral ds) (nat_lt (digits_value 10 ds) (2 ^ 64)) big
  where
    go : (a b : Bool) → b ≡ false → Strange ≡ cond (a && b) (Place (digits_value 10 ds)) Strange
    go true b f = ap (λ x. cond x (Place (digits_value 10 ds)) Strange) (sym f)
    go false b f = refl
