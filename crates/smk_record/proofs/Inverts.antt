-- What is read is what is spelled, and what is spelled is read again.
use Rattle.std.proofs.Common.{◌≡◌, inl, inr, ℕ, zero, suc, ◌+◌, ◌<◌, ◌≤◌, ◌^◌, Bool, true, false, ◌&&◌, cond, eqb, List, [], ◌∷◌, ◌++◌, length, take, drop, get_or, Option, Some, None, Result, Ok, Err, ◌*◌, refl, sym, ap, subst, ◌∙◌, append_assoc, arith, length-append}
use Rattle.std.specs.Prelude.{not, nat_lt, decimal, bytes_eq}
use Rattle.std.specs.List.{flat_map, list_all}
use Rattle.std.specs.Str.{all_ascii_digits}
use Rattle.std.specs.Str.Parse.{digits_value}
use Rattle.std.proofs.lemmas.Bool.{cases_lt, ltb-true, eqb-true}
use Rattle.std.proofs.lemmas.List.{take_at, drop_at, take-append-drop, length-take, length-drop}
use Rattle.std.proofs.lemmas.List.Concat.{flat_map-cons}
use Rattle.std.proofs.lemmas.Fmt.{digits_decimal, digits_value-decimal, decimal-digits_value, first_decimal, decimal_digit, decimal_nonempty}
use Rattle.smk_base.proofs.Places.{and_first, and_second, same_place, place_itself}
use Rattle.smk_base.proofs.Under.{both_true, or_cases}
use Rattle.smk_base.specs.Path.{is_path}
use Rattle.smk_base.specs.Digests.{digest}
use Rattle.smk_base.specs.declared.sum.Sum.{Sum as Digest}
use Rattle.smk_world.specs.declared.recipe.Kind.{Kind}
use Rattle.smk_world.specs.declared.recipe.Kind.TheVariants.{Plain, Folder}
use Rattle.smk_world.specs.declared.recipe.Out.{Out}
use Rattle.smk_world.specs.Trees.{Each, is_text, is_path_text, is_folder_kind}
use Rattle.hex.specs.Hex.{decode_sized, encode_lower, lower_digits, IsBytes}
use Rattle.hex.specs.declared.error.FromHexError.{FromHexError}
use Rattle.hex.proofs.HexLemmas.{length-encode_with, decode_of-encode_lower, decode_of-ok, decode_sized-ok, decode_sized-twice}
use Rattle.smk_record.specs.Records.{is_format}
use Rattle.smk_record.specs.declared.record.Stamp.{Stamp}
use Rattle.smk_record.specs.declared.record.Stamp.TheVariants.{Time, Sum, Made}
use Rattle.smk_record.specs.Spelling.{num, text, list, letter, sum, stamp, is_sum, is_writable_stamp, pair, values, out, out_item, member}
use Rattle.smk_record.specs.Reading.{◌>>=◌, Reader, Taken, digits_len, is_digit, is_numeral, number_of, after_byte, number_in, text_of, text_in, path_in, both_in, some_in, list_in, flag_in, spelled_by, sum_of, sum_in, summed_in, stamp_in, format_in, paired, kind_of, pair_in, values_in, out_in, out_item_in, member_in}
use Rattle.smk_record.proofs.Digits.{own, front_digits}

pub record Inverts {A : Type 0} (spell : A → List ℕ) (Fits : A → Type 0) (read : Reader A) : Type 0 where
  -- what is read is spelled so
  pub found : (bytes : List ℕ) (x : A) (rest : List ℕ) → read bytes ≡ Some (x, rest) → (bytes ≡ spell x ++ rest) × Fits x
  -- what is spelled so is read
  pub again : (x : A) (rest : List ℕ) → Fits x → length (spell x ++ rest) < 2 ^ 64 → read (spell x ++ rest) ≡ Some (x, rest)
  -- no spelling is empty
  pub some : (x : A) → 0 < length (spell x)

-- ---- steps that may find nothing

pub bind_some : {A B : Type 0} (o : Option A) (f : A → Option B) (y : B) → (o >>= f) ≡ Some y → (x : A) × (o ≡ Some x) × (f x ≡ Some y)
bind_some (Some x) f y e = (x, refl, e)
bind_some None f y e = absurd cc

pub if_some : {A : Type 0} (b : Bool) (x y : A) → cond b (Some x) None ≡ Some y → (b ≡ true) × (x ≡ y)
if_some true x y e = (refl, cc)
if_some false x y e = absurd cc

pub if_true : {A : Type 0} (b : Bool) (x : A) → b ≡ true → cond b (Some x) None ≡ Some x
if_true b x e = ap (λ c. cond c (Some x) None) e

abbrev kept : {A : Type 0} → A → Option A
kept x = Some x

pub some_is : {A : Type 0} (x y : A) → kept x ≡ kept y → x ≡ y
some_is x y e = cc

pub shorter : (a b : List ℕ) (n : ℕ) → length (a ++ b) < n → length b < n
shorter a b n h = omega (arith, length-append a b, h)

-- ---- numbers

pub byte_found : (end : ℕ) (bytes rest : List ℕ) → after_byte end bytes ≡ Some rest → bytes ≡ end ∷ rest
byte_found end [] rest e = absurd cc
byte_found end (b ∷ bytes) rest e =
    let g = if_some (eqb b end) bytes rest e in
    ap (λ x. x ∷ bytes) (eqb-true b end g.0) ∙ ap (λ r. end ∷ r) g.1

eqb_same : (n : ℕ) → eqb n n ≡ true
eqb_same n = grind arith

pub byte_again : (end : ℕ) (rest : List ℕ) → after_byte end (end ∷ rest) ≡ Some rest
byte_again end rest = if_true (eqb end end) rest (eqb_same end)

numeral_some : (ds : List ℕ) → is_numeral ds ≡ true → 0 < length ds
numeral_some [] h = absurd cc
numeral_some (b ∷ ds) h = omega arith

numeral_leads : (ds : List ℕ) → is_numeral ds ≡ true → get_or ds 0 0 ≡ 48 → length ds ≡ 1
numeral_leads [] h e = absurd cc
numeral_leads (b ∷ []) h e = refl
numeral_leads (b ∷ (c ∷ ds)) h e = absurd (let g : not (eqb b 48) ≡ false = ap (λ x. not (eqb x 48)) e in cc)

pub digits_spell : (ds : List ℕ) (m : ℕ) → all_ascii_digits ds ≡ true → number_of ds ≡ Some m → (decimal m ≡ ds) × (m < 2 ^ 64)
unfolding number_of
digits_spell ds m h e =
    let v = digits_value 10 ds in
    let g = if_some (is_numeral ds && nat_lt v (2 ^ 64)) v m e in
    let n : is_numeral ds ≡ true = and_first (is_numeral ds) (nat_lt v (2 ^ 64)) g.0 in
    let small : v < 2 ^ 64 = ltb-true _ _ (and_second (is_numeral ds) (nat_lt v (2 ^ 64)) g.0) in
    subst (λ k. (decimal k ≡ ds) × (k < 2 ^ 64)) g.1 (decimal-digits_value own ds h (numeral_some ds n) (numeral_leads ds n) small, small)

numeral_by : (ds : List ℕ) → 0 < length ds → 48 < get_or ds 0 0 → is_numeral ds ≡ true
numeral_by [] some lead = absurd (omega arith)
numeral_by (b ∷ []) some lead = refl
numeral_by (b ∷ (c ∷ ds)) some lead = let lt : 48 < b = lead in grind arith

decimal_numeral : (n : ℕ) → n < 2 ^ 64 → is_numeral (decimal n) ≡ true
decimal_numeral n h =
    elim (cases_lt 0 n) [
      | inl lt ↦ numeral_by (decimal n) (decimal_nonempty n h) (first_decimal n lt h)
      | inr le ↦ let z : n ≡ 0 = omega arith in subst (λ k. is_numeral (decimal k) ≡ true) (sym z) (ap is_numeral (decimal_digit 0 (omega arith)))
    ]

pub decimal_read : (n : ℕ) → n < 2 ^ 64 → number_of (decimal n) ≡ Some n
unfolding number_of
decimal_read n h =
    let v : digits_value 10 (decimal n) ≡ n = digits_value-decimal own n h in
    let small : nat_lt (digits_value 10 (decimal n)) (2 ^ 64) ≡ true = rw v (grind arith) in
    if_true (is_numeral (decimal n) && nat_lt (digits_value 10 (decimal n)) (2 ^ 64)) (digits_value 10 (decimal n)) (both_true _ _ (decimal_numeral n h) small) ∙ ap kept v

digits_stop : (ds : List ℕ) (end : ℕ) (rest : List ℕ) → all_ascii_digits ds ≡ true → is_digit end ≡ false → digits_len (ds ++ end ∷ rest) ≡ length ds
digits_stop [] end rest h e = ap (λ b. cond b (suc (digits_len rest)) 0) e
digits_stop (d ∷ ds) end rest h e =
    let first : is_digit d ≡ true = and_first (is_digit d) (all_ascii_digits ds) h in
    ap (λ b. cond b (suc (digits_len (ds ++ end ∷ rest))) 0) first ∙ ap suc (digits_stop ds end rest (and_second (is_digit d) (all_ascii_digits ds) h) e)

pub number_found : (end : ℕ) (bytes : List ℕ) (n : ℕ) (rest : List ℕ) → number_in end bytes ≡ Some (n, rest) → (bytes ≡ decimal n ++ end ∷ rest) × (n < 2 ^ 64)
unfolding number_in
number_found end bytes n rest e =
    let ds = take (digits_len bytes) bytes in
    let a = bind_some (after_byte end (drop (digits_len bytes) bytes)) (λ r. number_of ds >>= λ m. Some (m, r)) (n, rest) e in
    let b = bind_some (number_of ds) (λ m. Some (m, a.0)) (n, rest) a.2 in
    let p = some_is (b.0, a.0) (n, rest) b.2 in
    let m-is : b.0 ≡ n = ap (λ (q : ℕ × List ℕ). q.0) p in
    let r-is : a.0 ≡ rest = ap (λ (q : ℕ × List ℕ). q.1) p in
    let s = digits_spell ds b.0 (front_digits bytes) b.1 in
    let back : drop (digits_len bytes) bytes ≡ end ∷ rest = byte_found end _ a.0 a.1 ∙ ap (λ r. end ∷ r) r-is in
    let front : ds ≡ decimal n = sym s.0 ∙ ap decimal m-is in
    (sym (take-append-drop (digits_len bytes) bytes) ∙ ap (λ r. ds ++ r) back ∙ ap (λ f. f ++ end ∷ rest) front, subst (λ k. k < 2 ^ 64) m-is s.1)

pub number_again : (end n : ℕ) (rest : List ℕ) → is_digit end ≡ false → n < 2 ^ 64 → number_in end (decimal n ++ end ∷ rest) ≡ Some (n, rest)
unfolding number_in
number_again end n rest e h =
    let k : digits_len (decimal n ++ end ∷ rest) ≡ length (decimal n) = digits_stop (decimal n) end rest (digits_decimal own n h) e in
    let back : drop (digits_len (decimal n ++ end ∷ rest)) (decimal n ++ end ∷ rest) ≡ end ∷ rest = ap (λ i. drop i (decimal n ++ end ∷ rest)) k ∙ drop_at (decimal n) (end ∷ rest) (length (decimal n)) refl in
    let front : take (digits_len (decimal n ++ end ∷ rest)) (decimal n ++ end ∷ rest) ≡ decimal n = ap (λ i. take i (decimal n ++ end ∷ rest)) k ∙ take_at (decimal n) (end ∷ rest) (length (decimal n)) refl in
    rw (back, front, byte_again end rest, decimal_read n h) refl

-- ---- texts

text_of_found : (n : ℕ) (bytes t rest : List ℕ) → text_of n bytes ≡ Some (t, rest) → (bytes ≡ t ++ 10 ∷ rest) × (length t ≡ n) × (is_text t ≡ true)
unfolding text_of
text_of_found n bytes t rest e =
    let a = bind_some (after_byte 10 (drop n bytes)) (λ r. cond (is_text (take n bytes)) (Some (take n bytes, r)) None) (t, rest) e in
    let g = if_some (is_text (take n bytes)) (take n bytes, a.0) (t, rest) a.2 in
    let t-is : take n bytes ≡ t = ap (λ (q : List ℕ × List ℕ). q.0) g.1 in
    let r-is : a.0 ≡ rest = ap (λ (q : List ℕ × List ℕ). q.1) g.1 in
    let back : drop n bytes ≡ 10 ∷ rest = byte_found 10 _ a.0 a.1 ∙ ap (λ r. 10 ∷ r) r-is in
    let whole : bytes ≡ t ++ 10 ∷ rest = sym (take-append-drop n bytes) ∙ ap (λ r. take n bytes ++ r) back ∙ ap (λ f. f ++ 10 ∷ rest) t-is in
    let long : length bytes ≡ length (take n bytes) + length (drop n bytes) = ap length (sym (take-append-drop n bytes)) ∙ length-append (take n bytes) (drop n bytes) in
    let len : length t ≡ n = omega (arith, long, length-take n bytes, length-drop n bytes, ap length back, ap length t-is) in
    (whole, len, subst (λ x. is_text x ≡ true) t-is g.0)

text_of_again : (t rest : List ℕ) → is_text t ≡ true → text_of (length t) (t ++ 10 ∷ rest) ≡ Some (t, rest)
unfolding text_of
text_of_again t rest h =
    rw (drop_at t (10 ∷ rest) (length t) refl, take_at t (10 ∷ rest) (length t) refl) (if_true (is_text t) (t, rest) h)

pub text_inverts : Inverts text (λ t. is_text t ≡ true) text_in
unfolding text_in
text_inverts = record {
  found = λ bytes t rest e.
      let a = bind_some (number_in 58 bytes) (λ n. text_of n.0 n.1) (t, rest) e in
      let first = number_found 58 bytes a.0.0 a.0.1 a.1 in
      let second = text_of_found a.0.0 a.0.1 t rest a.2 in
      (first.0 ∙ ap (λ n. decimal n ++ 58 ∷ a.0.1) (sym second.1) ∙ ap (λ r. decimal (length t) ++ 58 ∷ r) (second.0 ∙ sym (append_assoc t (10 ∷ []) rest)) ∙ sym (append_assoc (decimal (length t)) (58 ∷ (t ++ 10 ∷ [])) rest), second.2);
  again = λ t rest h lt.
      let regrouped : text t ++ rest ≡ decimal (length t) ++ 58 ∷ (t ++ 10 ∷ rest) = append_assoc (decimal (length t)) (58 ∷ (t ++ 10 ∷ [])) rest ∙ ap (λ r. decimal (length t) ++ 58 ∷ r) (append_assoc t (10 ∷ []) rest) in
      let small : length t < 2 ^ 64 = omega (arith, lt, length-append (decimal (length t)) (58 ∷ (t ++ 10 ∷ [])), length-append (text t) rest, length-append t (10 ∷ [])) in
      ap text_in regrouped ∙ rw (number_again 58 (length t) (t ++ 10 ∷ rest) refl small) (text_of_again t rest h);
  some = λ t. omega (arith, length-append (decimal (length t)) (58 ∷ (t ++ 10 ∷ [])));
}

pub path_inverts : Inverts text (λ p. is_path_text p ≡ true) path_in
unfolding path_in
path_inverts = record {
  found = λ bytes p rest e.
      let a = bind_some (text_in bytes) (λ t. cond (is_path t.0) (Some t) None) (p, rest) e in
      let g = if_some (is_path a.0.0) a.0 (p, rest) a.2 in
      let first = text_inverts.found bytes a.0.0 a.0.1 a.1 in
      subst (λ (q : List ℕ × List ℕ). (bytes ≡ text q.0 ++ q.1) × (is_path_text q.0 ≡ true)) g.1 (first.0, both_true (is_path a.0.0) (is_text a.0.0) g.0 first.1);
  again = λ p rest h lt.
      rw (text_inverts.again p rest (and_second (is_path p) (is_text p) h) lt) (if_true (is_path p) (p, rest) (and_first (is_path p) (is_text p) h));
  some = text_inverts.some;
}

-- ---- values with parts

pub both_inverts : {A B C : Type 0} (make : A → B → C) (left : C → A) (right : C → B) (p : A → List ℕ) (P : A → Type 0) (r : Reader A) (q : B → List ℕ) (Q : B → Type 0) (s : Reader B)
    → ((a : A) (b : B) → left (make a b) ≡ a) → ((a : A) (b : B) → right (make a b) ≡ b) → ((c : C) → make (left c) (right c) ≡ c)
    → Inverts p P r → Inverts q Q s → Inverts (λ c. p (left c) ++ q (right c)) (λ c. P (left c) × Q (right c)) (both_in make r s)
both_inverts {A} {B} {C} make left right p P r q Q s is_left is_right whole first second = record {
  found = λ bytes c rest e.
      let a = bind_some (r bytes) (λ x. s x.1 >>= λ y. Some (make x.0 y.0, y.1)) (c, rest) e in
      let b = bind_some (s a.0.1) (λ y. Some (make a.0.0 y.0, y.1)) (c, rest) a.2 in
      let one = first.found bytes a.0.0 a.0.1 a.1 in
      let two = second.found a.0.1 b.0.0 b.0.1 b.1 in
      let made : C × List ℕ = (make a.0.0 b.0.0, b.0.1) in
      let l = is_left a.0.0 b.0.0 in
      let k = is_right a.0.0 b.0.0 in
      let spelled : bytes ≡ (p (left (make a.0.0 b.0.0)) ++ q (right (make a.0.0 b.0.0))) ++ b.0.1 =
      one.0 ∙ ap (λ t. p a.0.0 ++ t) two.0 ∙ sym (append_assoc (p a.0.0) (q b.0.0) b.0.1) ∙ ap (λ x. (p x ++ q b.0.0) ++ b.0.1) (sym l) ∙ ap (λ y. (p (left (make a.0.0 b.0.0)) ++ q y) ++ b.0.1) (sym k) in
      subst (λ (z : C × List ℕ). (bytes ≡ (p (left z.0) ++ q (right z.0)) ++ z.1) × (P (left z.0) × Q (right z.0))) (some_is made (c, rest) b.2) (spelled, (subst P (sym l) one.1, subst Q (sym k) two.1));
  again = λ c rest h lt.
      let regrouped = append_assoc (p (left c)) (q (right c)) rest in
      let lt2 : length (p (left c) ++ (q (right c) ++ rest)) < 2 ^ 64 = subst (λ x. length x < 2 ^ 64) regrouped lt in
      let lt3 : length (q (right c) ++ rest) < 2 ^ 64 = shorter (p (left c)) (q (right c) ++ rest) (2 ^ 64) lt2 in
      ap (both_in make r s) regrouped ∙ rw (first.again (left c) (q (right c) ++ rest) h.0 lt2, second.again (right c) rest h.1 lt3) (ap (λ x. Some (x, rest)) (whole c));
  some = λ c. omega (arith, first.some (left c), length-append (p (left c)) (q (right c)));
}

pub some_found : {A : Type 0} (spell : A → List ℕ) (P : A → Type 0) (one : Reader A) → Inverts spell P one → (n : ℕ) (bytes : List ℕ) (xs : List A) (rest : List ℕ)
    → some_in one n bytes ≡ Some (xs, rest) → (bytes ≡ flat_map spell xs ++ rest) × (length xs ≡ n) × Each P xs
unfolding some_in
some_found {A} spell P one i zero bytes xs rest e =
    subst (λ (y : List A × List ℕ). (bytes ≡ flat_map spell y.0 ++ y.1) × (length y.0 ≡ 0) × Each P y.0) (some_is ([], bytes) (xs, rest) e) (refl, refl, tt)
some_found {A} spell P one i (suc n) bytes xs rest e =
    let a = bind_some (one bytes) (λ first. some_in one n first.1 >>= λ others. Some (first.0 ∷ others.0, others.1)) (xs, rest) e in
    let b = bind_some (some_in one n a.0.1) (λ others. Some (a.0.0 ∷ others.0, others.1)) (xs, rest) a.2 in
    let first = i.found bytes a.0.0 a.0.1 a.1 in
    let second = some_found spell P one i n a.0.1 b.0.0 b.0.1 b.1 in
    let made : List A × List ℕ = (a.0.0 ∷ b.0.0, b.0.1) in
    let spelled : bytes ≡ flat_map spell (a.0.0 ∷ b.0.0) ++ b.0.1 = first.0 ∙ ap (λ t. spell a.0.0 ++ t) second.0 ∙ sym (append_assoc (spell a.0.0) (flat_map spell b.0.0) b.0.1) ∙ ap (λ t. t ++ b.0.1) (sym (flat_map-cons spell a.0.0 b.0.0)) in
    subst (λ (y : List A × List ℕ). (bytes ≡ flat_map spell y.0 ++ y.1) × (length y.0 ≡ suc n) × Each P y.0) (some_is made (xs, rest) b.2) (spelled, ap suc second.1, (first.1, second.2))

pub some_again : {A : Type 0} (spell : A → List ℕ) (P : A → Type 0) (one : Reader A) → Inverts spell P one → (xs : List A) (rest : List ℕ) → Each P xs → length (flat_map spell xs ++ rest) < 2 ^ 64
    → some_in one (length xs) (flat_map spell xs ++ rest) ≡ Some (xs, rest)
unfolding some_in
some_again spell P one i [] rest h lt = refl
some_again spell P one i (x ∷ xs) rest h lt =
    let regrouped : flat_map spell (x ∷ xs) ++ rest ≡ spell x ++ (flat_map spell xs ++ rest) = ap (λ t. t ++ rest) (flat_map-cons spell x xs) ∙ append_assoc (spell x) (flat_map spell xs) rest in
    let lt2 : length (spell x ++ (flat_map spell xs ++ rest)) < 2 ^ 64 = subst (λ t. length t < 2 ^ 64) regrouped lt in
    let lt3 = shorter (spell x) (flat_map spell xs ++ rest) (2 ^ 64) lt2 in
    ap (some_in one (suc (length xs))) regrouped ∙ rw (i.again x (flat_map spell xs ++ rest) h.0 lt2, some_again spell P one i xs rest h.1 lt3) refl

-- a list is no longer than its spelling
pub some_long : {A : Type 0} (spell : A → List ℕ) → ((x : A) → 0 < length (spell x)) → (xs : List A) → length xs ≤ length (flat_map spell xs)
some_long spell some [] = omega arith
some_long spell some (x ∷ xs) = omega (arith, ap length (flat_map-cons spell x xs), length-append (spell x) (flat_map spell xs), some x, some_long spell some xs)

pub list_inverts : {A : Type 0} (spell : A → List ℕ) (P : A → Type 0) (one : Reader A) → Inverts spell P one → Inverts (list spell) (Each P) (list_in one)
unfolding list_in
list_inverts {A} spell P one i = record {
  found = λ bytes xs rest e.
      let a = bind_some (number_in 10 bytes) (λ n. some_in one n.0 n.1) (xs, rest) e in
      let first = number_found 10 bytes a.0.0 a.0.1 a.1 in
      let second = some_found spell P one i a.0.0 a.0.1 xs rest a.2 in
      let front : bytes ≡ num a.0.0 ++ a.0.1 = first.0 ∙ sym (append_assoc (decimal a.0.0) (10 ∷ []) a.0.1) in
      (front ∙ ap (λ n. num n ++ a.0.1) (sym second.1) ∙ ap (λ t. num (length xs) ++ t) second.0 ∙ sym (append_assoc (num (length xs)) (flat_map spell xs) rest), second.2);
  again = λ xs rest h lt.
      let regrouped : list spell xs ++ rest ≡ decimal (length xs) ++ 10 ∷ (flat_map spell xs ++ rest) = append_assoc (num (length xs)) (flat_map spell xs) rest ∙ append_assoc (decimal (length xs)) (10 ∷ []) (flat_map spell xs ++ rest) in
      let lt2 : length (flat_map spell xs ++ rest) < 2 ^ 64 = shorter (num (length xs)) (flat_map spell xs ++ rest) (2 ^ 64) (subst (λ t. length t < 2 ^ 64) (append_assoc (num (length xs)) (flat_map spell xs) rest) lt) in
      let small : length xs < 2 ^ 64 = omega (arith, lt2, length-append (flat_map spell xs) rest, some_long spell i.some xs) in
      ap (list_in one) regrouped ∙ rw (number_again 10 (length xs) (flat_map spell xs ++ rest) refl small) (some_again spell P one i xs rest h lt2);
  some = λ xs. omega (arith, length-append (num (length xs)) (flat_map spell xs), length-append (decimal (length xs)) (10 ∷ []));
}

-- ---- flags, stamps, and what has a name

byte_is : (b n : ℕ) → eqb b n ≡ true → b ≡ n
byte_is b n e = eqb-true b n e

abbrev flagged : Bool → List ℕ → Taken Bool
flagged folder rest = Some (folder, rest)

other_flag : (b : ℕ) (bytes : List ℕ) (folder : Bool) (rest : List ℕ) (d : Bool) → eqb b 68 ≡ d → cond d (flagged true bytes) (cond (eqb b 70) (flagged false bytes) None) ≡ Some (folder, rest) → b ∷ bytes ≡ letter folder ++ rest
other_flag b bytes folder rest true e h =
    let p = some_is (true, bytes) (folder, rest) h in
    subst (λ (q : Bool × List ℕ). b ∷ bytes ≡ letter q.0 ++ q.1) p (ap (λ x. x ∷ bytes) (byte_is b 68 e))
other_flag b bytes folder rest false e h =
    let g = if_some (eqb b 70) (false, bytes) (folder, rest) h in
    subst (λ (q : Bool × List ℕ). b ∷ bytes ≡ letter q.0 ++ q.1) g.1 (ap (λ x. x ∷ bytes) (byte_is b 70 g.0))

flag_found : (bytes : List ℕ) (folder : Bool) (rest : List ℕ) → flag_in bytes ≡ Some (folder, rest) → bytes ≡ letter folder ++ rest
flag_found [] folder rest e = absurd cc
flag_found (b ∷ bytes) folder rest e = other_flag b bytes folder rest (eqb b 68) refl e

flag_again : (folder : Bool) (rest : List ℕ) → flag_in (letter folder ++ rest) ≡ Some (folder, rest)
flag_again true rest = refl
flag_again false rest = refl

letter_some : (folder : Bool) → 0 < length (letter folder)
letter_some true = omega arith
letter_some false = omega arith

pub flag_inverts : Inverts letter (λ folder. Unit {0}) flag_in
flag_inverts = record { found = λ bytes folder rest e. (flag_found bytes folder rest e, tt); again = λ folder rest h lt. flag_again folder rest; some = letter_some }

-- its spelling is read as the stamp
abbrev pub StampFits : Stamp → Type 0
StampFits s = is_writable_stamp s ≡ true

below_of : (n k : ℕ) → n < k → nat_lt n k ≡ true
below_of n k h = grind arith

abbrev is_byte : ℕ → Bool
is_byte b = nat_lt b 256

bytes_all : (xs : List ℕ) → IsBytes xs → list_all is_byte xs ≡ true
bytes_all [] h = refl
bytes_all (b ∷ xs) h = both_true (is_byte b) (list_all is_byte xs) (below_of b 256 (h 0)) (bytes_all xs (λ i. h (suc i)))

all_bytes : (xs : List ℕ) → list_all is_byte xs ≡ true → IsBytes xs
all_bytes [] h i = omega arith
all_bytes (b ∷ xs) h zero = ltb-true _ _ (and_first (is_byte b) (list_all is_byte xs) h)
all_bytes (b ∷ xs) h (suc i) = all_bytes xs (and_second (is_byte b) (list_all is_byte xs) h) i

decoded_fits : (ds bytes : List ℕ) → decode_sized ds 32 ≡ Ok bytes → is_sum bytes ≡ true
decoded_fits ds bytes d =
    let len : length ds ≡ 2 * 32 = decode_sized-ok ds 32 bytes d in
    let ok = decode_of-ok ds bytes (sym (decode_sized-twice ds 32 len) ∙ d) in
    let long : length bytes ≡ 32 = omega (arith, len, ok.2) in
    both_true (eqb (length bytes) 32) (list_all is_byte bytes) (rw long refl) (bytes_all bytes ok.3)

sum_of_found : (ds : List ℕ) (s : Digest) → sum_of ds ≡ Some s → (encode_lower s.0 ≡ ds) × (is_sum s.0 ≡ true)
unfolding sum_of
sum_of_found ds s e = go (decode_sized ds 32) refl e
  where
    go : (r : Result (List ℕ) FromHexError) → decode_sized ds 32 ≡ r → spelled_by ds r ≡ Some s → (encode_lower s.0 ≡ ds) × (is_sum s.0 ≡ true)
    go (Ok bytes) d h =
        let g = if_some (bytes_eq (encode_lower bytes) ds) (digest bytes) s h in
        subst (λ (x : Digest). (encode_lower x.0 ≡ ds) × (is_sum x.0 ≡ true)) g.1 (same_place (encode_lower bytes) ds g.0, decoded_fits ds bytes d)
    go (Err x) d h = absurd cc

digits_long : (s : List ℕ) → is_sum s ≡ true → length (encode_lower s) ≡ 64
digits_long s h =
    let len : length s ≡ 32 = eqb-true (length s) 32 (and_first (eqb (length s) 32) (list_all is_byte s) h) in
    omega (arith, length-encode_with lower_digits s, len)

sum_of_again : (s : List ℕ) → is_sum s ≡ true → sum_of (encode_lower s) ≡ Some (digest s)
unfolding sum_of
sum_of_again s h =
    let bytes = all_bytes s (and_second (eqb (length s) 32) (list_all is_byte s) h) in
    let decoded : decode_sized (encode_lower s) 32 ≡ Ok s = decode_sized-twice (encode_lower s) 32 (omega (arith, digits_long s h)) ∙ decode_of-encode_lower s bytes in
    ap (spelled_by (encode_lower s)) decoded ∙ if_true (bytes_eq (encode_lower s) (encode_lower s)) (digest s) (place_itself (encode_lower s))

abbrev sum_then : List ℕ → Option Digest → Taken Digest
sum_then rest o = o >>= λ d. Some (d, rest)

abbrev sum_before : List ℕ → List ℕ → Taken Digest
sum_before front back = after_byte 10 back >>= λ rest. sum_then rest (sum_of front)

sum_inverts : Inverts sum (λ (s : Digest). is_sum s.0 ≡ true) sum_in
unfolding sum_in
sum_inverts = record {
  found = λ bytes s rest e.
      let a = bind_some (after_byte 10 (drop 64 bytes)) (λ r. sum_of (take 64 bytes) >>= λ d. Some (d, r)) (s, rest) e in
      let b = bind_some (sum_of (take 64 bytes)) (λ d. Some (d, a.0)) (s, rest) a.2 in
      let back : drop 64 bytes ≡ 10 ∷ a.0 = byte_found 10 _ a.0 a.1 in
      let f = sum_of_found (take 64 bytes) b.0 b.1 in
      let whole : bytes ≡ sum b.0 ++ a.0 = sym (take-append-drop 64 bytes) ∙ ap (λ r. take 64 bytes ++ r) back ∙ ap (λ ds. ds ++ 10 ∷ a.0) (sym f.0) ∙ sym (append_assoc (encode_lower b.0.0) (10 ∷ []) a.0) in
      subst (λ (q : Digest × List ℕ). (bytes ≡ sum q.0 ++ q.1) × (is_sum q.0.0 ≡ true)) (some_is (b.0, a.0) (s, rest) b.2) (whole, f.1);
  again = λ s rest h lt.
      let ds = encode_lower s.0 in
      let front : take 64 (ds ++ 10 ∷ rest) ≡ ds = take_at ds (10 ∷ rest) 64 (digits_long s.0 h) in
      let back : drop 64 (ds ++ 10 ∷ rest) ≡ 10 ∷ rest = drop_at ds (10 ∷ rest) 64 (digits_long s.0 h) in
      ap sum_in (append_assoc ds (10 ∷ []) rest)
      ∙ ap (λ b. sum_before (take 64 (ds ++ 10 ∷ rest)) b) back
      ∙ ap (λ f. sum_before f (10 ∷ rest)) front
      ∙ ap (λ o. o >>= λ r. sum_then r (sum_of ds)) (byte_again 10 rest)
      ∙ ap (sum_then rest) (sum_of_again s.0 h);
  some = λ s. omega (arith, length-append (encode_lower s.0) (10 ∷ []));
}

abbrev time_in : ℕ × Digest → ℕ
time_in x = x.0

abbrev digest_in : ℕ × Digest → Digest
digest_in x = x.1

pub num_again : (n : ℕ) (rest : List ℕ) → n < 2 ^ 64 → number_in 10 (num n ++ rest) ≡ Some (n, rest)
num_again n rest h = ap (number_in 10) (append_assoc (decimal n) (10 ∷ []) rest) ∙ number_again 10 n rest refl h

pub num_inverts : Inverts num (λ n. n < 2 ^ 64) (number_in 10)
num_inverts = record {
  found = λ bytes n rest e. (let f = number_found 10 bytes n rest e in (f.0 ∙ sym (append_assoc (decimal n) (10 ∷ []) rest), f.1));
  again = λ n rest h lt. num_again n rest h;
  some = λ n. omega (arith, length-append (decimal n) (10 ∷ []));
}

format_small : (n : ℕ) → is_format n ≡ true → n < 2 ^ 64
format_small n h =
    elim (or_cases (eqb n 1) (eqb n 2) h) [
      | inl one ↦ let e : n ≡ 1 = eqb-true n 1 one in omega (arith, e)
      | inr two ↦ let e : n ≡ 2 = eqb-true n 2 two in omega (arith, e)
    ]

pub format_inverts : Inverts num (λ n. is_format n ≡ true) format_in
unfolding format_in
format_inverts = record {
  found = λ bytes n rest e.
      let a = bind_some (number_in 10 bytes) (λ x. cond (is_format x.0) (Some x) None) (n, rest) e in
      let g = if_some (is_format a.0.0) a.0 (n, rest) a.2 in
      let first = num_inverts.found bytes a.0.0 a.0.1 a.1 in
      subst (λ (q : ℕ × List ℕ). (bytes ≡ num q.0 ++ q.1) × (is_format q.0 ≡ true)) g.1 (first.0, g.0);
  again = λ n rest h lt. rw (num_again n rest (format_small n h)) (if_true (is_format n) (n, rest) h);
  some = num_inverts.some;
}

abbrev SummedFits : ℕ × Digest → Type 0
SummedFits x = (x.0 < 2 ^ 64) × (is_sum x.1.0 ≡ true)

summed_inverts : Inverts (λ (x : ℕ × Digest). num x.0 ++ sum x.1) SummedFits summed_in
unfolding summed_in
summed_inverts = both_inverts {C = ℕ × Digest} paired time_in digest_in num (λ n. n < 2 ^ 64) (number_in 10) sum (λ (s : Digest). is_sum s.0 ≡ true) sum_in (λ a b. refl) (λ a b. refl) (λ c. refl) num_inverts sum_inverts

abbrev stamp_with : (ℕ → Stamp) → ℕ × List ℕ → Taken Stamp
stamp_with make n = Some (make n.0, n.1)

abbrev summed_stamp : (ℕ × Digest) × List ℕ → Taken Stamp
summed_stamp x = Some (Sum x.0.0 x.0.1, x.1)

abbrev IsSpelled : List ℕ → Stamp → List ℕ → Type 0
IsSpelled bytes s rest = (bytes ≡ stamp s ++ rest) × StampFits s

timed : (bytes : List ℕ) (make : ℕ → Stamp) (s : Stamp) (rest : List ℕ) → (number_in 10 bytes >>= stamp_with make) ≡ Some (s, rest) → (n : ℕ) × (bytes ≡ num n ++ rest) × (n < 2 ^ 64) × (make n ≡ s)
timed bytes make s rest e =
    let a = bind_some (number_in 10 bytes) (stamp_with make) (s, rest) e in
    let first = number_found 10 bytes a.0.0 a.0.1 a.1 in
    let p = some_is (make a.0.0, a.0.1) (s, rest) a.2 in
    let r : a.0.1 ≡ rest = ap (λ (q : Stamp × List ℕ). q.1) p in
    (a.0.0, first.0 ∙ sym (append_assoc (decimal a.0.0) (10 ∷ []) a.0.1) ∙ ap (λ t. num a.0.0 ++ t) r, first.1, ap (λ (q : Stamp × List ℕ). q.0) p)

made_by : (b : ℕ) (bytes : List ℕ) (s : Stamp) (rest : List ℕ) (t : Bool) → eqb b 77 ≡ t
    → cond t (number_in 10 bytes >>= stamp_with Made) None ≡ Some (s, rest)
    → IsSpelled (b ∷ bytes) s rest
made_by b bytes s rest true e h =
    let t = timed bytes Made s rest h in
    subst (λ x. IsSpelled (b ∷ bytes) x rest) t.3 (ap (λ x. x ∷ bytes) (byte_is b 77 e) ∙ ap (λ x. 77 ∷ x) t.1, below_of t.0 (2 ^ 64) t.2)
made_by b bytes s rest false e h = absurd cc

summed_by : (b : ℕ) (bytes : List ℕ) (s : Stamp) (rest : List ℕ) (t : Bool) → eqb b 83 ≡ t
    → cond t (summed_in bytes >>= summed_stamp) (cond (eqb b 77) (number_in 10 bytes >>= stamp_with Made) None) ≡ Some (s, rest)
    → IsSpelled (b ∷ bytes) s rest
summed_by b bytes s rest true e h =
    let a = bind_some (summed_in bytes) summed_stamp (s, rest) h in
    let f = summed_inverts.found bytes a.0.0 a.0.1 a.1 in
    let whole : b ∷ bytes ≡ stamp (Sum a.0.0.0 a.0.0.1) ++ a.0.1 = ap (λ x. x ∷ bytes) (byte_is b 83 e) ∙ ap (λ x. 83 ∷ x) f.0 in
    let fits : StampFits (Sum a.0.0.0 a.0.0.1) = both_true (nat_lt a.0.0.0 (2 ^ 64)) (is_sum a.0.0.1.0) (below_of a.0.0.0 (2 ^ 64) f.1.0) f.1.1 in
    subst (λ (q : Stamp × List ℕ). IsSpelled (b ∷ bytes) q.0 q.1) (some_is (Sum a.0.0.0 a.0.0.1, a.0.1) (s, rest) a.2) (whole, fits)
summed_by b bytes s rest false e h = made_by b bytes s rest (eqb b 77) refl h

stamp_by : (b : ℕ) (bytes : List ℕ) (s : Stamp) (rest : List ℕ) (t : Bool) → eqb b 84 ≡ t
    → cond t (number_in 10 bytes >>= stamp_with Time) (cond (eqb b 83) (summed_in bytes >>= summed_stamp) (cond (eqb b 77) (number_in 10 bytes >>= stamp_with Made) None)) ≡ Some (s, rest)
    → IsSpelled (b ∷ bytes) s rest
stamp_by b bytes s rest true e h =
    let t = timed bytes Time s rest h in
    subst (λ x. IsSpelled (b ∷ bytes) x rest) t.3 (ap (λ x. x ∷ bytes) (byte_is b 84 e) ∙ ap (λ x. 84 ∷ x) t.1, below_of t.0 (2 ^ 64) t.2)
stamp_by b bytes s rest false e h = summed_by b bytes s rest (eqb b 83) refl h

stamp_found : (bytes : List ℕ) (s : Stamp) (rest : List ℕ) → stamp_in bytes ≡ Some (s, rest) → IsSpelled bytes s rest
unfolding stamp_in
stamp_found [] s rest e = absurd cc
stamp_found (b ∷ bytes) s rest e = stamp_by b bytes s rest (eqb b 84) refl e

stamp_again : (s : Stamp) (rest : List ℕ) → StampFits s → length (stamp s ++ rest) < 2 ^ 64 → stamp_in (stamp s ++ rest) ≡ Some (s, rest)
unfolding stamp_in
stamp_again (Time t) rest h lt = rw (num_again t rest (ltb-true _ _ h)) refl
stamp_again (Sum t s) rest h lt =
    let fits : SummedFits (t, s) = (ltb-true _ _ (and_first (nat_lt t (2 ^ 64)) (is_sum s.0) h), and_second (nat_lt t (2 ^ 64)) (is_sum s.0) h) in
    let lt2 : length ((num t ++ sum s) ++ rest) < 2 ^ 64 = shorter (83 ∷ []) ((num t ++ sum s) ++ rest) (2 ^ 64) lt in
    ap (λ o. o >>= summed_stamp) (summed_inverts.again (t, s) rest fits lt2)
stamp_again (Made m) rest h lt = rw (num_again m rest (ltb-true _ _ h)) refl

stamp_some : (s : Stamp) → 0 < length (stamp s)
stamp_some (Time t) = omega arith
stamp_some (Sum t s) = omega arith
stamp_some (Made m) = omega arith

pub stamp_inverts : Inverts stamp StampFits stamp_in
stamp_inverts = record { found = stamp_found; again = stamp_again; some = stamp_some }

-- ---- values of two parts

abbrev pub IsText : List ℕ → Type 0
IsText t = is_text t ≡ true

abbrev pub IsPathText : List ℕ → Type 0
IsPathText p = is_path_text p ≡ true

pub pair_inverts : Inverts pair (λ p. IsText p.name × IsText p.value) pair_in
unfolding pair_in
pair_inverts = both_inverts (λ name value. record { name = name; value = value }) (λ p. p.name) (λ p. p.value) text IsText text_in text IsText text_in (λ a b. refl) (λ a b. refl) (λ c. refl) text_inverts text_inverts

pub values_inverts : Inverts values (λ v. IsText v.name × Each IsText v.values) values_in
unfolding values_in
values_inverts = both_inverts (λ name values. record { name = name; values = values }) (λ v. v.name) (λ v. v.values) text IsText text_in (list text) (Each IsText) (list_in text_in) (λ a b. refl) (λ a b. refl) (λ c. refl) text_inverts (list_inverts text IsText text_in text_inverts)

flag_of_kind : (folder : Bool) → is_folder_kind (kind_of folder) ≡ folder
flag_of_kind true = refl
flag_of_kind false = refl

kind_of_flag : (kind : Kind) → kind_of (is_folder_kind kind) ≡ kind
kind_of_flag Plain = refl
kind_of_flag Folder = refl

pub out_inverts : Inverts out (λ o. Unit {0} × IsPathText o.path) out_in
unfolding out_in
out_inverts = both_inverts (λ folder path. record { path = path; kind = kind_of folder }) (λ o. is_folder_kind o.kind) (λ o. o.path) letter (λ folder. Unit {0}) flag_in text IsPathText path_in (λ a b. flag_of_kind a) (λ a b. refl) (λ c. ap (λ k. record c { kind = k }) (kind_of_flag c.kind)) flag_inverts path_inverts

pub out_item_inverts : Inverts out_item (λ o. IsText o.name × Each (λ (x : Out). Unit {0} × IsPathText x.path) o.outs) out_item_in
unfolding out_item_in
out_item_inverts = both_inverts (λ name outs. record { name = name; outs = outs }) (λ o. o.name) (λ o. o.outs) text IsText text_in (list out) (Each (λ (x : Out). Unit {0} × IsPathText x.path)) (list_in out_in) (λ a b. refl) (λ a b. refl) (λ c. refl) text_inverts (list_inverts out (λ (x : Out). Unit {0} × IsPathText x.path) out_in out_inverts)

pub member_inverts : Inverts member (λ m. Unit {0} × IsPathText m.name) member_in
unfolding member_in
member_inverts = both_inverts (λ folder name. record { folder = folder; name = name }) (λ m. m.folder) (λ m. m.name) letter (λ folder. Unit {0}) flag_in text IsPathText path_in (λ a b. refl) (λ a b. refl) (λ c. refl) flag_inverts path_inverts
