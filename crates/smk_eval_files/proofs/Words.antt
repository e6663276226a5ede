-- Words are ASCII; and the places behind slashes.
use Rattle.std.proofs.Common.{◌≡◌, ℕ, zero, suc, ◌+◌, ◌<◌, ◌==◌, Bool, true, false, List, [], ◌∷◌, take, drop, length, get_or, if◌then◌else◌, refl, ap, sym, subst, ◌∙◌, arith}
use Rattle.std.specs.List.{prefix_len, slice_index}
use Rattle.std.specs.Str.{IsUtf8}
use Rattle.std.proofs.lemmas.Bool.{ne_eqb}
use Rattle.std.proofs.lemmas.List.{at_drop_more}
use Rattle.std.proofs.lemmas.Str.{IsUtf8-from_ascii}
use Rattle.smk_eval_files.specs.Reading.{is_word_byte, front_word, folder_end}

byte_small : (b : ℕ) → is_word_byte b ≡ true → b < 128
byte_small b h = grind (arith, h)

one_more : (b n : ℕ) (z : List ℕ) (i : ℕ) → b < 128 → ((j : ℕ) → slice_index (take n z) j < 128) → slice_index (take (1 + n) (b ∷ z)) i < 128
one_more b n z zero small more = let e : suc n ≡ 1 + n = omega arith in subst (λ (m : ℕ). slice_index (take m (b ∷ z)) zero < 128) e small
one_more b n z (suc i) small more = let e : suc n ≡ 1 + n = omega arith in subst (λ (m : ℕ). slice_index (take m (b ∷ z)) (suc i) < 128) e (more i)

word_small : (z : List ℕ) (i : ℕ) → slice_index (front_word z) i < 128
word_small [] i = omega arith
word_small (b ∷ z) i = go (is_word_byte b) refl (word_small z)
  where
    go : (y : Bool) → is_word_byte b ≡ y → ((j : ℕ) → slice_index (front_word z) j < 128) → slice_index (take (if y then 1 + prefix_len is_word_byte z else 0) (b ∷ z)) i < 128
    go true e more = one_more b (prefix_len is_word_byte z) z i (byte_small b e) more
    go false e more = omega arith

pub word_utf8 : (z : List ℕ) → IsUtf8 (front_word z)
word_utf8 z = IsUtf8-from_ascii (front_word z) (word_small z)

end_step : (f : List ℕ) (p end n : ℕ) → p < length f → n ≡ (if get_or f p 0 == 47 then p + 1 else end) → folder_end (p + 1) n (drop (p + 1) f) ≡ folder_end p end (drop p f)
end_step f p end n lt is = ap (λ m. folder_end (p + 1) m (drop (p + 1) f)) is ∙ sym (at_drop_more (λ z. folder_end p end z) f p 0 lt)

pub slash_step : (f : List ℕ) (p end n : ℕ) → p < length f → get_or f p 0 ≡ 47 → n ≡ p + 1 → folder_end (p + 1) n (drop (p + 1) f) ≡ folder_end p end (drop p f)
slash_step f p end n lt slash is = end_step f p end n lt (is ∙ ap (λ b. if b == 47 then p + 1 else end) (sym slash))

pub other_step : (f : List ℕ) (p end n : ℕ) → p < length f → (get_or f p 0 ≡ 47 → ⊥) → n ≡ end → folder_end (p + 1) n (drop (p + 1) f) ≡ folder_end p end (drop p f)
other_step f p end n lt other is = end_step f p end n lt (is ∙ ap (λ y. if y then p + 1 else end) (sym (ne_eqb (get_or f p 0) 47 other)))
