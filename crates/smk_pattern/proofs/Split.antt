-- How a text is split, byte by byte.
use Rattle.std.proofs.Common.{◌≡◌, ℕ, zero, suc, ◌+◌, ◌-◌, ◌<◌, ◌≤◌, ◌==◌, ◌&&◌, List, [], ◌∷◌, ◌++◌, length, take, drop, reverse, get_or, cond, not, true, false, refl, sym, ap, subst, ◌∙◌, arith, append-nil, append_assoc, IsCharBoundary}
use Rattle.std.proofs.lemmas.List.{at_drop_more, take_more, reverse-append, reverse-reverse, length-reverse, length-take-le, get_or-drop, length-drop}
use Rattle.std.proofs.lemmas.Bool.Decides.{nat_tests}
use Rattle.std.proofs.lemmas.Str.{IsCharBoundary-after_ascii}
use Rattle.smk_pattern.specs.declared.splitting.Splitter.{Splitter}
use Rattle.smk_pattern.specs.Shapes.{Text}
use Rattle.smk_pattern.specs.Grammar.{Piece, plain, is_blank, is_balanced}
use Rattle.smk_pattern.specs.Reading.{trimmed, plain_of, hole_of, ended, depth_after, held_after, pieces_from, pieces}
use Rattle.smk_pattern.specs.Splitting.{all_written, between, HasRead}

-- ---- blanks

pub blank_first : (text : Text) (i : ℕ) → i < length text → is_blank (get_or text i 0) ≡ true → trimmed (drop (i + 1) text) ≡ trimmed (drop i text)
blank_first text i lt e =
    sym (at_drop_more trimmed text i 0 lt ∙ ap (λ b. cond b (trimmed (drop (i + 1) text)) (get_or text i 0 ∷ drop (i + 1) text)) e)

last_first : (text : Text) (i : ℕ) → i < length text → reverse (take (i + 1) text) ≡ get_or text i 0 ∷ reverse (take i text)
last_first text i lt = ap reverse (take_more text i 0 lt) ∙ reverse-append (take i text) (get_or text i 0 ∷ [])

pub blank_last : (text : Text) (i : ℕ) → i < length text → is_blank (get_or text i 0) ≡ true → trimmed (reverse (take i text)) ≡ trimmed (reverse (take (i + 1) text))
blank_last text i lt e =
    sym (ap trimmed (last_first text i lt) ∙ ap (λ b. cond b (trimmed (reverse (take i text))) (get_or text i 0 ∷ reverse (take i text))) e)

pub no_blank_last : (text : Text) (i : ℕ) → i < length text → is_blank (get_or text i 0) ≡ false → trimmed (reverse (take (i + 1) text)) ≡ reverse (take (i + 1) text)
no_blank_last text i lt e =
    ap trimmed (last_first text i lt) ∙ ap (λ b. cond b (trimmed (reverse (take i text))) (get_or text i 0 ∷ reverse (take i text))) e ∙ sym (last_first text i lt)

-- ---- a byte

pub between_more : (start at : ℕ) (text : Text) → start ≤ at → at < length text → between start (at + 1) text ≡ between start at text ++ get_or text at 0 ∷ []
between_more start at text le lt =
    let n : (at + 1) - start ≡ (at - start) + 1 = omega arith in
    let m : start + (at - start) ≡ at = omega arith in
    ap (λ k. take k (drop start text)) n
    ∙ take_more (drop start text) (at - start) 0 (omega (arith, length-drop start text))
    ∙ ap (λ b. between start at text ++ b ∷ []) (get_or-drop start text (at - start) 0 ∙ ap (λ k. get_or text k 0) m)

pub between_none : (at : ℕ) (text : Text) → between at at text ≡ []
between_none at text = let n : at - at ≡ 0 = omega arith in ap (λ k. take k (drop at text)) n

-- the piece goes on
pub held_more : (start at : ℕ) (text : Text) → start ≤ at → at < length text → reverse (between start (at + 1) text) ≡ get_or text at 0 ∷ reverse (between start at text)
held_more start at text le lt = ap reverse (between_more start at text le lt) ∙ reverse-append (between start at text) (get_or text at 0 ∷ [])

pub record Takes (b braces new : ℕ) (begun : Text) (made : List Piece) (next rest : Text) : Type 0 where
  pub ends : ended b braces begun ≡ made
  pub depth : depth_after b braces ≡ new
  pub held : held_after b braces begun ≡ next
  pub balanced : is_balanced braces (b ∷ rest) ≡ is_balanced new rest

pub takes_opening : (held rest : Text) → Takes 123 0 1 held (plain_of held) [] rest
takes_opening held rest = record { ends = refl; depth = refl; held = refl; balanced = refl }

pub takes_deeper : (depth : ℕ) (held rest : Text) → 0 < depth → Takes 123 depth (depth + 1) held [] (123 ∷ held) rest
takes_deeper zero held rest lt = absurd (omega (arith, lt))
takes_deeper (suc zero) held rest lt = record { ends = refl; depth = refl; held = refl; balanced = refl }
takes_deeper (suc (suc depth)) held rest lt =
    let e : suc (suc (suc depth)) ≡ suc (suc depth) + 1 = omega arith in
    record { ends = refl; depth = e; held = refl; balanced = ap (λ d. is_balanced d rest) e }

pub takes_closing : (held rest : Text) → Takes 125 1 0 held (hole_of (reverse held) ∷ []) [] rest
takes_closing held rest = record { ends = refl; depth = refl; held = refl; balanced = refl }

pub takes_less : (depth : ℕ) (held rest : Text) → 1 < depth → Takes 125 depth (depth - 1) held [] (125 ∷ held) rest
takes_less zero held rest lt = absurd (omega (arith, lt))
takes_less (suc zero) held rest lt = absurd (omega (arith, lt))
takes_less (suc (suc depth)) held rest lt =
    let e : suc depth ≡ suc (suc depth) - 1 = omega arith in
    record { ends = refl; depth = e; held = refl; balanced = ap (λ d. is_balanced d rest) e }

pub takes_other : (b depth : ℕ) (held rest : Text) → (b == 123) ≡ false → (b == 125) ≡ false → Takes b depth depth held [] (b ∷ held) rest
takes_other b zero held rest e f = record {
  ends = ap (λ t. cond t (plain_of held) []) e;
  depth = ap (λ t. cond t 1 0) e;
  held = ap (λ t. cond t [] (b ∷ held)) e;
  balanced = ap (λ t. cond t (is_balanced 1 rest) (not (b == 125) && is_balanced 0 rest)) e ∙ ap (λ t. not t && is_balanced 0 rest) f;
}
takes_other b (suc zero) held rest e f = record {
  ends = ap (λ t. cond t (hole_of (reverse held) ∷ []) []) f;
  depth = ap (λ t. cond t 2 (cond (b == 125) 0 1)) e ∙ ap (λ t. cond t 0 1) f;
  held = ap (λ t. cond t [] (b ∷ held)) f;
  balanced = ap (λ t. cond t (is_balanced 2 rest) (cond (b == 125) (is_balanced 0 rest) (is_balanced 1 rest))) e ∙ ap (λ t. cond t (is_balanced 0 rest) (is_balanced 1 rest)) f;
}
takes_other b (suc (suc depth)) held rest e f = record {
  ends = refl;
  depth = ap (λ t. cond t (suc (suc (suc depth))) (cond (b == 125) (suc depth) (suc (suc depth)))) e ∙ ap (λ t. cond t (suc depth) (suc (suc depth))) f;
  held = refl;
  balanced =
      ap (λ t. cond t (is_balanced (suc (suc (suc depth))) rest) (cond (b == 125) (is_balanced (suc depth) rest) (is_balanced (suc (suc depth)) rest))) e
      ∙ ap (λ t. cond t (is_balanced (suc depth) rest) (is_balanced (suc (suc depth)) rest)) f;
}

-- what has been read after one more byte
pub reads_on : (s n : Splitter) (at b : ℕ) (made : List Piece) (next : Text) → HasRead s at → at < length s.text.now → get_or s.text.now at 0 ≡ b →
    Takes b s.depth n.depth (reverse (between s.start at s.text.now)) made next (drop (at + 1) s.text.now) →
    n.text.now ≡ s.text.now → all_written n.made.items ≡ all_written s.made.items ++ made → reverse (between n.start (at + 1) s.text.now) ≡ next →
    n.start ≤ at + 1 → IsCharBoundary s.text.now n.start → n.depth ≤ at + 1 → HasRead n (at + 1)
reads_on s n at b made next r lt e t same m h begun boundary deep =
    let text = s.text.now in
    let held = reverse (between s.start at text) in
    let rest = drop (at + 1) text in
    let step : pieces_from (drop at text) s.depth held ≡ made ++ pieces_from rest n.depth next =
    at_drop_more (λ x. pieces_from x s.depth held) text at 0 lt
    ∙ ap (λ c. ended c s.depth held ++ pieces_from rest (depth_after c s.depth) (held_after c s.depth held)) e
    ∙ ap (λ x. x ++ pieces_from rest (depth_after b s.depth) (held_after b s.depth held)) t.ends
    ∙ ap (λ d. made ++ pieces_from rest d (held_after b s.depth held)) t.depth
    ∙ ap (λ x. made ++ pieces_from rest n.depth x) t.held in
    let whole : all_written n.made.items ++ pieces_from rest n.depth (reverse (between n.start (at + 1) text)) ≡ pieces text =
    ap (λ x. x ++ pieces_from rest n.depth (reverse (between n.start (at + 1) text))) m
    ∙ ap (λ x. (all_written s.made.items ++ made) ++ pieces_from rest n.depth x) h
    ∙ append_assoc (all_written s.made.items) made (pieces_from rest n.depth next)
    ∙ ap (λ x. all_written s.made.items ++ x) (sym step)
    ∙ r.pieces in
    let balance : is_balanced n.depth rest ≡ is_balanced 0 text =
    sym t.balanced ∙ ap (λ c. is_balanced s.depth (c ∷ rest)) (sym e) ∙ sym (at_drop_more (is_balanced s.depth) text at 0 lt) ∙ r.balanced in
    record {
      pieces = rw same whole;
      balanced = rw same balance;
      begun = begun;
      boundary = rw same boundary;
      open_braces = deep;
      utf8 = rw same r.utf8;
    }

-- the same piece goes on
pub goes_on : (s : Splitter) (at b d : ℕ) → HasRead s at → at < length s.text.now → get_or s.text.now at 0 ≡ b →
    Takes b s.depth d (reverse (between s.start at s.text.now)) [] (b ∷ reverse (between s.start at s.text.now)) (drop (at + 1) s.text.now) → d ≤ at + 1 →
    HasRead (record s { depth = d }) (at + 1)
goes_on s at b d r lt e t deep =
    let text = s.text.now in
    let held = reverse (between s.start at text) in
    let begun = r.begun in
    let n : Splitter = record s { depth = d } in
    reads_on s n at b [] (b ∷ held) r lt e t refl (sym (append-nil (all_written s.made.items)))
    (held_more s.start at text r.begun lt ∙ ap (λ c. c ∷ held) e) (omega arith) r.boundary deep

-- a piece ends at this byte, and the next one begins behind it
ends_here : (s n : Splitter) (at b : ℕ) (made : List Piece) → HasRead s at → at < length s.text.now → get_or s.text.now at 0 ≡ b → b < 128 →
    Takes b s.depth n.depth (reverse (between s.start at s.text.now)) made [] (drop (at + 1) s.text.now) → n.text.now ≡ s.text.now → n.start ≡ at + 1 →
    all_written n.made.items ≡ all_written s.made.items ++ made → n.depth ≤ at + 1 → HasRead n (at + 1)
ends_here s n at b made r lt e small t same start m deep =
    let text = s.text.now in
    let boundary : IsCharBoundary text (at + 1) = IsCharBoundary-after_ascii text at r.utf8 lt (subst (λ c. c < 128) (sym e) small) in
    reads_on s n at b made [] r lt e t same m (ap (λ k. reverse (between k (at + 1) text)) start ∙ ap reverse (between_none (at + 1) text))
    (omega (arith, start)) (subst (IsCharBoundary text) (sym start) boundary) deep

pub opens : (s n : Splitter) (at : ℕ) → HasRead s at → at < length s.text.now → get_or s.text.now at 0 ≡ 123 → s.depth ≡ 0 → n.depth ≡ 1 →
    n.text.now ≡ s.text.now → n.start ≡ at + 1 → all_written n.made.items ≡ all_written s.made.items ++ plain_of (reverse (between s.start at s.text.now)) → HasRead n (at + 1)
opens s n at r lt e zero_deep one same start m =
    ends_here s n at 123 _ r lt e (omega arith)
    (rw (zero_deep, one) (takes_opening (reverse (between s.start at s.text.now)) (drop (at + 1) s.text.now))) same start m (omega (arith, one))

pub closes : (s n : Splitter) (at : ℕ) → HasRead s at → at < length s.text.now → get_or s.text.now at 0 ≡ 125 → s.depth ≡ 1 → n.depth ≡ 0 →
    n.text.now ≡ s.text.now → n.start ≡ at + 1 → all_written n.made.items ≡ all_written s.made.items ++ hole_of (between s.start at s.text.now) ∷ [] → HasRead n (at + 1)
closes s n at r lt e one zero_deep same start m =
    let slice = between s.start at s.text.now in
    ends_here s n at 125 _ r lt e (omega arith)
    (rw (one, zero_deep) (takes_closing (reverse slice) (drop (at + 1) s.text.now))) same start
    (m ∙ ap (λ t. all_written s.made.items ++ hole_of t ∷ []) (sym (reverse-reverse slice))) (omega (arith, zero_deep))

-- a text that isn't empty is a piece
pub plain_of_all : (t : Text) → 0 < length t → plain_of (reverse t) ≡ plain t ∷ []
plain_of_all t lt = by (reverse t) (reverse-reverse t) (omega (arith, length-reverse t))
  where
    by : (u : Text) → reverse u ≡ t → 0 < length u → plain_of u ≡ plain t ∷ []
    by [] e l = absurd (omega (arith, l))
    by (b ∷ u) e l = ap (λ x. plain x ∷ []) e

pub length_between : (start at : ℕ) (text : Text) → start ≤ at → at ≤ length text → length (between start at text) ≡ at - start
length_between start at text le within = length-take-le (at - start) (drop start text) (omega (arith, length-drop start text))

pub blank_small : (b : ℕ) → is_blank b ≡ true → b < 128
blank_small b e = grind (arith, nat_tests)

pub other_byte : (a b : ℕ) → (a ≡ b → ⊥) → (a == b) ≡ false
other_byte a b h = grind (arith, nat_tests)

pub cut_last : (text : Text) (end : ℕ) → trimmed (reverse (take end text)) ≡ trimmed (reverse text) → trimmed (reverse (take end text)) ≡ reverse (take end text) →
    between 0 end text ≡ reverse (trimmed (reverse text))
cut_last text end whole rest =
    let n : end - 0 ≡ end = omega arith in
    ap (λ k. take k text) n ∙ sym (reverse-reverse (take end text)) ∙ ap reverse (sym rest ∙ whole)
