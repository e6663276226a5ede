-- The lexemes of written lines.
use Rattle.std.proofs.Common.{◌≡◌, ℕ, zero, suc, ◌+◌, ◌*◌, ◌<◌, ◌≤◌, false, List, [], ◌∷◌, ◌++◌, length, None, refl, sym, ap, ◌∙◌, append_assoc, arith}
use Rattle.std.proofs.lemmas.Bool.{and_parts}
use Rattle.std.proofs.lemmas.List.{drop_at, length-append, length-replicate}
use Rattle.std.specs.Prelude.{◌==◌, replicate}
use Rattle.std.specs.Char.{is_ascii_digit}
use Rattle.std.specs.Fmt.{decimal}
use Rattle.std.specs.List.{list_all}
use Rattle.smk_lex.specs.declared.token.TokenKind.{TokenKind}
use Rattle.smk_lex.specs.declared.token.TokenKind.TheVariants as kind
use Rattle.smk_lex.specs.declared.token.Token.{Token}
use Rattle.smk_lex.specs.declared.piece.Piece.TheVariants as piece
use Rattle.smk_lex.specs.Pieces.{Bytes, cut}
use Rattle.smk_lex.specs.Layout.{token, before, items_from, items}
use Rattle.smk_lex.specs.Spelling.{IsName, IsDigits}
use Rattle.smk_lex.proofs.Walk.{with_front, blank, lexeme, line_end}
use Rattle.smk_lex.proofs.Followed.{Ends, blank_ends, feed_ends, name-cut, decimal-cut, decimal_digits, sign-cut, Begins, name_begins, digit_begins, sign_begins, quote_begins, blanks-cut, feed-cut}
use Rattle.smk_lex.proofs.Quoted.{cut-quoted}
use Rattle.smk_parse_print.specs.Lines.{Lexeme, Line, indentation, to_line_end, line_bytes, written, lexemes_at, IsWritten, a_name, a_number, a_text, a_sign, AllWritten, AreLines}

-- ---- one lexeme

pub written-cut : (l : Lexeme) (x : ℕ) (rest : Bytes) → IsWritten l → Ends x → (x == 34) ≡ false → cut (l.bytes ++ x ∷ rest) ≡ piece.Lexeme l.kind (length l.bytes)
written-cut _ x rest (a_name w h) e q = name-cut w x rest h e
written-cut _ x rest (a_number n h) e q = decimal-cut n x rest h e
written-cut _ x rest (a_text t h) e q = cut-quoted t x rest q
written-cut _ x rest (a_sign b h) e q = sign-cut b (x ∷ rest) h

-- it begins with a byte that is no blank
pub record Front (w : Bytes) : Type 0 where
  pub byte : ℕ
  pub behind : Bytes
  pub is : w ≡ byte ∷ behind
  pub begins : Begins byte

digits_front : (w : Bytes) → IsDigits w → Front w
digits_front [] h = absurd (omega (arith, h.0))
digits_front (b ∷ w) h = record { byte = b; behind = w; is = refl; begins = digit_begins b (and_parts (is_ascii_digit b) (list_all is_ascii_digit w) h.1).0 }

name_front : (w : Bytes) → IsName w → Front w
name_front [] h = absurd h
name_front (b ∷ w) h = record { byte = b; behind = w; is = refl; begins = name_begins b h.0 }

pub written_front : (l : Lexeme) → IsWritten l → Front l.bytes
written_front _ (a_name w h) = name_front w h
written_front _ (a_number n h) = digits_front (decimal n) (decimal_digits n h)
written_front _ (a_text t h) = record { byte = 34; behind = _; is = refl; begins = quote_begins }
written_front _ (a_sign b h) = record { byte = b; behind = []; is = refl; begins = sign_begins b h }

pub some_bytes : (w : Bytes) → Front w → 1 ≤ length w
some_bytes w f = let n : length w ≡ suc (length f.behind) = ap length f.is in omega arith

-- ---- one piece

some_more : (w z : Bytes) → 1 ≤ length w → 0 < length (w ++ z)
some_more w z h = omega (arith, length-append w z)

items-lexeme : (k : TokenKind) (at : ℕ) (w z : Bytes) → 1 ≤ length w → cut (w ++ z) ≡ piece.Lexeme k (length w)
    → items_from 0 at (w ++ z) ≡ before (token k at (at + length w)) (items_from 0 (at + length w) z)
items-lexeme k at w z some e =
    lexeme [] k at (length w) (w ++ z) (some_more w z some) some e
    ∙ ap (λ (v : Bytes). before (token k at (at + length w)) (items_from 0 (at + length w) v)) (drop_at w z (length w) refl)

items-blank : (at : ℕ) (w z : Bytes) → 1 ≤ length w → cut (w ++ z) ≡ piece.Blank (length w) → items_from 0 at (w ++ z) ≡ items_from 0 (at + length w) z
items-blank at w z some e =
    blank [] at (length w) (w ++ z) (some_more w z some) some e
    ∙ ap (λ (v : Bytes). items_from 0 (at + length w) v) (drop_at w z (length w) refl)

items-feed : (at : ℕ) (z : Bytes) → items_from 0 at (10 ∷ z) ≡ before (token kind.Newline at (at + 1)) (items_from 0 (at + 1) z)
items-feed at z = line_end [] at 1 (10 ∷ z) (omega arith) (omega arith) (feed-cut z)

-- one blank in front of a lexeme, or the indentation of a line
items-blanks : (n at : ℕ) (w z : Bytes) → Front w → items_from 0 at (replicate n 32 ++ (w ++ z)) ≡ items_from 0 (at + n) (w ++ z)
items-blanks zero at w z f = let e : at ≡ at + 0 = omega arith in ap (λ k. items_from 0 k (w ++ z)) e
items-blanks (suc n) at w z f =
    let v : Bytes = replicate (suc n) 32 in
    let len : length v ≡ suc n = length-replicate (suc n) 32 in
    let front : w ++ z ≡ f.byte ∷ (f.behind ++ z) = ap (λ (u : Bytes). u ++ z) f.is in
    let is : cut (v ++ (w ++ z)) ≡ piece.Blank (length v) =
    ap (λ (u : Bytes). cut (v ++ u)) front ∙ blanks-cut (suc n) f.byte (f.behind ++ z) (omega arith) f.begins ∙ ap (λ k. piece.Blank k) (sym len) in
    items-blank at v (w ++ z) (omega (arith, len)) is ∙ ap (λ k. items_from 0 (at + k) (w ++ z)) len

-- ---- a line

line-items : (at : ℕ) (l : Lexeme) (ls : List Lexeme) (rest : Bytes) → AllWritten (l ∷ ls)
    → items_from 0 at (l.bytes ++ (to_line_end ls ++ rest)) ≡ with_front (lexemes_at at l ls) (items_from 0 (at + length (l.bytes ++ to_line_end ls)) rest)
line-items at l [] rest (h, all) =
    let len : at + length l.bytes + 1 ≡ at + length (l.bytes ++ 10 ∷ []) = omega (arith, length-append l.bytes (10 ∷ [])) in
    items-lexeme l.kind at l.bytes (10 ∷ rest) (some_bytes l.bytes (written_front l h)) (written-cut l 10 rest h feed_ends refl)
    ∙ ap (before (token l.kind at (at + length l.bytes))) (items-feed (at + length l.bytes) rest)
    ∙ ap (λ k. with_front (lexemes_at at l []) (items_from 0 k rest)) len
line-items at l (m ∷ ms) rest (h, all) =
    let here = at + length l.bytes in
    let tail = to_line_end ms ++ rest in
    let len : here + 1 + length (m.bytes ++ to_line_end ms) ≡ at + length (l.bytes ++ 32 ∷ (m.bytes ++ to_line_end ms)) = omega (arith, length-append l.bytes (32 ∷ (m.bytes ++ to_line_end ms))) in
    let split : to_line_end (m ∷ ms) ++ rest ≡ 32 ∷ (m.bytes ++ tail) = ap (λ (v : Bytes). 32 ∷ v) (append_assoc m.bytes (to_line_end ms) rest) in
    ap (λ (v : Bytes). items_from 0 at (l.bytes ++ v)) split
    ∙ items-lexeme l.kind at l.bytes (32 ∷ (m.bytes ++ tail)) (some_bytes l.bytes (written_front l h)) (written-cut l 32 (m.bytes ++ tail) h blank_ends refl)
    ∙ ap (before (token l.kind at here)) (items-blanks 1 here m.bytes tail (written_front m all.0) ∙ line-items (here + 1) m ms rest all)
    ∙ ap (λ k. with_front (lexemes_at at l (m ∷ ms)) (items_from 0 k rest)) len

-- ---- all lines

-- the lexemes and line ends of lines that begin at `at`
abbrev pub items_at : ℕ → List Line → List Token
items_at at [] = []
items_at at (l ∷ ls) = lexemes_at (at + 4 * l.level) l.first l.rest ++ items_at (at + length (line_bytes l)) ls

pub all-items : (above at : ℕ) (ls : List Line) → AreLines above ls → items_from 0 at (written ls) ≡ (items_at at ls, None)
all-items above at [] h = refl
all-items above at (l ∷ ls) h =
    let n = 4 * l.level in
    let v = indentation l.level in
    let body = l.first.bytes ++ to_line_end l.rest in
    let rest = written ls in
    let len : at + n + length body ≡ at + length (line_bytes l) = omega (arith, length-append v body, length-replicate {A = ℕ} n 32) in
    let split : (v ++ body) ++ rest ≡ v ++ (l.first.bytes ++ (to_line_end l.rest ++ rest)) =
    append_assoc v body rest ∙ ap (λ (u : Bytes). v ++ u) (append_assoc l.first.bytes (to_line_end l.rest) rest) in
    ap (items_from 0 at) split
    ∙ items-blanks n at l.first.bytes (to_line_end l.rest ++ rest) (written_front l.first h.1.lexemes.0)
    ∙ line-items (at + n) l.first l.rest rest h.1.lexemes
    ∙ ap (λ k. with_front (lexemes_at (at + n) l.first l.rest) (items_from 0 k rest)) len
    ∙ ap (with_front (lexemes_at (at + n) l.first l.rest)) (all-items l.level (at + length (line_bytes l)) ls h.2)

pub items-written : (ls : List Line) → AreLines 0 ls → items (written ls) ≡ (items_at 0 ls, None)
unfolding items
items-written ls h = all-items 0 0 ls h
