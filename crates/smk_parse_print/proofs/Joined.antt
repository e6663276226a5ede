-- In written rows there is no layout within entries, since each entry stands in one row.
use Rattle.std.proofs.Common.{◌≡◌, ℕ, zero, suc, ◌+◌, ◌-◌, ◌*◌, ◌<◌, ◌≤◌, Bool, true, false, cond, List, [], ◌∷◌, ◌++◌, length, refl, sym, ap, subst, ◌∙◌, arith, ◌⊎◌, inl, inr}
use Rattle.std.proofs.lemmas.Bool.{false_from_ne_true, ltb-true}
use Rattle.std.specs.Prelude.{nat_lt, ◌||◌}
use Rattle.smk_lex.specs.declared.token.TokenKind.{TokenKind}
use Rattle.smk_lex.specs.declared.token.TokenKind.TheVariants as kind
use Rattle.smk_lex.specs.declared.token.Token.{Token}
use Rattle.smk_lex.specs.Pieces.{Bytes}
use Rattle.smk_lex.specs.Layout.{token, dedents}
use Rattle.std.specs.Fmt.{decimal}
use Rattle.smk_lex.specs.Spelling.{quoted}
use Rattle.smk_parse.specs.declared.entries.Place.TheVariants.{Start, Line as InLine, Entry}
use Rattle.smk_parse.specs.Entries.{opens, is_indent, closed, goes_deeper, is_signed, joined_from, joined}
use Rattle.smk_parse_print.specs.Lines.{Lexeme, Line, line_bytes, lexemes_at, turn, tokens_of, IsWritten, a_name, a_number, a_text, a_sign, AllWritten, AreLines}

-- ---- one line

-- in a line that is no entry
line-run : (source : Bytes) (at : ℕ) (l : Lexeme) (ls : List Lexeme) (more : List Token) → AllWritten (l ∷ ls)
    → joined_from source InLine (lexemes_at at l ls ++ more) ≡ lexemes_at at l ls ++ joined_from source (Start 0) more
line-run source at _ [] more (a_name w h, all) = refl
line-run source at _ [] more (a_number n h, all) = refl
line-run source at _ [] more (a_text t h, all) = refl
line-run source at _ [] more (a_sign b h, all) = refl
line-run source at _ (m ∷ ms) more (a_name w h, all) = ap (λ (v : List Token). token kind.Name at (at + length w) ∷ v) (line-run source (at + length w + 1) m ms more all)
line-run source at _ (m ∷ ms) more (a_number n h, all) = ap (λ (v : List Token). token kind.Number at (at + length (decimal n)) ∷ v) (line-run source (at + length (decimal n) + 1) m ms more all)
line-run source at _ (m ∷ ms) more (a_text t h, all) = ap (λ (v : List Token). token kind.Text at (at + length (quoted t)) ∷ v) (line-run source (at + length (quoted t) + 1) m ms more all)
line-run source at _ (m ∷ ms) more (a_sign b h, all) = ap (λ (v : List Token). token kind.Sign at (at + 1) ∷ v) (line-run source (at + 1 + 1) m ms more all)

-- in an entry, where the next line is not deeper
entry-run : (source : Bytes) (at : ℕ) (l : Lexeme) (ls : List Lexeme) (more : List Token) → AllWritten (l ∷ ls) → goes_deeper 0 more ≡ false
    → joined_from source (Entry 0) (lexemes_at at l ls ++ more) ≡ lexemes_at at l ls ++ joined_from source (Start 0) more
entry-run source at _ [] more (a_name w h, all) flat = rw flat refl
entry-run source at _ [] more (a_number n h, all) flat = rw flat refl
entry-run source at _ [] more (a_text t h, all) flat = rw flat refl
entry-run source at _ [] more (a_sign b h, all) flat = rw flat refl
entry-run source at _ (m ∷ ms) more (a_name w h, all) flat = ap (λ (v : List Token). token kind.Name at (at + length w) ∷ v) (entry-run source (at + length w + 1) m ms more all flat)
entry-run source at _ (m ∷ ms) more (a_number n h, all) flat = ap (λ (v : List Token). token kind.Number at (at + length (decimal n)) ∷ v) (entry-run source (at + length (decimal n) + 1) m ms more all flat)
entry-run source at _ (m ∷ ms) more (a_text t h, all) flat = ap (λ (v : List Token). token kind.Text at (at + length (quoted t)) ∷ v) (entry-run source (at + length (quoted t) + 1) m ms more all flat)
entry-run source at _ (m ∷ ms) more (a_sign b h, all) flat = ap (λ (v : List Token). token kind.Sign at (at + 1) ∷ v) (entry-run source (at + 1 + 1) m ms more all flat)

-- a line that is no entry, since no sign stands behind its first lexeme
abbrev pub IsNoEntry : List Lexeme → Type 0
IsNoEntry [] = Unit {0}
IsNoEntry (m ∷ ms) = m.kind ≡ kind.Name

-- behind the first lexeme of a line
abbrev tail_of : ℕ → Lexeme → List Lexeme → List Token
tail_of at l [] = token kind.Newline (at + length l.bytes) (at + length l.bytes + 1) ∷ []
tail_of at l (m ∷ ms) = lexemes_at (at + length l.bytes + 1) m ms

first_and_tail : (at : ℕ) (l : Lexeme) (ls : List Lexeme) → lexemes_at at l ls ≡ token l.kind at (at + length l.bytes) ∷ tail_of at l ls
first_and_tail at l [] = refl
first_and_tail at l (m ∷ ms) = refl

tail-line : (source : Bytes) (at : ℕ) (l : Lexeme) (ls : List Lexeme) (more : List Token) → AllWritten ls
    → joined_from source InLine (tail_of at l ls ++ more) ≡ tail_of at l ls ++ joined_from source (Start 0) more
tail-line source at l [] more all = refl
tail-line source at l (m ∷ ms) more all = line-run source (at + length l.bytes + 1) m ms more all

tail-entry : (source : Bytes) (at : ℕ) (l : Lexeme) (ls : List Lexeme) (more : List Token) → AllWritten ls → goes_deeper 0 more ≡ false
    → joined_from source (Entry 0) (tail_of at l ls ++ more) ≡ tail_of at l ls ++ joined_from source (Start 0) more
tail-entry source at l [] more all flat = rw flat refl
tail-entry source at l (m ∷ ms) more all flat = entry-run source (at + length l.bytes + 1) m ms more all flat

no_sign : (source : Bytes) (k : TokenKind) (a b : ℕ) (ts : List Token) → k ≡ kind.Name → is_signed source (token k a b ∷ ts) ≡ false
no_sign source k a b ts e = subst (λ v. is_signed source (token v a b ∷ ts) ≡ false) (sym e) refl

tail-unsigned : (source : Bytes) (at : ℕ) (l : Lexeme) (ls : List Lexeme) (more : List Token) → IsNoEntry ls → is_signed source (tail_of at l ls ++ more) ≡ false
tail-unsigned source at l [] more h = refl
tail-unsigned source at l (m ∷ ms) more h =
    let a = at + length l.bytes + 1 in
    ap (λ (v : List Token). is_signed source (v ++ more)) (first_and_tail a m ms) ∙ no_sign source m.kind a (a + length m.bytes) (tail_of a m ms ++ more) h

-- a name may begin an entry
name-start : (source : Bytes) (t : Token) (rest more : List Token) → (is_signed source (rest ++ more) ≡ false) ⊎ (joined_from source (Entry 0) (rest ++ more) ≡ rest ++ joined_from source (Start 0) more)
    → joined_from source InLine (rest ++ more) ≡ rest ++ joined_from source (Start 0) more
    → t ∷ joined_from source (cond (is_signed source (rest ++ more)) (Entry 0) InLine) (rest ++ more) ≡ t ∷ (rest ++ joined_from source (Start 0) more)
name-start source t rest more (inl no_entry) line = ap (λ b. t ∷ joined_from source (cond b (Entry 0) InLine) (rest ++ more)) no_entry ∙ ap (λ (v : List Token). t ∷ v) line
name-start source t rest more (inr entry) line = either (is_signed source (rest ++ more))
  where
    either : (b : Bool) → t ∷ joined_from source (cond b (Entry 0) InLine) (rest ++ more) ≡ t ∷ (rest ++ joined_from source (Start 0) more)
    either true = ap (λ (v : List Token). t ∷ v) entry
    either false = ap (λ (v : List Token). t ∷ v) line

start-by : (source : Bytes) (l : Lexeme) (a b : ℕ) (rest more : List Token) → IsWritten l
    → (is_signed source (rest ++ more) ≡ false) ⊎ (joined_from source (Entry 0) (rest ++ more) ≡ rest ++ joined_from source (Start 0) more)
    → joined_from source InLine (rest ++ more) ≡ rest ++ joined_from source (Start 0) more
    → joined_from source (Start 0) (token l.kind a b ∷ (rest ++ more)) ≡ token l.kind a b ∷ (rest ++ joined_from source (Start 0) more)
start-by source _ a b rest more (a_name w h) entry line = name-start source (token kind.Name a b) rest more entry line
start-by source _ a b rest more (a_number n h) entry line = ap (λ (v : List Token). token kind.Number a b ∷ v) line
start-by source _ a b rest more (a_text t h) entry line = ap (λ (v : List Token). token kind.Text a b ∷ v) line
start-by source _ a b rest more (a_sign c h) entry line = ap (λ (v : List Token). token kind.Sign a b ∷ v) line

line-start : (source : Bytes) (at : ℕ) (l : Lexeme) (ls : List Lexeme) (more : List Token) → AllWritten (l ∷ ls) → IsNoEntry ls ⊎ (goes_deeper 0 more ≡ false)
    → joined_from source (Start 0) (lexemes_at at l ls ++ more) ≡ lexemes_at at l ls ++ joined_from source (Start 0) more
line-start source at l ls more (h, all) flat =
    let rest = tail_of at l ls in
    let split = first_and_tail at l ls in
    let entry : (is_signed source (rest ++ more) ≡ false) ⊎ (joined_from source (Entry 0) (rest ++ more) ≡ rest ++ joined_from source (Start 0) more) =
    elim flat [ inl none ↦ inl (tail-unsigned source at l ls more none) | inr shallow ↦ inr (tail-entry source at l ls more all shallow) ] in
    ap (λ (v : List Token). joined_from source (Start 0) (v ++ more)) split
    ∙ start-by source l at (at + length l.bytes) rest more h entry (tail-line source at l ls more all)
    ∙ ap (λ (v : List Token). v ++ joined_from source (Start 0) more) (sym split)

-- ---- between lines

dedents-start : (source : Bytes) (n at : ℕ) (ts : List Token) → joined_from source (Start 0) (dedents n at ++ ts) ≡ dedents n at ++ joined_from source (Start 0) ts
dedents-start source zero at ts = refl
dedents-start source (suc n) at ts = ap (λ (v : List Token). token kind.Dedent at at ∷ v) (dedents-start source n at ts)

dedents-alone : (source : Bytes) (n at : ℕ) → joined_from source (Start 0) (dedents n at) ≡ dedents n at
dedents-alone source zero at = refl
dedents-alone source (suc n) at = ap (λ (v : List Token). token kind.Dedent at at ∷ v) (dedents-alone source n at)

turn-start : (source : Bytes) (b : Bool) (n at to : ℕ) (ts : List Token)
    → joined_from source (Start 0) (cond b (token kind.Indent at to ∷ []) (dedents n to) ++ ts) ≡ cond b (token kind.Indent at to ∷ []) (dedents n to) ++ joined_from source (Start 0) ts
turn-start source true n at to ts = refl
turn-start source false n at to ts = dedents-start source n to ts

-- ---- the next line is not deeper

abbrev pub IsShallow : ℕ → List Line → Type 0
IsShallow level [] = Unit {0}
IsShallow level (l ∷ ls) = l.level ≤ level

-- a line that may be an entry is followed by no deeper one
abbrev pub AreFlat : List Line → Type 0
AreFlat [] = Unit {0}
AreFlat (l ∷ ls) = (IsNoEntry l.rest ⊎ IsShallow l.level ls) × AreFlat ls

none_less : (n : ℕ) → nat_lt n 0 ≡ false
none_less n = false_from_ne_true (nat_lt n 0) (λ e. let lt : n < 0 = ltb-true n 0 e in omega arith)

no_indent : (at : ℕ) (l : Lexeme) (ls : List Lexeme) (more : List Token) → IsWritten l → opens (lexemes_at at l ls ++ more) ≡ false
no_indent at l ls more h = ap (λ (v : List Token). opens (v ++ more)) (first_and_tail at l ls) ∙ by_kind l h
  where
    by_kind : (l : Lexeme) → IsWritten l → is_indent l.kind ≡ false
    by_kind _ (a_name w h) = refl
    by_kind _ (a_number n h) = refl
    by_kind _ (a_text t h) = refl
    by_kind _ (a_sign b h) = refl

dedents-no_indent : (n at : ℕ) (ts : List Token) → opens ts ≡ false → opens (dedents n at ++ ts) ≡ false
dedents-no_indent zero at ts h = h
dedents-no_indent (suc n) at ts h = refl

dedents-opens : (n at : ℕ) → opens (dedents n at) ≡ false
dedents-opens zero at = refl
dedents-opens (suc n) at = refl

not_open : (above at : ℕ) (ls : List Line) → AreLines above ls → IsShallow above ls → opens (tokens_of above at ls) ≡ false
not_open above at [] h shallow = dedents-opens above at
not_open above at (l ∷ ls) (nested, is, others) shallow =
    let b : nat_lt above l.level ≡ false = false_from_ne_true (nat_lt above l.level) (λ e. let lt : above < l.level = ltb-true above l.level e in omega arith) in
    let rest = lexemes_at (at + 4 * l.level) l.first l.rest ++ tokens_of l.level (at + length (line_bytes l)) ls in
    ap (λ v. opens (cond v (token kind.Indent at (at + 4 * l.level) ∷ []) (dedents (above - l.level) (at + 4 * l.level)) ++ rest)) b
    ∙ dedents-no_indent (above - l.level) (at + 4 * l.level) rest (no_indent (at + 4 * l.level) l.first l.rest (tokens_of l.level (at + length (line_bytes l)) ls) is.lexemes.0)

not_deeper : (ts : List Token) → opens ts ≡ false → goes_deeper 0 ts ≡ false
not_deeper ts h = ap (λ b. b || nat_lt (closed ts) 0) h ∙ none_less (closed ts)

-- ---- all lines

lines-joined : (source : Bytes) (above at : ℕ) (ls : List Line) → AreLines above ls → AreFlat ls → joined_from source (Start 0) (tokens_of above at ls) ≡ tokens_of above at ls
lines-joined source above at [] h flat = dedents-alone source above at
lines-joined source above at (l ∷ ls) (nested, is, others) (here, flat) =
    let end = at + length (line_bytes l) in
    let line = lexemes_at (at + 4 * l.level) l.first l.rest in
    let more = tokens_of l.level end ls in
    let shallow : IsNoEntry l.rest ⊎ (goes_deeper 0 more ≡ false) = elim here [ inl none ↦ inl none | inr low ↦ inr (not_deeper more (not_open l.level end ls others low)) ] in
    turn-start source (nat_lt above l.level) (above - l.level) at (at + 4 * l.level) (line ++ more)
    ∙ ap (λ (v : List Token). turn above l.level at ++ v)
    (line-start source (at + 4 * l.level) l.first l.rest more is.lexemes shallow ∙ ap (λ (v : List Token). line ++ v) (lines-joined source l.level end ls others flat))

pub tokens-joined : (source : Bytes) (ls : List Line) → AreLines 0 ls → AreFlat ls → joined source (tokens_of 0 0 ls) ≡ tokens_of 0 0 ls
unfolding joined
tokens-joined source ls h flat = lines-joined source 0 0 ls h flat
