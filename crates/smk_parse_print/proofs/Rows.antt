-- Rows read back as their symbols.
use Rattle.std.proofs.Common.{◌≡◌, ℕ, zero, suc, ◌+◌, ◌-◌, ◌*◌, Bool, true, false, cond, List, [], ◌∷◌, ◌++◌, length, map, drop, Option, refl, sym, ap, ◌∙◌, append_assoc}
use Rattle.std.proofs.lemmas.List.{length-replicate, map-append}
use Rattle.std.specs.Prelude.{replicate, nat_lt, unwrap_or}
use Rattle.smk_lex.specs.declared.token.TokenKind.TheVariants as kind
use Rattle.smk_lex.specs.declared.token.Token.{Token}
use Rattle.smk_lex.specs.Pieces.{Bytes, is_sign}
use Rattle.smk_lex.specs.Layout.{token, dedents}
use Rattle.smk_lex.proofs.Followed.{number_of-decimal}
use Rattle.smk_lex.proofs.Quoted.{value-quoted}
use Rattle.smk_parse_expr.specs.declared.symbol.Sign.{Sign}
use Rattle.smk_parse_expr.specs.declared.symbol.Sign.TheVariants as sign
use Rattle.smk_parse_expr.specs.declared.symbol.Symbol.{Symbol}
use Rattle.smk_parse_expr.specs.declared.symbol.Symbol.TheVariants as s
use Rattle.smk_parse_expr.specs.Tokens.{sign_of, by_kind, symbol_of, symbols_of}
use Rattle.smk_parse_print.specs.Lines.{indentation, to_line_end, line_bytes, lexemes_at, turn, tokens_of, IsWritten, a_name, a_number, a_text, a_sign, AllWritten, AreLines}
use Rattle.smk_parse_print.specs.Rows.{Row, byte_of, lexeme_of, line_of, bytes_of, IsFit, AllFit, AreRows, unplaced, turned, row_symbols, ReadsBack}
use Rattle.smk_parse_print.proofs.Placed.{behind_at, between_at}
use Rattle.smk_parse_print.proofs.Whole.{lexed-written}

-- ---- rows are lines

is_byte : (k : Sign) → is_sign (byte_of k) ≡ true
is_byte sign.Colon = refl
is_byte sign.Comma = refl
is_byte sign.Equals = refl
is_byte sign.Open = refl
is_byte sign.Close = refl
is_byte sign.OpenSquare = refl
is_byte sign.CloseSquare = refl
is_byte sign.Point = refl
is_byte sign.Plus = refl
is_byte sign.Greater = refl

fit-written : (x : Symbol) → IsFit x → IsWritten (lexeme_of x)
fit-written (s.Name at w) h = a_name w h
fit-written (s.Number at n) h = a_number n h
fit-written (s.Text at t) h = a_text t h
fit-written (s.Sign at k) h = a_sign (byte_of k) (is_byte k)
fit-written (s.Newline at) h = absurd h
fit-written (s.Indent at) h = absurd h
fit-written (s.Dedent at) h = absurd h

all-written : (xs : List Symbol) → AllFit xs → AllWritten (map lexeme_of xs)
all-written [] h = tt
all-written (x ∷ xs) h = (fit-written x h.0, all-written xs h.1)

pub rows-lines : (above : ℕ) (rs : List Row) → AreRows above rs → AreLines above (map line_of rs)
rows-lines above [] h = tt
rows-lines above (r ∷ rs) (nested, is, others) = (nested, record { lexemes = all-written (r.first ∷ r.rest) is.fit; closed = is.closed }, rows-lines r.level rs others)

-- ---- one symbol

sign_again : (k : Sign) → sign_of (byte_of k) ≡ k
sign_again sign.Colon = refl
sign_again sign.Comma = refl
sign_again sign.Equals = refl
sign_again sign.Open = refl
sign_again sign.Close = refl
sign_again sign.OpenSquare = refl
sign_again sign.CloseSquare = refl
sign_again sign.Point = refl
sign_again sign.Plus = refl
sign_again sign.Greater = refl

again : (x : Symbol) (at : ℕ) → IsFit x → unplaced (by_kind (lexeme_of x).kind at (lexeme_of x).bytes) ≡ unplaced x
again (s.Name a w) at h = refl
again (s.Number a n) at h = ap (λ (o : Option ℕ). s.Number 0 (unwrap_or o 0)) (number_of-decimal n h)
again (s.Text a t) at h = ap (λ (v : Bytes). s.Text 0 v) (value-quoted t)
again (s.Sign a k) at h = ap (λ (v : Sign). s.Sign 0 v) (sign_again k)
again (s.Newline a) at h = absurd h
again (s.Indent a) at h = absurd h
again (s.Dedent a) at h = absurd h

abbrev read : Bytes → List Token → List Symbol
read source ts = map unplaced (symbols_of source ts)

read-append : (source : Bytes) (xs ys : List Token) → read source (xs ++ ys) ≡ read source xs ++ read source ys
read-append source xs ys =
    ap (map unplaced) (map-append (symbol_of source) xs ys) ∙ map-append unplaced (symbols_of source xs) (symbols_of source ys)

at_place : (source : Bytes) (x : Symbol) (a : ℕ) (z : Bytes) → IsFit x → drop a source ≡ (lexeme_of x).bytes ++ z
    → unplaced (symbol_of source (token (lexeme_of x).kind a (a + length (lexeme_of x).bytes))) ≡ unplaced x
at_place source x a z h e =
    ap (λ (v : Bytes). unplaced (by_kind (lexeme_of x).kind a v)) (between_at source a (length (lexeme_of x).bytes) (lexeme_of x).bytes z e refl) ∙ again x a h

-- ---- rows

row-read : (source : Bytes) (a : ℕ) (x : Symbol) (xs : List Symbol) (z : Bytes) → AllFit (x ∷ xs)
    → drop a source ≡ (lexeme_of x).bytes ++ (to_line_end (map lexeme_of xs) ++ z)
    → read source (lexemes_at a (lexeme_of x) (map lexeme_of xs)) ≡ map unplaced (x ∷ xs) ++ s.Newline 0 ∷ []
row-read source a x [] z (h, all) e = ap (λ (y : Symbol). y ∷ s.Newline 0 ∷ []) (at_place source x a (10 ∷ z) h e)
row-read source a x (y ∷ ys) z (h, all) e =
    let l = lexeme_of x in
    let m = lexeme_of y in
    let more = to_line_end (map lexeme_of ys) in
    let end = a + length l.bytes in
    let blank : drop end source ≡ (32 ∷ []) ++ ((m.bytes ++ more) ++ z) = behind_at source a l.bytes ((32 ∷ (m.bytes ++ more)) ++ z) e in
    let behind : drop (end + 1) source ≡ m.bytes ++ (more ++ z) = behind_at source end (32 ∷ []) ((m.bytes ++ more) ++ z) blank ∙ append_assoc m.bytes more z in
    ap (λ (y : Symbol). y ∷ read source (lexemes_at (end + 1) m (map lexeme_of ys))) (at_place source x a ((32 ∷ (m.bytes ++ more)) ++ z) h e)
    ∙ ap (λ (v : List Symbol). unplaced x ∷ v) (row-read source (end + 1) y ys z all behind)

dedents-read : (source : Bytes) (n at : ℕ) → read source (dedents n at) ≡ replicate n (s.Dedent 0)
dedents-read source zero at = refl
dedents-read source (suc n) at = ap (λ (v : List Symbol). s.Dedent 0 ∷ v) (dedents-read source n at)

turn_by : (source : Bytes) (b : Bool) (n at to : ℕ)
    → read source (cond b (token kind.Indent at to ∷ []) (dedents n to)) ≡ cond b (s.Indent 0 ∷ []) (replicate n (s.Dedent 0))
turn_by source true n at to = refl
turn_by source false n at to = dedents-read source n to

rows-read : (source : Bytes) (above at : ℕ) (rs : List Row) → AreRows above rs → drop at source ≡ bytes_of rs
    → read source (tokens_of above at (map line_of rs)) ≡ row_symbols above rs
rows-read source above at [] h e = dedents-read source above at
rows-read source above at (r ∷ rs) (nested, is, others) e =
    let l = line_of r in
    let n = 4 * r.level in
    let body = l.first.bytes ++ to_line_end l.rest in
    let rest = bytes_of rs in
    let end = at + length (line_bytes l) in
    let width : length (indentation r.level) ≡ n = length-replicate {A = ℕ} n 32 in
    let split : drop at source ≡ indentation r.level ++ (body ++ rest) = e ∙ append_assoc (indentation r.level) body rest in
    let here : drop (at + n) source ≡ l.first.bytes ++ (to_line_end l.rest ++ rest) =
    ap (λ k. drop (at + k) source) (sym width) ∙ behind_at source at (indentation r.level) (body ++ rest) split ∙ append_assoc l.first.bytes (to_line_end l.rest) rest in
    let behind : drop end source ≡ rest = behind_at source at (line_bytes l) rest e in
    let line = lexemes_at (at + n) l.first l.rest in
    let more = tokens_of r.level end (map line_of rs) in
    read-append source (turn above r.level at) (line ++ more)
    ∙ ap (λ (v : List Symbol). v ++ read source (line ++ more)) (turn_by source (nat_lt above r.level) (above - r.level) at (at + n))
    ∙ ap (λ (v : List Symbol). turned above r.level ++ v)
    (read-append source line more ∙ ap (λ (v : List Symbol). v ++ read source more) (row-read source (at + n) r.first r.rest rest is.fit here)
    ∙ append_assoc (map unplaced (r.first ∷ r.rest)) (s.Newline 0 ∷ []) (read source more)
    ∙ ap (λ (v : List Symbol). map unplaced (r.first ∷ r.rest) ++ (s.Newline 0 ∷ v)) (rows-read source r.level end rs others behind))

pub rows_read_back : (rs : List Row) → AreRows 0 rs → ReadsBack rs
rows_read_back rs h = record { tokens = lexed-written (map line_of rs) (rows-lines 0 rs h); symbols = rows-read (bytes_of rs) 0 0 rs h refl }
