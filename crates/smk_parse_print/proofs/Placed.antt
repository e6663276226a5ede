-- The tokens of written lines, from their lexemes.
use Rattle.std.proofs.Common.{◌≡◌, ℕ, ◌+◌, ◌-◌, ◌*◌, ◌≤◌, List, [], ◌∷◌, ◌++◌, length, take, drop, Option, Some, None, Result, Ok, Err, refl, sym, ap, ◌∙◌, append_assoc, arith}
use Rattle.std.proofs.lemmas.List.{length-append, length-replicate, length-drop, drop-drop, drop_at, take_at}
use Rattle.std.proofs.lemmas.List.Prefix.{at_reads}
use Rattle.std.specs.Prelude.{slice_index}
use Rattle.smk_lex.specs.declared.token.TokenKind.TheVariants as kind
use Rattle.smk_lex.specs.declared.token.Token.{Token}
use Rattle.smk_lex.specs.declared.token.LexFault.{LexFault}
use Rattle.smk_lex.specs.Pieces.{Bytes}
use Rattle.smk_lex.specs.Layout.{token, dedents, indented, Lines, ◌>>=◌, between, placed, step, laid_from, finish, depth_after}
use Rattle.smk_lex.proofs.Goes.{joined}
use Rattle.smk_parse_print.specs.Lines.{Lexeme, Line, indentation, to_line_end, line_bytes, written, lexemes_at, turn, tokens_of, IsWritten, a_name, a_number, a_text, a_sign, AllWritten, open_behind, IsLine, AreLines}
use Rattle.smk_parse_print.proofs.Items.{written_front, some_bytes, items_at}
use Rattle.smk_parse_print.proofs.Levels.{open_levels, length-open, levels_ok, indented-open}

-- ---- places in the source

pub byte_at : (source : Bytes) (at : ℕ) (w z : Bytes) → drop at source ≡ w ++ z → 1 ≤ length w → slice_index source at ≡ slice_index w 0
byte_at source at w z e some =
    let n : at + 0 ≡ at = omega arith in
    ap (λ k. slice_index source k) (sym n) ∙ at_reads 0 source w at z e 0 (omega arith)

pub behind_at : (source : Bytes) (at : ℕ) (w z : Bytes) → drop at source ≡ w ++ z → drop (at + length w) source ≡ z
behind_at source at w z e = sym (drop-drop (length w) at source) ∙ ap (λ (v : Bytes). drop (length w) v) e ∙ drop_at w z (length w) refl

pub between_at : (source : Bytes) (at n : ℕ) (w z : Bytes) → drop at source ≡ w ++ z → length w ≡ n → between source at (at + n) ≡ w
between_at source at n w z e len =
    let m : at + n - at ≡ n = omega arith in
    ap (λ k. take k (drop at source)) m ∙ ap (λ (v : Bytes). take n v) e ∙ take_at w z n len

-- ---- one item

abbrev State : Type 0
State = Lines × List Token

abbrev state_ok : State → Result State LexFault
state_ok x = Ok x

abbrev state : List Bytes → ℕ → Option ℕ → Lines
state levels depth fresh = record { levels = levels; depth = depth; fresh = fresh }

joined-joined : (xs ys : List Token) (r : Result (List Token) LexFault) → joined xs (joined ys r) ≡ joined (xs ++ ys) r
joined-joined xs ys (Ok ts) = ap (λ (v : List Token). Ok v) (sym (append_assoc xs ys ts))
joined-joined xs ys (Err e) = refl

laid-step : (source : Bytes) (s : Lines) (t : Token) (ts : List Token) (x : State) → step source s t ≡ state_ok x → laid_from source s (t ∷ ts) ≡ joined x.1 (laid_from source x.0 ts)
laid-step source s t ts x e = ap (λ (r : Result State LexFault). r >>= λ now. laid_from source now.0 ts >>= λ rest. Ok (now.1 ++ rest)) e

step-written : (source : Bytes) (s : Lines) (l : Lexeme) (a b : ℕ) → IsWritten l → step source s (token l.kind a b) ≡ placed source s (token l.kind a b)
step-written source s _ a b (a_name w h) = refl
step-written source s _ a b (a_number n h) = refl
step-written source s _ a b (a_text t h) = refl
step-written source s _ a b (a_sign c h) = refl

-- behind the first lexeme of a line
step-next : (source : Bytes) (levels : List Bytes) (d a b : ℕ) (l : Lexeme) → IsWritten l
    → step source (state levels d None) (token l.kind a b) ≡ state_ok (state levels (depth_after (slice_index source a) d) None, token l.kind a b ∷ [])
step-next source levels d a b l h = step-written source (state levels d None) l a b h

-- the first lexeme of a line
step-first : (source : Bytes) (levels after : List Bytes) (turned : List Token) (d line a b : ℕ) (l : Lexeme) → IsWritten l
    → indented levels (between source line a) line a ≡ levels_ok (after, turned)
    → step source (state levels d (Some line)) (token l.kind a b) ≡ state_ok (state after (depth_after (slice_index source a) d) None, turned ++ token l.kind a b ∷ [])
step-first source levels after turned d line a b l h e =
    step-written source (state levels d (Some line)) l a b h
    ∙ ap (λ (r : Result (List Bytes × List Token) LexFault). (r >>= λ found. state_ok (state found.0 d None, found.1)) >>= λ now. state_ok (record now.0 { depth = depth_after (slice_index source a) now.0.depth }, now.1 ++ token l.kind a b ∷ [])) e

-- ---- a line

laid-line : (source : Bytes) (levels : List Bytes) (d a : ℕ) (l : Lexeme) (ls : List Lexeme) (more : List Token) (z : Bytes) → AllWritten (l ∷ ls)
    → open_behind d (l ∷ ls) ≡ 0 → drop a source ≡ l.bytes ++ (to_line_end ls ++ z)
    → laid_from source (state levels d None) (lexemes_at a l ls ++ more)
    ≡ joined (lexemes_at a l ls) (laid_from source (state levels 0 (Some (a + length (l.bytes ++ to_line_end ls)))) more)
laid-line source levels d a l [] more z (h, all) closed e =
    let end = a + length l.bytes in
    let byte : slice_index source a ≡ slice_index l.bytes 0 = byte_at source a l.bytes (10 ∷ z) e (some_bytes l.bytes (written_front l h)) in
    let flat : depth_after (slice_index source a) d ≡ 0 = ap (λ b. depth_after b d) byte ∙ closed in
    let len : end + 1 ≡ a + length (l.bytes ++ 10 ∷ []) = omega (arith, length-append l.bytes (10 ∷ [])) in
    laid-step source (state levels d None) (token l.kind a end) (token kind.Newline end (end + 1) ∷ more) (state levels (depth_after (slice_index source a) d) None, token l.kind a end ∷ []) (step-next source levels d a end l h)
    ∙ ap (λ k. joined (token l.kind a end ∷ []) (laid_from source (state levels k None) (token kind.Newline end (end + 1) ∷ more))) flat
    ∙ ap (joined (token l.kind a end ∷ [])) (laid-step source (state levels 0 None) (token kind.Newline end (end + 1)) more (state levels 0 (Some (end + 1)), token kind.Newline end (end + 1) ∷ []) refl)
    ∙ joined-joined (token l.kind a end ∷ []) (token kind.Newline end (end + 1) ∷ []) (laid_from source (state levels 0 (Some (end + 1))) more)
    ∙ ap (λ k. joined (lexemes_at a l []) (laid_from source (state levels 0 (Some k)) more)) len
laid-line source levels d a l (m ∷ ms) more z (h, all) closed e =
    let end = a + length l.bytes in
    let tail = lexemes_at (end + 1) m ms in
    let byte : slice_index source a ≡ slice_index l.bytes 0 = byte_at source a l.bytes (to_line_end (m ∷ ms) ++ z) e (some_bytes l.bytes (written_front l h)) in
    let deep = depth_after (slice_index source a) d in
    let rest_closed : open_behind deep (m ∷ ms) ≡ 0 = ap (λ b. open_behind (depth_after b d) (m ∷ ms)) byte ∙ closed in
    let blank : drop end source ≡ (32 ∷ []) ++ ((m.bytes ++ to_line_end ms) ++ z) = behind_at source a l.bytes (to_line_end (m ∷ ms) ++ z) e in
    let behind : drop (end + 1) source ≡ m.bytes ++ (to_line_end ms ++ z) = behind_at source end (32 ∷ []) ((m.bytes ++ to_line_end ms) ++ z) blank ∙ append_assoc m.bytes (to_line_end ms) z in
    let len : end + 1 + length (m.bytes ++ to_line_end ms) ≡ a + length (l.bytes ++ 32 ∷ (m.bytes ++ to_line_end ms)) = omega (arith, length-append l.bytes (32 ∷ (m.bytes ++ to_line_end ms))) in
    laid-step source (state levels d None) (token l.kind a end) (tail ++ more) (state levels deep None, token l.kind a end ∷ []) (step-next source levels d a end l h)
    ∙ ap (joined (token l.kind a end ∷ [])) (laid-line source levels deep (end + 1) m ms more z all rest_closed behind)
    ∙ joined-joined (token l.kind a end ∷ []) tail (laid_from source (state levels 0 (Some (end + 1 + length (m.bytes ++ to_line_end ms)))) more)
    ∙ ap (λ k. joined (lexemes_at a l (m ∷ ms)) (laid_from source (state levels 0 (Some k)) more)) len

-- where a line begins, its indentation is told first
laid-turn : (source : Bytes) (levels after : List Bytes) (turned : List Token) (line a b : ℕ) (l : Lexeme) (more : List Token) → IsWritten l
    → indented levels (between source line a) line a ≡ levels_ok (after, turned)
    → laid_from source (state levels 0 (Some line)) (token l.kind a b ∷ more) ≡ joined turned (laid_from source (state after 0 None) (token l.kind a b ∷ more))
laid-turn source levels after turned line a b l more h e =
    let deep = depth_after (slice_index source a) 0 in
    laid-step source (state levels 0 (Some line)) (token l.kind a b) more (state after deep None, turned ++ token l.kind a b ∷ []) (step-first source levels after turned 0 line a b l h e)
    ∙ sym (joined-joined turned (token l.kind a b ∷ []) (laid_from source (state after deep None) more))
    ∙ ap (joined turned) (sym (laid-step source (state after 0 None) (token l.kind a b) more (state after deep None, token l.kind a b ∷ []) (step-next source after 0 a b l h)))

turn_of_line : (source : Bytes) (levels after : List Bytes) (turned : List Token) (line a : ℕ) (l : Lexeme) (ls : List Lexeme) (more : List Token) → IsWritten l
    → indented levels (between source line a) line a ≡ levels_ok (after, turned)
    → laid_from source (state levels 0 (Some line)) (lexemes_at a l ls ++ more) ≡ joined turned (laid_from source (state after 0 None) (lexemes_at a l ls ++ more))
turn_of_line source levels after turned line a l [] more h e = laid-turn source levels after turned line a (a + length l.bytes) l (token kind.Newline (a + length l.bytes) (a + length l.bytes + 1) ∷ more) h e
turn_of_line source levels after turned line a l (m ∷ ms) more h e = laid-turn source levels after turned line a (a + length l.bytes) l (lexemes_at (a + length l.bytes + 1) m ms ++ more) h e

-- ---- all lines

abbrev pub tokens_ok : List Token → Result (List Token) LexFault
tokens_ok ts = Ok ts

laid-finish : (source : Bytes) (above at : ℕ) → drop at source ≡ [] → at ≤ length source → finish (length source) (state (open_levels above) 0 (Some at)) ≡ dedents above at
laid-finish source above at e le =
    let none : length source - at ≡ 0 = sym (length-drop at source) ∙ ap length e in
    let end : length source ≡ at = omega arith in
    let n : length (open_levels above) - 1 ≡ above = omega (arith, length-open above) in
    ap (λ k. dedents (length (open_levels above) - 1) k) end ∙ ap (λ m. dedents m at) n

pub laid-lines : (source : Bytes) (above at : ℕ) (ls : List Line) → AreLines above ls → drop at source ≡ written ls → at ≤ length source
    → laid_from source (state (open_levels above) 0 (Some at)) (items_at at ls) ≡ tokens_ok (tokens_of above at ls)
laid-lines source above at [] h e le = ap (λ (ts : List Token). tokens_ok ts) (laid-finish source above at e le)
laid-lines source above at (l ∷ ls) (nested, is, others) e le =
    let n = 4 * l.level in
    let body = l.first.bytes ++ to_line_end l.rest in
    let rest = written ls in
    let line = lexemes_at (at + n) l.first l.rest in
    let end = at + length (line_bytes l) in
    let more = items_at end ls in
    let width : length (indentation l.level) ≡ n = length-replicate {A = ℕ} n 32 in
    let split : drop at source ≡ indentation l.level ++ (body ++ rest) = e ∙ append_assoc (indentation l.level) body rest in
    let blanks : between source at (at + n) ≡ indentation l.level = between_at source at n (indentation l.level) (body ++ rest) split width in
    let here : drop (at + n) source ≡ l.first.bytes ++ (to_line_end l.rest ++ rest) =
    ap (λ k. drop (at + k) source) (sym width) ∙ behind_at source at (indentation l.level) (body ++ rest) split ∙ append_assoc l.first.bytes (to_line_end l.rest) rest in
    let behind : drop end source ≡ rest = behind_at source at (line_bytes l) rest e in
    let whole : length source - at ≡ length (line_bytes l ++ rest) = sym (length-drop at source) ∙ ap length e in
    let within : end ≤ length source = omega (arith, length-append (line_bytes l) rest, some_line l is) in
    let len : at + n + length body ≡ end = omega (arith, length-append (indentation l.level) body) in
    let turned : indented (open_levels above) (between source at (at + n)) at (at + n) ≡ levels_ok (open_levels l.level, turn above l.level at) =
    ap (λ (v : Bytes). indented (open_levels above) v at (at + n)) blanks ∙ indented-open above l.level at nested in
    turn_of_line source (open_levels above) (open_levels l.level) (turn above l.level at) at (at + n) l.first l.rest more is.lexemes.0 turned
    ∙ ap (joined (turn above l.level at))
    (laid-line source (open_levels l.level) 0 (at + n) l.first l.rest more rest is.lexemes is.closed here
    ∙ ap (λ k. joined line (laid_from source (state (open_levels l.level) 0 (Some k)) more)) len
    ∙ ap (joined line) (laid-lines source l.level end ls others behind within))
  where
    some_line : (l : Line) → IsLine l → 1 ≤ length (line_bytes l)
    some_line l is = omega (arith, length-append (indentation l.level) (l.first.bytes ++ to_line_end l.rest), length-append l.first.bytes (to_line_end l.rest), some_bytes l.first.bytes (written_front l.first is.lexemes.0))
