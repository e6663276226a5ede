-- Written lines are UTF-8, and their tokens are those that are written.
use Rattle.std.proofs.Common.{◌≡◌, ℕ, zero, suc, ◌*◌, ◌<◌, true, cond, List, [], ◌∷◌, ◌++◌, refl, ap, ◌∙◌, arith}
use Rattle.std.proofs.lemmas.Fmt.{IsAscii-decimal}
use Rattle.std.proofs.lemmas.Str.{IsUtf8-nil, IsUtf8-append, IsUtf8-from_ascii, is_utf8-from_IsUtf8}
use Rattle.std.proofs.lemmas.Str.Ascii.{IsAscii-cons}
use Rattle.std.specs.Prelude.{replicate}
use Rattle.std.specs.Fmt.{decimal}
use Rattle.std.specs.Str.{IsUtf8, is_utf8}
use Rattle.std.specs.Str.Lossy.{utf8_valid_len}
use Rattle.smk_lex.specs.Pieces.{Bytes}
use Rattle.smk_lex.specs.Layout.{Items, items, of_bytes, lexed, laid_from, start, or_fault, up_to}
use Rattle.smk_lex.proofs.Followed.{ascii_nil, name_ascii, sign_ascii}
use Rattle.smk_parse_print.specs.Lines.{Lexeme, Line, indentation, to_line_end, line_bytes, written, tokens_of, IsWritten, a_name, a_number, a_text, a_sign, AllWritten, AreLines}
use Rattle.smk_parse_print.proofs.Items.{items-written}
use Rattle.smk_parse_print.proofs.Placed.{tokens_ok, laid-lines}
use Rattle.smk_parse_print.proofs.Texts.{quoted-utf8}

written-utf8 : (l : Lexeme) → IsWritten l → IsUtf8 l.bytes
written-utf8 _ (a_name w h) = IsUtf8-from_ascii w (name_ascii w h)
written-utf8 _ (a_number n h) = IsUtf8-from_ascii (decimal n) (IsAscii-decimal n (omega arith))
written-utf8 _ (a_text t h) = quoted-utf8 t h
written-utf8 _ (a_sign b h) = IsUtf8-from_ascii (b ∷ []) (sign_ascii b h)

byte-utf8 : (b : ℕ) (w : Bytes) → b < 128 → IsUtf8 w → IsUtf8 (b ∷ w)
byte-utf8 b w low h = IsUtf8-append (b ∷ []) w (IsUtf8-from_ascii (b ∷ []) (IsAscii-cons b [] low ascii_nil)) h

blanks-utf8 : (n : ℕ) → IsUtf8 (replicate n 32)
blanks-utf8 zero = IsUtf8-nil
blanks-utf8 (suc n) = byte-utf8 32 (replicate n 32) (omega arith) (blanks-utf8 n)

rest-utf8 : (ls : List Lexeme) → AllWritten ls → IsUtf8 (to_line_end ls)
rest-utf8 [] h = byte-utf8 10 [] (omega arith) IsUtf8-nil
rest-utf8 (l ∷ ls) h = byte-utf8 32 (l.bytes ++ to_line_end ls) (omega arith) (IsUtf8-append l.bytes (to_line_end ls) (written-utf8 l h.0) (rest-utf8 ls h.1))

pub lines-utf8 : (above : ℕ) (ls : List Line) → AreLines above ls → IsUtf8 (written ls)
lines-utf8 above [] h = IsUtf8-nil
lines-utf8 above (l ∷ ls) (nested, is, others) =
    let body : IsUtf8 (l.first.bytes ++ to_line_end l.rest) = IsUtf8-append l.first.bytes (to_line_end l.rest) (written-utf8 l.first is.lexemes.0) (rest-utf8 l.rest is.lexemes.1) in
    IsUtf8-append (line_bytes l) (written ls) (IsUtf8-append (indentation l.level) (l.first.bytes ++ to_line_end l.rest) (blanks-utf8 (4 * l.level)) body) (lines-utf8 l.level ls others)

pub lexed-written : (ls : List Line) → AreLines 0 ls → lexed (written ls) ≡ tokens_ok (tokens_of 0 0 ls)
unfolding lexed of_bytes
lexed-written ls h =
    let source = written ls in
    let text : is_utf8 source ≡ true = is_utf8-from_IsUtf8 source (lines-utf8 0 ls h) in
    ap (λ b. cond b (or_fault (laid_from source start (items source).0) (items source).1) (up_to (utf8_valid_len source) (or_fault (laid_from source start (items source).0) (items source).1))) text
    ∙ ap (λ (found : Items). or_fault (laid_from source start found.0) found.1) (items-written ls h)
    ∙ laid-lines source 0 0 ls h refl (omega arith)
