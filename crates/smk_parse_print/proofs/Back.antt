-- What is printed of the syntax of a file parses to that syntax, lines aside.
use Rattle.std.proofs.Common.{◌≡◌, ℕ, List, [], map, Result, Ok, Err, sym, ap, subst, ◌∙◌}
use Rattle.std.specs.Prelude.{IfOk}
use Rattle.smk_lex.specs.declared.token.Token.{Token}
use Rattle.smk_lex.specs.declared.token.LexFault.{LexFault}
use Rattle.smk_lex.specs.Pieces.{Bytes}
use Rattle.smk_lex.specs.Layout.{lexed}
use Rattle.smk_lex.specs.Tokens.{IsToken}
use Rattle.smk_lex.proofs.Found.{tokens_given, lexed_utf8}
use Rattle.smk_parse_expr.specs.declared.symbol.Symbol.{Symbol}
use Rattle.smk_parse_expr.specs.declared.symbol.ParseFault.{ParseFault}
use Rattle.smk_parse_tree.specs.declared.syntax.Statement.{Statement}
use Rattle.smk_parse_tree.specs.declared.syntax.Syntax.{Syntax}
use Rattle.smk_parse_expr.specs.Symbols.{Outcome}
use Rattle.smk_parse_expr.specs.Tokens.{symbols_of}
use Rattle.smk_parse.specs.Entries.{joined}
use Rattle.smk_parse.specs.Lines.{line_of as number_of_line}
use Rattle.smk_parse.specs.Statements.{statements}
use Rattle.smk_parse.specs.Files.{file_symbols as symbols_of_file, all_read, parsed}
use Rattle.smk_parse.specs.Grammar.{IsFile}
use Rattle.smk_parse.proofs.Kept.{all_joined}
use Rattle.smk_parse.proofs.FoundFile.{file-found}
use Rattle.smk_parse.proofs.OnlyFile.{file-only}
use Rattle.smk_parse_print.specs.Rows.{line_of, bytes_of, row_tokens, AreRows}
use Rattle.smk_parse_print.specs.Print.{rows_of, printed_bytes}
use Rattle.smk_parse_print.specs.Aside.{ReadsAs, IsParsed}
use Rattle.smk_parse_print.proofs.Rows.{rows-lines, rows_read_back}
use Rattle.smk_parse_print.proofs.Moved.{moved, places_of, moved-is}
use Rattle.smk_parse_print.proofs.Fit.{AllSound}
use Rattle.smk_parse_print.proofs.Joined.{tokens-joined}
use Rattle.smk_parse_print.proofs.Again.{file_symbols, file-rows, again, again-same, file-again}
use Rattle.smk_parse_print.proofs.Formed.{file-are, file-flat}
use Rattle.smk_parse_print.proofs.Sound.{symbols-sound, sound-letters}

abbrev syntax_ok : Syntax → Result Syntax ParseFault
syntax_ok x = Ok x

abbrev given : List Token → Result (List Token) LexFault
given ts = Ok ts

-- what was read, and nothing behind it
read_of : (o : Outcome (List Statement)) (x : Syntax) → all_read o ≡ syntax_ok x → (rest : List Symbol) × (o ≡ Ok (x.statements, rest))
read_of (Ok p) x e = let same : p.0 ≡ x.statements = cc in (p.1, ap (λ (v : List Statement). Ok (v, p.1)) same)
read_of (Err f) x e = absurd cc

-- the symbols of the file
source-sound : (source : Bytes) (ts : List Token) → lexed source ≡ given ts → AllSound (symbols_of source (joined source ts))
source-sound source ts e =
    symbols-sound source (joined source ts) (lexed_utf8 source ts e) (all_joined (IsToken source) source ts (tokens_given source (Ok ts) e))

source-file : (source : Bytes) (ts : List Token) (x : Syntax) → lexed source ≡ given ts → parsed source ts ≡ syntax_ok x → IsFile (number_of_line source) (symbols_of source (joined source ts)) x.statements
unfolding parsed symbols_of_file
source-file source ts x e p =
    let xs = symbols_of source (joined source ts) in
    let r = read_of (statements (number_of_line source) xs) x p in
    (file-found (number_of_line source) xs r.0 x.statements (sound-letters xs (source-sound source ts e)) r.1).1

-- what is printed, from the grammar
printed-parses : (ss : List Statement) (line : ℕ → ℕ) (xs : List Symbol) → AreRows 0 (rows_of ss) → IsFile line xs ss
    → ((symbols_of (bytes_of (rows_of ss)) (joined (bytes_of (rows_of ss)) (row_tokens (rows_of ss)))) ≡ moved (places_of (symbols_of (bytes_of (rows_of ss)) (row_tokens (rows_of ss)))) (file_symbols ss))
printed-parses ss line xs rows h =
    let z = bytes_of (rows_of ss) in
    let ts = row_tokens (rows_of ss) in
    let kept : joined z ts ≡ ts = tokens-joined z (map line_of (rows_of ss)) (rows-lines 0 (rows_of ss) rows) (file-flat ss) in
    ap (symbols_of z) kept ∙ moved-is (symbols_of z ts) (file_symbols ss) ((rows_read_back (rows_of ss) rows).symbols ∙ file-rows ss)

pub reads_back : (x : Syntax) → IsParsed x → ReadsAs x (printed_bytes x)
unfolding parsed symbols_of_file
reads_back x known =
    let ss = x.statements in
    let source = known.source in
    let xs = symbols_of source (joined source known.tokens) in
    let line = number_of_line source in
    let file : IsFile line xs ss = source-file source known.tokens x known.lexes known.parses in
    let rows : AreRows 0 (rows_of ss) = file-are line ss xs file (source-sound source known.tokens known.lexes) in
    let z = printed_bytes x in
    let ts = row_tokens (rows_of ss) in
    let there = number_of_line z in
    let g = places_of (symbols_of z ts) in
    let found : IsFile there (moved g (file_symbols ss)) (again there g ss) = file-again line there g ss xs file in
    let symbols : symbols_of z (joined z ts) ≡ moved g (file_symbols ss) = printed-parses ss line xs rows file in
    let read : statements there (symbols_of z (joined z ts)) ≡ Ok (again there g ss, []) = ap (statements there) symbols ∙ file-only there (moved g (file_symbols ss)) (again there g ss) found in
    record {
      tokens = ts;
      lexes = (rows_read_back (rows_of ss) rows).tokens;
      again = record { statements = again there g ss };
      parses = ap all_read read;
      same = ap (λ (v : List Statement). record { statements = v }) (again-same there g ss);
    }

pub given_back : {E : Type 0} (x : Syntax) (r : Result Bytes E) → IfOk r (λ bytes. bytes ≡ printed_bytes x) → IfOk r (λ bytes. IsParsed x → ReadsAs x bytes)
given_back x (Ok bytes) e = λ known. subst (ReadsAs x) (sym e) (reads_back x known)
given_back x (Err f) e = tt
