-- The faults of a source.
use Rattle.std.proofs.Common.{◌≡◌, ◌≢◌, ℕ, List, true, ap, sym, ◌∙◌}
use Rattle.std.specs.Prelude.{Result, Err}
use Rattle.smk_lex.specs.declared.token.Token.{Token}
use Rattle.smk_lex.specs.declared.token.LexFault.{LexFault}
use Rattle.smk_lex.specs.declared.token.LexFault.TheVariants as lex
use Rattle.smk_parse_expr.specs.declared.symbol.ParseFault.{ParseFault}
use Rattle.smk_parse_expr.specs.declared.symbol.ParseFault.TheVariants as grammar
use Rattle.smk_parse_tree.specs.declared.syntax.Syntax.{Syntax}
use Rattle.smk_flaws.specs.declared.fault.FileFault.{FileFault}
use Rattle.smk_eval_files.specs.Reading.{is_told, of_lex, of_parse, lexed_in, parsed_in}

pub lex_fault : (file source : List ℕ) (e : LexFault) (m : Result (List Token) LexFault) (f : FileFault)
    → (e ≢ lex.OutOfMemory → m ≡ Err e) → f ≡ of_lex file source e → is_told f ≡ true → lexed_in file source m ≡ Err f
lex_fault file source (lex.BadIndent place) m f h is told = ap (lexed_in file source) (h (λ e. cc)) ∙ ap Err (sym is)
lex_fault file source (lex.OpenText place) m f h is told = ap (lexed_in file source) (h (λ e. cc)) ∙ ap Err (sym is)
lex_fault file source (lex.BadByte place) m f h is told = ap (lexed_in file source) (h (λ e. cc)) ∙ ap Err (sym is)
lex_fault file source lex.OutOfMemory m f h is told = let no_told = ap is_told (sym is) ∙ told in cc

pub parse_fault : (file source : List ℕ) (e : ParseFault) (m : Result Syntax ParseFault) (f : FileFault)
    → (e ≢ grammar.OutOfMemory → m ≡ Err e) → f ≡ of_parse file source e → is_told f ≡ true → parsed_in file source m ≡ Err f
parse_fault file source (grammar.Unexpected place) m f h is told = ap (parsed_in file source) (h (λ e. cc)) ∙ ap Err (sym is)
parse_fault file source (grammar.Unsupported place) m f h is told = ap (parsed_in file source) (h (λ e. cc)) ∙ ap Err (sym is)
parse_fault file source (grammar.Doubled place) m f h is told = ap (parsed_in file source) (h (λ e. cc)) ∙ ap Err (sym is)
parse_fault file source grammar.OutOfMemory m f h is told = let no_told = ap is_told (sym is) ∙ told in cc
