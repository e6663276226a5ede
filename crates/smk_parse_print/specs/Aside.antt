-- Syntax, the numbers of its lines aside.
use Rattle.std.specs.Prelude.{◌≡◌, List, map, Ok}
use Rattle.smk_lex.specs.declared.token.Token.{Token}
use Rattle.smk_lex.specs.Pieces.{Bytes}
use Rattle.smk_lex.specs.Layout.{lexed}
use Rattle.smk_parse.specs.Files.{parsed}
use Rattle.smk_parse_tree.specs.declared.syntax.DirectiveForm.{DirectiveForm}
use Rattle.smk_parse_tree.specs.declared.syntax.Form.{Form}
use Rattle.smk_parse_tree.specs.declared.syntax.Form.TheVariants as f
use Rattle.smk_parse_tree.specs.declared.syntax.Statement.{Statement}
use Rattle.smk_parse_tree.specs.declared.syntax.Syntax.{Syntax}

abbrev pub unlined_directive : DirectiveForm → DirectiveForm
unlined_directive d = record d { line = 0 }

abbrev pub unlined_form : Form → Form
unlined_form (f.Rule r) = f.Rule (record r { directives = map unlined_directive r.directives })
unlined_form (f.Assign w x) = f.Assign w x
unlined_form (f.Order ws) = f.Order ws
unlined_form (f.LocalRules ws) = f.LocalRules ws
unlined_form (f.ConfigFile t) = f.ConfigFile t
unlined_form (f.Include t) = f.Include t
unlined_form (f.Container t) = f.Container t
unlined_form (f.Limits values) = f.Limits values

abbrev pub unlined_statement : Statement → Statement
unlined_statement this = record { line = 0; form = unlined_form this.form }

-- the syntax with 0 for the number of each line
abbrev pub unlined : Syntax → Syntax
unlined syntax = record { statements = map unlined_statement syntax.statements }

-- the bytes are those of a file that lexes and parses, and its syntax is this one, lines aside
pub record ReadsAs (syntax : Syntax) (bytes : Bytes) : Type 0 where
  pub tokens : List Token
  pub lexes : lexed bytes ≡ Ok tokens
  pub again : Syntax
  pub parses : parsed bytes tokens ≡ Ok again
  pub same : unlined again ≡ unlined syntax

-- some file has this syntax
pub record IsParsed (syntax : Syntax) : Type 0 where
  pub source : Bytes
  pub tokens : List Token
  pub lexes : lexed source ≡ Ok tokens
  pub parses : parsed source tokens ≡ Ok syntax
