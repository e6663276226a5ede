-- The rows that print a syntax.
use Rattle.std.specs.Prelude.{ℕ, Bool, if◌then◌else◌, List, [], ◌∷◌, map, codes}
use Rattle.std.specs.List.{flat_map}
use Rattle.smk_lex.specs.Pieces.{Bytes}
use Rattle.smk_parse_expr.specs.declared.symbol.Sign.{Sign}
use Rattle.smk_parse_expr.specs.declared.symbol.Sign.TheVariants.{Colon, Comma, Equals, Greater}
use Rattle.smk_parse_expr.specs.declared.symbol.Symbol.{Symbol}
use Rattle.smk_parse_expr.specs.declared.symbol.Symbol.TheVariants as s
use Rattle.smk_parse_expr.specs.Printing.{printed, printed_items}
use Rattle.smk_parse_tree.specs.declared.syntax.DirectiveForm.{DirectiveForm}
use Rattle.smk_parse_tree.specs.declared.syntax.RuleForm.{RuleForm}
use Rattle.smk_parse_tree.specs.declared.syntax.Form.{Form}
use Rattle.smk_parse_tree.specs.declared.syntax.Form.TheVariants as f
use Rattle.smk_parse_tree.specs.declared.syntax.Statement.{Statement}
use Rattle.smk_parse_tree.specs.declared.syntax.Syntax.{Syntax}
use Rattle.smk_parse_print.specs.Rows.{Row, bytes_of}

-- a row that begins with a word, at a level
abbrev pub worded : ℕ → Bytes → List Symbol → Row
worded level w xs = record { level = level; first = s.Name 0 w; rest = xs }

-- names, the sign before each
abbrev pub more_names : Sign → List Bytes → List Symbol
more_names k [] = []
more_names k (w ∷ ws) = s.Sign 0 k ∷ s.Name 0 w ∷ more_names k ws

-- names, the sign between
abbrev pub names_between : Sign → List Bytes → List Symbol
names_between k [] = []
names_between k (w ∷ ws) = s.Name 0 w ∷ more_names k ws

abbrev pub directive_row : DirectiveForm → Row
directive_row d = worded 1 d.word (s.Sign 0 Colon ∷ printed_items d.items)

-- a body has a text where it has no directive
abbrev pub body_rows : List DirectiveForm → List Row
body_rows [] = record { level = 1; first = s.Text 0 []; rest = [] } ∷ []
body_rows (d ∷ ds) = directive_row d ∷ map directive_row ds

abbrev pub rule_word : Bool → Bytes
rule_word is_checkpoint = if is_checkpoint then codes "checkpoint" else codes "rule"

abbrev pub rule_rows : RuleForm → List Row
rule_rows r = worded 0 (rule_word r.checkpoint) (s.Name 0 r.name ∷ s.Sign 0 Colon ∷ []) ∷ body_rows r.directives

abbrev pub text_row : Bytes → Bytes → Row
text_row w t = worded 0 w (s.Sign 0 Colon ∷ s.Text 0 t ∷ [])

abbrev pub form_rows : Form → List Row
form_rows (f.Assign w x) = worded 0 w (s.Sign 0 Equals ∷ (printed x).symbols) ∷ []
form_rows (f.Rule r) = rule_rows r
form_rows (f.Order ws) = worded 0 (codes "ruleorder") (s.Sign 0 Colon ∷ names_between Greater ws) ∷ []
form_rows (f.LocalRules ws) = worded 0 (codes "localrules") (s.Sign 0 Colon ∷ names_between Comma ws) ∷ []
form_rows (f.ConfigFile t) = text_row (codes "configfile") t ∷ []
form_rows (f.Include t) = text_row (codes "include") t ∷ []
form_rows (f.Container t) = text_row (codes "container") t ∷ []
form_rows (f.Limits values) = worded 0 (codes "wildcard_constraints") (s.Sign 0 Colon ∷ printed_items values) ∷ []

abbrev pub statement_rows : Statement → List Row
statement_rows this = form_rows this.form

abbrev pub rows_of : List Statement → List Row
rows_of ss = flat_map statement_rows ss

-- the bytes that print a syntax
abbrev pub printed_bytes : Syntax → Bytes
printed_bytes syntax = bytes_of (rows_of syntax.statements)
