-- What is printed of a file that the grammar spells are rows.
use Rattle.std.proofs.Common.{◌≡◌, ℕ, Bool, true, false, List, [], ◌∷◌, ◌++◌, map, refl, ap, subst, ◌∙◌, arith, inl, inr}
use Rattle.std.proofs.lemmas.Bool.{and_parts}
use Rattle.std.proofs.lemmas.Str.{IsUtf8-nil}
use Rattle.std.specs.Prelude.{codes, slice_index}
use Rattle.std.specs.Char.{is_ascii_digit}
use Rattle.std.specs.Fmt.{decimal}
use Rattle.std.specs.List.{list_all}
use Rattle.smk_lex.specs.Pieces.{begins_name}
use Rattle.smk_lex.specs.Layout.{depth_after}
use Rattle.smk_lex.specs.Spelling.{IsName, IsDigits}
use Rattle.smk_lex.proofs.Followed.{differs, decimal_digits}
use Rattle.smk_parse_expr.specs.declared.symbol.Symbol.{Symbol}
use Rattle.smk_parse_expr.specs.declared.symbol.Symbol.TheVariants as s
use Rattle.smk_parse_expr.specs.declared.symbol.Sign.{Sign}
use Rattle.smk_parse_expr.specs.declared.symbol.Sign.TheVariants as sign
use Rattle.smk_parse_tree.specs.declared.syntax.DirectiveForm.{DirectiveForm}
use Rattle.smk_parse_tree.specs.declared.syntax.Form.{Form}
use Rattle.smk_parse_tree.specs.declared.syntax.Form.TheVariants as f
use Rattle.smk_parse_tree.specs.declared.syntax.Statement.{Statement}
use Rattle.smk_parse_expr.specs.Symbols.{Bytes}
use Rattle.smk_parse_expr.specs.Exprs.{max_depth}
use Rattle.smk_parse_expr.specs.Printing.{printed, printed_items}
use Rattle.smk_parse_expr.proofs.Prints.{expr-printed, items-printed}
use Rattle.smk_parse.specs.Statements.{has_default}
use Rattle.smk_parse.specs.Grammar.{directive_of, IsDirective, a_directive, IsDirectives, IsBody, with_text, without_text, IsNames, IsForm, an_assignment, a_rule, an_order, some_local_rules, a_configuration, an_include, a_container, some_limits, IsStatements, IsFile}
use Rattle.smk_parse_print.specs.Lines.{Line, open_behind}
use Rattle.smk_parse_print.specs.Rows.{Row, byte_of, lexeme_of, line_of, IsFit, AllFit, IsRow, AreRows}
use Rattle.smk_parse_print.specs.Print.{worded, more_names, names_between, directive_row, body_rows, rule_word, text_row, form_rows, rows_of}
use Rattle.smk_parse_print.proofs.Fit.{past_sign, past, over, IsClosed, expr-closed, items-closed, AllSound, sound-left, sound-right, expr-fit, items-fit}
use Rattle.smk_parse_print.proofs.Joined.{IsShallow, AreFlat}

-- ---- brackets of bytes are brackets of symbols

name_byte : (b n : ℕ) → begins_name b ≡ true → depth_after b n ≡ n
name_byte b n h = rw (differs begins_name b 40 h refl, differs begins_name b 91 h refl, differs begins_name b 41 h refl, differs begins_name b 93 h refl) refl

digit_byte : (b n : ℕ) → is_ascii_digit b ≡ true → depth_after b n ≡ n
digit_byte b n h = rw (differs is_ascii_digit b 40 h refl, differs is_ascii_digit b 91 h refl, differs is_ascii_digit b 41 h refl, differs is_ascii_digit b 93 h refl) refl

digits_byte : (w : Bytes) (n : ℕ) → IsDigits w → depth_after (slice_index w 0) n ≡ n
digits_byte [] n h = absurd (omega (arith, h.0))
digits_byte (b ∷ w) n h = digit_byte b n (and_parts (is_ascii_digit b) (list_all is_ascii_digit w) h.1).0

name_bytes : (w : Bytes) (n : ℕ) → IsName w → depth_after (slice_index w 0) n ≡ n
name_bytes [] n h = absurd h
name_bytes (b ∷ w) n h = name_byte b n h.0

sign_byte : (k : Sign) (n : ℕ) → depth_after (byte_of k) n ≡ past_sign k n
sign_byte sign.Colon n = refl
sign_byte sign.Comma n = refl
sign_byte sign.Equals n = refl
sign_byte sign.Open n = refl
sign_byte sign.Close n = refl
sign_byte sign.OpenSquare n = refl
sign_byte sign.CloseSquare n = refl
sign_byte sign.Point n = refl
sign_byte sign.Plus n = refl
sign_byte sign.Greater n = refl

past_fit : (x : Symbol) (n : ℕ) → IsFit x → depth_after (slice_index (lexeme_of x).bytes 0) n ≡ past x n
past_fit (s.Name at w) n h = name_bytes w n h
past_fit (s.Number at m) n h = digits_byte (decimal m) n (decimal_digits m h)
past_fit (s.Text at t) n h = refl
past_fit (s.Sign at k) n h = sign_byte k n
past_fit (s.Newline at) n h = absurd h
past_fit (s.Indent at) n h = absurd h
past_fit (s.Dedent at) n h = absurd h

open-is : (n : ℕ) (xs : List Symbol) → AllFit xs → open_behind n (map lexeme_of xs) ≡ over n xs
open-is n [] h = refl
open-is n (x ∷ xs) h = ap (λ k. open_behind k (map lexeme_of xs)) (past_fit x n h.0) ∙ open-is (past x n) xs h.1

row_is : (r : Row) → AllFit (r.first ∷ r.rest) → over 0 (r.first ∷ r.rest) ≡ 0 → IsRow r
row_is r fit closed = record { fit = fit; closed = open-is 0 (r.first ∷ r.rest) fit ∙ closed }

-- ---- rows

abbrev AnyRows : List Row → Type 0
AnyRows rows = (above : ℕ) → AreRows above rows

-- a row at the margin, and rows behind it
at_margin : (r : Row) (more : List Row) → r.level ≡ 0 → IsRow r → AnyRows more → AnyRows (r ∷ more)
at_margin r more level is rest above = (omega arith, is, rest r.level)

names-fit : (k : Sign) (ws : List Bytes) (xs : List Symbol) → IsNames k ws xs → AllSound xs → AllFit (more_names k ws)
names-fit k [] xs h sound = tt
names-fit k (w ∷ ws) xs (a, b, ys, same, h) sound =
    let here : AllSound (s.Sign a k ∷ s.Name b w ∷ ys) = subst AllSound same sound in
    (tt, (here.1.0, names-fit k ws ys h here.1.1))

greater-closed : (ws : List Bytes) → IsClosed (more_names sign.Greater ws)
greater-closed [] n = refl
greater-closed (w ∷ ws) n = greater-closed ws n

comma-closed : (ws : List Bytes) → IsClosed (more_names sign.Comma ws)
comma-closed [] n = refl
comma-closed (w ∷ ws) n = comma-closed ws n

word_fit : (b : Bool) → IsName (rule_word b)
word_fit true = (refl, refl)
word_fit false = (refl, refl)

-- what stands at the end of a statement's symbols isn't asked about
front : (xs : List Symbol) (y : Symbol) → AllSound (xs ++ y ∷ []) → AllSound xs
front xs y h = sound-left xs (y ∷ []) h

module _ (line : ℕ → ℕ) (taken : Bool) where
  directive-is : (d : DirectiveForm) (found : List DirectiveForm) (xs : List Symbol) → IsDirective line taken found xs d → AllSound xs → IsRow (directive_row d)
  directive-is _ found _ (a_directive at b c w xs values word fresh is no_default) sound =
      row_is (directive_row (directive_of (line at) w values)) (sound.0, (tt, items-fit [] xs values is (front xs (s.Newline c) sound.1.1)))
      (items-closed [] (printed_items values) values (items-printed [] values xs is) 0)

  directives-are : (ds found : List DirectiveForm) (xs : List Symbol) (more : List Row) → IsDirectives line taken found ds xs → AllSound xs → AnyRows more
      → (above : ℕ) → AreRows above (map directive_row ds ++ more)
  directives-are [] found xs more h sound rest above = rest above
  directives-are (d ∷ ds) found xs more (ys, zs, same, h, others) sound rest above =
      let here : AllSound (ys ++ zs) = subst AllSound same sound in
      (omega arith, directive-is d found ys h (sound-left ys zs here), directives-are ds (found ++ d ∷ []) zs more others (sound-right ys zs here) rest 1)

  body-by : (ds : List DirectiveForm) (xs : List Symbol) (more : List Row) → IsDirectives line taken [] ds xs → AllSound xs → AnyRows more → AreRows 0 (body_rows ds ++ more)
  body-by [] xs more h sound rest = (omega arith, record { fit = (IsUtf8-nil, tt); closed = refl }, rest 1)
  body-by (d ∷ ds) xs more h sound rest = directives-are (d ∷ ds) [] xs more h sound rest 0

  body-are : (ds : List DirectiveForm) (xs : List Symbol) (more : List Row) → IsBody line taken xs ds → AllSound xs → AnyRows more → AreRows 0 (body_rows ds ++ more)
  body-are ds _ more (with_text a b t xs es h) sound rest = body-by es xs more h sound.1.1 rest
  body-are _ xs more (without_text ys d ds h) sound rest = body-by (d ∷ ds) ys more h sound rest

  form-are : (form : Form) (xs : List Symbol) (more : List Row) → IsForm line taken xs form → AllSound xs → AnyRows more → AnyRows (form_rows form ++ more)
  form-are _ _ more (an_assignment a b c w xs x h) sound rest =
      at_margin (worded 0 w (s.Sign 0 sign.Equals ∷ (printed x).symbols)) more refl
      (row_is (worded 0 w (s.Sign 0 sign.Equals ∷ (printed x).symbols)) (sound.0, (tt, expr-fit max_depth xs x h (front xs (s.Newline c) sound.1.1)))
      (expr-closed max_depth (printed x).symbols x (expr-printed max_depth xs x h) 0)) rest
  form-are _ _ more (a_rule a b c d p q w called is_checkpoint xs ds begins h) sound rest =
      λ above. (
        omega arith,
        row_is (worded 0 (rule_word is_checkpoint) (s.Name 0 called ∷ s.Sign 0 sign.Colon ∷ [])) (word_fit is_checkpoint, (sound.1.0, (tt, tt))) refl,
        body-are ds xs more h (front xs (s.Dedent q) sound.1.1.1.1.1) rest,
      )
  form-are _ _ more (an_order a b c d p q first second names xs h) sound rest =
      at_margin (worded 0 (codes "ruleorder") (s.Sign 0 sign.Colon ∷ names_between sign.Greater (first ∷ second ∷ names))) more refl
      (row_is (worded 0 (codes "ruleorder") (s.Sign 0 sign.Colon ∷ names_between sign.Greater (first ∷ second ∷ names)))
      ((refl, refl), (tt, (sound.1.1.0, (tt, (sound.1.1.1.1.0, names-fit sign.Greater names xs h (front xs (s.Newline q) sound.1.1.1.1.1)))))) (greater-closed names 0)) rest
  form-are _ _ more (some_local_rules a b c d first names xs h) sound rest =
      at_margin (worded 0 (codes "localrules") (s.Sign 0 sign.Colon ∷ names_between sign.Comma (first ∷ names))) more refl
      (row_is (worded 0 (codes "localrules") (s.Sign 0 sign.Colon ∷ names_between sign.Comma (first ∷ names)))
      ((refl, refl), (tt, (sound.1.1.0, names-fit sign.Comma names xs h (front xs (s.Newline d) sound.1.1.1)))) (comma-closed names 0)) rest
  form-are _ _ more (a_configuration a b c d t) sound rest =
      at_margin (text_row (codes "configfile") t) more refl (row_is (text_row (codes "configfile") t) ((refl, refl), (tt, (sound.1.1.0, tt))) refl) rest
  form-are _ _ more (an_include a b c d t) sound rest = at_margin (text_row (codes "include") t) more refl (row_is (text_row (codes "include") t) ((refl, refl), (tt, (sound.1.1.0, tt))) refl) rest
  form-are _ _ more (a_container a b c d t) sound rest =
      at_margin (text_row (codes "container") t) more refl (row_is (text_row (codes "container") t) ((refl, refl), (tt, (sound.1.1.0, tt))) refl) rest
  form-are _ _ more (some_limits a b c xs values h) sound rest =
      at_margin (worded 0 (codes "wildcard_constraints") (s.Sign 0 sign.Colon ∷ printed_items values)) more refl
      (row_is (worded 0 (codes "wildcard_constraints") (s.Sign 0 sign.Colon ∷ printed_items values)) ((refl, refl), (tt, items-fit [] xs values h (front xs (s.Newline c) sound.1.1)))
      (items-closed [] (printed_items values) values (items-printed [] values xs h) 0)) rest

statements-are : (line : ℕ → ℕ) (ss found : List Statement) (xs : List Symbol) → IsStatements line found ss xs → AllSound xs → AnyRows (rows_of ss)
statements-are line [] found xs h sound = λ above. tt
statements-are line (this ∷ ss) found xs (ys, zs, same, (at, h), others) sound =
    let here : AllSound (ys ++ zs) = subst AllSound same sound in
    form-are line (has_default found) this.form ys (rows_of ss) h (sound-left ys zs here) (statements-are line ss (found ++ this ∷ []) zs others (sound-right ys zs here))

pub file-are : (line : ℕ → ℕ) (ss : List Statement) (xs : List Symbol) → IsFile line xs ss → AllSound xs → AreRows 0 (rows_of ss)
file-are line ss xs h sound = statements-are line ss [] xs h sound 0

-- ---- each entry stands in one row

abbrev lines : List Row → List Line
lines rows = map line_of rows

margin-shallow : (level : ℕ) (ss : List Statement) → IsShallow level (lines (rows_of ss))
margin-shallow level [] = tt
margin-shallow level (this ∷ ss) = of_form this.form
  where
    of_form : (form : Form) → IsShallow level (lines (form_rows form ++ rows_of ss))
    of_form (f.Assign w x) = omega arith
    of_form (f.Rule r) = omega arith
    of_form (f.Order ws) = omega arith
    of_form (f.LocalRules ws) = omega arith
    of_form (f.ConfigFile t) = omega arith
    of_form (f.Include t) = omega arith
    of_form (f.Container t) = omega arith
    of_form (f.Limits values) = omega arith

directives-shallow : (ds : List DirectiveForm) (ss : List Statement) → IsShallow 1 (lines (map directive_row ds ++ rows_of ss))
directives-shallow [] ss = margin-shallow 1 ss
directives-shallow (d ∷ ds) ss = omega arith

directives-flat : (ds : List DirectiveForm) (ss : List Statement) → AreFlat (lines (rows_of ss)) → AreFlat (lines (map directive_row ds ++ rows_of ss))
directives-flat [] ss h = h
directives-flat (d ∷ ds) ss h = (inr (directives-shallow ds ss), directives-flat ds ss h)

body-flat : (ds : List DirectiveForm) (ss : List Statement) → AreFlat (lines (rows_of ss)) → AreFlat (lines (body_rows ds ++ rows_of ss))
body-flat [] ss h = (inr (margin-shallow 1 ss), h)
body-flat (d ∷ ds) ss h = directives-flat (d ∷ ds) ss h

form-flat : (form : Form) (ss : List Statement) → AreFlat (lines (rows_of ss)) → AreFlat (lines (form_rows form ++ rows_of ss))
form-flat (f.Rule r) ss h = (inl refl, body-flat r.directives ss h)
form-flat (f.Assign w x) ss h = (inr (margin-shallow 0 ss), h)
form-flat (f.Order ws) ss h = (inr (margin-shallow 0 ss), h)
form-flat (f.LocalRules ws) ss h = (inr (margin-shallow 0 ss), h)
form-flat (f.ConfigFile t) ss h = (inr (margin-shallow 0 ss), h)
form-flat (f.Include t) ss h = (inr (margin-shallow 0 ss), h)
form-flat (f.Container t) ss h = (inr (margin-shallow 0 ss), h)
form-flat (f.Limits values) ss h = (inr (margin-shallow 0 ss), h)

pub file-flat : (ss : List Statement) → AreFlat (lines (rows_of ss))
file-flat [] = tt
file-flat (this ∷ ss) = form-flat this.form ss (file-flat ss)
