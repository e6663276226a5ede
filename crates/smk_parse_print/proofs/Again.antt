-- What is printed of a file that the grammar spells, it spells again, wherever the symbols stand.
use Rattle.std.proofs.Common.{◌≡◌, ℕ, suc, Bool, true, false, ◌&&◌, List, [], ◌∷◌, ◌++◌, map, refl, sym, ap, subst, ◌∙◌, append_assoc}
use Rattle.std.proofs.lemmas.List.{map-append}
use Rattle.std.specs.Prelude.{codes, ◌||◌}
use Rattle.std.specs.List.{list_any}
use Rattle.std.specs.Str.{bytes_eq}
use Rattle.smk_parse_expr.specs.declared.symbol.Symbol.{Symbol}
use Rattle.smk_parse_expr.specs.declared.symbol.Symbol.TheVariants as s
use Rattle.smk_parse_expr.specs.declared.symbol.Sign.{Sign}
use Rattle.smk_parse_expr.specs.declared.symbol.Sign.TheVariants.{Colon, Comma, Equals, Greater}
use Rattle.smk_parse_tree.specs.declared.syntax.DirectiveForm.{DirectiveForm}
use Rattle.smk_parse_tree.specs.declared.syntax.RuleForm.{RuleForm}
use Rattle.smk_parse_tree.specs.declared.syntax.Form.{Form}
use Rattle.smk_parse_tree.specs.declared.syntax.Form.TheVariants as f
use Rattle.smk_parse_tree.specs.declared.syntax.Statement.{Statement}
use Rattle.smk_parse_expr.specs.Symbols.{Bytes, here}
use Rattle.smk_parse_expr.specs.Exprs.{max_depth}
use Rattle.smk_parse_expr.specs.Printing.{printed, printed_items}
use Rattle.smk_parse_expr.proofs.Prints.{expr-printed, items-printed}
use Rattle.smk_parse.specs.Statements.{has_word, is_default, has_default, has_default_in}
use Rattle.smk_parse.specs.Grammar.{directive_of, IsDirective, a_directive, IsDirectives, IsBody, with_text, without_text, BeginsRule, a_rule as begins_rule, a_checkpoint as begins_checkpoint, IsNames, IsForm, an_assignment, a_rule, an_order, some_local_rules, a_configuration, an_include, a_container, some_limits, IsStatements, IsFile}
use Rattle.smk_parse_print.specs.Rows.{Row, unplaced, row_symbols}
use Rattle.smk_parse_print.specs.Print.{more_names, names_between, directive_row, body_rows, rule_word, form_rows, rows_of}
use Rattle.smk_parse_print.specs.Aside.{unlined_directive, unlined_form, unlined_statement}
use Rattle.smk_parse_print.proofs.Moved.{moved, behind, moved-append, expr-moved, items-moved}

-- ---- the symbols of what is printed

abbrev pub directive_symbols : DirectiveForm → List Symbol
directive_symbols d = s.Name 0 d.word ∷ s.Sign 0 Colon ∷ (printed_items d.items ++ s.Newline 0 ∷ [])

abbrev pub all_directives : List DirectiveForm → List Symbol
all_directives [] = []
all_directives (d ∷ ds) = directive_symbols d ++ all_directives ds

abbrev pub body_symbols : List DirectiveForm → List Symbol
body_symbols [] = s.Text 0 [] ∷ s.Newline 0 ∷ []
body_symbols (d ∷ ds) = directive_symbols d ++ all_directives ds

abbrev pub text_symbols : Bytes → Bytes → List Symbol
text_symbols w t = s.Name 0 w ∷ s.Sign 0 Colon ∷ s.Text 0 t ∷ s.Newline 0 ∷ []

abbrev pub form_symbols : Form → List Symbol
form_symbols (f.Assign w x) = s.Name 0 w ∷ s.Sign 0 Equals ∷ ((printed x).symbols ++ s.Newline 0 ∷ [])
form_symbols (f.Rule r) =
    s.Name 0 (rule_word r.checkpoint) ∷ s.Name 0 r.name ∷ s.Sign 0 Colon ∷ s.Newline 0 ∷ s.Indent 0 ∷ (body_symbols r.directives ++ s.Dedent 0 ∷ [])
form_symbols (f.Order ws) = s.Name 0 (codes "ruleorder") ∷ s.Sign 0 Colon ∷ (names_between Greater ws ++ s.Newline 0 ∷ [])
form_symbols (f.LocalRules ws) = s.Name 0 (codes "localrules") ∷ s.Sign 0 Colon ∷ (names_between Comma ws ++ s.Newline 0 ∷ [])
form_symbols (f.ConfigFile t) = text_symbols (codes "configfile") t
form_symbols (f.Include t) = text_symbols (codes "include") t
form_symbols (f.Container t) = text_symbols (codes "container") t
form_symbols (f.Limits values) = s.Name 0 (codes "wildcard_constraints") ∷ s.Sign 0 Colon ∷ (printed_items values ++ s.Newline 0 ∷ [])

abbrev pub file_symbols : List Statement → List Symbol
file_symbols [] = []
file_symbols (this ∷ ss) = form_symbols this.form ++ file_symbols ss

-- ---- they are those of the rows

one_row : (xs more : List Symbol) → map unplaced xs ++ (s.Newline 0 ∷ more) ≡ map unplaced (xs ++ s.Newline 0 ∷ []) ++ more
one_row xs more =
    sym (append_assoc (map unplaced xs) (s.Newline 0 ∷ []) more) ∙ ap (λ (v : List Symbol). v ++ more) (sym (map-append unplaced xs (s.Newline 0 ∷ [])))

-- behind rows of the level 1 a statement closes that level
closes_level : (ss : List Statement) → row_symbols 1 (rows_of ss) ≡ s.Dedent 0 ∷ row_symbols 0 (rows_of ss)
closes_level [] = refl
closes_level (this ∷ ss) = of_form this.form
  where
    of_form : (form : Form) → row_symbols 1 (form_rows form ++ rows_of ss) ≡ s.Dedent 0 ∷ row_symbols 0 (form_rows form ++ rows_of ss)
    of_form (f.Assign w x) = refl
    of_form (f.Rule r) = refl
    of_form (f.Order ws) = refl
    of_form (f.LocalRules ws) = refl
    of_form (f.ConfigFile t) = refl
    of_form (f.Include t) = refl
    of_form (f.Container t) = refl
    of_form (f.Limits values) = refl

directive-rows : (ds : List DirectiveForm) (more : List Row) → row_symbols 1 (map directive_row ds ++ more) ≡ map unplaced (all_directives ds) ++ row_symbols 1 more
directive-rows [] more = refl
directive-rows (d ∷ ds) more =
    let xs = s.Name 0 d.word ∷ s.Sign 0 Colon ∷ printed_items d.items in
    ap (λ (v : List Symbol). map unplaced xs ++ (s.Newline 0 ∷ v)) (directive-rows ds more)
    ∙ one_row xs (map unplaced (all_directives ds) ++ row_symbols 1 more)
    ∙ sym (append_assoc (map unplaced (directive_symbols d)) (map unplaced (all_directives ds)) (row_symbols 1 more))
    ∙ ap (λ (v : List Symbol). v ++ row_symbols 1 more) (sym (map-append unplaced (directive_symbols d) (all_directives ds)))

body-row : (ds : List DirectiveForm) (more : List Row) → row_symbols 0 (body_rows ds ++ more) ≡ s.Indent 0 ∷ (map unplaced (body_symbols ds) ++ row_symbols 1 more)
body-row [] more = refl
body-row (d ∷ ds) more = ap (λ (v : List Symbol). s.Indent 0 ∷ v) (directive-rows (d ∷ ds) more)

rule-rows : (r : RuleForm) (ss : List Statement)
    → row_symbols 0 (form_rows (f.Rule r) ++ rows_of ss) ≡ map unplaced (form_symbols (f.Rule r)) ++ row_symbols 0 (rows_of ss)
rule-rows r ss =
    let head = s.Name 0 (rule_word r.checkpoint) ∷ s.Name 0 r.name ∷ s.Sign 0 Colon ∷ s.Newline 0 ∷ [] in
    let body = body_symbols r.directives in
    let inner : row_symbols 0 (body_rows r.directives ++ rows_of ss) ≡ s.Indent 0 ∷ (map unplaced (body ++ s.Dedent 0 ∷ []) ++ row_symbols 0 (rows_of ss)) =
    body-row r.directives (rows_of ss) ∙ ap (λ (v : List Symbol). s.Indent 0 ∷ (map unplaced body ++ v)) (closes_level ss)
    ∙ ap (λ (v : List Symbol). s.Indent 0 ∷ v) (sym (append_assoc (map unplaced body) (s.Dedent 0 ∷ []) (row_symbols 0 (rows_of ss))))
    ∙ ap (λ (v : List Symbol). s.Indent 0 ∷ (v ++ row_symbols 0 (rows_of ss))) (sym (map-append unplaced body (s.Dedent 0 ∷ []))) in
    ap (λ (v : List Symbol). head ++ v) inner

form-rows : (form : Form) (ss : List Statement) → row_symbols 0 (form_rows form ++ rows_of ss) ≡ map unplaced (form_symbols form) ++ row_symbols 0 (rows_of ss)
form-rows (f.Assign w x) ss = one_row (s.Name 0 w ∷ s.Sign 0 Equals ∷ (printed x).symbols) (row_symbols 0 (rows_of ss))
form-rows (f.Rule r) ss = rule-rows r ss
form-rows (f.Order ws) ss = one_row (s.Name 0 (codes "ruleorder") ∷ s.Sign 0 Colon ∷ names_between Greater ws) (row_symbols 0 (rows_of ss))
form-rows (f.LocalRules ws) ss = one_row (s.Name 0 (codes "localrules") ∷ s.Sign 0 Colon ∷ names_between Comma ws) (row_symbols 0 (rows_of ss))
form-rows (f.ConfigFile t) ss = refl
form-rows (f.Include t) ss = refl
form-rows (f.Container t) ss = refl
form-rows (f.Limits values) ss = one_row (s.Name 0 (codes "wildcard_constraints") ∷ s.Sign 0 Colon ∷ printed_items values) (row_symbols 0 (rows_of ss))

pub file-rows : (ss : List Statement) → row_symbols 0 (rows_of ss) ≡ map unplaced (file_symbols ss)
file-rows [] = refl
file-rows (this ∷ ss) =
    form-rows this.form ss ∙ ap (λ (v : List Symbol). map unplaced (form_symbols this.form) ++ v) (file-rows ss)
    ∙ sym (map-append unplaced (form_symbols this.form) (file_symbols ss))

-- ---- lines aside

abbrev relined : (ℕ → ℕ) → (ℕ → ℕ) → List DirectiveForm → List DirectiveForm
relined line g [] = []
relined line g (d ∷ ds) = record d { line = line (g 0) } ∷ relined line (behind (directive_symbols d) g) ds

abbrev reform : (ℕ → ℕ) → (ℕ → ℕ) → Form → Form
reform line g (f.Rule r) = f.Rule (record r { directives = relined line (λ i. g (suc (suc (suc (suc (suc i)))))) r.directives })
reform line g (f.Assign w x) = f.Assign w x
reform line g (f.Order ws) = f.Order ws
reform line g (f.LocalRules ws) = f.LocalRules ws
reform line g (f.ConfigFile t) = f.ConfigFile t
reform line g (f.Include t) = f.Include t
reform line g (f.Container t) = f.Container t
reform line g (f.Limits values) = f.Limits values

-- the statements that are read where the symbols stand
abbrev pub again : (ℕ → ℕ) → (ℕ → ℕ) → List Statement → List Statement
again line g [] = []
again line g (this ∷ ss) = record { line = line (g 0); form = reform line g this.form } ∷ again line (behind (form_symbols this.form) g) ss

relined-same : (line g : ℕ → ℕ) (ds : List DirectiveForm) → map unlined_directive (relined line g ds) ≡ map unlined_directive ds
relined-same line g [] = refl
relined-same line g (d ∷ ds) = ap (λ (v : List DirectiveForm). unlined_directive d ∷ v) (relined-same line (behind (directive_symbols d) g) ds)

reform-same : (line g : ℕ → ℕ) (form : Form) → unlined_form (reform line g form) ≡ unlined_form form
reform-same line g (f.Rule r) =
    ap (λ (v : List DirectiveForm). f.Rule (record r { directives = v })) (relined-same line (λ i. g (suc (suc (suc (suc (suc i)))))) r.directives)
reform-same line g (f.Assign w x) = refl
reform-same line g (f.Order ws) = refl
reform-same line g (f.LocalRules ws) = refl
reform-same line g (f.ConfigFile t) = refl
reform-same line g (f.Include t) = refl
reform-same line g (f.Container t) = refl
reform-same line g (f.Limits values) = refl

pub again-same : (line g : ℕ → ℕ) (ss : List Statement) → map unlined_statement (again line g ss) ≡ map unlined_statement ss
again-same line g [] = refl
again-same line g (this ∷ ss) =
    ap (λ (v : Form). record { line = 0; form = v } ∷ map unlined_statement (again line (behind (form_symbols this.form) g) ss)) (reform-same line g this.form)
    ∙ ap (λ (v : List Statement). unlined_statement this ∷ v) (again-same line (behind (form_symbols this.form) g) ss)

-- ---- what the grammar asks of the directives and statements above

word-unlined : (ds : List DirectiveForm) (w : Bytes) → has_word (map unlined_directive ds) w ≡ has_word ds w
unfolding has_word
word-unlined [] w = refl
word-unlined (d ∷ ds) w = ap (λ b. bytes_eq d.word w || b) (by_list ds w)
  where
    by_list : (ds : List DirectiveForm) (w : Bytes) → list_any (λ (d : DirectiveForm). bytes_eq d.word w) (map unlined_directive ds) ≡ list_any (λ (d : DirectiveForm). bytes_eq d.word w) ds
    by_list [] w = refl
    by_list (d ∷ ds) w = ap (λ b. bytes_eq d.word w || b) (by_list ds w)

word-same : (ds es : List DirectiveForm) (w : Bytes) → map unlined_directive ds ≡ map unlined_directive es → has_word ds w ≡ has_word es w
word-same ds es w e = sym (word-unlined ds w) ∙ ap (λ v. has_word v w) e ∙ word-unlined es w

default-line : (d : DirectiveForm) (n : ℕ) → is_default (record d { line = n }) ≡ is_default d
unfolding is_default
default-line d n = refl

any-default : (ds : List DirectiveForm) → list_any is_default (map unlined_directive ds) ≡ list_any is_default ds
any-default [] = refl
any-default (d ∷ ds) = ap (λ b. b || list_any is_default (map unlined_directive ds)) (default-line d 0) ∙ ap (λ b. is_default d || b) (any-default ds)

form-default : (form : Form) → has_default_in (unlined_form form) ≡ has_default_in form
form-default (f.Rule r) = any-default r.directives
form-default (f.Assign w x) = refl
form-default (f.Order ws) = refl
form-default (f.LocalRules ws) = refl
form-default (f.ConfigFile t) = refl
form-default (f.Include t) = refl
form-default (f.Container t) = refl
form-default (f.Limits values) = refl

default-unlined : (ss : List Statement) → has_default (map unlined_statement ss) ≡ has_default ss
default-unlined [] = refl
default-unlined (this ∷ ss) = ap (λ b. b || has_default (map unlined_statement ss)) (form-default this.form) ∙ ap (λ b. has_default_in this.form || b) (default-unlined ss)

default-same : (ss ts : List Statement) → map unlined_statement ss ≡ map unlined_statement ts → has_default ss ≡ has_default ts
default-same ss ts e = sym (default-unlined ss) ∙ ap has_default e ∙ default-unlined ts

-- ---- the grammar

module _ (line new_line : ℕ → ℕ) (taken : Bool) where
  directive-again : (g : ℕ → ℕ) (d : DirectiveForm) (found new : List DirectiveForm) (xs : List Symbol) → map unlined_directive new ≡ map unlined_directive found
      → IsDirective line taken found xs d → IsDirective new_line taken new (moved g (directive_symbols d)) (record d { line = new_line (g 0) })
  directive-again g _ found new _ same (a_directive at b c w xs values word fresh is no_default) =
      let k : ℕ → ℕ = λ i. g (suc (suc i)) in
      let ps = printed_items values in
      let d = directive_of (line at) w values in
      subst (λ (v : List Symbol). IsDirective new_line taken new (s.Name (g 0) w ∷ s.Sign (g 1) Colon ∷ v) (directive_of (new_line (g 0)) w values)) (sym (moved-append k ps (s.Newline 0 ∷ [])))
      (a_directive (g 0) (g 1) (behind ps k 0) w (moved k ps) values word (word-same new found w same ∙ fresh) (items-moved k [] ps values (items-printed [] values xs is))
      (ap (λ b. taken && b) (default-line d (new_line (g 0))) ∙ no_default))

  directives-again : (g : ℕ → ℕ) (ds found new : List DirectiveForm) (xs : List Symbol) → map unlined_directive new ≡ map unlined_directive found
      → IsDirectives line taken found ds xs → IsDirectives new_line taken new (relined new_line g ds) (moved g (all_directives ds))
  directives-again g [] found new xs same h = refl
  directives-again g (d ∷ ds) found new xs same (ys, zs, split, h, others) =
      let k = behind (directive_symbols d) g in
      let e = record d { line = new_line (g 0) } in
      let next : map unlined_directive (new ++ e ∷ []) ≡ map unlined_directive (found ++ d ∷ []) =
      map-append unlined_directive new (e ∷ []) ∙ ap (λ (v : List DirectiveForm). v ++ unlined_directive d ∷ []) same ∙ sym (map-append unlined_directive found (d ∷ [])) in (
        moved g (directive_symbols d),
        moved k (all_directives ds),
        moved-append g (directive_symbols d) (all_directives ds),
        directive-again g d found new ys same h,
        directives-again k ds (found ++ d ∷ []) (new ++ e ∷ []) zs next others,
      )

  body-by : (g : ℕ → ℕ) (ds : List DirectiveForm) (xs : List Symbol) → IsDirectives line taken [] ds xs → IsBody new_line taken (moved g (body_symbols ds)) (relined new_line g ds)
  body-by g [] xs h = with_text (g 0) (g 1) [] [] [] refl
  body-by g (d ∷ ds) xs h =
      without_text (moved g (body_symbols (d ∷ ds))) (record d { line = new_line (g 0) }) (relined new_line (behind (directive_symbols d) g) ds) (directives-again g (d ∷ ds) [] [] xs refl h)

  body-again : (g : ℕ → ℕ) (ds : List DirectiveForm) (xs : List Symbol) → IsBody line taken xs ds → IsBody new_line taken (moved g (body_symbols ds)) (relined new_line g ds)
  body-again g ds _ (with_text a b t xs es h) = body-by g es xs h
  body-again g _ xs (without_text ys d ds h) = body-by g (d ∷ ds) ys h

  names-again : (g : ℕ → ℕ) (k : Sign) (ws : List Bytes) → IsNames k ws (moved g (more_names k ws))
  names-again g k [] = refl
  names-again g k (w ∷ ws) = let n : ℕ → ℕ = λ i. g (suc (suc i)) in (g 0, g 1, moved n (more_names k ws), refl, names-again n k ws)

  begins_with : (b : Bool) → BeginsRule (rule_word b) b
  begins_with true = begins_checkpoint
  begins_with false = begins_rule

  form-again : (g : ℕ → ℕ) (form : Form) (xs : List Symbol) → IsForm line taken xs form → IsForm new_line taken (moved g (form_symbols form)) (reform new_line g form)
  form-again g _ _ (an_assignment a b c w xs x h) =
      let k : ℕ → ℕ = λ i. g (suc (suc i)) in
      let ps = (printed x).symbols in
      subst (λ (v : List Symbol). IsForm new_line taken (s.Name (g 0) w ∷ s.Sign (g 1) Equals ∷ v) (f.Assign w x)) (sym (moved-append k ps (s.Newline 0 ∷ [])))
      (an_assignment (g 0) (g 1) (behind ps k 0) w (moved k ps) x (expr-moved max_depth k ps x (expr-printed max_depth xs x h)))
  form-again g _ _ (a_rule a b c d p q w called is_checkpoint xs ds begins h) =
      let k : ℕ → ℕ = λ i. g (suc (suc (suc (suc (suc i))))) in
      let body = body_symbols ds in
      let r : RuleForm = record { checkpoint = is_checkpoint; name = called; directives = relined new_line k ds } in
      subst (λ (v : List Symbol). IsForm new_line taken (s.Name (g 0) (rule_word is_checkpoint) ∷ s.Name (g 1) called ∷ s.Sign (g 2) Colon ∷ s.Newline (g 3) ∷ s.Indent (g 4) ∷ v) (f.Rule r)) (sym (moved-append k body (s.Dedent 0 ∷ [])))
      (a_rule (g 0) (g 1) (g 2) (g 3) (g 4) (behind body k 0) (rule_word is_checkpoint) called is_checkpoint (moved k body) (relined new_line k ds) (begins_with is_checkpoint) (body-again k ds xs h))
  form-again g _ _ (an_order a b c d p q first second more xs h) =
      let k : ℕ → ℕ = λ i. g (suc (suc (suc (suc (suc i))))) in
      let ps = more_names Greater more in
      subst (λ (v : List Symbol). IsForm new_line taken (s.Name (g 0) (codes "ruleorder") ∷ s.Sign (g 1) Colon ∷ s.Name (g 2) first ∷ s.Sign (g 3) Greater ∷ s.Name (g 4) second ∷ v) (f.Order (first ∷ second ∷ more))) (sym (moved-append k ps (s.Newline 0 ∷ [])))
      (an_order (g 0) (g 1) (g 2) (g 3) (g 4) (behind ps k 0) first second more (moved k ps) (names-again k Greater more))
  form-again g _ _ (some_local_rules a b c d first more xs h) =
      let k : ℕ → ℕ = λ i. g (suc (suc (suc i))) in
      let ps = more_names Comma more in
      subst (λ (v : List Symbol). IsForm new_line taken (s.Name (g 0) (codes "localrules") ∷ s.Sign (g 1) Colon ∷ s.Name (g 2) first ∷ v) (f.LocalRules (first ∷ more))) (sym (moved-append k ps (s.Newline 0 ∷ [])))
      (some_local_rules (g 0) (g 1) (g 2) (behind ps k 0) first more (moved k ps) (names-again k Comma more))
  form-again g _ _ (a_configuration a b c d t) = a_configuration (g 0) (g 1) (g 2) (g 3) t
  form-again g _ _ (an_include a b c d t) = an_include (g 0) (g 1) (g 2) (g 3) t
  form-again g _ _ (a_container a b c d t) = a_container (g 0) (g 1) (g 2) (g 3) t
  form-again g _ _ (some_limits a b c xs values h) =
      let k : ℕ → ℕ = λ i. g (suc (suc i)) in
      let ps = printed_items values in
      subst (λ (v : List Symbol). IsForm new_line taken (s.Name (g 0) (codes "wildcard_constraints") ∷ s.Sign (g 1) Colon ∷ v) (f.Limits values)) (sym (moved-append k ps (s.Newline 0 ∷ [])))
      (some_limits (g 0) (g 1) (behind ps k 0) (moved k ps) values (items-moved k [] ps values (items-printed [] values xs h)))

first_place : (g : ℕ → ℕ) (form : Form) → here (moved g (form_symbols form)) ≡ g 0
first_place g (f.Rule r) = refl
first_place g (f.Assign w x) = refl
first_place g (f.Order ws) = refl
first_place g (f.LocalRules ws) = refl
first_place g (f.ConfigFile t) = refl
first_place g (f.Include t) = refl
first_place g (f.Container t) = refl
first_place g (f.Limits values) = refl

statements-again : (line new_line g : ℕ → ℕ) (ss found new : List Statement) (xs : List Symbol) → map unlined_statement new ≡ map unlined_statement found
    → IsStatements line found ss xs → IsStatements new_line new (again new_line g ss) (moved g (file_symbols ss))
statements-again line new_line g [] found new xs same h = refl
statements-again line new_line g (this ∷ ss) found new xs same (ys, zs, split, (at, h), others) =
    let k = behind (form_symbols this.form) g in
    let that : Statement = record { line = new_line (g 0); form = reform new_line g this.form } in
    let last : unlined_statement that ≡ unlined_statement this = ap (λ (v : Form). record { line = 0; form = v }) (reform-same new_line g this.form) in
    let next : map unlined_statement (new ++ that ∷ []) ≡ map unlined_statement (found ++ this ∷ []) =
    map-append unlined_statement new (that ∷ []) ∙ ap (λ (v : List Statement). v ++ unlined_statement that ∷ []) same
    ∙ ap (λ (v : Statement). map unlined_statement found ++ v ∷ []) last ∙ sym (map-append unlined_statement found (this ∷ [])) in
    let is : IsForm new_line (has_default found) (moved g (form_symbols this.form)) (reform new_line g this.form) = form-again line new_line (has_default found) g this.form ys h in (
      moved g (form_symbols this.form),
      moved k (file_symbols ss),
      moved-append g (form_symbols this.form) (file_symbols ss),
      (ap new_line (sym (first_place g this.form)), subst (λ b. IsForm new_line b (moved g (form_symbols this.form)) (reform new_line g this.form)) (sym (default-same new found same)) is),
      statements-again line new_line k ss (found ++ this ∷ []) (new ++ that ∷ []) zs next others,
    )

pub file-again : (line new_line g : ℕ → ℕ) (ss : List Statement) (xs : List Symbol) → IsFile line xs ss → IsFile new_line (moved g (file_symbols ss)) (again new_line g ss)
file-again line new_line g ss xs h = statements-again line new_line g ss [] [] xs refl h
