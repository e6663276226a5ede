-- Rows as bytes, piece by piece.
use Rattle.std.proofs.Common.{◌≡◌, ℕ, ◌+◌, ◌<◌, List, [], ◌∷◌, ◌++◌, length, drop, get_or, Bool, true, false, cond, map, refl, sym, ap, ◌∙◌, append_assoc}
use Rattle.std.proofs.lemmas.List.{drop_more, append-nil}
use Rattle.smk_lex.specs.Pieces.{Bytes}
use Rattle.smk_parse_expr.specs.declared.symbol.Symbol.{Symbol}
use Rattle.smk_parse_expr.specs.declared.symbol.Symbol.TheVariants as s
use Rattle.smk_parse_expr.specs.declared.symbol.Sign.TheVariants.{Colon, Comma}
use Rattle.smk_parse_expr.specs.Printing.{printed, under_name, printed_item, printed_items}
use Rattle.smk_parse_tree.specs.declared.syntax.ItemForm.{ItemForm}
use Rattle.smk_parse_tree.specs.declared.syntax.DirectiveForm.{DirectiveForm}
use Rattle.smk_parse_tree.specs.declared.syntax.Statement.{Statement}
use Rattle.smk_parse_print.specs.Lines.{indentation, to_line_end, line_bytes}
use Rattle.smk_parse_print.specs.Rows.{Row, lexeme_of, line_of, bytes_of}
use Rattle.smk_parse_print.specs.Print.{worded, directive_row, statement_rows, rows_of}
use Rattle.smk_parse_print.specs.Writing.{spaced, if_so}
use Rattle.smk_parse_print.proofs.Spaced.{two, three, loop-step, more_items}

-- ---- one row

to_end : (xs : List Symbol) → to_line_end (map lexeme_of xs) ≡ spaced xs ++ 10 ∷ []
to_end [] = refl
to_end (x ∷ xs) =
    ap (λ (v : Bytes). 32 ∷ ((lexeme_of x).bytes ++ v)) (to_end xs) ∙ ap (λ (v : Bytes). 32 ∷ v) (sym (append_assoc (lexeme_of x).bytes (spaced xs) (10 ∷ [])))

pub row-bytes : (r : Row) → bytes_of (r ∷ []) ≡ indentation r.level ++ ((lexeme_of r.first).bytes ++ (spaced r.rest ++ 10 ∷ []))
row-bytes r =
    append-nil (line_bytes (line_of r)) ∙ ap (λ (v : Bytes). indentation r.level ++ ((lexeme_of r.first).bytes ++ v)) (to_end r.rest)

pub bytes-append : (xs ys : List Row) → bytes_of (xs ++ ys) ≡ bytes_of xs ++ bytes_of ys
bytes-append [] ys = refl
bytes-append (x ∷ xs) ys =
    ap (λ (v : Bytes). line_bytes (line_of x) ++ v) (bytes-append xs ys) ∙ sym (append_assoc (line_bytes (line_of x)) (bytes_of xs) (bytes_of ys))

-- a row at the margin: its word, its symbols and its end
pub row-ends : (w o p q r : Bytes) (xs : List Symbol) → p ≡ o ++ w → q ≡ p ++ spaced xs → r ≡ q ++ 10 ∷ [] → r ≡ o ++ bytes_of (worded 0 w xs ∷ [])
row-ends w o p q r xs a b c =
    c ∙ ap (λ (v : Bytes). v ++ 10 ∷ []) (b ∙ ap (λ (v : Bytes). v ++ spaced xs) a)
    ∙ append_assoc (o ++ w) (spaced xs) (10 ∷ []) ∙ append_assoc o w (spaced xs ++ 10 ∷ [])
    ∙ ap (λ (v : Bytes). o ++ v) (sym (row-bytes (worded 0 w xs)))

-- the row of a directive, behind its indentation
pub directive-ends : (d : DirectiveForm) (w : Bytes) (items : List ItemForm) (o b p q t r : Bytes) → w ≡ d.word → items ≡ d.items → b ≡ o ++ 32 ∷ 32 ∷ 32 ∷ 32 ∷ [] → p ≡ b ++ w
    → q ≡ p ++ spaced (s.Sign 0 Colon ∷ []) → t ≡ q ++ spaced (printed_items items) → r ≡ t ++ 10 ∷ [] → r ≡ o ++ bytes_of (directive_row d ∷ [])
directive-ends d w items o b p q t r word same blanks a colon values end =
    let xs = s.Sign 0 Colon ∷ printed_items items in
    let row : r ≡ b ++ bytes_of (worded 0 w xs ∷ []) = row-ends w b p t r xs a (two p q t (s.Sign 0 Colon ∷ []) (printed_items items) colon values) end in
    let inner : bytes_of (worded 0 w xs ∷ []) ≡ w ++ (spaced xs ++ 10 ∷ []) = row-bytes (worded 0 w xs) in
    row ∙ ap (λ (v : Bytes). b ++ v) inner ∙ ap (λ (v : Bytes). v ++ (w ++ (spaced xs ++ 10 ∷ []))) blanks
    ∙ append_assoc o (32 ∷ 32 ∷ 32 ∷ 32 ∷ []) (w ++ (spaced xs ++ 10 ∷ []))
    ∙ ap (λ (v : Bytes). o ++ 32 ∷ 32 ∷ 32 ∷ 32 ∷ (v ++ (spaced xs ++ 10 ∷ []))) word
    ∙ ap (λ (is : List ItemForm). o ++ 32 ∷ 32 ∷ 32 ∷ 32 ∷ (d.word ++ (spaced (s.Sign 0 Colon ∷ printed_items is) ++ 10 ∷ []))) same
    ∙ ap (λ (v : Bytes). o ++ v) (sym (row-bytes (directive_row d)))

-- ---- loops

named : (w : Bytes) (xs : List Symbol) → under_name w xs ≡ under_name w [] ++ xs
named [] xs = refl
named (b ∷ w) xs = refl

pub first_item : (x : ItemForm) (items : List ItemForm) → printed_items (x ∷ items) ≡ printed_item x ++ more_items items
first_item x [] = sym (append-nil (printed_item x))
first_item x (y ∷ items) = ap (λ (v : List Symbol). printed_item x ++ (s.Sign 0 Comma ∷ v)) (first_item y items)

items-turn : (behind : Bool) (x : ItemForm) (items : List ItemForm)
    → cond behind (more_items (x ∷ items)) (printed_items (x ∷ items)) ≡ (if_so behind Comma ++ (under_name x.name [] ++ (printed x.value).symbols)) ++ more_items items
items-turn true x items = ap (λ (v : List Symbol). s.Sign 0 Comma ∷ (v ++ more_items items)) (named x.name (printed x.value).symbols)
items-turn false x items = first_item x items ∙ ap (λ (v : List Symbol). v ++ more_items items) (named x.name (printed x.value).symbols)

pub items-step : (items : List ItemForm) (i : ℕ) (x : ItemForm) (behind : Bool) (w o p q r total : Bytes) → i < length items → x ≡ get_or items i x → w ≡ x.name
    → o ++ spaced (cond behind (more_items (drop i items)) (printed_items (drop i items))) ≡ total
    → p ≡ o ++ spaced (if_so behind Comma) → q ≡ p ++ spaced (under_name w []) → r ≡ q ++ spaced (printed x.value).symbols
    → r ++ spaced (more_items (drop (i + 1) items)) ≡ total
items-step items i x behind w o p q r total lt is word before comma label value =
    let rest = drop (i + 1) items in
    let front = if_so behind Comma ++ (under_name x.name [] ++ (printed x.value).symbols) in
    let here : drop i items ≡ x ∷ rest = drop_more items i x lt ∙ ap (λ y. y ∷ rest) (sym is) in
    let split : cond behind (more_items (drop i items)) (printed_items (drop i items)) ≡ front ++ more_items rest =
    ap (λ v. cond behind (more_items v) (printed_items v)) here ∙ items-turn behind x rest in
    let labelled : q ≡ p ++ spaced (under_name x.name []) = label ∙ ap (λ (v : Bytes). p ++ spaced (under_name v [])) word in
    loop-step o r total front (more_items rest) (cond behind (more_items (drop i items)) (printed_items (drop i items))) split
    (three o p q r (if_so behind Comma) (under_name x.name []) (printed x.value).symbols comma labelled value) before

pub statements-step : (all : List Statement) (i : ℕ) (x : Statement) (o p total : Bytes) → i < length all → x ≡ get_or all i x
    → o ++ bytes_of (rows_of (drop i all)) ≡ total → p ≡ o ++ bytes_of (statement_rows x) → p ++ bytes_of (rows_of (drop (i + 1) all)) ≡ total
statements-step all i x o p total lt is before wrote =
    let rest = drop (i + 1) all in
    let here : drop i all ≡ x ∷ rest = drop_more all i x lt ∙ ap (λ y. y ∷ rest) (sym is) in
    ap (λ (v : Bytes). v ++ bytes_of (rows_of rest)) wrote ∙ append_assoc o (bytes_of (statement_rows x)) (bytes_of (rows_of rest))
    ∙ ap (λ (v : Bytes). o ++ v) (sym (bytes-append (statement_rows x) (rows_of rest)) ∙ ap (λ v. bytes_of (rows_of v)) (sym here)) ∙ before
