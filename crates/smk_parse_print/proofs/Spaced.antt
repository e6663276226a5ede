-- Symbols as bytes, piece by piece.
use Rattle.std.proofs.Common.{◌≡◌, ℕ, ◌+◌, ◌<◌, List, [], ◌∷◌, ◌++◌, length, drop, get_or, Bool, true, false, cond, map, refl, sym, ap, ◌∙◌, append_assoc, rules}
use Rattle.std.proofs.lemmas.List.{drop_more, append-nil}
use Rattle.smk_lex.specs.Pieces.{Bytes}
use Rattle.smk_parse_tree.specs.declared.syntax.Expr.{Expr, the_lemmas}
use Rattle.smk_parse_tree.specs.declared.syntax.Expr.TheVariants as e
use Rattle.smk_parse_tree.specs.declared.syntax.Expr.TheOpen.{Expr-F}
use Rattle.smk_parse_tree.specs.declared.syntax.ExpandForm.{ExpandForm, out-ExpandForm}
use Rattle.smk_parse_tree.specs.declared.syntax.ItemForm.{ItemForm}
use Rattle.smk_parse_tree.specs.declared.syntax.OutputPick.{OutputPick}
use Rattle.smk_parse_expr.specs.declared.symbol.Symbol.{Symbol}
use Rattle.smk_parse_expr.specs.declared.symbol.Symbol.TheVariants as s
use Rattle.smk_parse_expr.specs.declared.symbol.Sign.TheVariants.{Comma, Equals, Open, Close, Plus}
use Rattle.smk_parse_expr.specs.Printing.{Printed, PrintedItem, printed, expr_step, as_term, printed_list, printed_tail, printed_sum, printed_zip, printed_arguments, printed_item}
use Rattle.smk_parse_print.specs.Parts.{printed_form, printed_part}
use Rattle.smk_parse_print.specs.Rows.{lexeme_of}
use Rattle.smk_parse_print.specs.Writing.{spaced, if_so}

pub spaced-append : (xs ys : List Symbol) → spaced (xs ++ ys) ≡ spaced xs ++ spaced ys
spaced-append [] ys = refl
spaced-append (x ∷ xs) ys =
    ap (λ (v : Bytes). 32 ∷ ((lexeme_of x).bytes ++ v)) (spaced-append xs ys) ∙ ap (λ (v : Bytes). 32 ∷ v) (sym (append_assoc (lexeme_of x).bytes (spaced xs) (spaced ys)))

-- one piece after another
pub two : (o p q : Bytes) (xs ys : List Symbol) → p ≡ o ++ spaced xs → q ≡ p ++ spaced ys → q ≡ o ++ spaced (xs ++ ys)
two o p q xs ys a b = b ∙ ap (λ (v : Bytes). v ++ spaced ys) a ∙ append_assoc o (spaced xs) (spaced ys) ∙ ap (λ (v : Bytes). o ++ v) (sym (spaced-append xs ys))

-- ---- what is printed, by the variant

pub of_word : (t : Bytes) → printed (e.Word t) ≡ expr_step (Expr-F.Word t)
of_word t = search (rules, the_lemmas)

pub of_number : (n : ℕ) → printed (e.Number n) ≡ expr_step (Expr-F.Number n)
of_number n = search (rules, the_lemmas)

pub of_truth : (b : Bool) → printed (e.Truth b) ≡ expr_step (Expr-F.Truth b)
of_truth b = search (rules, the_lemmas)

pub of_name : (w : Bytes) → printed (e.Name w) ≡ expr_step (Expr-F.Name w)
of_name w = search (rules, the_lemmas)

pub of_config : (ks : List Bytes) → printed (e.Config ks) ≡ expr_step (Expr-F.Config ks)
of_config ks = search (rules, the_lemmas)

pub of_outputs : (w : Bytes) (p : OutputPick) → printed (e.Outputs w p) ≡ expr_step (Expr-F.Outputs w p)
of_outputs w p = search (rules, the_lemmas)

pub of_many : (es : List Expr) → printed (e.Many es) ≡ expr_step (Expr-F.Many (map printed es))
of_many es = search (rules, the_lemmas)

pub of_sum : (es : List Expr) → printed (e.Sum es) ≡ expr_step (Expr-F.Sum (map printed es))
of_sum es = search (rules, the_lemmas)

pub of_flagged : (w : Bytes) (x : Expr) → printed (e.Flagged w x) ≡ expr_step (Expr-F.Flagged w (printed x))
of_flagged w x = search (rules, the_lemmas)

pub of_expand : (f : ExpandForm) → printed (e.Expand f) ≡ expr_step (Expr-F.Expand (printed_form f))
of_expand f = search (rules, the_lemmas)

pub of_checkpoint : (w l t : Bytes) → printed (e.FromCheckpoint w l t) ≡ expr_step (Expr-F.FromCheckpoint w l t)
of_checkpoint w l t = search (rules, the_lemmas)

pub of_form : (f : ExpandForm)
    → printed_form f ≡ (printed (out-ExpandForm f).pattern).symbols ++ (printed_zip (out-ExpandForm f).zip ++ printed_arguments (map printed_part (out-ExpandForm f).named))
of_form f = search (rules, the_lemmas)

pub of_part : (i : ItemForm) → printed_part i ≡ record { name = i.name; symbols = (printed i.value).symbols }
of_part i = search (rules, the_lemmas)

-- ---- loops that write a part of a list at each turn

pub loop-step : (o q total : Bytes) (front more rest : List Symbol) → rest ≡ front ++ more → q ≡ o ++ spaced front → o ++ spaced rest ≡ total → q ++ spaced more ≡ total
loop-step o q total front more rest split wrote before =
    ap (λ (v : Bytes). v ++ spaced more) wrote ∙ append_assoc o (spaced front) (spaced more)
    ∙ ap (λ (v : Bytes). o ++ v) (sym (spaced-append front more) ∙ ap spaced (sym split)) ∙ before

pub arguments-step : (items : List ItemForm) (i : ℕ) (x : ItemForm) (w o p q total : Bytes) → i < length items → x ≡ get_or items i x → w ≡ x.name
    → o ++ spaced (printed_arguments (map printed_part (drop i items))) ≡ total
    → p ≡ o ++ spaced (s.Sign 0 Comma ∷ s.Name 0 w ∷ s.Sign 0 Equals ∷ []) → q ≡ p ++ spaced (printed x.value).symbols
    → q ++ spaced (printed_arguments (map printed_part (drop (i + 1) items))) ≡ total
arguments-step items i x w o p q total lt is word before head value =
    let rest = map printed_part (drop (i + 1) items) in
    let front = (s.Sign 0 Comma ∷ s.Name 0 x.name ∷ s.Sign 0 Equals ∷ []) ++ (printed x.value).symbols in
    let here : drop i items ≡ x ∷ drop (i + 1) items = drop_more items i x lt ∙ ap (λ y. y ∷ drop (i + 1) items) (sym is) in
    let split : printed_arguments (map printed_part (drop i items)) ≡ front ++ printed_arguments rest =
    ap (λ v. printed_arguments (map printed_part v)) here ∙ ap (λ (y : PrintedItem). printed_arguments (y ∷ rest)) (of_part x) in
    loop-step o q total front (printed_arguments rest) (printed_arguments (map printed_part (drop i items))) split
    (two o p q (s.Sign 0 Comma ∷ s.Name 0 x.name ∷ s.Sign 0 Equals ∷ []) (printed x.value).symbols (head ∙ ap (λ (v : Bytes). o ++ spaced (s.Sign 0 Comma ∷ s.Name 0 v ∷ s.Sign 0 Equals ∷ [])) word) value) before

pub many-step : (parts : List Expr) (i : ℕ) (x : Expr) (o p q total : Bytes) → i < length parts → x ≡ get_or parts i x
    → o ++ spaced (printed_list (map printed (drop i parts))) ≡ total → p ≡ o ++ spaced (printed x).symbols → q ≡ p ++ spaced (s.Sign 0 Comma ∷ [])
    → q ++ spaced (printed_list (map printed (drop (i + 1) parts))) ≡ total
many-step parts i x o p q total lt is before value comma =
    let rest = map printed (drop (i + 1) parts) in
    let front = (printed x).symbols ++ s.Sign 0 Comma ∷ [] in
    let here : drop i parts ≡ x ∷ drop (i + 1) parts = drop_more parts i x lt ∙ ap (λ y. y ∷ drop (i + 1) parts) (sym is) in
    let split : printed_list (map printed (drop i parts)) ≡ front ++ printed_list rest =
    ap (λ v. printed_list (map printed v)) here ∙ sym (append_assoc (printed x).symbols (s.Sign 0 Comma ∷ []) (printed_list rest)) in
    loop-step o q total front (printed_list rest) (printed_list (map printed (drop i parts))) split (two o p q (printed x).symbols (s.Sign 0 Comma ∷ []) value comma) before

-- a term, in brackets or not
bracketed : (p : Printed) → as_term p ≡ if_so p.is_sum Open ++ (p.symbols ++ if_so p.is_sum Close)
bracketed p = by_sum p.is_sum p.symbols
  where
    by_sum : (b : Bool) (xs : List Symbol) → cond b (s.Sign 0 Open ∷ (xs ++ s.Sign 0 Close ∷ [])) xs ≡ if_so b Open ++ (xs ++ if_so b Close)
    by_sum true xs = refl
    by_sum false xs = sym (append-nil xs)

-- the terms of a sum from one on
sum-turn : (behind : Bool) (p : Printed) (ps : List Printed)
    → cond behind (printed_tail (p ∷ ps)) (printed_sum (p ∷ ps)) ≡ (if_so behind Plus ++ (if_so p.is_sum Open ++ (p.symbols ++ if_so p.is_sum Close))) ++ printed_tail ps
sum-turn true p ps = ap (λ (v : List Symbol). s.Sign 0 Plus ∷ (v ++ printed_tail ps)) (bracketed p)
sum-turn false p ps = ap (λ (v : List Symbol). v ++ printed_tail ps) (bracketed p)

pub sum-step : (parts : List Expr) (i : ℕ) (x : Expr) (behind a b : Bool) (o p q r t total : Bytes) → i < length parts → x ≡ get_or parts i x
    → o ++ spaced (cond behind (printed_tail (map printed (drop i parts))) (printed_sum (map printed (drop i parts)))) ≡ total
    → a ≡ (printed x).is_sum → b ≡ (printed x).is_sum
    → p ≡ o ++ spaced (if_so behind Plus) → q ≡ p ++ spaced (if_so a Open) → r ≡ q ++ spaced (printed x).symbols → t ≡ r ++ spaced (if_so b Close)
    → t ++ spaced (printed_tail (map printed (drop (i + 1) parts))) ≡ total
sum-step parts i x behind a b o p q r t total lt is before first second plus opening value closing =
    let xs = printed x in
    let rest = map printed (drop (i + 1) parts) in
    let front = if_so behind Plus ++ (if_so xs.is_sum Open ++ (xs.symbols ++ if_so xs.is_sum Close)) in
    let whole = λ (ps : List Printed). cond behind (printed_tail ps) (printed_sum ps) in
    let here : drop i parts ≡ x ∷ drop (i + 1) parts = drop_more parts i x lt ∙ ap (λ y. y ∷ drop (i + 1) parts) (sym is) in
    let split : whole (map printed (drop i parts)) ≡ front ++ printed_tail rest = ap (λ v. whole (map printed v)) here ∙ sum-turn behind xs rest in
    let open_is : q ≡ p ++ spaced (if_so xs.is_sum Open) = opening ∙ ap (λ v. p ++ spaced (if_so v Open)) first in
    let close_is : t ≡ r ++ spaced (if_so xs.is_sum Close) = closing ∙ ap (λ v. r ++ spaced (if_so v Close)) second in
    let inner : t ≡ q ++ spaced (xs.symbols ++ if_so xs.is_sum Close) = two q r t xs.symbols (if_so xs.is_sum Close) value close_is in
    let term : t ≡ p ++ spaced (if_so xs.is_sum Open ++ (xs.symbols ++ if_so xs.is_sum Close)) = two p q t (if_so xs.is_sum Open) (xs.symbols ++ if_so xs.is_sum Close) open_is inner in
    loop-step o t total front (printed_tail rest) (whole (map printed (drop i parts))) split (two o p t (if_so behind Plus) (if_so xs.is_sum Open ++ (xs.symbols ++ if_so xs.is_sum Close)) plus term) before

-- ---- items

-- a comma and an item, for each item
abbrev pub more_items : List ItemForm → List Symbol
more_items [] = []
more_items (x ∷ items) = s.Sign 0 Comma ∷ (printed_item x ++ more_items items)

-- ---- brackets round a value

pub three : (o p q r : Bytes) (xs ys zs : List Symbol) → p ≡ o ++ spaced xs → q ≡ p ++ spaced ys → r ≡ q ++ spaced zs → r ≡ o ++ spaced (xs ++ (ys ++ zs))
three o p q r xs ys zs a b c = two o p r xs (ys ++ zs) a (two p q r ys zs b c)

pub four : (o p q r t : Bytes) (xs ys zs ws : List Symbol) → p ≡ o ++ spaced xs → q ≡ p ++ spaced ys → r ≡ q ++ spaced zs → t ≡ r ++ spaced ws
    → t ≡ o ++ spaced (xs ++ (ys ++ (zs ++ ws)))
four o p q r t xs ys zs ws a b c d = two o p t xs (ys ++ (zs ++ ws)) a (three p q r t ys zs ws b c d)

pub expand-ends : (f : ExpandForm) (x : Expr) (items : List ItemForm) (o p q r t : Bytes) (head : List Symbol) → x ≡ (out-ExpandForm f).pattern → items ≡ (out-ExpandForm f).named
    → p ≡ o ++ spaced head → q ≡ p ++ spaced (printed x).symbols → r ≡ q ++ spaced (printed_zip (out-ExpandForm f).zip)
    → t ≡ r ++ spaced (printed_arguments (map printed_part items)) → t ≡ o ++ spaced (head ++ printed_form f)
expand-ends f x items o p q r t head pattern named a b c d =
    let pairs = printed_zip (out-ExpandForm f).zip in
    let form : (printed x).symbols ++ (pairs ++ printed_arguments (map printed_part items)) ≡ printed_form f =
    ap (λ (y : Expr). (printed y).symbols ++ (pairs ++ printed_arguments (map printed_part items))) pattern
    ∙ ap (λ (is : List ItemForm). (printed (out-ExpandForm f).pattern).symbols ++ (pairs ++ printed_arguments (map printed_part is))) named ∙ sym (of_form f) in
    four o p q r t head (printed x).symbols pairs (printed_arguments (map printed_part items)) a b c d ∙ ap (λ (v : List Symbol). o ++ spaced (head ++ v)) form
