-- What the grammar spells closes its brackets, and what is printed of it can be written.
use Rattle.std.proofs.Common.{◌≡◌, ℕ, zero, suc, ◌+◌, ◌-◌, ◌≤◌, Bool, true, false, cond, List, [], ◌∷◌, ◌++◌, map, refl, sym, ap, subst, ◌∙◌, arith, rules, inl, inr}
use Rattle.std.proofs.lemmas.Str.{IsUtf8-append}
use Rattle.std.specs.Prelude.{codes}
use Rattle.std.specs.Str.{IsUtf8}
use Rattle.smk_lex.specs.Pieces.{greatest}
use Rattle.smk_lex.specs.Spelling.{IsName}
use Rattle.smk_parse_expr.specs.declared.symbol.Symbol.{Symbol}
use Rattle.smk_parse_expr.specs.declared.symbol.Symbol.TheVariants as s
use Rattle.smk_parse_expr.specs.declared.symbol.Sign.{Sign}
use Rattle.smk_parse_expr.specs.declared.symbol.Sign.TheVariants as sign
use Rattle.smk_parse_tree.specs.declared.syntax.Expr.{Expr, the_lemmas}
use Rattle.smk_parse_tree.specs.declared.syntax.Expr.TheVariants as e
use Rattle.smk_parse_tree.specs.declared.syntax.Expr.TheOpen.{Expr-F}
use Rattle.smk_parse_tree.specs.declared.syntax.ItemForm.{ItemForm}
use Rattle.smk_parse_tree.specs.declared.syntax.ExpandForm.{roll-ExpandForm}
use Rattle.smk_parse_tree.specs.declared.syntax.OutputPick.{OutputPick}
use Rattle.smk_parse_expr.specs.Symbols.{Bytes}
use Rattle.smk_parse_expr.specs.Exprs.{max_depth}
use Rattle.smk_parse_expr.specs.Grammar.{Spelling, IsTexts, IsKeys, IsPick, all, by_name, by_place, IsZip, paired, not_paired, IsListed, IsClosing, alone, behind_comma, IsArguments, IsTerm, IsTail, IsLevel, IsExpr, a_text, a_number, a_truth, a_falsehood, a_name, a_key, in_parentheses, a_flag, an_output, an_expand, of_checkpoint, a_list, one_term, a_sum, IsItem, positional, named, IsLast, nothing, a_comma, IsItems, one_item, more_items}
use Rattle.smk_parse_expr.specs.Printing.{Printed, PrintedItem, printed, expr_step, as_term, printed_keys, printed_pick, printed_zip, printed_arguments, printed_list, printed_tail, under_name, printed_item, printed_items}
use Rattle.smk_parse_print.specs.Rows.{AllFit}
use Rattle.smk_parse_print.proofs.Spaced.{of_word, of_number, of_truth, of_name, of_config, of_outputs, of_many, of_sum, of_flagged, of_checkpoint as of_gathered}

-- ---- brackets

abbrev pub past_sign : Sign → ℕ → ℕ
past_sign sign.Open n = n + 1
past_sign sign.OpenSquare n = n + 1
past_sign sign.Close n = n - 1
past_sign sign.CloseSquare n = n - 1
past_sign sign.Colon n = n
past_sign sign.Comma n = n
past_sign sign.Equals n = n
past_sign sign.Point n = n
past_sign sign.Plus n = n
past_sign sign.Greater n = n

-- how many brackets are open behind a symbol, where so many were before
abbrev pub past : Symbol → ℕ → ℕ
past (s.Sign at k) n = past_sign k n
past (s.Name at w) n = n
past (s.Number at m) n = n
past (s.Text at t) n = n
past (s.Newline at) n = n
past (s.Indent at) n = n
past (s.Dedent at) n = n

abbrev pub over : ℕ → List Symbol → ℕ
over n [] = n
over n (x ∷ xs) = over (past x n) xs

pub over-append : (n : ℕ) (xs ys : List Symbol) → over n (xs ++ ys) ≡ over (over n xs) ys
over-append n [] ys = refl
over-append n (x ∷ xs) ys = over-append (past x n) xs ys

abbrev pub IsClosed : List Symbol → Type 0
IsClosed xs = (n : ℕ) → over n xs ≡ n

-- a bracket is closed behind it
abbrev Closes : List Symbol → Type 0
Closes xs = (n : ℕ) → over (n + 1) xs ≡ n

closed-append : (xs ys : List Symbol) → IsClosed xs → IsClosed ys → IsClosed (xs ++ ys)
closed-append xs ys h g n = over-append n xs ys ∙ ap (λ k. over k ys) (h n) ∙ g n

closes-append : (xs ys : List Symbol) → IsClosed xs → Closes ys → Closes (xs ++ ys)
closes-append xs ys h g n = over-append (n + 1) xs ys ∙ ap (λ k. over k ys) (h (n + 1)) ∙ g n

one_less : (n : ℕ) → n + 1 - 1 ≡ n
one_less n = omega arith

texts-closed : (xs : List Symbol) (t u : Bytes) → IsTexts t xs u → IsClosed xs
texts-closed [] t u h n = refl
texts-closed (s.Text at v ∷ xs) t u h n = texts-closed xs (t ++ v) u h n
texts-closed (s.Name at w ∷ xs) t u h n = absurd h
texts-closed (s.Number at m ∷ xs) t u h n = absurd h
texts-closed (s.Sign at k ∷ xs) t u h n = absurd h
texts-closed (s.Newline at ∷ xs) t u h n = absurd h
texts-closed (s.Indent at ∷ xs) t u h n = absurd h
texts-closed (s.Dedent at ∷ xs) t u h n = absurd h

keys-closed : (ks : List Bytes) (xs : List Symbol) → IsKeys ks xs → IsClosed xs
keys-closed [] xs h n = ap (over n) h
keys-closed (k ∷ ks) xs (a, b, c, ys, same, h) n = ap (over n) same ∙ ap (λ m. over m ys) (one_less n) ∙ keys-closed ks ys h n

pick-closed : (xs : List Symbol) (p : OutputPick) → IsPick xs p → IsClosed xs
pick-closed _ _ all n = refl
pick-closed _ _ (by_name a b w) n = refl
pick-closed _ _ (by_place a b c m) n = one_less n

zip-closed : (xs : List Symbol) (b : Bool) → IsZip xs b → IsClosed xs
zip-closed _ _ (paired a b) n = refl
zip-closed _ _ not_paired n = refl

closing-closes : (xs : List Symbol) → IsClosing xs → Closes xs
closing-closes _ (alone b) n = one_less n
closing-closes _ (behind_comma a b) n = one_less n

module _ (may_open : Bool) (Inner : Spelling) (again : (xs : List Symbol) (x : Expr) → Inner xs x → IsClosed xs) where
  listed-closes : (es : List Expr) (xs : List Symbol) → IsListed Inner es xs → Closes xs
  listed-closes [] xs (b, same) n = ap (over (n + 1)) same ∙ one_less n
  listed-closes (x ∷ es) xs (ys, zs, same, h, inl (none, b, last)) n =
      ap (over (n + 1)) same ∙ closes-append ys zs (again ys x h) (λ m. ap (over (m + 1)) last ∙ one_less m) n
  listed-closes (x ∷ es) xs (ys, zs, same, h, inr (a, ws, comma, others)) n =
      ap (over (n + 1)) same ∙ closes-append ys zs (again ys x h) (λ m. ap (over (m + 1)) comma ∙ listed-closes es ws others m) n

  arguments-closes : (found items : List ItemForm) (xs : List Symbol) → IsArguments Inner found items xs → Closes xs
  arguments-closes found [] xs h n = closing-closes xs h n
  arguments-closes found (x ∷ items) xs (a, b, c, ys, zs, same, fresh, h, others) n =
      ap (over (n + 1)) same ∙ closes-append ys zs (again ys x.value h) (arguments-closes (found ++ x ∷ []) items zs others) n

  term-closed : (xs : List Symbol) (x : Expr) → IsTerm may_open Inner xs x → IsClosed xs
  term-closed _ _ (a_text at t u ys h) n = texts-closed ys t u h n
  term-closed _ _ (a_number at m) n = refl
  term-closed _ _ (a_truth at w h) n = refl
  term-closed _ _ (a_falsehood at w h) n = refl
  term-closed _ _ (a_name at w h) n = refl
  term-closed _ _ (a_key at w k ks ys h keys) n = keys-closed (k ∷ ks) ys keys n
  term-closed _ _ (in_parentheses a b ys y h) n = closes-append ys (s.Sign b sign.Close ∷ []) (again ys y h) (λ m. one_less m) n
  term-closed _ _ (a_flag at a b w ys y h inside) n = closes-append ys (s.Sign b sign.Close ∷ []) (again ys y inside) (λ m. one_less m) n
  term-closed _ _ (an_output at a b c d w rule p ys h picked) n = pick-closed ys p picked n
  term-closed _ _ (an_expand at a w y pairs items us ys zs h inside zipped named_ones) n =
      closes-append us (ys ++ zs) (again us y inside) (closes-append ys zs (zip-closed ys pairs zipped) (arguments-closes [] items zs named_ones)) n
  term-closed _ _ (of_checkpoint at a b c d g h k w name listed wanted is) n = one_less n
  term-closed _ _ (a_list a es ys h l) n = listed-closes es ys l n

  tail-closed : (es : List Expr) (xs : List Symbol) → IsTail (IsTerm may_open Inner) es xs → IsClosed xs
  tail-closed [] xs h n = ap (over n) h
  tail-closed (x ∷ es) xs (a, ys, zs, same, h, others) n = ap (over n) same ∙ closed-append ys zs (term-closed ys x h) (tail-closed es zs others) n

  level-closed : (xs : List Symbol) (x : Expr) → IsLevel may_open Inner xs x → IsClosed xs
  level-closed xs x (one_term ys y h) n = term-closed ys y h n
  level-closed _ _ (a_sum ys zs y z es h others) n = closed-append ys zs (term-closed ys y h) (tail-closed (z ∷ es) zs others) n

pub expr-closed : (depth : ℕ) (xs : List Symbol) (x : Expr) → IsExpr depth xs x → IsClosed xs
expr-closed zero xs x h = level-closed false (λ _ _. ⊥) (λ _ _ k. absurd k) xs x h
expr-closed (suc depth) xs x h = level-closed true (IsExpr depth) (expr-closed depth) xs x h

item-closed : (found : List ItemForm) (xs : List Symbol) (x : ItemForm) → IsItem found xs x → IsClosed xs
item-closed found _ _ (positional xs x h is) n = expr-closed max_depth xs x is n
item-closed found _ _ (named a b w xs x some fresh is) n = expr-closed max_depth xs x is n

last-closed : (xs : List Symbol) → IsLast xs → IsClosed xs
last-closed _ nothing n = refl
last-closed _ (a_comma a) n = refl

pub items-closed : (found : List ItemForm) (xs : List Symbol) (items : List ItemForm) → IsItems found xs items → IsClosed xs
items-closed _ _ _ (one_item found xs ys x h last) n = closed-append xs ys (item-closed found xs x h) (last-closed ys last) n
items-closed _ _ _ (more_items found a xs ys x y items h others) n =
    closed-append xs (s.Sign a sign.Comma ∷ ys) (item-closed found xs x h) (λ m. items-closed (found ++ x ∷ []) ys (y ∷ items) others m) n

-- ---- which symbols a source has

-- as in a row, but line ends and levels may stand
abbrev pub IsSound : Symbol → Type 0
IsSound (s.Name at w) = IsName w
IsSound (s.Number at n) = n ≤ greatest
IsSound (s.Text at t) = IsUtf8 t
IsSound (s.Sign at k) = Unit {0}
IsSound (s.Newline at) = Unit {0}
IsSound (s.Indent at) = Unit {0}
IsSound (s.Dedent at) = Unit {0}

abbrev pub AllSound : List Symbol → Type 0
AllSound [] = Unit {0}
AllSound (x ∷ xs) = IsSound x × AllSound xs

pub sound-left : (xs ys : List Symbol) → AllSound (xs ++ ys) → AllSound xs
sound-left [] ys h = tt
sound-left (x ∷ xs) ys h = (h.0, sound-left xs ys h.1)

pub sound-right : (xs ys : List Symbol) → AllSound (xs ++ ys) → AllSound ys
sound-right [] ys h = h
sound-right (x ∷ xs) ys h = sound-right xs ys h.1

pub fit-append : (xs ys : List Symbol) → AllFit xs → AllFit ys → AllFit (xs ++ ys)
fit-append [] ys h g = g
fit-append (x ∷ xs) ys h g = (h.0, fit-append xs ys h.1 g)

-- ---- what is printed can be written

texts-utf8 : (xs : List Symbol) (t u : Bytes) → IsTexts t xs u → IsUtf8 t → AllSound xs → IsUtf8 u
texts-utf8 [] t u h utf8 sound = subst IsUtf8 h utf8
texts-utf8 (s.Text at v ∷ xs) t u h utf8 sound = texts-utf8 xs (t ++ v) u h (IsUtf8-append t v utf8 sound.0) sound.1
texts-utf8 (s.Name at w ∷ xs) t u h utf8 sound = absurd h
texts-utf8 (s.Number at m ∷ xs) t u h utf8 sound = absurd h
texts-utf8 (s.Sign at k ∷ xs) t u h utf8 sound = absurd h
texts-utf8 (s.Newline at ∷ xs) t u h utf8 sound = absurd h
texts-utf8 (s.Indent at ∷ xs) t u h utf8 sound = absurd h
texts-utf8 (s.Dedent at ∷ xs) t u h utf8 sound = absurd h

keys-fit : (ks : List Bytes) (xs : List Symbol) → IsKeys ks xs → AllSound xs → AllFit (printed_keys ks)
keys-fit [] xs h sound = tt
keys-fit (k ∷ ks) xs (a, b, c, ys, same, h) sound =
    let here : AllSound (s.Sign a sign.OpenSquare ∷ s.Text b k ∷ s.Sign c sign.CloseSquare ∷ ys) = subst AllSound same sound in
    (tt, (here.1.0, (tt, keys-fit ks ys h here.1.1.1)))

pick-fit : (xs : List Symbol) (p : OutputPick) → IsPick xs p → AllSound xs → AllFit (printed_pick p)
pick-fit _ _ all sound = tt
pick-fit _ _ (by_name a b w) sound = (tt, (sound.1.0, tt))
pick-fit _ _ (by_place a b c m) sound = (tt, (sound.1.0, (tt, tt)))

zip-fit : (b : Bool) → AllFit (printed_zip b)
zip-fit true = (tt, ((refl, refl), tt))
zip-fit false = tt

truth-fit : (b : Bool) → AllFit (s.Name 0 (cond b (codes "True") (codes "False")) ∷ [])
truth-fit true = ((refl, refl), tt)
truth-fit false = ((refl, refl), tt)

term_fit : (p : Printed) → AllFit p.symbols → AllFit (as_term p)
term_fit p h = by_sum p.is_sum p.symbols h
  where
    by_sum : (b : Bool) (xs : List Symbol) → AllFit xs → AllFit (cond b (s.Sign 0 sign.Open ∷ (xs ++ s.Sign 0 sign.Close ∷ [])) xs)
    by_sum true xs h = (tt, fit-append xs (s.Sign 0 sign.Close ∷ []) h (tt, tt))
    by_sum false xs h = h

-- what is printed of a value under a name
abbrev argument_of : ItemForm → PrintedItem
argument_of i = record { name = i.name; symbols = (printed i.value).symbols }

abbrev form_symbols : Expr → Bool → List ItemForm → List Symbol
form_symbols x pairs items = (printed x).symbols ++ (printed_zip pairs ++ printed_arguments (map argument_of items))

of_rolled : (x : Expr) (pairs : Bool) (items : List ItemForm)
    → printed (e.Expand (roll-ExpandForm (record { pattern = x; zip = pairs; named = items }))) ≡ expr_step (Expr-F.Expand (form_symbols x pairs items))
of_rolled x pairs items = search (rules, the_lemmas)

fit_at : (x : Expr) (p : Printed) → printed x ≡ p → AllFit p.symbols → AllFit (printed x).symbols
fit_at x p same h = subst (λ (q : Printed). AllFit q.symbols) (sym same) h

module _ (may_open : Bool) (Inner : Spelling) (again : (xs : List Symbol) (x : Expr) → Inner xs x → AllSound xs → AllFit (printed x).symbols) where
  listed-fit : (es : List Expr) (xs : List Symbol) → IsListed Inner es xs → AllSound xs → AllFit (printed_list (map printed es))
  listed-fit [] xs h sound = (tt, tt)
  listed-fit (x ∷ es) xs (ys, zs, same, h, inl (none, b, last)) sound =
      let here : AllSound (ys ++ zs) = subst AllSound same sound in
      fit-append (printed x).symbols (s.Sign 0 sign.Comma ∷ printed_list (map printed es)) (again ys x h (sound-left ys zs here))
      (tt, subst (λ (l : List Expr). AllFit (printed_list (map printed l))) (sym none) (tt, tt))
  listed-fit (x ∷ es) xs (ys, zs, same, h, inr (a, ws, comma, others)) sound =
      let here : AllSound (ys ++ zs) = subst AllSound same sound in
      let rest : AllSound (s.Sign a sign.Comma ∷ ws) = subst AllSound comma (sound-right ys zs here) in
      fit-append (printed x).symbols (s.Sign 0 sign.Comma ∷ printed_list (map printed es)) (again ys x h (sound-left ys zs here)) (tt, listed-fit es ws others rest.1)

  arguments-fit : (found items : List ItemForm) (xs : List Symbol) → IsArguments Inner found items xs → AllSound xs → AllFit (printed_arguments (map argument_of items))
  arguments-fit found [] xs h sound = (tt, tt)
  arguments-fit found (x ∷ items) xs (a, b, c, ys, zs, same, fresh, h, others) sound =
      let here : AllSound (s.Sign a sign.Comma ∷ s.Name b x.name ∷ s.Sign c sign.Equals ∷ (ys ++ zs)) = subst AllSound same sound in (
        tt,
        (
          here.1.0,
          (
            tt,
            fit-append (printed x.value).symbols (printed_arguments (map argument_of items)) (again ys x.value h (sound-left ys zs here.1.1.1))
                (arguments-fit (found ++ x ∷ []) items zs others (sound-right ys zs here.1.1.1)),
          ),
        ),
      )

  term-fit : (xs : List Symbol) (x : Expr) → IsTerm may_open Inner xs x → AllSound xs → AllFit (printed x).symbols
  term-fit _ _ (a_text at t u ys h) sound = fit_at (e.Word u) _ (of_word u) (texts-utf8 ys t u h sound.0 sound.1, tt)
  term-fit _ _ (a_number at m) sound = fit_at (e.Number m) _ (of_number m) (sound.0, tt)
  term-fit _ _ (a_truth at w h) sound = fit_at (e.Truth true) _ (of_truth true) (truth-fit true)
  term-fit _ _ (a_falsehood at w h) sound = fit_at (e.Truth false) _ (of_truth false) (truth-fit false)
  term-fit _ _ (a_name at w h) sound = fit_at (e.Name w) _ (of_name w) (sound.0, tt)
  term-fit _ _ (a_key at w k ks ys h keys) sound = fit_at (e.Config (k ∷ ks)) _ (of_config (k ∷ ks)) ((refl, refl), keys-fit (k ∷ ks) ys keys sound.1)
  term-fit _ x (in_parentheses a b ys y h) sound = again ys y h (sound-left ys (s.Sign b sign.Close ∷ []) sound.1)
  term-fit _ _ (a_flag at a b w ys y h inside) sound =
      fit_at (e.Flagged w y) _ (of_flagged w y)
      (sound.0, (tt, fit-append (printed y).symbols (s.Sign 0 sign.Close ∷ []) (again ys y inside (sound-left ys (s.Sign b sign.Close ∷ []) sound.1.1)) (tt, tt)))
  term-fit _ _ (an_output at a b c d w rule p ys h picked) sound =
      fit_at (e.Outputs rule p) _ (of_outputs rule p) ((refl, refl), (tt, (sound.1.1.0, (tt, ((refl, refl), pick-fit ys p picked sound.1.1.1.1.1)))))
  term-fit _ _ (an_expand at a w y pairs items us ys zs h inside zipped named_ones) sound =
      let here : AllSound (us ++ (ys ++ zs)) = sound.1.1 in
      fit_at (e.Expand (roll-ExpandForm (record { pattern = y; zip = pairs; named = items }))) _ (of_rolled y pairs items) (
        (refl, refl),
        (
          tt,
          fit-append (printed y).symbols (printed_zip pairs ++ printed_arguments (map argument_of items)) (again us y inside (sound-left us (ys ++ zs) here))
              (fit-append (printed_zip pairs) (printed_arguments (map argument_of items)) (zip-fit pairs) (arguments-fit [] items zs named_ones (sound-right ys zs (sound-right us (ys ++ zs) here)))),
        ),
      )
  term-fit _ _ (of_checkpoint at a b c d g h k w name listed wanted is) sound =
      fit_at (e.FromCheckpoint name listed wanted) _ (of_gathered name listed wanted) ((refl, refl), (tt, (sound.1.1.0, (tt, (sound.1.1.1.1.0, (tt, (sound.1.1.1.1.1.1.0, (tt, tt))))))))
  term-fit _ _ (a_list a es ys h l) sound = fit_at (e.Many es) _ (of_many es) (tt, listed-fit es ys l sound.1)

  tail-fit : (es : List Expr) (xs : List Symbol) → IsTail (IsTerm may_open Inner) es xs → AllSound xs → AllFit (printed_tail (map printed es))
  tail-fit [] xs h sound = tt
  tail-fit (x ∷ es) xs (a, ys, zs, same, h, others) sound =
      let here : AllSound (s.Sign a sign.Plus ∷ (ys ++ zs)) = subst AllSound same sound in
      (tt, fit-append (as_term (printed x)) (printed_tail (map printed es)) (term_fit (printed x) (term-fit ys x h (sound-left ys zs here.1))) (tail-fit es zs others (sound-right ys zs here.1)))

  level-fit : (xs : List Symbol) (x : Expr) → IsLevel may_open Inner xs x → AllSound xs → AllFit (printed x).symbols
  level-fit xs x (one_term ys y h) sound = term-fit ys y h sound
  level-fit _ _ (a_sum ys zs y z es h others) sound =
      fit_at (e.Sum (y ∷ z ∷ es)) _ (of_sum (y ∷ z ∷ es))
      (fit-append (as_term (printed y)) (printed_tail (map printed (z ∷ es))) (term_fit (printed y) (term-fit ys y h (sound-left ys zs sound))) (tail-fit (z ∷ es) zs others (sound-right ys zs sound)))

pub expr-fit : (depth : ℕ) (xs : List Symbol) (x : Expr) → IsExpr depth xs x → AllSound xs → AllFit (printed x).symbols
expr-fit zero xs x h sound = level-fit false (λ _ _. ⊥) (λ _ _ k _. absurd k) xs x h sound
expr-fit (suc depth) xs x h sound = level-fit true (IsExpr depth) (expr-fit depth) xs x h sound

name-fit : (w : Bytes) (xs : List Symbol) → IsName w → AllFit xs → AllFit (under_name w xs)
name-fit [] xs h g = g
name-fit (b ∷ w) xs h g = (h, (tt, g))

item-fit : (found : List ItemForm) (xs : List Symbol) (x : ItemForm) → IsItem found xs x → AllSound xs → AllFit (printed_item x)
item-fit found _ _ (positional xs x h is) sound = expr-fit max_depth xs x is sound
item-fit found _ _ (named a b w xs x some fresh is) sound = name-fit w (printed x).symbols sound.0 (expr-fit max_depth xs x is sound.1.1)

pub items-fit : (found : List ItemForm) (xs : List Symbol) (items : List ItemForm) → IsItems found xs items → AllSound xs → AllFit (printed_items items)
items-fit _ _ _ (one_item found xs ys x h last) sound = item-fit found xs x h (sound-left xs ys sound)
items-fit _ _ _ (more_items found a xs ys x y items h others) sound =
    fit-append (printed_item x) (s.Sign 0 sign.Comma ∷ printed_items (y ∷ items)) (item-fit found xs x h (sound-left xs (s.Sign a sign.Comma ∷ ys) sound))
    (tt, items-fit (found ++ x ∷ []) ys (y ∷ items) others (sound-right xs (s.Sign a sign.Comma ∷ ys) sound).1)
