-- What is printed of what the grammar spells is a spelling of it, with no more brackets.
use Rattle.std.proofs.Common.{◌≡◌, ℕ, zero, suc, Bool, true, false, cond, List, [], ◌∷◌, ◌++◌, map, refl, sym, ap, subst, rules, inl, inr}
use Rattle.std.specs.Prelude.{codes}
use Rattle.std.proofs.lemmas.List.{append-nil}
use Rattle.std.proofs.lemmas.Bool.{cases_Bool}
use Rattle.smk_parse_expr.specs.declared.symbol.Symbol.{Symbol}
use Rattle.smk_parse_expr.specs.declared.symbol.Symbol.TheVariants as s
use Rattle.smk_parse_expr.specs.declared.symbol.Sign.TheVariants.{Comma, Open, Close, OpenSquare}
use Rattle.smk_parse_tree.specs.declared.syntax.Expr.{Expr, the_lemmas}
use Rattle.smk_parse_tree.specs.declared.syntax.Expr.TheVariants as e
use Rattle.smk_parse_tree.specs.declared.syntax.Expr.TheOpen.{Expr-F}
use Rattle.smk_parse_tree.specs.declared.syntax.ItemForm.{ItemForm}
use Rattle.smk_parse_tree.specs.declared.syntax.ExpandForm.{roll-ExpandForm}
use Rattle.smk_parse_tree.specs.declared.syntax.OutputPick.{OutputPick}
use Rattle.smk_parse_tree.specs.declared.syntax.OutputPick.TheVariants as pick
use Rattle.smk_parse_expr.specs.Symbols.{Bytes}
use Rattle.smk_parse_expr.specs.Exprs.{max_depth}
use Rattle.smk_parse_expr.specs.Grammar.{Spelling, IsKeys, IsPick, all, by_name, by_place, IsZip, paired, not_paired, IsListed, alone, IsArguments, IsTerm, IsTail, IsLevel, IsExpr, a_text, a_number, a_truth, a_falsehood, a_name, a_key, in_parentheses, a_flag, an_output, an_expand, of_checkpoint, a_list, one_term, a_sum, IsItem, positional, named, nothing, IsItems, one_item, more_items}
use Rattle.smk_parse_expr.specs.Printing.{Printed, PrintedItem, printed, expr_step, as_term, plain, printed_keys, printed_pick, printed_zip, printed_arguments, printed_list, printed_tail, printed_item, printed_items}

-- ---- the equations of the fold

of_word : (t : Bytes) → printed (e.Word t) ≡ expr_step (Expr-F.Word t)
of_word t = search (rules, the_lemmas)

of_number : (n : ℕ) → printed (e.Number n) ≡ expr_step (Expr-F.Number n)
of_number n = search (rules, the_lemmas)

of_truth : (b : Bool) → printed (e.Truth b) ≡ expr_step (Expr-F.Truth b)
of_truth b = search (rules, the_lemmas)

of_name : (w : Bytes) → printed (e.Name w) ≡ expr_step (Expr-F.Name w)
of_name w = search (rules, the_lemmas)

of_config : (ks : List Bytes) → printed (e.Config ks) ≡ expr_step (Expr-F.Config ks)
of_config ks = search (rules, the_lemmas)

of_many : (es : List Expr) → printed (e.Many es) ≡ expr_step (Expr-F.Many (map printed es))
of_many es = search (rules, the_lemmas)

of_sum : (es : List Expr) → printed (e.Sum es) ≡ expr_step (Expr-F.Sum (map printed es))
of_sum es = search (rules, the_lemmas)

of_flagged : (w : Bytes) (x : Expr) → printed (e.Flagged w x) ≡ expr_step (Expr-F.Flagged w (printed x))
of_flagged w x = search (rules, the_lemmas)

of_outputs : (rule : Bytes) (p : OutputPick) → printed (e.Outputs rule p) ≡ expr_step (Expr-F.Outputs rule p)
of_outputs rule p = search (rules, the_lemmas)

of_from_checkpoint : (n l t : Bytes) → printed (e.FromCheckpoint n l t) ≡ expr_step (Expr-F.FromCheckpoint n l t)
of_from_checkpoint n l t = search (rules, the_lemmas)

-- what is printed of a value under a name
abbrev argument_of : ItemForm → PrintedItem
argument_of i = record { name = i.name; symbols = (printed i.value).symbols }

abbrev form : Expr → Bool → List ItemForm → Expr
form x pairs items = e.Expand (roll-ExpandForm (record { pattern = x; zip = pairs; named = items }))

abbrev printed_form : Expr → Bool → List ItemForm → List Symbol
printed_form x pairs items = (printed x).symbols ++ (printed_zip pairs ++ printed_arguments (map argument_of items))

of_expand : (x : Expr) (pairs : Bool) (items : List ItemForm) → printed (form x pairs items) ≡ expr_step (Expr-F.Expand (printed_form x pairs items))
of_expand x pairs items = search (rules, the_lemmas)

-- ---- more brackets may stand

module _ (p q : Bool) (A B : Spelling) (opens : p ≡ true → q ≡ true) (more : (xs : List Symbol) (x : Expr) → A xs x → B xs x) where
  listed-more : (es : List Expr) (xs : List Symbol) → IsListed A es xs → IsListed B es xs
  listed-more [] xs h = h
  listed-more (x ∷ es) xs (ys, zs, same, h, inl last) = (ys, zs, same, more ys x h, inl last)
  listed-more (x ∷ es) xs (ys, zs, same, h, inr (a, ws, comma, others)) = (ys, zs, same, more ys x h, inr (a, ws, comma, listed-more es ws others))

  arguments-more : (found items : List ItemForm) (xs : List Symbol) → IsArguments A found items xs → IsArguments B found items xs
  arguments-more found [] xs h = h
  arguments-more found (x ∷ items) xs (a, b, c, ys, zs, same, new, h, others) =
      (a, b, c, ys, zs, same, new, more ys x.value h, arguments-more (found ++ x ∷ []) items zs others)

  term-more : (xs : List Symbol) (x : Expr) → IsTerm p A xs x → IsTerm q B xs x
  term-more xs x (a_text at t u ys h) = a_text at t u ys h
  term-more xs x (a_number at n) = a_number at n
  term-more xs x (a_truth at w h) = a_truth at w h
  term-more xs x (a_falsehood at w h) = a_falsehood at w h
  term-more xs x (a_name at w h) = a_name at w h
  term-more xs x (a_key at w k ks ys h keys) = a_key at w k ks ys h keys
  term-more xs x (in_parentheses a b ys y h) = in_parentheses a b ys y (more ys y h)
  term-more xs x (a_flag at a b w ys y h inside) = a_flag at a b w ys y h (more ys y inside)
  term-more xs x (an_output at a b c d w rule p ys h picks) = an_output at a b c d w rule p ys h picks
  term-more xs x (an_expand at a w y pairs values us ys zs h inside paired_or_not named_ones) =
      an_expand at a w y pairs values us ys zs h (more us y inside) paired_or_not (arguments-more [] values zs named_ones)
  term-more xs x (of_checkpoint at a b c d f g k w n l t h) = of_checkpoint at a b c d f g k w n l t h
  term-more xs x (a_list a es ys h l) = a_list a es ys (opens h) (listed-more es ys l)

  tail-more : (es : List Expr) (xs : List Symbol) → IsTail (IsTerm p A) es xs → IsTail (IsTerm q B) es xs
  tail-more [] xs h = h
  tail-more (x ∷ es) xs (a, ys, zs, same, h, others) = (a, ys, zs, same, term-more ys x h, tail-more es zs others)

  level-more : (xs : List Symbol) (x : Expr) → IsLevel p A xs x → IsLevel q B xs x
  level-more xs x (one_term ys y h) = one_term ys y (term-more ys y h)
  level-more xs x (a_sum ys zs y z es h others) = a_sum ys zs y z es (term-more ys y h) (tail-more (z ∷ es) zs others)

expr-more : (depth : ℕ) (xs : List Symbol) (x : Expr) → IsExpr depth xs x → IsExpr (suc depth) xs x
expr-more zero xs x h = level-more false true (λ _ _. ⊥) (IsExpr zero) (λ _. refl) (λ _ _ k. absurd k) xs x h
expr-more (suc depth) xs x h = level-more true true (IsExpr depth) (IsExpr (suc depth)) (λ _. refl) (expr-more depth) xs x h

-- ---- printing

keys-printed : (ks : List Bytes) → IsKeys ks (printed_keys ks)
keys-printed [] = refl
keys-printed (k ∷ ks) = (0, 0, 0, printed_keys ks, refl, keys-printed ks)

pick-printed : (p : OutputPick) → IsPick (printed_pick p) p
pick-printed pick.All = all
pick-printed (pick.Named w) = by_name 0 0 w
pick-printed (pick.At n) = by_place 0 0 0 n

zip-printed : (b : Bool) → IsZip (printed_zip b) b
zip-printed true = paired 0 0
zip-printed false = not_paired

module _ (may_open : Bool) (Inner : Spelling) (again : (xs : List Symbol) (x : Expr) → Inner xs x → Inner (printed x).symbols x)
    (up : (xs : List Symbol) (x : Expr) → Inner xs x → IsLevel may_open Inner xs x) where
  abbrev Term : Spelling
  Term = IsTerm may_open Inner

  no_sum : (xs : List Symbol) (x : Expr) → IsLevel may_open Inner xs x → (printed x).is_sum ≡ false → Term xs x
  no_sum xs x (one_term ys y h) single = h
  no_sum xs x (a_sum ys zs y z es h others) single = absurd (cc (ap (λ (p : Printed). p.is_sum) (of_sum (y ∷ z ∷ es))))

  -- what isn't a sum is printed as a term
  single : (x : Expr) (xs : List Symbol) → printed x ≡ plain xs → Term xs x → Term (as_term (printed x)) x
  single x xs same h = subst (λ (p : Printed). Term (as_term p) x) (sym same) h

  listed-printed : (es : List Expr) (xs : List Symbol) → IsListed Inner es xs → IsListed Inner es (printed_list (map printed es))
  listed-printed [] xs h = (0, refl)
  listed-printed (x ∷ es) xs (ys, zs, same, h, inl (none, b, last)) = (
    (printed x).symbols,
    s.Sign 0 Comma ∷ printed_list (map printed es),
    refl,
    again ys x h,
    inr (0, printed_list (map printed es), refl, subst (λ (l : List Expr). IsListed Inner l (printed_list (map printed l))) (sym none) (0, refl)),
  )
  listed-printed (x ∷ es) xs (ys, zs, same, h, inr (a, ws, comma, others)) =
      ((printed x).symbols, s.Sign 0 Comma ∷ printed_list (map printed es), refl, again ys x h, inr (0, printed_list (map printed es), refl, listed-printed es ws others))

  arguments-printed : (found items : List ItemForm) (xs : List Symbol) → IsArguments Inner found items xs
      → IsArguments Inner found items (printed_arguments (map argument_of items))
  arguments-printed found [] xs h = alone 0
  arguments-printed found (x ∷ items) xs (a, b, c, ys, zs, same, new, h, others) =
      (0, 0, 0, (printed x.value).symbols, printed_arguments (map argument_of items), refl, new, again ys x.value h, arguments-printed (found ++ x ∷ []) items zs others)

  output-printed : (rule : Bytes) (p : OutputPick) → Term (expr_step (Expr-F.Outputs rule p)).symbols (e.Outputs rule p)
  output-printed rule p = an_output 0 0 0 0 0 (codes "rules") rule p (printed_pick p) refl (pick-printed p)

  checkpoint-printed : (n l t : Bytes) → Term (expr_step (Expr-F.FromCheckpoint n l t)).symbols (e.FromCheckpoint n l t)
  checkpoint-printed n l t = of_checkpoint 0 0 0 0 0 0 0 0 (codes "from_checkpoint") n l t refl

  expand-printed : (x : Expr) (pairs : Bool) (items : List ItemForm) (xs zs : List Symbol) → Inner xs x → IsArguments Inner [] items zs
      → Term (expr_step (Expr-F.Expand (printed_form x pairs items))).symbols (form x pairs items)
  expand-printed x pairs items xs zs h named_ones =
      an_expand 0 0 (codes "expand") x pairs items (printed x).symbols (printed_zip pairs) (printed_arguments (map argument_of items)) refl
      (again xs x h) (zip-printed pairs) (arguments-printed [] items zs named_ones)

  in_brackets : (x : Expr) (ys : List Symbol) → Inner ys x → Term (as_term (printed x)) x
  in_brackets x ys h = elim (cases_Bool (printed x).is_sum) [
    | inl sum ↦ subst (λ (b : Bool). Term (cond b (s.Sign 0 Open ∷ ((printed x).symbols ++ s.Sign 0 Close ∷ [])) (printed x).symbols) x) (sym sum) (in_parentheses 0 0 (printed x).symbols x (again ys x h))
    | inr none ↦ subst (λ (b : Bool). Term (cond b (s.Sign 0 Open ∷ ((printed x).symbols ++ s.Sign 0 Close ∷ [])) (printed x).symbols) x) (sym none) (no_sum (printed x).symbols x (up (printed x).symbols x (again ys x h)) none)
  ]

  term-printed : (xs : List Symbol) (x : Expr) → Term xs x → Term (as_term (printed x)) x
  term-printed xs x (a_text at t u ys h) = single x (s.Text 0 u ∷ []) (of_word u) (a_text 0 u u [] refl)
  term-printed xs x (a_number at n) = single x (s.Number 0 n ∷ []) (of_number n) (a_number 0 n)
  term-printed xs x (a_truth at w h) = single x (s.Name 0 (codes "True") ∷ []) (of_truth true) (a_truth 0 (codes "True") refl)
  term-printed xs x (a_falsehood at w h) = single x (s.Name 0 (codes "False") ∷ []) (of_truth false) (a_falsehood 0 (codes "False") refl)
  term-printed xs x (a_name at w h) = single x (s.Name 0 w ∷ []) (of_name w) (a_name 0 w h)
  term-printed xs x (a_key at w k ks ys h keys) = single x (s.Name 0 (codes "config") ∷ printed_keys (k ∷ ks)) (of_config (k ∷ ks)) (a_key 0 (codes "config") k ks (printed_keys (k ∷ ks)) refl (keys-printed (k ∷ ks)))
  term-printed xs x (in_parentheses a b ys y h) = in_brackets y ys h
  term-printed xs x (a_flag at a b w ys y h inside) =
      single x (s.Name 0 w ∷ s.Sign 0 Open ∷ ((printed y).symbols ++ s.Sign 0 Close ∷ [])) (of_flagged w y) (a_flag 0 0 0 w (printed y).symbols y h (again ys y inside))
  term-printed xs x (an_output at a b c d w rule p ys h picks) =
      single x (expr_step (Expr-F.Outputs rule p)).symbols (of_outputs rule p) (output-printed rule p)
  term-printed xs x (an_expand at a w y pairs values us ys zs h inside paired_or_not named_ones) =
      single x (expr_step (Expr-F.Expand (printed_form y pairs values))).symbols (of_expand y pairs values) (expand-printed y pairs values us zs inside named_ones)
  term-printed xs x (of_checkpoint at a b c d f g k w n l t h) =
      single x (expr_step (Expr-F.FromCheckpoint n l t)).symbols (of_from_checkpoint n l t) (checkpoint-printed n l t)
  term-printed xs x (a_list a es ys h l) =
      single x (s.Sign 0 OpenSquare ∷ printed_list (map printed es)) (of_many es) (a_list 0 es (printed_list (map printed es)) h (listed-printed es ys l))

  tail-printed : (es : List Expr) (xs : List Symbol) → IsTail Term es xs → IsTail Term es (printed_tail (map printed es))
  tail-printed [] xs h = refl
  tail-printed (x ∷ es) xs (a, ys, zs, same, h, others) =
      (0, as_term (printed x), printed_tail (map printed es), refl, term-printed ys x h, tail-printed es zs others)

  loose : (x : Expr) (xs : List Symbol) → printed x ≡ plain xs → Term xs x → IsLevel may_open Inner (printed x).symbols x
  loose x xs same h = subst (λ (p : Printed). IsLevel may_open Inner p.symbols x) (sym same) (one_term xs x h)

  -- a sum that is a term stands in brackets
  loosened : (xs : List Symbol) (x : Expr) → Term xs x → IsLevel may_open Inner (printed x).symbols x
  loosened xs x (in_parentheses a b ys y h) = up (printed y).symbols y (again ys y h)
  loosened xs x (a_text at t u ys h) = loose x (s.Text 0 u ∷ []) (of_word u) (a_text 0 u u [] refl)
  loosened xs x (a_number at n) = loose x (s.Number 0 n ∷ []) (of_number n) (a_number 0 n)
  loosened xs x (a_truth at w h) = loose x (s.Name 0 (codes "True") ∷ []) (of_truth true) (a_truth 0 (codes "True") refl)
  loosened xs x (a_falsehood at w h) = loose x (s.Name 0 (codes "False") ∷ []) (of_truth false) (a_falsehood 0 (codes "False") refl)
  loosened xs x (a_name at w h) = loose x (s.Name 0 w ∷ []) (of_name w) (a_name 0 w h)
  loosened xs x (a_key at w k ks ys h keys) = loose x (s.Name 0 (codes "config") ∷ printed_keys (k ∷ ks)) (of_config (k ∷ ks)) (a_key 0 (codes "config") k ks (printed_keys (k ∷ ks)) refl (keys-printed (k ∷ ks)))
  loosened xs x (a_flag at a b w ys y h inside) =
      loose x (s.Name 0 w ∷ s.Sign 0 Open ∷ ((printed y).symbols ++ s.Sign 0 Close ∷ [])) (of_flagged w y) (a_flag 0 0 0 w (printed y).symbols y h (again ys y inside))
  loosened xs x (an_output at a b c d w rule p ys h picks) =
      loose x (expr_step (Expr-F.Outputs rule p)).symbols (of_outputs rule p) (output-printed rule p)
  loosened xs x (an_expand at a w y pairs values us ys zs h inside paired_or_not named_ones) =
      loose x (expr_step (Expr-F.Expand (printed_form y pairs values))).symbols (of_expand y pairs values) (expand-printed y pairs values us zs inside named_ones)
  loosened xs x (of_checkpoint at a b c d f g k w n l t h) =
      loose x (expr_step (Expr-F.FromCheckpoint n l t)).symbols (of_from_checkpoint n l t) (checkpoint-printed n l t)
  loosened xs x (a_list a es ys h l) =
      loose x (s.Sign 0 OpenSquare ∷ printed_list (map printed es)) (of_many es) (a_list 0 es (printed_list (map printed es)) h (listed-printed es ys l))

  level-printed : (xs : List Symbol) (x : Expr) → IsLevel may_open Inner xs x → IsLevel may_open Inner (printed x).symbols x
  level-printed xs x (one_term ys y h) = loosened ys y h
  level-printed xs x (a_sum ys zs y z es h others) =
      subst (λ (p : Printed). IsLevel may_open Inner p.symbols (e.Sum (y ∷ z ∷ es))) (sym (of_sum (y ∷ z ∷ es)))
      (a_sum (as_term (printed y)) (printed_tail (map printed (z ∷ es))) y z es (term-printed ys y h) (tail-printed (z ∷ es) zs others))

pub expr-printed : (depth : ℕ) (xs : List Symbol) (x : Expr) → IsExpr depth xs x → IsExpr depth (printed x).symbols x
expr-printed zero xs x h = level-printed false (λ _ _. ⊥) (λ _ _ k. absurd k) (λ _ _ k. absurd k) xs x h
expr-printed (suc depth) xs x h = level-printed true (IsExpr depth) (expr-printed depth) (expr-more depth) xs x h

-- ---- items

item-printed : (found : List ItemForm) (xs : List Symbol) (x : ItemForm) → IsItem found xs x → IsItem found (printed_item x) x
item-printed found xs x (positional ys y none h) = positional (printed y).symbols y none (expr-printed max_depth ys y h)
item-printed found xs x (named a b [] ys y some new h) = absurd (some refl)
item-printed found xs x (named a b (c ∷ w) ys y some new h) = named 0 0 (c ∷ w) (printed y).symbols y some new (expr-printed max_depth ys y h)

pub items-printed : (found es : List ItemForm) (xs : List Symbol) → IsItems found xs es → IsItems found (printed_items es) es
items-printed found es xs (one_item _ us ys x it last) =
    subst (λ (v : List Symbol). IsItems found v (x ∷ [])) (append-nil (printed_item x)) (one_item found (printed_item x) [] x (item-printed found us x it) nothing)
items-printed found es xs (more_items _ a us ys x y others it more) =
    more_items found 0 (printed_item x) (printed_items (y ∷ others)) x y others (item-printed found us x it) (items-printed (found ++ x ∷ []) (y ∷ others) ys more)
