-- What the grammar spells, it spells wherever the symbols stand.
use Rattle.std.proofs.Common.{◌≡◌, ℕ, zero, suc, Bool, true, false, List, [], ◌∷◌, ◌++◌, get_or, map, refl, sym, ap, subst, ◌∙◌, inl, inr}
use Rattle.smk_parse_expr.specs.declared.symbol.Symbol.{Symbol}
use Rattle.smk_parse_expr.specs.declared.symbol.Symbol.TheVariants as s
use Rattle.smk_parse_expr.specs.declared.symbol.Sign.TheVariants.{Comma, Equals, Open, Close, Plus}
use Rattle.smk_parse_tree.specs.declared.syntax.Expr.{Expr}
use Rattle.smk_parse_tree.specs.declared.syntax.Expr.TheVariants as e
use Rattle.smk_parse_tree.specs.declared.syntax.ItemForm.{ItemForm}
use Rattle.smk_parse_tree.specs.declared.syntax.ExpandForm.{roll-ExpandForm}
use Rattle.smk_parse_tree.specs.declared.syntax.OutputPick.{OutputPick}
use Rattle.smk_parse_expr.specs.Symbols.{Bytes, place_of}
use Rattle.smk_parse_expr.specs.Exprs.{max_depth}
use Rattle.smk_parse_expr.specs.Grammar.{Spelling, IsTexts, IsKeys, IsPick, all, by_name, by_place, IsZip, paired, not_paired, IsListed, IsClosing, alone, behind_comma, IsArguments, IsTerm, IsTail, IsLevel, IsExpr, a_text, a_number, a_truth, a_falsehood, a_name, a_key, in_parentheses, a_flag, an_output, an_expand, of_checkpoint, a_list, one_term, a_sum, IsItem, positional, named, IsLast, nothing, a_comma, IsItems, one_item, more_items}
use Rattle.smk_parse_print.specs.Rows.{unplaced}

-- the symbol at this place
abbrev pub placed : ℕ → Symbol → Symbol
placed p (s.Name at w) = s.Name p w
placed p (s.Number at n) = s.Number p n
placed p (s.Text at t) = s.Text p t
placed p (s.Sign at k) = s.Sign p k
placed p (s.Newline at) = s.Newline p
placed p (s.Indent at) = s.Indent p
placed p (s.Dedent at) = s.Dedent p

-- the symbols at places that a function gives by their number
abbrev pub moved : (ℕ → ℕ) → List Symbol → List Symbol
moved f [] = []
moved f (x ∷ xs) = placed (f 0) x ∷ moved (λ i. f (suc i)) xs

-- the places behind some symbols
abbrev pub behind : List Symbol → (ℕ → ℕ) → (ℕ → ℕ)
behind [] f = f
behind (x ∷ xs) f = behind xs (λ i. f (suc i))

pub moved-append : (f : ℕ → ℕ) (xs ys : List Symbol) → moved f (xs ++ ys) ≡ moved f xs ++ moved (behind xs f) ys
moved-append f [] ys = refl
moved-append f (x ∷ xs) ys = ap (λ (v : List Symbol). placed (f 0) x ∷ v) (moved-append (λ i. f (suc i)) xs ys)

-- ---- symbols that are the same but for their places

itself : (y : Symbol) → placed (place_of y) (unplaced y) ≡ y
itself (s.Name at w) = refl
itself (s.Number at n) = refl
itself (s.Text at t) = refl
itself (s.Sign at k) = refl
itself (s.Newline at) = refl
itself (s.Indent at) = refl
itself (s.Dedent at) = refl

placed-unplaced : (p : ℕ) (x : Symbol) → placed p (unplaced x) ≡ placed p x
placed-unplaced p (s.Name at w) = refl
placed-unplaced p (s.Number at n) = refl
placed-unplaced p (s.Text at t) = refl
placed-unplaced p (s.Sign at k) = refl
placed-unplaced p (s.Newline at) = refl
placed-unplaced p (s.Indent at) = refl
placed-unplaced p (s.Dedent at) = refl

abbrev pub places_of : List Symbol → ℕ → ℕ
places_of ys i = place_of (get_or ys i (s.Newline 0))

pub moved-is : (ys xs : List Symbol) → map unplaced ys ≡ map unplaced xs → ys ≡ moved (places_of ys) xs
moved-is [] [] e = refl
moved-is [] (x ∷ xs) e = absurd cc
moved-is (y ∷ ys) [] e = absurd cc
moved-is (y ∷ ys) (x ∷ xs) e =
    let first : unplaced y ≡ unplaced x = cc in
    let rest : map unplaced ys ≡ map unplaced xs = cc in
    let here : y ≡ placed (place_of y) x = sym (itself y) ∙ ap (placed (place_of y)) first ∙ placed-unplaced (place_of y) x in
    ap (λ (v : Symbol). v ∷ ys) here ∙ ap (λ (v : List Symbol). placed (place_of y) x ∷ v) (moved-is ys xs rest)

-- ---- the grammar

texts-moved : (f : ℕ → ℕ) (xs : List Symbol) (t u : Bytes) → IsTexts t xs u → IsTexts t (moved f xs) u
texts-moved f [] t u h = h
texts-moved f (s.Text at v ∷ xs) t u h = texts-moved (λ i. f (suc i)) xs (t ++ v) u h
texts-moved f (s.Name at w ∷ xs) t u h = absurd h
texts-moved f (s.Number at n ∷ xs) t u h = absurd h
texts-moved f (s.Sign at k ∷ xs) t u h = absurd h
texts-moved f (s.Newline at ∷ xs) t u h = absurd h
texts-moved f (s.Indent at ∷ xs) t u h = absurd h
texts-moved f (s.Dedent at ∷ xs) t u h = absurd h

keys-moved : (f : ℕ → ℕ) (ks : List Bytes) (xs : List Symbol) → IsKeys ks xs → IsKeys ks (moved f xs)
keys-moved f [] xs h = ap (moved f) h
keys-moved f (k ∷ ks) xs (a, b, c, ys, same, h) =
    let g : ℕ → ℕ = λ i. f (suc (suc (suc i))) in
    (f 0, f 1, f 2, moved g ys, ap (moved f) same, keys-moved g ks ys h)

pick-moved : (f : ℕ → ℕ) (xs : List Symbol) (p : OutputPick) → IsPick xs p → IsPick (moved f xs) p
pick-moved f _ _ all = all
pick-moved f _ _ (by_name a b w) = by_name (f 0) (f 1) w
pick-moved f _ _ (by_place a b c n) = by_place (f 0) (f 1) (f 2) n

zip-moved : (f : ℕ → ℕ) (xs : List Symbol) (b : Bool) → IsZip xs b → IsZip (moved f xs) b
zip-moved f _ _ (paired a b) = paired (f 0) (f 1)
zip-moved f _ _ not_paired = not_paired

closing-moved : (f : ℕ → ℕ) (xs : List Symbol) → IsClosing xs → IsClosing (moved f xs)
closing-moved f _ (alone b) = alone (f 0)
closing-moved f _ (behind_comma a b) = behind_comma (f 0) (f 1)

module _ (may_open : Bool) (Inner : Spelling) (again : (f : ℕ → ℕ) (xs : List Symbol) (x : Expr) → Inner xs x → Inner (moved f xs) x) where
  listed-moved : (f : ℕ → ℕ) (es : List Expr) (xs : List Symbol) → IsListed Inner es xs → IsListed Inner es (moved f xs)
  listed-moved f [] xs (b, same) = (f 0, ap (moved f) same)
  listed-moved f (x ∷ es) xs (ys, zs, same, h, inl (none, b, last)) =
      let g = behind ys f in
      (moved f ys, moved g zs, ap (moved f) same ∙ moved-append f ys zs, again f ys x h, inl (none, g 0, ap (moved g) last))
  listed-moved f (x ∷ es) xs (ys, zs, same, h, inr (a, ws, comma, others)) =
      let g = behind ys f in
      let k : ℕ → ℕ = λ i. g (suc i) in
      (moved f ys, moved g zs, ap (moved f) same ∙ moved-append f ys zs, again f ys x h, inr (g 0, moved k ws, ap (moved g) comma, listed-moved k es ws others))

  arguments-moved : (f : ℕ → ℕ) (found items : List ItemForm) (xs : List Symbol) → IsArguments Inner found items xs → IsArguments Inner found items (moved f xs)
  arguments-moved f found [] xs h = closing-moved f xs h
  arguments-moved f found (x ∷ items) xs (a, b, c, ys, zs, same, fresh, h, others) =
      let g : ℕ → ℕ = λ i. f (suc (suc (suc i))) in (
        f 0,
        f 1,
        f 2,
        moved g ys,
        moved (behind ys g) zs,
        ap (moved f) same ∙ ap (λ (v : List Symbol). s.Sign (f 0) Comma ∷ s.Name (f 1) x.name ∷ s.Sign (f 2) Equals ∷ v) (moved-append g ys zs),
        fresh,
        again g ys x.value h,
        arguments-moved (behind ys g) (found ++ x ∷ []) items zs others,
      )

  term-moved : (f : ℕ → ℕ) (xs : List Symbol) (x : Expr) → IsTerm may_open Inner xs x → IsTerm may_open Inner (moved f xs) x
  term-moved f _ _ (a_text at t u ys h) = a_text (f 0) t u (moved (λ i. f (suc i)) ys) (texts-moved (λ i. f (suc i)) ys t u h)
  term-moved f _ _ (a_number at n) = a_number (f 0) n
  term-moved f _ _ (a_truth at w h) = a_truth (f 0) w h
  term-moved f _ _ (a_falsehood at w h) = a_falsehood (f 0) w h
  term-moved f _ _ (a_name at w h) = a_name (f 0) w h
  term-moved f _ _ (a_key at w k ks ys h keys) = a_key (f 0) w k ks (moved (λ i. f (suc i)) ys) h (keys-moved (λ i. f (suc i)) (k ∷ ks) ys keys)
  term-moved f _ x (in_parentheses a b ys y h) =
      let g : ℕ → ℕ = λ i. f (suc i) in
      subst (λ (v : List Symbol). IsTerm may_open Inner (s.Sign (f 0) Open ∷ v) x) (sym (moved-append g ys (s.Sign b Close ∷ [])))
      (in_parentheses (f 0) (behind ys g 0) (moved g ys) x (again g ys x h))
  term-moved f _ _ (a_flag at a b w ys y h inside) =
      let g : ℕ → ℕ = λ i. f (suc (suc i)) in
      subst (λ (v : List Symbol). IsTerm may_open Inner (s.Name (f 0) w ∷ s.Sign (f 1) Open ∷ v) (e.Flagged w y)) (sym (moved-append g ys (s.Sign b Close ∷ [])))
      (a_flag (f 0) (f 1) (behind ys g 0) w (moved g ys) y h (again g ys y inside))
  term-moved f _ _ (an_output at a b c d w rule p ys h picked) =
      let g : ℕ → ℕ = λ i. f (suc (suc (suc (suc (suc i))))) in an_output (f 0) (f 1) (f 2) (f 3) (f 4) w rule p (moved g ys) h (pick-moved g ys p picked)
  term-moved f _ _ (an_expand at a w y pairs items us ys zs h inside zipped named_ones) =
      let g : ℕ → ℕ = λ i. f (suc (suc i)) in
      let k = behind us g in
      let value = e.Expand (roll-ExpandForm (record { pattern = y; zip = pairs; named = items })) in
      let split : moved g (us ++ (ys ++ zs)) ≡ moved g us ++ (moved k ys ++ moved (behind ys k) zs) = moved-append g us (ys ++ zs) ∙ ap (λ (v : List Symbol). moved g us ++ v) (moved-append k ys zs) in
      subst (λ (v : List Symbol). IsTerm may_open Inner (s.Name (f 0) w ∷ s.Sign (f 1) Open ∷ v) value) (sym split)
      (an_expand (f 0) (f 1) w y pairs items (moved g us) (moved k ys) (moved (behind ys k) zs) h (again g us y inside) (zip-moved k ys pairs zipped) (arguments-moved (behind ys k) [] items zs named_ones))
  term-moved f _ _ (of_checkpoint at a b c d g h k w name listed wanted is) = of_checkpoint (f 0) (f 1) (f 2) (f 3) (f 4) (f 5) (f 6) (f 7) w name listed wanted is
  term-moved f _ _ (a_list a es ys h l) = a_list (f 0) es (moved (λ i. f (suc i)) ys) h (listed-moved (λ i. f (suc i)) es ys l)

  tail-moved : (f : ℕ → ℕ) (es : List Expr) (xs : List Symbol) → IsTail (IsTerm may_open Inner) es xs → IsTail (IsTerm may_open Inner) es (moved f xs)
  tail-moved f [] xs h = ap (moved f) h
  tail-moved f (x ∷ es) xs (a, ys, zs, same, h, others) =
      let g : ℕ → ℕ = λ i. f (suc i) in
      (f 0, moved g ys, moved (behind ys g) zs, ap (moved f) same ∙ ap (λ (v : List Symbol). s.Sign (f 0) Plus ∷ v) (moved-append g ys zs), term-moved g ys x h, tail-moved (behind ys g) es zs others)

  level-moved : (f : ℕ → ℕ) (xs : List Symbol) (x : Expr) → IsLevel may_open Inner xs x → IsLevel may_open Inner (moved f xs) x
  level-moved f xs x (one_term ys y h) = one_term (moved f ys) y (term-moved f ys y h)
  level-moved f _ _ (a_sum ys zs y z es h others) =
      subst (λ (v : List Symbol). IsLevel may_open Inner v (e.Sum (y ∷ z ∷ es))) (sym (moved-append f ys zs))
      (a_sum (moved f ys) (moved (behind ys f) zs) y z es (term-moved f ys y h) (tail-moved (behind ys f) (z ∷ es) zs others))

pub expr-moved : (depth : ℕ) (f : ℕ → ℕ) (xs : List Symbol) (x : Expr) → IsExpr depth xs x → IsExpr depth (moved f xs) x
expr-moved zero f xs x h = level-moved false (λ _ _. ⊥) (λ _ _ _ k. absurd k) f xs x h
expr-moved (suc depth) f xs x h = level-moved true (IsExpr depth) (expr-moved depth) f xs x h

-- ---- items

item-moved : (f : ℕ → ℕ) (found : List ItemForm) (xs : List Symbol) (x : ItemForm) → IsItem found xs x → IsItem found (moved f xs) x
item-moved f found _ _ (positional xs x h is) = positional (moved f xs) x h (expr-moved max_depth f xs x is)
item-moved f found _ _ (named a b w xs x some fresh is) =
    let g : ℕ → ℕ = λ i. f (suc (suc i)) in named (f 0) (f 1) w (moved g xs) x some fresh (expr-moved max_depth g xs x is)

last-moved : (f : ℕ → ℕ) (xs : List Symbol) → IsLast xs → IsLast (moved f xs)
last-moved f _ nothing = nothing
last-moved f _ (a_comma a) = a_comma (f 0)

pub items-moved : (f : ℕ → ℕ) (found : List ItemForm) (xs : List Symbol) (items : List ItemForm) → IsItems found xs items → IsItems found (moved f xs) items
items-moved f _ _ _ (one_item found xs ys x h last) =
    subst (λ (v : List Symbol). IsItems found v (x ∷ [])) (sym (moved-append f xs ys))
    (one_item found (moved f xs) (moved (behind xs f) ys) x (item-moved f found xs x h) (last-moved (behind xs f) ys last))
items-moved f _ _ _ (more_items found a xs ys x y items h others) =
    let g = behind xs f in
    subst (λ (v : List Symbol). IsItems found v (x ∷ y ∷ items)) (sym (moved-append f xs (s.Sign a Comma ∷ ys)))
    (more_items found (g 0) (moved f xs) (moved (λ i. g (suc i)) ys) x y items (item-moved f found xs x h) (items-moved (λ i. g (suc i)) (found ++ x ∷ []) ys (y ∷ items) others))
