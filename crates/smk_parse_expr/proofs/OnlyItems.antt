-- Items that the grammar spells are read, whatever follows that ends them.
use Rattle.std.proofs.Common.{◌≡◌, ℕ, zero, suc, ◌+◌, ◌≤◌, Bool, true, false, List, [], ◌∷◌, ◌++◌, length, Ok, refl, sym, ap, subst, ◌∙◌, append_assoc, arith, cond, length-append}
use Rattle.std.specs.Prelude.{not, ◌&&◌}
use Rattle.smk_parse_expr.specs.declared.symbol.Symbol.{Symbol}
use Rattle.smk_parse_expr.specs.declared.symbol.Symbol.TheVariants as s
use Rattle.smk_parse_expr.specs.declared.symbol.Sign.TheVariants.{Comma, Equals}
use Rattle.smk_parse_tree.specs.declared.syntax.Expr.{Expr}
use Rattle.smk_parse_tree.specs.declared.syntax.ItemForm.{ItemForm}
use Rattle.smk_parse_expr.specs.Symbols.{Bytes, Parser, and_then, ◌>>=◌, pure, sees, next, refuse, at_end, end}
use Rattle.smk_parse_expr.specs.Exprs.{max_depth, argument, valued, expr}
use Rattle.smk_parse_expr.specs.Items.{has_named, positional, item, another, items_from, items}
use Rattle.smk_parse_expr.specs.Grammar.{Spelling, IsTerm, IsTail, IsLevel, IsExpr, a_text, a_number, a_truth, a_falsehood, a_name, a_key, in_parentheses, a_flag, an_output, an_expand, of_checkpoint, a_list, one_term, a_sum, IsItem, positional as alone, named, IsLast, nothing, a_comma, IsItems, one_item, more_items, StopsSum, StopsItems}
use Rattle.smk_parse_expr.proofs.Steps.{done, parts}
use Rattle.smk_parse_expr.proofs.Only.{expr-only, argument-only, behind_sign}

-- ---- how expressions begin

-- a name and `=`
abbrev assigns : List Symbol → Bool
assigns (s.Name at w ∷ xs) = sees Equals xs
assigns xs = false

-- no expression begins with an end, or with a name and `=`
record Begins (xs : List Symbol) : Type 0 where
  some : at_end xs ≡ false
  no_name : assigns xs ≡ false

module _ (may_open : Bool) (Inner : Spelling) where
  term-begins : (xs rest : List Symbol) (x : Expr) → IsTerm may_open Inner xs x → sees Equals rest ≡ false → Begins (xs ++ rest)
  term-begins xs rest x (a_text at t u ys h) stop = record { some = refl; no_name = refl }
  term-begins xs rest x (a_number at n) stop = record { some = refl; no_name = refl }
  term-begins xs rest x (a_truth at w h) stop = record { some = refl; no_name = stop }
  term-begins xs rest x (a_falsehood at w h) stop = record { some = refl; no_name = stop }
  term-begins xs rest x (a_name at w h) stop = record { some = refl; no_name = stop }
  term-begins xs rest x (a_key at w k ks ys h (a, b, c, zs, same, more)) stop =
      record { some = refl; no_name = ap (λ (v : List Symbol). sees Equals (v ++ rest)) same }
  term-begins xs rest x (in_parentheses a b ys y h) stop = record { some = refl; no_name = refl }
  term-begins xs rest x (a_flag at a b w ys y h inside) stop = record { some = refl; no_name = refl }
  term-begins xs rest x (an_output at a b c d w rule p ys h picks) stop = record { some = refl; no_name = refl }
  term-begins xs rest x (an_expand at a w y pairs values us ys zs h inside paired_or_not named_ones) stop = record { some = refl; no_name = refl }
  term-begins xs rest x (of_checkpoint at a b c d f g k w n l t h) stop = record { some = refl; no_name = refl }
  term-begins xs rest x (a_list a es ys h l) stop = record { some = refl; no_name = refl }

  tail-stops : (y : Expr) (es : List Expr) (zs rest : List Symbol) → IsTail (IsTerm may_open Inner) (y ∷ es) zs → sees Equals (zs ++ rest) ≡ false
  tail-stops y es zs rest (a, us, vs, e, h, others) = ap (λ (v : List Symbol). sees Equals (v ++ rest)) e

  level-begins : (xs rest : List Symbol) (x : Expr) → IsLevel may_open Inner xs x → sees Equals rest ≡ false → Begins (xs ++ rest)
  level-begins xs rest x (one_term ys y h) stop = term-begins ys rest y h stop
  level-begins xs rest x (a_sum ys zs y z es h others) stop =
      subst Begins (sym (append_assoc ys zs rest)) (term-begins ys (zs ++ rest) y h (tail-stops z es zs rest others))

expr-begins : (depth : ℕ) (xs rest : List Symbol) (x : Expr) → IsExpr depth xs x → sees Equals rest ≡ false → Begins (xs ++ rest)
expr-begins zero xs rest x h stop = level-begins false (λ _ _. ⊥) xs rest x h stop
expr-begins (suc depth) xs rest x h stop = level-begins true (IsExpr depth) xs rest x h stop

-- ---- items

item-plain : (found : List ItemForm) (i : List Symbol) → assigns i ≡ false → item found i ≡ positional found i
unfolding item
item-plain found [] h = refl
item-plain found (s.Name at w ∷ xs) h = ap (λ b. cond b (argument (expr max_depth) found (s.Name at w ∷ xs)) (positional found (s.Name at w ∷ xs))) h
item-plain found (s.Number at n ∷ xs) h = refl
item-plain found (s.Text at t ∷ xs) h = refl
item-plain found (s.Sign at k ∷ xs) h = refl
item-plain found (s.Newline at ∷ xs) h = refl
item-plain found (s.Indent at ∷ xs) h = refl
item-plain found (s.Dedent at ∷ xs) h = refl

item-named : (found : List ItemForm) (a b : ℕ) (w : Bytes) (xs : List Symbol)
    → item found (s.Name a w ∷ s.Sign b Equals ∷ xs) ≡ argument (expr max_depth) found (s.Name a w ∷ s.Sign b Equals ∷ xs)
unfolding item
item-named found a b w xs = refl

positional-only : (found : List ItemForm) (i rest : List Symbol) (x : Expr) → has_named found ≡ false → expr max_depth i ≡ Ok (x, rest)
    → positional found i ≡ done (record { name = []; value = x }) rest
unfolding valued
positional-only found i rest x none reads =
    ap (λ b. cond b refuse (valued (expr max_depth) []) i) none ∙ ap (λ r. and_then r (λ value. pure (record { name = []; value = value }))) reads

-- an item, behind which no name begins
record Follows (rest : List Symbol) : Type 0 where
  stops : StopsSum rest
  no_equals : sees Equals rest ≡ false

item-only : (found : List ItemForm) (xs rest : List Symbol) (x : ItemForm) → IsItem found xs x → Follows rest → item found (xs ++ rest) ≡ done x rest
item-only found xs rest x (alone ys y none h) follows =
    item-plain found (ys ++ rest) (expr-begins max_depth ys rest y h follows.no_equals).no_name
    ∙ positional-only found (ys ++ rest) rest y none (expr-only max_depth ys rest y h follows.stops)
item-only found xs rest x (named a b w ys y some new h) follows =
    item-named found a b w (ys ++ rest)
    ∙ argument-only (expr max_depth) found (record { name = w; value = y }) a b (ys ++ rest) rest new (expr-only max_depth ys rest y h follows.stops)

item-some : (found : List ItemForm) (xs rest : List Symbol) (x : ItemForm) → IsItem found xs x → sees Equals rest ≡ false → at_end (xs ++ rest) ≡ false
item-some found xs rest x (alone ys y none h) stop = (expr-begins max_depth ys rest y h stop).some
item-some found xs rest x (named a b w ys y some new h) stop = refl

last-no_equals : (ys rest : List Symbol) → IsLast ys → sees Equals rest ≡ false → sees Equals (ys ++ rest) ≡ false
last-no_equals ys rest nothing h = h
last-no_equals ys rest (a_comma a) h = refl

items-some : (found es : List ItemForm) (xs rest : List Symbol) → IsItems found xs es → sees Equals rest ≡ false → at_end (xs ++ rest) ≡ false
items-some found es xs rest (one_item _ us ys x it last) stop =
    ap at_end (append_assoc us ys rest) ∙ item-some found us (ys ++ rest) x it (last-no_equals ys rest last stop)
items-some found es xs rest (more_items _ a us ys x y others it more) stop =
    ap at_end (append_assoc us (s.Sign a Comma ∷ ys) rest) ∙ item-some found us (s.Sign a Comma ∷ (ys ++ rest)) x it refl

at_end-stops : (rest : List Symbol) → StopsItems rest → Follows rest
at_end-stops [] h = absurd (omega (arith, h.some))
at_end-stops (s.Newline at ∷ xs) h = record { stops = record { stops = record { ends = refl; no_key = refl; some = h.some }; no_plus = refl }; no_equals = refl }
at_end-stops (s.Indent at ∷ xs) h = record { stops = record { stops = record { ends = refl; no_key = refl; some = h.some }; no_plus = refl }; no_equals = refl }
at_end-stops (s.Dedent at ∷ xs) h = record { stops = record { stops = record { ends = refl; no_key = refl; some = h.some }; no_plus = refl }; no_equals = refl }
at_end-stops (s.Name at w ∷ xs) h = absurd (cc h.ends)
at_end-stops (s.Number at n ∷ xs) h = absurd (cc h.ends)
at_end-stops (s.Text at t ∷ xs) h = absurd (cc h.ends)
at_end-stops (s.Sign at k ∷ xs) h = absurd (cc h.ends)

no_comma : (rest : List Symbol) → at_end rest ≡ true → sees Comma rest ≡ false
no_comma [] h = refl
no_comma (s.Newline at ∷ xs) h = refl
no_comma (s.Indent at ∷ xs) h = refl
no_comma (s.Dedent at ∷ xs) h = refl
no_comma (s.Name at w ∷ xs) h = absurd cc
no_comma (s.Number at n ∷ xs) h = absurd cc
no_comma (s.Text at t ∷ xs) h = absurd cc
no_comma (s.Sign at k ∷ xs) h = absurd cc

behind_comma : (a : ℕ) (rest : List Symbol) → Follows (s.Sign a Comma ∷ rest)
behind_comma a rest = record { stops = behind_sign a Comma rest refl refl refl; no_equals = refl }

abbrev after : ℕ → List ItemForm → ItemForm → Bool → Parser (List ItemForm)
after n found x more = cond more (items_from n (found ++ x ∷ [])) (end >>= (λ _. pure (found ++ x ∷ [])))

ended : (found : List ItemForm) (x : ItemForm) (rest : List Symbol) → at_end rest ≡ true → and_then (end rest) (λ _. pure (found ++ x ∷ [])) ≡ done (found ++ x ∷ []) rest
unfolding end
ended found x rest h = ap (λ b. and_then (cond b (Ok (tt, rest)) (refuse rest)) (λ _. pure (found ++ x ∷ []))) h

last-only : (n : ℕ) (found : List ItemForm) (x : ItemForm) (ys rest : List Symbol) → IsLast ys → at_end rest ≡ true
    → and_then (done x (ys ++ rest)) (λ v. another >>= after n found v) ≡ done (found ++ x ∷ []) rest
last-only n found x ys rest nothing h =
    ap (λ b. after n found x (b && not (at_end (cond b (next rest) rest))) (cond b (next rest) rest)) (no_comma rest h) ∙ ended found x rest h
last-only n found x ys rest (a_comma a) h = ap (λ b. after n found x (not b) rest) h ∙ ended found x rest h

last-follows : (ys rest : List Symbol) → IsLast ys → Follows rest → Follows (ys ++ rest)
last-follows ys rest nothing h = h
last-follows ys rest (a_comma a) h = behind_comma a rest

items_from-only : (n : ℕ) (found es : List ItemForm) (xs rest : List Symbol) → IsItems found xs es → StopsItems rest → length es ≤ n
    → items_from n found (xs ++ rest) ≡ done (found ++ es) rest
unfolding items_from
items_from-only zero found es xs rest (one_item _ us ys x it last) stop le = absurd (omega arith)
items_from-only zero found es xs rest (more_items _ a us ys x y others it more) stop le = absurd (omega arith)
items_from-only (suc n) found es xs rest (one_item _ us ys x it last) stop le =
    let follows : Follows (ys ++ rest) = last-follows ys rest last (at_end-stops rest stop) in
    ap (items_from (suc n) found) (append_assoc us ys rest)
    ∙ ap (λ r. and_then r (λ v. another >>= after n found v)) (item-only found us (ys ++ rest) x it follows)
    ∙ last-only n found x ys rest last stop.ends
items_from-only (suc n) found es xs rest (more_items _ a us ys x y others it more) stop le =
    let i = ys ++ rest in
    let goes_on_here : at_end i ≡ false = items-some (found ++ x ∷ []) (y ∷ others) ys rest more (at_end-stops rest stop).no_equals in
    ap (items_from (suc n) found) (append_assoc us (s.Sign a Comma ∷ ys) rest)
    ∙ ap (λ r. and_then r (λ v. another >>= after n found v)) (item-only found us (s.Sign a Comma ∷ i) x it (behind_comma a i))
    ∙ ap (λ b. after n found x (not b) i) goes_on_here
    ∙ items_from-only n (found ++ x ∷ []) (y ∷ others) ys rest more stop (omega arith)
    ∙ ap (λ (v : List ItemForm). done v rest) (append_assoc found (x ∷ []) (y ∷ others))

items-len : (found es : List ItemForm) (xs : List Symbol) → IsItems found xs es → length es ≤ length xs + 1
items-len found es xs (one_item _ us ys x it last) = omega arith
items-len found es xs (more_items _ a us ys x y others it more) = omega (arith, length-append us (s.Sign a Comma ∷ ys), items-len (found ++ x ∷ []) (y ∷ others) ys more)

-- Items that the grammar spells are read as they are, whatever follows that ends them.
pub items-only : (xs rest : List Symbol) (es : List ItemForm) → IsItems [] xs es → StopsItems rest → items (xs ++ rest) ≡ Ok (es, rest)
unfolding items
items-only xs rest es h stop =
    items_from-only (length (xs ++ rest)) [] es xs rest h stop (omega (arith, length-append xs rest, items-len [] es xs h, stop.some))

-- Symbols spell one list of items.
pub items-one : (xs : List Symbol) (es fs : List ItemForm) → IsItems [] xs es → IsItems [] xs fs → es ≡ fs
items-one xs es fs h k =
    let last : List Symbol = s.Newline 0 ∷ [] in
    let stop : StopsItems last = record { ends = refl; some = omega arith } in
    let both : done es last ≡ done fs last = sym (items-only xs last es h stop) ∙ items-only xs last fs k stop in
    (parts es fs last last both).0
