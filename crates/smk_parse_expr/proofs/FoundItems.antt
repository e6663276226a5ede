-- What is read as items is what the grammar spells.
use Rattle.std.proofs.Common.{◌≡◌, ℕ, zero, suc, Bool, true, List, [], ◌∷◌, ◌++◌, length, Ok, sym, ap, subst, ◌∙◌, append_assoc, inl, inr, cond}
use Rattle.std.specs.Prelude.{not}
use Rattle.std.proofs.lemmas.List.{append-nil}
use Rattle.std.proofs.lemmas.Bool.{cases_Bool}
use Rattle.smk_parse_expr.specs.declared.symbol.Symbol.{Symbol}
use Rattle.smk_parse_expr.specs.declared.symbol.Symbol.TheVariants as s
use Rattle.smk_parse_expr.specs.declared.symbol.Sign.TheVariants.{Comma, Equals}
use Rattle.smk_parse_tree.specs.declared.syntax.ItemForm.{ItemForm}
use Rattle.smk_parse_expr.specs.Symbols.{Parser, and_then, ◌>>=◌, pure, sees, next, refuse, at_end, end}
use Rattle.smk_parse_expr.specs.Exprs.{max_depth, argument, valued, expr}
use Rattle.smk_parse_expr.specs.Items.{has_named, positional, item, another, items_from, items}
use Rattle.smk_parse_expr.specs.Grammar.{IsExpr, IsItem, positional as alone, named, nothing, a_comma, IsItems, one_item, more_items, HasLetters}
use Rattle.smk_parse_expr.proofs.Steps.{done, Takes, bind_ok, chosen, parts, sees-found, refused}
use Rattle.smk_parse_expr.proofs.Found.{argument-found, valued-found, expr-found}

letters-behind : (xs rest : List Symbol) → HasLetters (xs ++ rest) → HasLetters rest
letters-behind [] rest h = h
letters-behind (s.Name at w ∷ xs) rest h = letters-behind xs rest h.1
letters-behind (s.Number at n ∷ xs) rest h = letters-behind xs rest h
letters-behind (s.Text at t ∷ xs) rest h = letters-behind xs rest h
letters-behind (s.Sign at k ∷ xs) rest h = letters-behind xs rest h
letters-behind (s.Newline at ∷ xs) rest h = letters-behind xs rest h
letters-behind (s.Indent at ∷ xs) rest h = letters-behind xs rest h
letters-behind (s.Dedent at ∷ xs) rest h = letters-behind xs rest h

letters-along : (i j : List Symbol) → i ≡ j → HasLetters i → HasLetters j
letters-along i j e h = subst HasLetters e h

positional-found : (found : List ItemForm) (x : ItemForm) (i rest : List Symbol) → positional found i ≡ done x rest → Takes (λ xs v. IsItem found xs v) i x rest
positional-found found x i rest h = elim (cases_Bool (has_named found)) [
  | inl named_one ↦ let same : refuse i ≡ done x rest = rw named_one at h in absurd (refused i rest x same)
  | inr none ↦
      let same : valued (expr max_depth) [] i ≡ done x rest = rw none at h in
      let f = valued-found (expr max_depth) (IsExpr max_depth) (expr-found max_depth) [] x i rest same in
      (f.0, f.1, subst (λ (v : ItemForm). IsItem found f.0 v) f.4 (alone f.0 f.2 none f.3))
]

item-found : (found : List ItemForm) (x : ItemForm) (i rest : List Symbol) → HasLetters i → item found i ≡ done x rest → Takes (λ xs v. IsItem found xs v) i x rest
unfolding item
item-found found x [] rest l h = positional-found found x [] rest h
item-found found x (s.Name at w ∷ xs) rest l h =
    elim (chosen (sees Equals xs) (argument (expr max_depth) found (s.Name at w ∷ xs)) (positional found (s.Name at w ∷ xs)) (done x rest) h) [
      | inl (met, same) ↦
          let f = argument-found (expr max_depth) (IsExpr max_depth) (expr-found max_depth) found x (s.Name at w ∷ xs) rest same in
          let o = f.2 in
          let ys : List Symbol = s.Name o.0 x.name ∷ s.Sign o.1 Equals ∷ o.2 in
          let whole : s.Name at w ∷ xs ≡ ys ++ rest = f.1 ∙ ap (λ (v : List Symbol). v ++ rest) o.3 in
          let letters = letters-along (s.Name at w ∷ xs) (ys ++ rest) whole l in
          (ys, whole, named o.0 o.1 x.name o.2 x.value letters.0 o.4 o.5)
      | inr (none, same) ↦ positional-found found x (s.Name at w ∷ xs) rest same
    ]
item-found found x (s.Number at n ∷ xs) rest l h = positional-found found x (s.Number at n ∷ xs) rest h
item-found found x (s.Text at t ∷ xs) rest l h = positional-found found x (s.Text at t ∷ xs) rest h
item-found found x (s.Sign at k ∷ xs) rest l h = positional-found found x (s.Sign at k ∷ xs) rest h
item-found found x (s.Newline at ∷ xs) rest l h = positional-found found x (s.Newline at ∷ xs) rest h
item-found found x (s.Indent at ∷ xs) rest l h = positional-found found x (s.Indent at ∷ xs) rest h
item-found found x (s.Dedent at ∷ xs) rest l h = positional-found found x (s.Dedent at ∷ xs) rest h

abbrev after : ℕ → List ItemForm → ItemForm → Bool → Parser (List ItemForm)
after n found x more = cond more (items_from n (found ++ x ∷ [])) (end >>= (λ _. pure (found ++ x ∷ [])))

abbrev AddsItems : List ItemForm → List Symbol → List ItemForm → List Symbol → Type 0
AddsItems found i es rest =
    (y : ItemForm) × (more : List ItemForm) × (xs : List Symbol) × (es ≡ found ++ y ∷ more) × (i ≡ xs ++ rest) × IsItems found xs (y ∷ more) × (at_end rest ≡ true)

ended : (found es : List ItemForm) (x : ItemForm) (i rest : List Symbol) → and_then (end i) (λ _. pure (found ++ x ∷ [])) ≡ done es rest
    → (found ++ x ∷ [] ≡ es) × (i ≡ rest) × (at_end i ≡ true)
unfolding end
ended found es x i rest h =
    let b = bind_ok (end i) (λ _. pure (found ++ x ∷ [])) es rest h in
    elim (chosen (at_end i) (Ok (tt, i)) (refuse i) (done b.0 b.1) b.2) [
      | inl (met, same) ↦
          let p = parts tt b.0 i b.1 same in
          let q = parts (found ++ x ∷ []) es b.1 rest b.3 in
          (q.0, p.1 ∙ q.1, met)
      | inr (none, same) ↦ absurd (refused i b.1 b.0 same)
    ]

items_from-found : (n : ℕ) (found es : List ItemForm) (i rest : List Symbol) → HasLetters i → items_from n found i ≡ done es rest → AddsItems found i es rest
unfolding items_from
items_from-found zero found es i rest l h = absurd (refused i rest es h)
items_from-found (suc n) found es i rest l h =
    let a = bind_ok (item found i) (λ x. another >>= after n found x) es rest h in
    let one = item-found found a.0 i a.1 l a.2 in
    elim (cases_Bool (sees Comma a.1)) [
      | inl comma ↦
          let start = sees-found Comma a.1 comma in
          let goes : after n found a.0 (not (at_end (next a.1))) (next a.1) ≡ done es rest = rw comma at a.3 in
          let to : a.1 ≡ s.Sign start.0 Comma ∷ next a.1 = start.2 ∙ ap (λ (v : List Symbol). s.Sign start.0 Comma ∷ v) (ap next (sym start.2)) in
          elim (cases_Bool (at_end (next a.1))) [
            | inl at_last ↦
                let ends : and_then (end (next a.1)) (λ _. pure (found ++ a.0 ∷ [])) ≡ done es rest = rw at_last at goes in
                let f = ended found es a.0 (next a.1) rest ends in
                let whole : i ≡ (one.0 ++ s.Sign start.0 Comma ∷ []) ++ rest
                = one.1 ∙ ap (λ (v : List Symbol). one.0 ++ v) (to ∙ ap (λ (v : List Symbol). s.Sign start.0 Comma ∷ v) f.1) ∙ sym (append_assoc one.0 (s.Sign start.0 Comma ∷ []) rest) in (
                  a.0,
                  [],
                  one.0 ++ s.Sign start.0 Comma ∷ [],
                  sym f.0,
                  whole,
                  one_item found one.0 (s.Sign start.0 Comma ∷ []) a.0 one.2 (a_comma start.0),
                  ap at_end (sym f.1) ∙ f.2,
                )
            | inr more_to_come ↦
                let reads : items_from n (found ++ a.0 ∷ []) (next a.1) ≡ done es rest = rw more_to_come at goes in
                let near : HasLetters a.1 = letters-behind one.0 a.1 (letters-along i (one.0 ++ a.1) one.1 l) in
                let letters : HasLetters (next a.1) = letters-along a.1 (s.Sign start.0 Comma ∷ next a.1) to near in
                let others = items_from-found n (found ++ a.0 ∷ []) es (next a.1) rest letters reads in
                let whole : i ≡ (one.0 ++ (s.Sign start.0 Comma ∷ others.2)) ++ rest
                = one.1 ∙ ap (λ (v : List Symbol). one.0 ++ v) (to ∙ ap (λ (v : List Symbol). s.Sign start.0 Comma ∷ v) others.4) ∙ sym (append_assoc one.0 (s.Sign start.0 Comma ∷ others.2) rest) in (
                  a.0,
                  others.0 ∷ others.1,
                  one.0 ++ (s.Sign start.0 Comma ∷ others.2),
                  others.3 ∙ append_assoc found (a.0 ∷ []) (others.0 ∷ others.1),
                  whole,
                  more_items found start.0 one.0 others.2 a.0 others.0 others.1 one.2 others.5,
                  others.6,
                )
          ]
      | inr last ↦
          let ends : and_then (end a.1) (λ _. pure (found ++ a.0 ∷ [])) ≡ done es rest = rw last at a.3 in
          let f = ended found es a.0 a.1 rest ends in (
            a.0,
            [],
            one.0 ++ [],
            sym f.0,
            one.1 ∙ ap (λ (v : List Symbol). one.0 ++ v) f.1 ∙ ap (λ (v : List Symbol). v ++ rest) (sym (append-nil one.0)),
            one_item found one.0 [] a.0 one.2 nothing,
            ap at_end (sym f.1) ∙ f.2,
          )
    ]

-- What is read is what the grammar spells.
pub items-found : (i rest : List Symbol) (es : List ItemForm) → HasLetters i → items i ≡ Ok (es, rest)
    → (xs : List Symbol) × (i ≡ xs ++ rest) × IsItems [] xs es × (at_end rest ≡ true)
unfolding items
items-found i rest es l h =
    let f = items_from-found (length i) [] es i rest l h in
    (f.2, f.4, subst (λ (v : List ItemForm). IsItems [] f.2 v) (sym f.3) f.5, f.6)
