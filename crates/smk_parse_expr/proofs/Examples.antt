-- The definitions computed on small sources.
use Rattle.std.proofs.Common.{◌≡◌, ℕ, zero, suc, ◌+◌, true, List, [], ◌∷◌, ◌++◌, Ok, Err, refl}
use Rattle.std.specs.Prelude.{codes}
use Rattle.smk_parse_expr.specs.declared.symbol.Symbol.{Symbol}
use Rattle.smk_parse_expr.specs.declared.symbol.Symbol.TheVariants as s
use Rattle.smk_parse_expr.specs.declared.symbol.Sign.{Sign}
use Rattle.smk_parse_expr.specs.declared.symbol.Sign.TheVariants as k
use Rattle.smk_parse_expr.specs.declared.symbol.ParseFault.{ParseFault}
use Rattle.smk_parse_expr.specs.declared.symbol.ParseFault.TheVariants.{Unexpected, Unsupported, Doubled}
use Rattle.smk_parse_tree.specs.declared.syntax.Expr.{Expr}
use Rattle.smk_parse_tree.specs.declared.syntax.Expr.TheVariants as e
use Rattle.smk_parse_tree.specs.declared.syntax.ItemForm.{ItemForm}
use Rattle.smk_parse_tree.specs.declared.syntax.ExpandForm.{roll-ExpandForm}
use Rattle.smk_parse_tree.specs.declared.syntax.OutputPick.TheVariants as pick
use Rattle.smk_parse_expr.specs.Symbols.{Outcome, expect, end}
use Rattle.smk_parse_expr.specs.Exprs.{name, number, spelled, by_name, by_place, picked, outputs, plain, closed, valued, argument, arguments_from, arguments, expanded, named, term, terms_from, terms, level, expr, max_depth}
use Rattle.smk_parse_expr.specs.Items.{item, items_from, items}

-- so many symbols of a sign, at places that rise from this one on
abbrev signs : Sign → ℕ → ℕ → List Symbol
signs k zero at = []
signs k (suc n) at = s.Sign at k ∷ signs k n (at + 1)

abbrev fault : ParseFault → Outcome Expr
fault f = Err f

abbrev found : Expr → List Symbol → Outcome Expr
found x rest = Ok (x, rest)

abbrev item_fault : ParseFault → Outcome (List ItemForm)
item_fault f = Err f

abbrev found_items : List ItemForm → List Symbol → Outcome (List ItemForm)
found_items es rest = Ok (es, rest)

-- 64 brackets within each other
deep_enough : expr max_depth (signs k.Open 64 0 ++ (s.Text 64 (codes "x") ∷ (signs k.Close 64 65 ++ s.Newline 129 ∷ []))) ≡ found (e.Word (codes "x")) (s.Newline 129 ∷ [])
unfolding expect plain closed named term terms_from terms level expr
deep_enough = refl

-- and one more
too_deep : expr max_depth (signs k.Open 65 0 ++ (s.Text 65 (codes "x") ∷ (signs k.Close 65 66 ++ s.Newline 131 ∷ []))) ≡ fault (Unexpected 64)
unfolding expect plain closed named term terms_from terms level expr
too_deep = refl

-- f("x")
a_call : expr max_depth (s.Name 0 (codes "f") ∷ s.Sign 1 k.Open ∷ s.Text 2 (codes "x") ∷ s.Sign 5 k.Close ∷ s.Newline 6 ∷ []) ≡ fault (Unsupported 0)
unfolding expect plain closed named term terms_from terms level expr
a_call = refl

-- "x" if y
a_condition : items (s.Text 0 (codes "x") ∷ s.Name 4 (codes "if") ∷ s.Name 7 (codes "y") ∷ s.Newline 8 ∷ []) ≡ item_fault (Unsupported 4)
unfolding end plain named term terms_from terms level expr valued item items_from items
a_condition = refl

-- k="x", k="y"
twice : items (s.Name 0 (codes "k") ∷ s.Sign 1 k.Equals ∷ s.Text 2 (codes "x") ∷ s.Sign 5 k.Comma ∷ s.Name 7 (codes "k") ∷ s.Sign 8 k.Equals ∷ s.Text 9 (codes "y") ∷ s.Newline 12 ∷ [])
    ≡ item_fault (Doubled 7)
unfolding end plain named term terms_from terms level expr valued argument item items_from items
twice = refl

-- "x", k=rules.up.output[1],
with_names : items (s.Text 0 (codes "x") ∷ s.Sign 3 k.Comma ∷ s.Name 5 (codes "k") ∷ s.Sign 6 k.Equals ∷ s.Name 7 (codes "rules") ∷ s.Sign 12 k.Point ∷ s.Name 13 (codes "up")
    ∷ s.Sign 15 k.Point ∷ s.Name 16 (codes "output") ∷ s.Sign 22 k.OpenSquare ∷ s.Number 23 1 ∷ s.Sign 24 k.CloseSquare ∷ s.Sign 25 k.Comma ∷ s.Newline 26 ∷ [])
    ≡ found_items (record { name = []; value = e.Word (codes "x") } ∷ record { name = codes "k"; value = e.Outputs (codes "up") (pick.At 1) } ∷ []) (s.Newline 26 ∷ [])
unfolding expect end plain name number spelled by_name by_place picked outputs named term terms_from terms level expr valued argument item items_from items
with_names = refl

-- expand("{x}", zip, x=c)
an_expand : expr max_depth (s.Name 0 (codes "expand") ∷ s.Sign 6 k.Open ∷ s.Text 7 (codes "{x}") ∷ s.Sign 12 k.Comma ∷ s.Name 14 (codes "zip") ∷ s.Sign 17 k.Comma ∷ s.Name 19 (codes "x")
    ∷ s.Sign 20 k.Equals ∷ s.Name 21 (codes "c") ∷ s.Sign 22 k.Close ∷ s.Newline 23 ∷ [])
    ≡ found (e.Expand (roll-ExpandForm (record { pattern = e.Word (codes "{x}"); zip = true; named = record { name = codes "x"; value = e.Name (codes "c") } ∷ [] }))) (s.Newline 23 ∷ [])
unfolding expect plain valued argument arguments_from arguments expanded named term terms_from terms level expr
an_expand = refl
