-- Items: `[ NAME "=" ] expr`, with commas between and maybe behind.
use Rattle.std.specs.Prelude.{ℕ, zero, suc, Bool, not, ◌&&◌, if◌then◌else◌, ◌==◌, List, [], ◌∷◌, ◌++◌, length, Ok}
use Rattle.std.specs.List.{list_any}
use Rattle.smk_parse_expr.specs.declared.symbol.Symbol.TheVariants as s
use Rattle.smk_parse_expr.specs.declared.symbol.Sign.TheVariants.{Comma, Equals}
use Rattle.smk_parse_tree.specs.declared.syntax.ItemForm.{ItemForm}
use Rattle.smk_parse_expr.specs.Symbols.{Parser, ◌>>=◌, ◌>>◌, pure, refuse, sees, eat, end, at_end}
use Rattle.smk_parse_expr.specs.Exprs.{expr, max_depth, valued, argument}

abbrev pub has_named : List ItemForm → Bool
has_named items = list_any (λ i. not (length i.name == 0)) items

abbrev pub positional : List ItemForm → Parser ItemForm
positional found = if has_named found then refuse else valued (expr max_depth) []

-- no name comes twice, and no positional item after a named one
unfoldable pub item : List ItemForm → Parser ItemForm
item found (s.Name at w ∷ xs) = if sees Equals xs then argument (expr max_depth) found (s.Name at w ∷ xs) else positional found (s.Name at w ∷ xs)
item found xs = positional found xs

-- takes a comma, and says whether anything stands after it
abbrev pub another : Parser Bool
another = do
  more ← eat Comma
  λ i. Ok (more && not (at_end i), i)

unfoldable pub items_from : ℕ → List ItemForm → Parser (List ItemForm)
items_from zero found = refuse
items_from (suc n) found = do
  next ← item found
  more ← another
  if more then items_from n (found ++ next ∷ []) else (do end; pure (found ++ next ∷ []))

unfoldable pub items : Parser (List ItemForm)
items i = items_from (length i) [] i
