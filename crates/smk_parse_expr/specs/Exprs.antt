-- Expressions.
use Rattle.std.specs.Prelude.{ℕ, zero, suc, Bool, true, false, not, ◌&&◌, if◌then◌else◌, List, [], ◌∷◌, ◌++◌, length, Option, Some, None, Ok, Err, codes}
use Rattle.std.specs.List.{list_any}
use Rattle.std.specs.Str.{bytes_eq}
use Rattle.smk_parse_expr.specs.declared.symbol.Symbol.{Symbol}
use Rattle.smk_parse_expr.specs.declared.symbol.Symbol.TheVariants as s
use Rattle.smk_parse_expr.specs.declared.symbol.Sign.TheVariants.{Comma, Equals, Open, Close, OpenSquare, CloseSquare, Point, Plus}
use Rattle.smk_parse_expr.specs.declared.symbol.ParseFault.TheVariants.{Unsupported, Doubled}
use Rattle.smk_parse_expr.specs.declared.symbol.Keyword.{Keyword}
use Rattle.smk_parse_expr.specs.declared.symbol.Keyword.TheVariants as word
use Rattle.smk_parse_tree.specs.declared.syntax.Expr.{Expr}
use Rattle.smk_parse_tree.specs.declared.syntax.Expr.TheVariants as e
use Rattle.smk_parse_tree.specs.declared.syntax.ItemForm.{ItemForm}
use Rattle.smk_parse_tree.specs.declared.syntax.ExpandForm.{roll-ExpandForm}
use Rattle.smk_parse_tree.specs.declared.syntax.OutputPick.{OutputPick}
use Rattle.smk_parse_tree.specs.declared.syntax.OutputPick.TheVariants as pick
use Rattle.smk_parse_expr.specs.Symbols.{Bytes, Parser, ◌>>=◌, ◌>>◌, ◌<$>◌, pure, refuse, sees, next, eat, expect, word_of, goes_on}

-- texts that follow each other are one
abbrev pub texts : Bytes → Parser Bytes
texts found (s.Text at t ∷ xs) = texts (found ++ t) xs
texts found xs = Ok (found, xs)

unfoldable pub text : Parser Bytes
text (s.Text at t ∷ xs) = Ok (t, xs)
text xs = refuse xs

-- `[text]` any number of times. The number bounds the turns.
unfoldable pub keys_from : ℕ → List Bytes → Parser (List Bytes)
keys_from zero found = refuse
keys_from (suc n) found = do
  more ← eat OpenSquare
  if more then (do key ← text; expect CloseSquare; keys_from n (found ++ key ∷ [])) else pure found

unfoldable pub keys : Parser (List Bytes)
keys i = keys_from (length i) [] i

unfoldable pub name : Parser Bytes
name (s.Name at w ∷ xs) = Ok (w, xs)
name xs = refuse xs

unfoldable pub number : Parser ℕ
number (s.Number at n ∷ xs) = Ok (n, xs)
number xs = refuse xs

-- this word
unfoldable pub spelled : Bytes → Parser (Unit {0})
spelled k (s.Name at w ∷ xs) = if bytes_eq w k then Ok (tt, xs) else refuse (s.Name at w ∷ xs)
spelled k xs = refuse xs

unfoldable pub by_name : Parser OutputPick
by_name = pick.Named <$> name

unfoldable pub by_place : Parser OutputPick
by_place = do
  n ← number
  expect CloseSquare
  pure (pick.At n)

-- `.name`, `[number]` or neither
unfoldable pub picked : Parser OutputPick
picked i =
    if sees Point i then by_name (next i)
    else (if sees OpenSquare i then by_place (next i) else Ok (pick.All, i))

-- what follows `rules`
unfoldable pub outputs : Parser Expr
outputs = do
  expect Point
  rule ← name
  expect Point
  spelled (codes "output")
  e.Outputs rule <$> picked

-- what follows `from_checkpoint`
unfoldable pub gathered : Parser Expr
gathered = do
  expect Open
  checkpoint ← name
  expect Comma
  listed ← text
  expect Comma
  wanted ← text
  expect Close
  pure (e.FromCheckpoint checkpoint listed wanted)

unfoldable pub plain : ℕ → Bytes → Parser Expr
plain at w xs = if goes_on xs then Err (Unsupported at) else Ok (e.Name w, xs)

abbrev pub summed : List Expr → Expr
summed [] = e.Sum []
summed (x ∷ []) = x
summed (x ∷ y ∷ xs) = e.Sum (x ∷ y ∷ xs)

-- ---- values under names

abbrev pub has_name : List ItemForm → Bytes → Bool
has_name items w = list_any (λ i. bytes_eq i.name w) items

-- the word `zip`, which is no name of a value
abbrev pub is_zip : List Symbol → Bool
is_zip (s.Name at w ∷ xs) = bytes_eq w (codes "zip") && not (sees Equals xs)
is_zip xs = false

-- a comma and `zip`, if they come next
abbrev pub zip : Parser Bool
zip i = if sees Comma i && is_zip (next i) then Ok (true, next (next i)) else Ok (false, i)

-- ---- within brackets

-- `inner` reads an expression within a bracket, where one more bracket may open.
module _ (inner : Option (Parser Expr)) where
  abbrev pub opened_by : {A : Type 0} → Option (Parser Expr) → (Parser Expr → Parser A) → Parser A
  opened_by None body = refuse
  opened_by (Some p) body = λ i. body p (next i)

  abbrev pub opened : {A : Type 0} → (Parser Expr → Parser A) → Parser A
  opened body = opened_by inner body

-- what stands in a bracket, for which `p` reads an expression
module _ (p : Parser Expr) where
  unfoldable pub closed : Parser Expr
  closed = do
    x ← p
    expect Close
    pure x

  -- expressions with commas between and maybe behind, up to the bracket
  unfoldable pub listed_from : ℕ → List Expr → Parser (List Expr)
  listed_from zero found = refuse
  listed_from (suc n) found = do
    ends ← eat CloseSquare
    if ends then pure found else (do
      x ← p
      more ← eat Comma
      if more then listed_from n (found ++ x ∷ []) else (do expect CloseSquare; pure (found ++ x ∷ [])))

  unfoldable pub listed : Parser (List Expr)
  listed i = listed_from (length i) [] i

  unfoldable pub valued : Bytes → Parser ItemForm
  valued w = (λ value. record { name = w; value = value }) <$> p

  -- `name = expression`, where no name comes twice
  unfoldable pub argument : List ItemForm → Parser ItemForm
  argument found (s.Name at w ∷ xs) =
      if sees Equals xs then (if has_name found w then Err (Doubled at) else valued w (next xs)) else refuse (s.Name at w ∷ xs)
  argument found xs = refuse xs

  -- values under names, a comma before each and maybe behind, up to the bracket
  unfoldable pub arguments_from : ℕ → List ItemForm → Parser (List ItemForm)
  arguments_from zero found = refuse
  arguments_from (suc n) found = do
    more ← eat Comma
    ends ← eat Close
    if ends then pure found else (if more then (do x ← argument found; arguments_from n (found ++ x ∷ [])) else refuse)

  unfoldable pub arguments : Parser (List ItemForm)
  arguments i = arguments_from (length i) [] i

  unfoldable pub expanded : Parser Expr
  expanded = do
    pattern ← p
    pairs ← zip
    named ← arguments
    pure (e.Expand (roll-ExpandForm (record { pattern = pattern; zip = pairs; named = named })))

module _ (inner : Option (Parser Expr)) where
  unfoldable pub flagged : Bytes → Parser Expr
  flagged w = e.Flagged w <$> opened inner closed

  unfoldable pub many : Parser Expr
  many = opened inner (λ p. e.Many <$> listed p)

  abbrev pub by_word : ℕ → Bytes → Keyword → Parser Expr
  by_word at w word.True = pure (e.Truth true)
  by_word at w word.False = pure (e.Truth false)
  by_word at w word.Python = λ i. Err (Unsupported at)
  by_word at w word.Config = λ i. (if sees OpenSquare i then (e.Config <$> keys) i else plain at w i)
  by_word at w word.Rules = λ i. (if sees Point i then outputs i else plain at w i)
  by_word at w word.Flag = λ i. (if sees Open i then flagged w i else plain at w i)
  by_word at w word.Expand = λ i. (if sees Open i then opened inner expanded i else plain at w i)
  by_word at w word.FromCheckpoint = λ i. (if sees Open i then gathered i else plain at w i)
  by_word at w word.Other = plain at w

  unfoldable pub named : ℕ → Bytes → Parser Expr
  named at w = by_word at w (word_of w)

  unfoldable pub term : Parser Expr
  term (s.Text at t ∷ xs) = (e.Word <$> texts t) xs
  term (s.Number at n ∷ xs) = Ok (e.Number n, xs)
  term (s.Name at w ∷ xs) = named at w xs
  term (s.Sign at Open ∷ xs) = opened inner closed (s.Sign at Open ∷ xs)
  term (s.Sign at OpenSquare ∷ xs) = many (s.Sign at OpenSquare ∷ xs)
  term xs = refuse xs

  -- the terms after a first one, each behind a +
  unfoldable pub terms_from : ℕ → List Expr → Parser (List Expr)
  terms_from zero found = refuse
  terms_from (suc n) found = do
    more ← eat Plus
    if more then (do x ← term; terms_from n (found ++ x ∷ [])) else pure found

  unfoldable pub terms : Expr → Parser (List Expr)
  terms first i = terms_from (length i) (first ∷ []) i

  unfoldable pub level : Parser Expr
  level = do
    first ← term
    summed <$> terms first

-- with so many brackets within each other
unfoldable pub expr : ℕ → Parser Expr
expr zero = level None
expr (suc depth) = level (Some (expr depth))

unfoldable pub inner_of : ℕ → Option (Parser Expr)
inner_of zero = None
inner_of (suc depth) = Some (expr depth)

abbrev pub max_depth : ℕ
max_depth = 64
