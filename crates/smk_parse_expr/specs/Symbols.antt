-- Symbols, and the steps that each rule is made of.
use Rattle.std.specs.Prelude.{◌≡◌, ◌≢◌, ℕ, Bool, true, false, not, ◌||◌, ◌&&◌, if◌then◌else◌, List, [], ◌∷◌, Result, Ok, Err, codes}
use Rattle.std.specs.Str.{bytes_eq}
use denote.Enum.Bare.{sameb}
use Rattle.smk_parse_expr.specs.contracts.symbol.Sign.{the_type}
use Rattle.smk_parse_expr.specs.declared.symbol.Sign.{Sign}
use Rattle.smk_parse_expr.specs.declared.symbol.Sign.TheVariants.{Open, Point}
use Rattle.smk_parse_expr.specs.declared.symbol.Symbol.{Symbol}
use Rattle.smk_parse_expr.specs.declared.symbol.Symbol.TheVariants as s
use Rattle.smk_parse_expr.specs.declared.symbol.ParseFault.{ParseFault}
use Rattle.smk_parse_expr.specs.declared.symbol.ParseFault.TheVariants.{Unexpected, Unsupported, OutOfMemory}
use Rattle.smk_parse_expr.specs.declared.symbol.Keyword.{Keyword}
use Rattle.smk_parse_expr.specs.declared.symbol.Keyword.TheVariants as word

abbrev pub Bytes : Type 0
Bytes = List ℕ

abbrev pub place_of : Symbol → ℕ
place_of (s.Name at w) = at
place_of (s.Number at n) = at
place_of (s.Text at t) = at
place_of (s.Sign at k) = at
place_of (s.Newline at) = at
place_of (s.Indent at) = at
place_of (s.Dedent at) = at

abbrev pub is_one_of : Bytes → List Bytes → Bool
is_one_of w [] = false
is_one_of w (k ∷ ks) = bytes_eq w k || is_one_of w ks

abbrev pub word_of : Bytes → Keyword
word_of w =
    if bytes_eq w (codes "True") then word.True
    else (if bytes_eq w (codes "False") then word.False
    else (if bytes_eq w (codes "config") then word.Config
    else (if bytes_eq w (codes "rules") then word.Rules
    else (if is_one_of w (codes "temp" ∷ codes "protected" ∷ codes "directory" ∷ []) then word.Flag
    else (if bytes_eq w (codes "expand") then word.Expand
    else (if bytes_eq w (codes "from_checkpoint") then word.FromCheckpoint
    else (if is_one_of w (codes "lambda" ∷ codes "if" ∷ codes "for" ∷ codes "not" ∷ codes "and" ∷ codes "or" ∷ []) then word.Python else word.Other)))))))

-- ---- parsers: a value and the symbols after it, or the first fault. The last symbol ends the statement or directive,
-- and is never read.

abbrev pub Outcome : Type 0 → Type 0
Outcome A = Result (A × List Symbol) ParseFault

abbrev pub Parser : Type 0 → Type 0
Parser A = List Symbol → Outcome A

abbrev pub and_then : {A B : Type 0} → Outcome A → (A → Parser B) → Outcome B
and_then (Ok p) f = f p.0 p.1
and_then (Err e) f = Err e

infixl 10 ◌>>=◌
abbrev pub ◌>>=◌ : {A B : Type 0} → Parser A → (A → Parser B) → Parser B
p >>= f = λ i. and_then (p i) f

infixl 10 ◌>>◌
abbrev pub ◌>>◌ : {A B : Type 0} → Parser A → Parser B → Parser B
p >> q = p >>= (λ _. q)

abbrev pub pure : {A : Type 0} → A → Parser A
pure a = λ i. Ok (a, i)

infixr 11 ◌<$>◌
abbrev pub ◌<$>◌ : {A B : Type 0} → (A → B) → Parser A → Parser B
f <$> p = p >>= (λ x. pure (f x))

-- the place of the next symbol
abbrev pub here : List Symbol → ℕ
here [] = 0
here (x ∷ xs) = place_of x

abbrev pub same_sign : Sign → Sign → Bool
same_sign = sameb the_type

abbrev pub sees : Sign → List Symbol → Bool
sees k (s.Sign at l ∷ xs) = same_sign l k
sees k xs = false

abbrev pub next : List Symbol → List Symbol
next [] = []
next (x ∷ xs) = xs

-- what makes a call, a text with a prefix or a method of the name before it
abbrev pub goes_on : List Symbol → Bool
goes_on (s.Text at t ∷ xs) = true
goes_on xs = if sees Open xs then true else sees Point xs

-- Whether the word before these symbols is of Python and not of this language: one of the six words, or a name that
-- goes on and doesn't begin a form of the language.
abbrev pub is_unsupported : Keyword → List Symbol → Bool
is_unsupported word.True xs = false
is_unsupported word.False xs = false
is_unsupported word.Config xs = goes_on xs
is_unsupported word.Rules xs = goes_on xs && not (sees Point xs)
is_unsupported word.Flag xs = goes_on xs && not (sees Open xs)
is_unsupported word.Expand xs = goes_on xs && not (sees Open xs)
is_unsupported word.FromCheckpoint xs = goes_on xs && not (sees Open xs)
is_unsupported word.Python xs = true
is_unsupported word.Other xs = goes_on xs

-- why an expression doesn't go on with these symbols
abbrev pub refusal : List Symbol → ParseFault
refusal (s.Name at w ∷ xs) = if is_unsupported (word_of w) xs then Unsupported at else Unexpected at
refusal xs = Unexpected (here xs)

abbrev pub refuse : {A : Type 0} → Parser A
refuse = λ i. Err (refusal i)

-- takes this sign, if it comes next
abbrev pub eat : Sign → Parser Bool
eat k = λ i. Ok (sees k i, if sees k i then next i else i)

unfoldable pub expect : Sign → Parser (Unit {0})
expect k = λ i. if sees k i then Ok (tt, next i) else refuse i

abbrev pub at_end : List Symbol → Bool
at_end [] = true
at_end (s.Newline at ∷ xs) = true
at_end (s.Indent at ∷ xs) = true
at_end (s.Dedent at ∷ xs) = true
at_end (s.Name at w ∷ xs) = false
at_end (s.Number at n ∷ xs) = false
at_end (s.Text at t ∷ xs) = false
at_end (s.Sign at k ∷ xs) = false

unfoldable pub end : Parser (Unit {0})
end i = if at_end i then Ok (tt, i) else refuse i

-- what a function that parses ensures: the parser's outcome, unless memory fails
abbrev pub Reads : {A : Type 0} → Outcome A → Result A ParseFault → List Symbol → Type 0
Reads outcome (Ok a) new = outcome ≡ Ok (a, new)
Reads outcome (Err e) new = e ≢ OutOfMemory → outcome ≡ Err e
