-- The grammar of expressions and items, as a relation between symbols and what they stand for. `depth` is how many
-- brackets may stand within each other.
use Rattle.std.specs.Prelude.{◌≡◌, ◌≢◌, ℕ, zero, suc, ◌≤◌, Bool, true, false, List, [], ◌∷◌, ◌++◌, length, ◌⊎◌, codes}
use Rattle.smk_parse_expr.specs.declared.symbol.Symbol.{Symbol}
use Rattle.smk_parse_expr.specs.declared.symbol.Symbol.TheVariants as s
use Rattle.smk_parse_expr.specs.declared.symbol.Sign.TheVariants.{Comma, Equals, Open, Close, OpenSquare, CloseSquare, Point, Plus}
use Rattle.smk_parse_expr.specs.declared.symbol.Keyword.{Keyword}
use Rattle.smk_parse_expr.specs.declared.symbol.Keyword.TheVariants as word
use Rattle.smk_parse_tree.specs.declared.syntax.Expr.{Expr}
use Rattle.smk_parse_tree.specs.declared.syntax.Expr.TheVariants as e
use Rattle.smk_parse_tree.specs.declared.syntax.ItemForm.{ItemForm}
use Rattle.smk_parse_tree.specs.declared.syntax.ExpandForm.{roll-ExpandForm}
use Rattle.smk_parse_tree.specs.declared.syntax.OutputPick.{OutputPick}
use Rattle.smk_parse_tree.specs.declared.syntax.OutputPick.TheVariants as pick
use Rattle.smk_parse_expr.specs.Symbols.{Bytes, word_of, sees, goes_on, at_end}
use Rattle.smk_parse_expr.specs.Exprs.{has_name, max_depth}
use Rattle.smk_parse_expr.specs.Items.{has_named}

-- texts that follow `t` and make `u` of it
abbrev pub IsTexts : Bytes → List Symbol → Bytes → Type 0
IsTexts t [] u = t ≡ u
IsTexts t (s.Text at v ∷ xs) u = IsTexts (t ++ v) xs u
IsTexts t (s.Name at w ∷ xs) u = ⊥
IsTexts t (s.Number at n ∷ xs) u = ⊥
IsTexts t (s.Sign at k ∷ xs) u = ⊥
IsTexts t (s.Newline at ∷ xs) u = ⊥
IsTexts t (s.Indent at ∷ xs) u = ⊥
IsTexts t (s.Dedent at ∷ xs) u = ⊥

-- `[text]` for each key
abbrev pub IsKeys : List Bytes → List Symbol → Type 0
IsKeys [] xs = xs ≡ []
IsKeys (k ∷ ks) xs = (a b c : ℕ) × (ys : List Symbol) × (xs ≡ s.Sign a OpenSquare ∷ s.Text b k ∷ s.Sign c CloseSquare ∷ ys) × IsKeys ks ys

-- all words may be names but these
abbrev pub may_be_name : Keyword → Bool
may_be_name word.True = false
may_be_name word.False = false
may_be_name word.Python = false
may_be_name word.Config = true
may_be_name word.Rules = true
may_be_name word.Flag = true
may_be_name word.Expand = true
may_be_name word.FromCheckpoint = true
may_be_name word.Other = true

-- `.name`, `[number]` or neither
pub data IsPick : List Symbol → OutputPick → Type 0 where
  all : IsPick [] pick.All
  by_name : (a b : ℕ) (w : Bytes) → IsPick (s.Sign a Point ∷ s.Name b w ∷ []) (pick.Named w)
  by_place : (a b c n : ℕ) → IsPick (s.Sign a OpenSquare ∷ s.Number b n ∷ s.Sign c CloseSquare ∷ []) (pick.At n)

-- a comma and `zip`, or nothing
pub data IsZip : List Symbol → Bool → Type 0 where
  paired : (a b : ℕ) → IsZip (s.Sign a Comma ∷ s.Name b (codes "zip") ∷ []) true
  not_paired : IsZip [] false

abbrev pub Spelling : Type 1
Spelling = List Symbol → Expr → Type 0

-- expressions with commas between and maybe behind, and the bracket
abbrev pub IsListed : Spelling → List Expr → List Symbol → Type 0
IsListed Inner [] xs = (b : ℕ) × (xs ≡ s.Sign b CloseSquare ∷ [])
IsListed Inner (x ∷ es) xs =
    (ys zs : List Symbol) × (xs ≡ ys ++ zs) × Inner ys x
    × (((es ≡ []) × (b : ℕ) × (zs ≡ s.Sign b CloseSquare ∷ [])) ⊎ ((a : ℕ) × (ws : List Symbol) × (zs ≡ s.Sign a Comma ∷ ws) × IsListed Inner es ws))

-- the bracket, behind a comma or not
pub data IsClosing : List Symbol → Type 0 where
  alone : (b : ℕ) → IsClosing (s.Sign b Close ∷ [])
  behind_comma : (a b : ℕ) → IsClosing (s.Sign a Comma ∷ s.Sign b Close ∷ [])

-- values under names that neither an item of `found` has nor an earlier one of these, and the bracket
abbrev pub IsArguments : Spelling → List ItemForm → List ItemForm → List Symbol → Type 0
IsArguments Inner found [] xs = IsClosing xs
IsArguments Inner found (x ∷ items) xs =
    (a b c : ℕ) × (ys zs : List Symbol) × (xs ≡ s.Sign a Comma ∷ s.Name b x.name ∷ s.Sign c Equals ∷ (ys ++ zs))
    × (has_name found x.name ≡ false) × Inner ys x.value × IsArguments Inner (found ++ x ∷ []) items zs

-- What `Inner` spells stands in brackets, and `may_open` says whether a bracket may open.
pub data IsTerm (may_open : Bool) (Inner : Spelling) : List Symbol → Expr → Type 0 where
  a_text : (at : ℕ) (t u : Bytes) (xs : List Symbol) → IsTexts t xs u → IsTerm may_open Inner (s.Text at t ∷ xs) (e.Word u)
  a_number : (at n : ℕ) → IsTerm may_open Inner (s.Number at n ∷ []) (e.Number n)
  a_truth : (at : ℕ) (w : Bytes) → word_of w ≡ word.True → IsTerm may_open Inner (s.Name at w ∷ []) (e.Truth true)
  a_falsehood : (at : ℕ) (w : Bytes) → word_of w ≡ word.False → IsTerm may_open Inner (s.Name at w ∷ []) (e.Truth false)
  a_name : (at : ℕ) (w : Bytes) → may_be_name (word_of w) ≡ true → IsTerm may_open Inner (s.Name at w ∷ []) (e.Name w)
  a_key : (at : ℕ) (w k : Bytes) (ks : List Bytes) (xs : List Symbol) → word_of w ≡ word.Config → IsKeys (k ∷ ks) xs → IsTerm may_open Inner (s.Name at w ∷ xs) (e.Config (k ∷ ks))
  in_parentheses : (a b : ℕ) (xs : List Symbol) (x : Expr) → Inner xs x → IsTerm may_open Inner (s.Sign a Open ∷ (xs ++ s.Sign b Close ∷ [])) x
  a_flag : (at a b : ℕ) (w : Bytes) (xs : List Symbol) (x : Expr) → word_of w ≡ word.Flag → Inner xs x
      → IsTerm may_open Inner (s.Name at w ∷ s.Sign a Open ∷ (xs ++ s.Sign b Close ∷ [])) (e.Flagged w x)
  an_output : (at a b c d : ℕ) (w rule : Bytes) (p : OutputPick) (xs : List Symbol) → word_of w ≡ word.Rules → IsPick xs p
      → IsTerm may_open Inner (s.Name at w ∷ s.Sign a Point ∷ s.Name b rule ∷ s.Sign c Point ∷ s.Name d (codes "output") ∷ xs) (e.Outputs rule p)
  an_expand : (at a : ℕ) (w : Bytes) (x : Expr) (pairs : Bool) (items : List ItemForm) (xs ys zs : List Symbol) → word_of w ≡ word.Expand
      → Inner xs x → IsZip ys pairs → IsArguments Inner [] items zs
      → IsTerm may_open Inner (s.Name at w ∷ s.Sign a Open ∷ (xs ++ (ys ++ zs)))
      (e.Expand (roll-ExpandForm (record { pattern = x; zip = pairs; named = items })))
  of_checkpoint : (at a b c d f g h : ℕ) (w name listed wanted : Bytes) → word_of w ≡ word.FromCheckpoint
      → IsTerm may_open Inner
      (s.Name at w ∷ s.Sign a Open ∷ s.Name b name ∷ s.Sign c Comma ∷ s.Text d listed ∷ s.Sign f Comma ∷ s.Text g wanted ∷ s.Sign h Close ∷ [])
      (e.FromCheckpoint name listed wanted)
  a_list : (a : ℕ) (es : List Expr) (xs : List Symbol) → may_open ≡ true → IsListed Inner es xs → IsTerm may_open Inner (s.Sign a OpenSquare ∷ xs) (e.Many es)

-- a + and a term, for each of the terms
abbrev pub IsTail : Spelling → List Expr → List Symbol → Type 0
IsTail Term [] xs = xs ≡ []
IsTail Term (x ∷ es) xs = (a : ℕ) × (ys zs : List Symbol) × (xs ≡ s.Sign a Plus ∷ (ys ++ zs)) × Term ys x × IsTail Term es zs

pub data IsLevel (may_open : Bool) (Inner : Spelling) : List Symbol → Expr → Type 0 where
  one_term : (xs : List Symbol) (x : Expr) → IsTerm may_open Inner xs x → IsLevel may_open Inner xs x
  a_sum : (xs ys : List Symbol) (x y : Expr) (es : List Expr) → IsTerm may_open Inner xs x → IsTail (IsTerm may_open Inner) (y ∷ es) ys → IsLevel may_open Inner (xs ++ ys) (e.Sum (x ∷ y ∷ es))

abbrev pub IsExpr : ℕ → List Symbol → Expr → Type 0
IsExpr zero = IsLevel false (λ xs x. ⊥)
IsExpr (suc depth) = IsLevel true (IsExpr depth)

-- ---- items

-- A value alone, where no item of `found` has a name; or a value under a name that no item of `found` has.
pub data IsItem (found : List ItemForm) : List Symbol → ItemForm → Type 0 where
  positional : (xs : List Symbol) (x : Expr) → has_named found ≡ false → IsExpr max_depth xs x → IsItem found xs (record { name = []; value = x })
  named : (a b : ℕ) (w : Bytes) (xs : List Symbol) (x : Expr) → w ≢ [] → has_name found w ≡ false → IsExpr max_depth xs x
      → IsItem found (s.Name a w ∷ s.Sign b Equals ∷ xs) (record { name = w; value = x })

-- nothing, or a comma
pub data IsLast : List Symbol → Type 0 where
  nothing : IsLast []
  a_comma : (a : ℕ) → IsLast (s.Sign a Comma ∷ [])

-- items behind those of `found`, one at least, with commas between and maybe behind
pub data IsItems : List ItemForm → List Symbol → List ItemForm → Type 0 where
  one_item : (found : List ItemForm) (xs ys : List Symbol) (x : ItemForm) → IsItem found xs x → IsLast ys → IsItems found (xs ++ ys) (x ∷ [])
  more_items : (found : List ItemForm) (a : ℕ) (xs ys : List Symbol) (x y : ItemForm) (items : List ItemForm) → IsItem found xs x
      → IsItems (found ++ x ∷ []) ys (y ∷ items) → IsItems found (xs ++ (s.Sign a Comma ∷ ys)) (x ∷ y ∷ items)

-- each name among the symbols has a letter
abbrev pub HasLetters : List Symbol → Type 0
HasLetters [] = Unit {0}
HasLetters (s.Name at w ∷ xs) = (w ≢ []) × HasLetters xs
HasLetters (s.Number at n ∷ xs) = HasLetters xs
HasLetters (s.Text at t ∷ xs) = HasLetters xs
HasLetters (s.Sign at k ∷ xs) = HasLetters xs
HasLetters (s.Newline at ∷ xs) = HasLetters xs
HasLetters (s.Indent at ∷ xs) = HasLetters xs
HasLetters (s.Dedent at ∷ xs) = HasLetters xs

-- ---- what may follow an expression

-- nothing follows that goes on with a term, and something follows
pub record Stops (rest : List Symbol) : Type 0 where
  pub ends : goes_on rest ≡ false
  pub no_key : sees OpenSquare rest ≡ false
  pub some : 1 ≤ length rest

pub record StopsSum (rest : List Symbol) : Type 0 where
  pub stops : Stops rest
  pub no_plus : sees Plus rest ≡ false

-- the end of a statement or directive
pub record StopsItems (rest : List Symbol) : Type 0 where
  pub ends : at_end rest ≡ true
  pub some : 1 ≤ length rest
