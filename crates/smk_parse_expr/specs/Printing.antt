-- The symbols that print expressions and items. Places don't count, and are 0.
use Rattle.std.specs.Prelude.{Bool, true, false, if◌then◌else◌, List, [], ◌∷◌, ◌++◌, codes}
use Rattle.smk_parse_expr.specs.declared.symbol.Symbol.{Symbol}
use Rattle.smk_parse_expr.specs.declared.symbol.Symbol.TheVariants as s
use Rattle.smk_parse_expr.specs.declared.symbol.Sign.TheVariants.{Comma, Equals, Open, Close, OpenSquare, CloseSquare, Point, Plus}
use Rattle.smk_parse_tree.specs.declared.syntax.Expr.{Expr}
use Rattle.smk_parse_tree.specs.declared.syntax.ItemForm.{ItemForm}
use Rattle.smk_parse_tree.specs.declared.syntax.OutputPick.{OutputPick}
use Rattle.smk_parse_tree.specs.declared.syntax.OutputPick.TheVariants as pick
use Rattle.smk_parse_tree.specs.declared.syntax.Expr.TheOpen.{Expr-F, ExpandForm-F, ItemForm-F}
use Rattle.smk_parse_tree.specs.declared.syntax.Expr.TheFolds.{fold-Expr}
use Rattle.smk_parse_expr.specs.Symbols.{Bytes}

pub record Printed : Type 0 where
  pub symbols : List Symbol
  -- a sum stands in parentheses within a sum
  pub is_sum : Bool

pub record PrintedItem : Type 0 where
  pub name : Bytes
  pub symbols : List Symbol

abbrev pub as_term : Printed → List Symbol
as_term p = if p.is_sum then s.Sign 0 Open ∷ (p.symbols ++ s.Sign 0 Close ∷ []) else p.symbols

abbrev pub printed_keys : List Bytes → List Symbol
printed_keys [] = []
printed_keys (k ∷ ks) = s.Sign 0 OpenSquare ∷ s.Text 0 k ∷ s.Sign 0 CloseSquare ∷ printed_keys ks

abbrev pub printed_list : List Printed → List Symbol
printed_list [] = s.Sign 0 CloseSquare ∷ []
printed_list (p ∷ ps) = p.symbols ++ (s.Sign 0 Comma ∷ printed_list ps)

abbrev pub printed_tail : List Printed → List Symbol
printed_tail [] = []
printed_tail (p ∷ ps) = s.Sign 0 Plus ∷ (as_term p ++ printed_tail ps)

abbrev pub printed_sum : List Printed → List Symbol
printed_sum [] = []
printed_sum (p ∷ ps) = as_term p ++ printed_tail ps

abbrev pub printed_pick : OutputPick → List Symbol
printed_pick pick.All = []
printed_pick (pick.Named w) = s.Sign 0 Point ∷ s.Name 0 w ∷ []
printed_pick (pick.At n) = s.Sign 0 OpenSquare ∷ s.Number 0 n ∷ s.Sign 0 CloseSquare ∷ []

abbrev pub printed_zip : Bool → List Symbol
printed_zip true = s.Sign 0 Comma ∷ s.Name 0 (codes "zip") ∷ []
printed_zip false = []

abbrev pub printed_arguments : List PrintedItem → List Symbol
printed_arguments [] = s.Sign 0 Close ∷ []
printed_arguments (i ∷ is) = s.Sign 0 Comma ∷ s.Name 0 i.name ∷ s.Sign 0 Equals ∷ (i.symbols ++ printed_arguments is)

abbrev pub plain : List Symbol → Printed
plain xs = record { symbols = xs; is_sum = false }

-- one layer, over what is printed of the parts
abbrev pub expr_step : Expr-F Printed (List Symbol) PrintedItem → Printed
expr_step (Expr-F.Word t) = plain (s.Text 0 t ∷ [])
expr_step (Expr-F.Number n) = plain (s.Number 0 n ∷ [])
expr_step (Expr-F.Truth b) = plain (s.Name 0 (if b then codes "True" else codes "False") ∷ [])
expr_step (Expr-F.Name w) = plain (s.Name 0 w ∷ [])
expr_step (Expr-F.Config ks) = plain (s.Name 0 (codes "config") ∷ printed_keys ks)
expr_step (Expr-F.Outputs rule p) = plain (s.Name 0 (codes "rules") ∷ s.Sign 0 Point ∷ s.Name 0 rule ∷ s.Sign 0 Point ∷ s.Name 0 (codes "output") ∷ printed_pick p)
expr_step (Expr-F.Many ps) = plain (s.Sign 0 OpenSquare ∷ printed_list ps)
expr_step (Expr-F.Sum ps) = record { symbols = printed_sum ps; is_sum = true }
expr_step (Expr-F.Flagged w p) = plain (s.Name 0 w ∷ s.Sign 0 Open ∷ (p.symbols ++ s.Sign 0 Close ∷ []))
expr_step (Expr-F.Expand xs) = plain (s.Name 0 (codes "expand") ∷ s.Sign 0 Open ∷ xs)
expr_step (Expr-F.FromCheckpoint name listed wanted) =
    plain (s.Name 0 (codes "from_checkpoint") ∷ s.Sign 0 Open ∷ s.Name 0 name ∷ s.Sign 0 Comma ∷ s.Text 0 listed ∷ s.Sign 0 Comma ∷ s.Text 0 wanted ∷ s.Sign 0 Close ∷ [])

abbrev pub expand_step : ExpandForm-F Printed (List Symbol) PrintedItem → List Symbol
expand_step f = f.pattern.symbols ++ (printed_zip f.zip ++ printed_arguments f.named)

abbrev pub item_step : ItemForm-F Printed (List Symbol) PrintedItem → PrintedItem
item_step i = record { name = i.name; symbols = i.value.symbols }

abbrev pub printed : Expr → Printed
printed = fold-Expr Printed (List Symbol) PrintedItem expr_step expand_step item_step

-- ---- items

-- a positional item has no name
abbrev pub under_name : Bytes → List Symbol → List Symbol
under_name [] xs = xs
under_name (b ∷ w) xs = s.Name 0 (b ∷ w) ∷ s.Sign 0 Equals ∷ xs

abbrev pub printed_item : ItemForm → List Symbol
printed_item i = under_name i.name (printed i.value).symbols

abbrev pub printed_items : List ItemForm → List Symbol
printed_items [] = []
printed_items (x ∷ []) = printed_item x
printed_items (x ∷ y ∷ items) = printed_item x ++ (s.Sign 0 Comma ∷ printed_items (y ∷ items))
