-- The value of an expression in a scope.
use Rattle.std.specs.Prelude.{ℕ, false, List, [], ◌∷◌, ◌++◌, codes, Option, Some, None, Result, Ok, Err, if◌then◌else◌}
use Rattle.std.specs.Str.{bytes_eq}
use Rattle.smk_parse_tree.specs.declared.syntax.Expr.{Expr}
use Rattle.smk_parse_tree.specs.declared.syntax.OutputPick.{OutputPick}
use Rattle.smk_parse_tree.specs.declared.syntax.Expr.TheOpen.{Expr-F, ItemForm-F, ExpandForm-F}
use Rattle.smk_parse_tree.specs.declared.syntax.Expr.TheFolds as folds
use Rattle.smk_parse_tree.specs.declared.syntax.ItemForm.{ItemForm}
use Rattle.smk_parse_tree.specs.declared.syntax.ExpandForm.{ExpandForm}
use Rattle.smk_eval_values.specs.declared.evaluating.Call.{Call}
use Rattle.smk_eval_values.specs.declared.value.Value.{Value}
use Rattle.smk_eval_values.specs.declared.value.Value.TheVariants.{Word, Number, Truth, Many, Gathered as IsGathered}
use Rattle.smk_eval_values.specs.declared.fault.ValueFault.{ValueFault}
use Rattle.smk_eval_values.specs.declared.fault.ValueFault.TheVariants.{UnknownName}
use Rattle.smk_eval_values.specs.Values.{plus, bad_sum, list_items, flag, patterns, choice_values, truth, expansion}

abbrev pub Valued : Type 0
Valued = Result Value ValueFault

abbrev pub and_then : {A B : Type 0} → Result A ValueFault → (A → Result B ValueFault) → Result B ValueFault
and_then (Ok a) next = next a
and_then (Err fault) next = Err fault

-- What names stand for where an expression stands: constants, the outputs of the rules above, and the configuration.
pub record Scope : Type 0 where
  pub constant : List ℕ → Option Value
  pub outputs : List ℕ → OutputPick → Valued
  pub config : List (List ℕ) → Valued

-- the value of this name, where it has one
abbrev pub known : List ℕ → Option Value → Valued
known n (Some v) = Ok v
known n None = Err (UnknownName n)

-- Parts in order, each taken into what is made so far once it has a value. The first fault is told.
abbrev pub each : {A X : Type 0} → (X → Valued) → (A → X → Value → Result A ValueFault) → A → List X → Result A ValueFault
each value take made [] = Ok made
each value take made (x ∷ xs) = and_then (value x) (λ v. and_then (take made x v) (λ now. each value take now xs))

-- texts with those that a value adds to a list, in a directive of this word
abbrev pub with_items : List ℕ → List (List ℕ) → Value → Result (List (List ℕ)) ValueFault
with_items word made v = and_then (list_items word v) (λ ts. Ok (made ++ ts))

-- a list of these values: lists in it are flattened
abbrev pub listed : List ℕ → List Valued → Result (List (List ℕ)) ValueFault
listed word = each (λ (r : Valued). r) (λ made _ v. with_items word made v) []

-- a sum, term by term
abbrev pub summed : List Valued → Valued
summed [] = bad_sum
summed (r ∷ rs) = and_then r (λ v. each (λ (r : Valued). r) (λ sum _ w. plus sum w) v rs)

-- ## Calls of `expand`

-- a name of the call
pub record Named : Type 0 where
  pub name : List ℕ
  pub value : Valued

-- what the names of a call say, with one more name
abbrev pub with_name : Call → List ℕ → Value → Result Call ValueFault
with_name c n v =
    if bytes_eq n (codes "allow_missing") then and_then (truth v) (λ b. Ok (record c { missing = b }))
    else and_then (choice_values v) (λ ts. Ok (record c { choices = c.choices ++ record { name = n; values = ts } ∷ [] }))

abbrev pub names : List Named → Result Call ValueFault
names = each (λ (i : Named). i.value) (λ c i v. with_name c i.name v) (record { choices = []; missing = false })

abbrev pub expand_step : ExpandForm-F Valued Valued Named → Valued
expand_step f = and_then f.pattern (λ p. and_then (patterns p) (λ ps. and_then (names f.named) (λ c. expansion f.zip c.missing c.choices ps)))

abbrev pub item_step : ItemForm-F Valued Valued Named → Named
item_step i = record { name = i.name; value = i.value }

-- ## Expressions

abbrev pub step : List ℕ → Scope → Expr-F Valued Valued Named → Valued
step word s (Expr-F.Word t) = Ok (Word t)
step word s (Expr-F.Number n) = Ok (Number n)
step word s (Expr-F.Truth b) = Ok (Truth b)
step word s (Expr-F.Name t) = known t (s.constant t)
step word s (Expr-F.Config keys) = s.config keys
step word s (Expr-F.Outputs rule pick) = s.outputs rule pick
step word s (Expr-F.Many rs) = and_then (listed word rs) (λ ts. Ok (Many ts))
step word s (Expr-F.Sum rs) = summed rs
step word s (Expr-F.Flagged w r) = and_then r (flag w)
step word s (Expr-F.Expand r) = r
step word s (Expr-F.FromCheckpoint n a b) = Ok (IsGathered (record { checkpoint = n; listed = a; wanted = b }))

-- the value of an expression in a directive or statement of this word, or its first fault
abbrev pub value_in : List ℕ → Scope → Expr → Valued
value_in word s = folds.fold-Expr Valued Valued Named (step word s) expand_step item_step

-- the same of a name with its value, and of a call of `expand`
abbrev pub named_in : List ℕ → Scope → ItemForm → Named
named_in word s = folds.fold-ItemForm Valued Valued Named (step word s) expand_step item_step

abbrev pub called_in : List ℕ → Scope → ExpandForm → Valued
called_in word s = folds.fold-ExpandForm Valued Valued Named (step word s) expand_step item_step
