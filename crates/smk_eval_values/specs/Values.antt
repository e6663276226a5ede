-- What the signs of the language make of values.
use Rattle.std.specs.Prelude.{◌≡◌, ◌≢◌, ℕ, Bool, true, false, List, [], ◌∷◌, ◌++◌, codes, string_bytes, Option, Some, None, Result, Ok, Err}
use Rattle.std.specs.Fmt.{decimal}
use Rattle.smk_eval_values.specs.declared.value.Value.{Value}
use Rattle.smk_eval_values.specs.declared.value.Value.TheVariants.{Word, Number, Truth, Many, Flagged as HasFlags, Gathered as IsGathered}
use Rattle.smk_eval_values.specs.declared.sums.Total.{Total}
use Rattle.smk_eval_values.specs.declared.sums.Total.TheVariants.{Text as IsText, Value as IsValue}
use Rattle.smk_eval_values.specs.declared.fault.ValueFault.{ValueFault}
use Rattle.smk_eval_values.specs.declared.fault.ValueFault.TheVariants.{BadFlag, UnknownName, UnequalZip, TooMany, OutOfMemory}
use Rattle.smk_eval_values.specs.declared.expanding.ExpandFault.{ExpandFault}
use Rattle.smk_eval_values.specs.declared.expanding.ExpandFault.TheVariants as of_call
use Rattle.smk_eval_values.specs.declared.choices.Choices.{Choices}
use Rattle.smk_eval_values.specs.Expanding.{expanded}

-- The answer is what is meant, a value or a fault, unless memory was short.
abbrev pub Tells : {A : Type 0} → Result A ValueFault → Result A ValueFault → Type 0
Tells (Ok a) meant = meant ≡ Ok a
Tells (Err fault) meant = fault ≢ OutOfMemory → meant ≡ Err fault

abbrev pub truth_word : Bool → List ℕ
truth_word true = codes "True"
truth_word false = codes "False"

-- the text of a text, a number or a truth value
abbrev pub spelled : Value → Option (List ℕ)
spelled (Word t) = Some t
spelled (Number n) = Some (decimal n)
spelled (Truth b) = Some (truth_word b)
spelled (Many ts) = None
spelled (HasFlags f) = None
spelled (IsGathered g) = None

-- ## A sum: two texts give a text, and two lists a list

abbrev pub bad_sum : Result Value ValueFault
bad_sum = Err (BadFlag (codes "+"))

abbrev pub plus_text : List ℕ → Value → Result Value ValueFault
plus_text a (Word b) = Ok (Word (a ++ b))
plus_text a (Number n) = bad_sum
plus_text a (Truth b) = bad_sum
plus_text a (Many ts) = bad_sum
plus_text a (HasFlags f) = bad_sum
plus_text a (IsGathered g) = bad_sum

abbrev pub plus_list : List (List ℕ) → Value → Result Value ValueFault
plus_list a (Word b) = bad_sum
plus_list a (Number n) = bad_sum
plus_list a (Truth b) = bad_sum
plus_list a (Many b) = Ok (Many (a ++ b))
plus_list a (HasFlags f) = bad_sum
plus_list a (IsGathered g) = bad_sum

abbrev pub plus : Value → Value → Result Value ValueFault
plus (Word a) b = plus_text a b
plus (Number n) b = bad_sum
plus (Truth t) b = bad_sum
plus (Many a) b = plus_list a b
plus (HasFlags f) b = bad_sum
plus (IsGathered g) b = bad_sum

-- a sum so far
abbrev pub total : Total → Value
total (IsText s) = Word (string_bytes s)
total (IsValue v) = v

-- the sum that is meant, unless memory was short
abbrev pub TellsTotal : Result Total ValueFault → Result Value ValueFault → Type 0
TellsTotal (Ok t) meant = meant ≡ Ok (total t)
TellsTotal (Err fault) meant = fault ≢ OutOfMemory → meant ≡ Err fault

-- ## What a value adds to a list; `word` is that of the directive

-- the outermost flag
abbrev pub first_flag : List (List ℕ) → List ℕ
first_flag [] = []
first_flag (w ∷ ws) = w

abbrev pub list_items : List ℕ → Value → Result (List (List ℕ)) ValueFault
list_items word (Word t) = Ok (t ∷ [])
list_items word (Number n) = Ok (decimal n ∷ [])
list_items word (Truth b) = Ok (truth_word b ∷ [])
list_items word (Many ts) = Ok ts
list_items word (HasFlags f) = Err (BadFlag (first_flag f.flags))
list_items word (IsGathered g) = Err (BadFlag word)

-- ## A value with one flag more

abbrev pub flag : List ℕ → Value → Result Value ValueFault
flag w (Word t) = Ok (HasFlags (record { flags = w ∷ []; many = false; texts = t ∷ [] }))
flag w (Number n) = Err (BadFlag w)
flag w (Truth b) = Err (BadFlag w)
flag w (Many ts) = Ok (HasFlags (record { flags = w ∷ []; many = true; texts = ts }))
flag w (HasFlags f) = Ok (HasFlags (record f { flags = w ∷ f.flags }))
flag w (IsGathered g) = Err (BadFlag w)

-- ## The patterns of a call of `expand`

abbrev pub patterns : Value → Result (List (List ℕ)) ValueFault
patterns (Word t) = Ok (t ∷ [])
patterns (Number n) = Err (BadFlag (codes "expand"))
patterns (Truth b) = Err (BadFlag (codes "expand"))
patterns (Many ts) = Ok ts
patterns (HasFlags f) = Err (BadFlag (codes "expand"))
patterns (IsGathered g) = Err (BadFlag (codes "expand"))

-- the values of a name in such a call
abbrev pub choice_values : Value → Result (List (List ℕ)) ValueFault
choice_values (Word t) = Ok (t ∷ [])
choice_values (Number n) = Ok (decimal n ∷ [])
choice_values (Truth b) = Ok (truth_word b ∷ [])
choice_values (Many ts) = Ok ts
choice_values (HasFlags f) = Err (BadFlag (codes "expand"))
choice_values (IsGathered g) = Err (BadFlag (codes "expand"))

-- the value of `allow_missing` in such a call
abbrev pub truth : Value → Result Bool ValueFault
truth (Word t) = Err (BadFlag (codes "expand"))
truth (Number n) = Err (BadFlag (codes "expand"))
truth (Truth b) = Ok b
truth (Many ts) = Err (BadFlag (codes "expand"))
truth (HasFlags f) = Err (BadFlag (codes "expand"))
truth (IsGathered g) = Err (BadFlag (codes "expand"))

abbrev pub of_expand : ExpandFault → ValueFault
of_expand (of_call.UnknownName n) = UnknownName n
of_expand of_call.UnequalZip = UnequalZip
of_expand of_call.TooMany = TooMany
of_expand of_call.OutOfMemory = OutOfMemory

abbrev pub as_list : Result (List (List ℕ)) ExpandFault → Result Value ValueFault
as_list (Ok ts) = Ok (Many ts)
as_list (Err fault) = Err (of_expand fault)

-- the list that such a call gives
abbrev pub expansion : Bool → Bool → List Choices → List (List ℕ) → Result Value ValueFault
expansion zip missing choices ps = as_list (expanded zip missing choices [] ps)
