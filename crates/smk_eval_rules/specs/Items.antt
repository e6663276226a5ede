-- What the items of a directive stand for.
use Rattle.std.specs.Prelude.{ℕ, Bool, List, [], ◌∷◌, ◌++◌, map, nat_le, ◌&&◌, codes, bytes_eq, if◌then◌else◌, Option, Some, None, Result, Ok, Err}
use Rattle.smk_base.specs.declared.tree.Pair.{Pair}
use Rattle.smk_world.specs.declared.recipe.Values.{Values}
use Rattle.smk_lex.specs.Pieces.{number_of}
use Rattle.smk_eval_values.specs.declared.value.Value.{Value}
use Rattle.smk_eval_values.specs.declared.value.Value.TheVariants.{Word, Number, Truth, Many, Flagged as HasFlags, Gathered as IsGathered}
use Rattle.smk_eval_values.specs.declared.fault.ValueFault.{ValueFault}
use Rattle.smk_eval_values.specs.declared.fault.ValueFault.TheVariants.{BadFlag}
use Rattle.smk_eval_values.specs.Values.{first_flag, list_items}
use Rattle.smk_eval_values.specs.Expressions.{Valued, Named, and_then, each}
use Rattle.smk_flow.specs.declared.rule.InPart.{InPart}
use Rattle.smk_flow.specs.declared.rule.OutPart.{OutPart}
use Rattle.smk_flow.specs.declared.rule.Flag.{Flag}
use Rattle.smk_flow.specs.declared.rule.Flag.TheVariants.{Temp, Protected, Folder}
use Rattle.smk_eval_rules.specs.declared.resources.Resources.{Resources}

abbrev pub bad : {A : Type 0} → List ℕ → Result A ValueFault
bad word = Err (BadFlag word)

-- the word of a value that doesn't stand in a directive: that of its outermost flag, where it has one, else that of the directive
abbrev pub refused_word : List ℕ → Value → List ℕ
refused_word word (HasFlags f) = first_flag f.flags
refused_word word (Word t) = word
refused_word word (Number n) = word
refused_word word (Truth b) = word
refused_word word (Many ts) = word
refused_word word (IsGathered g) = word

abbrev pub refused : {A : Type 0} → List ℕ → Value → Result A ValueFault
refused word v = bad (refused_word word v)

-- what a value is, or that it doesn't stand there
abbrev pub or_refused : {A : Type 0} → List ℕ → Value → Option A → Result A ValueFault
or_refused word v (Some a) = Ok a
or_refused word v None = refused word v

-- ## What values are

-- one text
abbrev pub text_of : Value → Option (List ℕ)
text_of (Word t) = Some t
text_of (Number n) = None
text_of (Truth b) = None
text_of (Many ts) = None
text_of (HasFlags f) = None
text_of (IsGathered g) = None

-- a text, or a list of texts
abbrev pub texts_of : Value → Option (List (List ℕ))
texts_of (Word t) = Some (t ∷ [])
texts_of (Number n) = None
texts_of (Truth b) = None
texts_of (Many ts) = Some ts
texts_of (HasFlags f) = None
texts_of (IsGathered g) = None

abbrev pub truth_of : Value → Option Bool
truth_of (Word t) = None
truth_of (Number n) = None
truth_of (Truth b) = Some b
truth_of (Many ts) = None
truth_of (HasFlags f) = None
truth_of (IsGathered g) = None

-- a number; a text that is the spelling of a number counts as it
abbrev pub number_in : Value → Option ℕ
number_in (Word t) = number_of t
number_in (Number n) = Some n
number_in (Truth b) = None
number_in (Many ts) = None
number_in (HasFlags f) = None
number_in (IsGathered g) = None

-- ## Items, one at a time, each by its name and value

abbrev pub is_positional : List ℕ → Bool
is_positional name = bytes_eq name []

-- Inputs: texts, lists, and what is gathered of a checkpoint.
abbrev pub written : List ℕ → List (List ℕ) → InPart
written name ts = record { name = name; texts = ts; gather = None }

abbrev pub input : List ℕ → List ℕ → Value → Result InPart ValueFault
input word name (Word t) = Ok (written name (t ∷ []))
input word name (Many ts) = Ok (written name ts)
input word name (IsGathered g) = Ok (record { name = name; texts = []; gather = Some (record { checkpoint = g.checkpoint; listed = g.listed; wanted = g.wanted }) })
input word name (Number n) = bad word
input word name (Truth b) = bad word
input word name (HasFlags f) = bad (first_flag f.flags)

-- Outputs: texts and lists, with flags; the outermost flag first.
abbrev pub flag_of : List ℕ → Result Flag ValueFault
flag_of w =
    if bytes_eq w (codes "temp") then Ok Temp
    else (if bytes_eq w (codes "protected") then Ok Protected else (if bytes_eq w (codes "directory") then Ok Folder else bad w))

-- the flags with those of more words
abbrev pub with_flags : List Flag → List (List ℕ) → Result (List Flag) ValueFault
with_flags made [] = Ok made
with_flags made (w ∷ ws) = and_then (flag_of w) (λ f. with_flags (made ++ f ∷ []) ws)

abbrev pub flagged : List ℕ → List Flag → List (List ℕ) → OutPart
flagged name fs ts = record { name = name; outs = map (λ t. record { text = t; flags = fs }) ts }

abbrev pub output : List ℕ → List ℕ → Value → Result OutPart ValueFault
output word name (Word t) = Ok (flagged name [] (t ∷ []))
output word name (Many ts) = Ok (flagged name [] ts)
output word name (HasFlags f) = and_then (with_flags [] f.flags) (λ fs. Ok (flagged name fs f.texts))
output word name (Number n) = bad word
output word name (Truth b) = bad word
output word name (IsGathered g) = bad word

-- Params: texts, numbers, truth values and lists, as texts.
abbrev pub param : List ℕ → List ℕ → Value → Result Values ValueFault
param word name v = and_then (list_items word v) (λ ts. Ok (record { name = name; values = ts }))

-- Logs: texts and lists.
abbrev pub log : List ℕ → Value → Result (List (List ℕ)) ValueFault
log word v = or_refused word v (texts_of v)

-- Constraints of wildcards: texts, each under the name of a wildcard.
abbrev pub limit : List ℕ → List ℕ → Value → Result Pair ValueFault
limit word name v = if is_positional name then refused word v else and_then (or_refused word v (text_of v)) (λ t. Ok (record { name = name; value = t }))

-- 2 ^ 32, the greatest priority and amount
abbrev pub greatest : ℕ
greatest = 4_294_967_296

-- a number that isn't out of its limits
abbrev pub within : List ℕ → ℕ → ℕ → ℕ → Result ℕ ValueFault
within word low high n = if nat_le low n && nat_le n high then Ok n else bad word

abbrev pub counted : Resources → List ℕ → ℕ → Resources
counted made name n = record made { amounts = made.amounts ++ record { name = name; count = n } ∷ [] }

abbrev pub worded : Resources → List ℕ → List ℕ → Resources
worded made name t = record made { words = made.words ++ record { name = name; value = t } ∷ [] }

-- Resources: numbers, which are counted, and other texts, each under a name.
abbrev pub resource_by : List ℕ → Resources → List ℕ → Value → Option ℕ → Result Resources ValueFault
resource_by word made name v (Some n) = and_then (within word 0 greatest n) (λ n. Ok (counted made name n))
resource_by word made name v None = and_then (or_refused word v (text_of v)) (λ t. Ok (worded made name t))

abbrev pub with_resource : List ℕ → Resources → List ℕ → Value → Result Resources ValueFault
with_resource word made name v = if is_positional name then refused word v else resource_by word made name v (number_in v)

-- ## All items of a directive, in order. The first fault is told.

-- one more
abbrev pub added : {X : Type 0} → List X → Result X ValueFault → Result (List X) ValueFault
added made r = and_then r (λ x. Ok (made ++ x ∷ []))

-- each item is one more
abbrev pub each_item : {X : Type 0} → (List ℕ → Value → Result X ValueFault) → List Named → Result (List X) ValueFault
each_item make = each (λ (i : Named). i.value) (λ made i v. added made (make i.name v)) []

abbrev pub all_resources : List ℕ → List Named → Result Resources ValueFault
all_resources word = each (λ (i : Named). i.value) (λ made i v. with_resource word made i.name v) (record { amounts = []; words = [] })

-- ## Directives of one item

-- the value of the only item, which has no name
abbrev pub only : List ℕ → List Named → Valued
only word [] = bad word
only word (i ∷ []) = if is_positional i.name then i.value else bad word
only word (i ∷ j ∷ more) = bad word

abbrev pub one_number : List ℕ → ℕ → ℕ → List Named → Result ℕ ValueFault
one_number word low high is = and_then (only word is) (λ v. and_then (or_refused word v (number_in v)) (within word low high))

abbrev pub one_text : List ℕ → List Named → Result (List ℕ) ValueFault
one_text word is = and_then (only word is) (λ v. or_refused word v (text_of v))

abbrev pub one_truth : List ℕ → List Named → Result Bool ValueFault
one_truth word is = and_then (only word is) (λ v. or_refused word v (truth_of v))
