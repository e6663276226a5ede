-- What a command has for the logs that it names.
use Rattle.std.specs.Prelude.{◌≡◌, ℕ, ◌-◌, ◌≤◌, ◌<◌, ◌^◌, Bool, true, false, not, ◌||◌, List, length, take, drop, Option, Some, None, option_map, is_some}
use Rattle.std.specs.List.{find, flat_map, list_all}
use Rattle.smk_flow.specs.declared.job.Job.{Job}
use Rattle.smk_template.specs.Templates.{Text, Symbol, Plain, Field, Loose, symbols, written}
use Rattle.smk_format.specs.Commands.{filled, first_missing, has_value, spaced, symbol_text}
use Rattle.smk_eval_rules.specs.declared.logs.LogItem.{LogItem}
use Rattle.smk_eval_rules.specs.Logs.{is_closed, item_of, placed}

-- the texts of an item, among all logs
abbrev pub texts_of : List Text → LogItem → List Text
texts_of logs i = take (i.end - i.start) (drop i.start logs)

-- the texts of the item that a field names, or what the field stands for without names
abbrev pub named_or : Text → List Text → Option LogItem → Text
named_or text logs (Some i) = spaced (texts_of logs i)
named_or text logs None = text

-- what a symbol of a command stands for in a job, with so many threads, where the items of logs have names
abbrev pub named_text : List LogItem → Job → ℕ → Symbol → Text
named_text items job n (Plain b) = symbol_text job n (Plain b)
named_text items job n (Field field) = named_or (symbol_text job n (Field field)) job.logs (item_of items field)
named_text items job n (Loose text) = symbol_text job n (Loose text)

-- the item stands among so many logs
abbrev pub IsWithin : ℕ → LogItem → Type 0
IsWithin count i = (i.start ≤ i.end) × (i.end ≤ count)

-- the symbol stands for something where the items of logs have names
abbrev pub is_known : List LogItem → Job → Symbol → Bool
is_known items job (Plain b) = true
is_known items job (Field field) = is_some (item_of items field) || has_value job (Field field)
is_known items job (Loose text) = false

-- the first field that stands for nothing even so, or brace without another
abbrev pub first_unknown : List LogItem → Job → List Symbol → Option Text
first_unknown items job ss = option_map written (find (λ s. not (is_known items job s)) ss)

-- An item's places fill with its texts: in a job of so many logs that all items stand among them, a command in which no brace stands alone, with
-- places in the stead of names, gives what its symbols stand for with names.
abbrev pub PlacesFillByName : Type 0
PlacesFillByName = (items : List LogItem) (job : Job) (n : ℕ) (command : Text) → length job.logs < 2 ^ 64 → ((i : LogItem) (field : Text) → item_of items field ≡ Some i → IsWithin (length job.logs) i)
    → list_all is_closed (symbols command) ≡ true → filled job n (symbols (placed items command)) ≡ flat_map (named_text items job n) (symbols command)

-- And a field of such a command is missing just where it names no item and stands for nothing without names.
abbrev pub PlacesAreKnown : Type 0
PlacesAreKnown = (items : List LogItem) (job : Job) (command : Text) → length job.logs < 2 ^ 64 → ((i : LogItem) (field : Text) → item_of items field ≡ Some i → IsWithin (length job.logs) i)
    → list_all is_closed (symbols command) ≡ true → first_missing job (symbols (placed items command)) ≡ first_unknown items job (symbols command)
