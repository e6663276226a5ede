-- The logs of a rule by their items, and the command that names them.
use Rattle.std.specs.Prelude.{ℕ, zero, suc, ◌+◌, ◌-◌, nat_lt, Bool, true, false, List, [], ◌∷◌, ◌++◌, length, codes, decimal, bytes_eq, if◌then◌else◌, Option, Some, None, option_map, Result, Ok}
use Rattle.std.specs.List.{find}
use Rattle.smk_template.specs.Templates.{Symbol, Plain, Field, Loose, braced, spelled, symbols, template_of}
use Rattle.smk_eval_values.specs.declared.value.Value.{Value}
use Rattle.smk_eval_values.specs.declared.fault.ValueFault.{ValueFault}
use Rattle.smk_eval_values.specs.Expressions.{Named, and_then, each}
use Rattle.smk_flow.specs.declared.rule.RulePart.{RulePart}
use Rattle.smk_eval_rules.specs.declared.logs.LogItem.{LogItem}
use Rattle.smk_eval_rules.specs.declared.logs.Logs.{Logs}
use Rattle.smk_eval_rules.specs.declared.logs.NamedRule.{NamedRule}
use Rattle.smk_eval_rules.specs.Items.{log}

-- ## Items

-- an item whose texts stand from the one place up to before the other, where it has a name
abbrev pub named_item : List ℕ → ℕ → ℕ → List LogItem
named_item [] start end = []
named_item (b ∷ name) start end = record { field = codes "log." ++ (b ∷ name); start = start; end = end } ∷ []

-- with the texts of one more item
abbrev pub with_texts : Logs → List ℕ → List (List ℕ) → Logs
with_texts made name ts = record { texts = made.texts ++ ts; items = made.items ++ named_item name (length made.texts) (length (made.texts ++ ts)) }

abbrev pub with_log : List ℕ → Logs → List ℕ → Value → Result Logs ValueFault
with_log word made name v = and_then (log word v) (λ ts. Ok (with_texts made name ts))

abbrev pub all_logs : List ℕ → List Named → Result Logs ValueFault
all_logs word = each (λ (i : Named). i.value) (λ made i v. with_log word made i.name v) (record { texts = []; items = [] })

-- ## Places in a command

-- the field for a log at a place, from 0
abbrev pub place_field : ℕ → List ℕ
place_field k = codes "{log[" ++ (decimal k ++ codes "]}")

-- those of so many places more, each after a space
abbrev pub later_places : ℕ → ℕ → List ℕ
later_places k zero = []
later_places k (suc n) = (32 ∷ place_field k) ++ later_places (k + 1) n

-- those of the places from one up to before another, with a space between
abbrev pub places : ℕ → ℕ → List ℕ
places start end = if nat_lt start end then place_field start ++ later_places (start + 1) (end - (start + 1)) else []

-- the item that a field stands for
abbrev pub item_of : List LogItem → List ℕ → Option LogItem
item_of items field = find (λ (i : LogItem). bytes_eq i.field field) items

-- the places of the item, where there is one; else the field as it is
abbrev pub places_or : List ℕ → Option LogItem → List ℕ
places_or field (Some i) = places i.start i.end
places_or field None = braced field

-- a symbol of a template, with places for the item that it names
abbrev pub placed_symbol : List LogItem → Symbol → List ℕ
placed_symbol items (Plain b) = spelled (Plain b)
placed_symbol items (Field field) = places_or field (item_of items field)
placed_symbol items (Loose text) = []

-- it is no brace that belongs to none
abbrev pub is_closed : Symbol → Bool
is_closed (Plain b) = true
is_closed (Field field) = true
is_closed (Loose text) = false

-- Symbols in order. From a brace that belongs to none on, where the command is refused, all stays as it is written.
abbrev pub placed_symbols : List LogItem → List Symbol → List ℕ
placed_symbols items [] = []
placed_symbols items (s ∷ ss) = if is_closed s then placed_symbol items s ++ placed_symbols items ss else template_of (s ∷ ss)

-- A command in which each field that names an item of the logs stands as the places of the item's texts.
abbrev pub placed : List LogItem → List ℕ → List ℕ
placed items command = placed_symbols items (symbols command)

-- the rule, its command with places in the stead of names
abbrev pub with_places : NamedRule → RulePart
with_places r = record r.part { command = option_map (placed r.logs) r.part.command }
