-- What the fields of a command stand for.
use Rattle.std.specs.Prelude.{ℕ, suc, Bool, true, false, ◌&&◌, ◌||◌, ◌==◌, not, nat_le, nat_lt, ◌^◌, List, [], ◌∷◌, map, take, drop, Option, Some, None, option_map, slice_get, decimal, codes, if◌then◌else◌}
use Rattle.std.specs.List.{find, flat_map}
use Rattle.std.specs.Str.{bytes_eq}
use Rattle.std.specs.Str.Parse.{digits_value}
use Rattle.smk_base.specs.declared.tree.Pair.{Pair}
use Rattle.smk_base.specs.declared.tree.Amount.{Amount}
use Rattle.smk_world.specs.declared.recipe.Values.{Values}
use Rattle.smk_world.specs.declared.recipe.Item.{Item}
use Rattle.smk_world.specs.declared.recipe.OutItem.{OutItem}
use Rattle.smk_world.specs.declared.recipe.Out.{Out}
use Rattle.smk_flow.specs.declared.job.Job.{Job}
use Rattle.smk_template.specs.Templates.{Text}

-- ## What a job has under a name

-- an item of inputs, and of outputs, as a name and its values
abbrev pub input_values : Item → Values
input_values item = record { name = item.name; values = item.paths }

abbrev pub output_values : OutItem → Values
output_values item = record { name = item.name; values = map (λ (o : Out). o.path) item.outs }

-- a log has no name
abbrev pub log_values : Text → Values
log_values path = record { name = []; values = path ∷ [] }

-- all values of these items, in order
abbrev pub all_values : List Values → List Text
all_values = flat_map (λ (v : Values). v.values)

-- ## The second half of a field

-- nothing, `.NAME` or `[K]`; or something else
pub data Pick : Type 0 where
  All : Pick
  Named : Text → Pick
  Place : ℕ → Pick
  Strange : Pick

abbrev pub is_digit : ℕ → Bool
is_digit b = nat_le 48 b && nat_le b 57

-- how many digits stand at the front
abbrev pub digits_len : Text → ℕ
digits_len [] = 0
digits_len (b ∷ t) = if is_digit b then suc (digits_len t) else 0

-- a digit, and a further one only after another than 0
abbrev pub is_numeral : Text → Bool
is_numeral [] = false
is_numeral (b ∷ []) = true
is_numeral (b ∷ (c ∷ digits)) = not (b == 48)

-- the place that these digits spell, a number of at most 64 bits
unfoldable pub place_of : Text → Pick
place_of digits = if is_numeral digits && nat_lt (digits_value 10 digits) (2 ^ 64) then Place (digits_value 10 digits) else Strange

-- a place, and a closing bracket behind it
unfoldable pub place_in : Text → Pick
place_in t = if bytes_eq (drop (digits_len t) t) (codes "]") then place_of (take (digits_len t) t) else Strange

abbrev pub pick_of : Text → Pick
pick_of [] = All
pick_of (b ∷ t) = if b == 46 then Named t else (if b == 91 then place_in t else Strange)

-- ## The values of a field

-- the first item with this name
abbrev pub item_in : List Values → Text → Option Values
item_in items name = find (λ (v : Values). bytes_eq v.name name) items

-- the values of the first item with this name, which isn't the empty one
abbrev pub named : List Values → Text → Option (List Text)
named items [] = None
named items (b ∷ name) = option_map (λ (v : Values). v.values) (item_in items (b ∷ name))

-- one value
abbrev pub single : Text → List Text
single value = value ∷ []

-- the value at a place, among all values
abbrev pub picked : List Values → Pick → Option (List Text)
picked items All = Some (all_values items)
picked items (Named name) = named items name
picked items (Place k) = option_map single (slice_get (all_values items) k)
picked items Strange = None

-- of params the item at a place, with all its values
abbrev pub picked_param : List Values → Pick → Option (List Text)
picked_param items All = Some (all_values items)
picked_param items (Named name) = named items name
picked_param items (Place k) = option_map (λ (v : Values). v.values) (slice_get items k)
picked_param items Strange = None

-- what stands under a name alone
abbrev pub under_name : (Text → Option Text) → Pick → Option (List Text)
under_name value All = None
under_name value (Named name) = option_map single (value name)
under_name value (Place k) = None
under_name value Strange = None

-- the value under a name
abbrev pub value_in : List Pair → Text → Option Text
value_in pairs name = option_map (λ (p : Pair). p.value) (find (λ (p : Pair). bytes_eq p.name name) pairs)

-- the number under a name
abbrev pub count_in : List Amount → Text → Option ℕ
count_in amounts name = option_map (λ (a : Amount). a.count) (find (λ (a : Amount). bytes_eq a.name name) amounts)

abbrev pub or_else : Option Text → Option Text → Option Text
or_else (Some value) other = Some value
or_else None other = other

-- a resource: one that is counted, as its number, or one that is a text
abbrev pub resource : Job → Text → Option Text
resource job name = or_else (option_map decimal (count_in job.amounts name)) (value_in job.words name)

-- what the first half of a field says, with this second half
unfoldable pub values_by : Job → Text → Pick → Option (List Text)
values_by job first pick =
    if bytes_eq first (codes "input") then picked (map input_values job.recipe.inputs) pick
    else (if bytes_eq first (codes "output") then picked (map output_values job.recipe.outputs) pick
    else (if bytes_eq first (codes "params") then picked_param job.recipe.params pick
    else (if bytes_eq first (codes "log") then picked (map log_values job.logs) pick
    else (if bytes_eq first (codes "wildcards") then under_name (value_in job.recipe.wildcards) pick
    else (if bytes_eq first (codes "resources") then under_name (resource job) pick
    else None)))))

-- how many bytes stand before the first `.` or `[`
abbrev pub first_len : Text → ℕ
first_len [] = 0
first_len (b ∷ t) = if (b == 46) || (b == 91) then 0 else suc (first_len t)

-- the values of a field other than `threads`
abbrev pub values_of : Job → Text → Option (List Text)
values_of job field = values_by job (take (first_len field) field) (pick_of (drop (first_len field) field))

abbrev pub is_threads : Text → Bool
is_threads field = bytes_eq field (codes "threads")
