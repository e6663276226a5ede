-- What a configuration is, and what it gives.
use Rattle.std.specs.Prelude.{ℕ, Bool, true, false, List, [], ◌∷◌, codes, Option, Some, None, option_map, option_and_then, unwrap_or}
use Rattle.std.specs.Fmt.{signed_decimal}
use Rattle.serde_json.specs.Data.{Num, Data, null, boolean, number, string, array, object, Items, no_items, item, Members, no_members, member, put}
use Rattle.serde_json.specs.Find.{get, get_member, as_object, as_integer}
use Rattle.serde_json.specs.Read.{read as read_text}
use Rattle.serde_json.specs.View.{members_view}
use Rattle.smk_config.specs.declared.config.Config.{Config}
use Rattle.smk_config.specs.declared.value.Value.{Value}
use Rattle.smk_config.specs.declared.value.Value.TheVariants.{Word, Many}

-- the members of a configuration
abbrev pub members : Config → Members
members config = members_view config.members.entries

-- ## Reading

-- the object that a text is
abbrev pub configured : List ℕ → Option Members
configured text = option_and_then as_object (read_text text)

-- ## One configuration over another

-- the members of an object, where one is there
abbrev pub members_in : Option Data → Members
members_in was = unwrap_or (option_and_then as_object was) no_members

-- An object goes over the object that was there, key by key; anything else takes the place of what was there. The later one stands first.
abbrev mutual
  pub over : Members → Members → Members
  over no_members was = was
  over (member key value rest) was = over rest (put key (placed value (get_member key was)) was)

  pub placed : Data → Option Data → Data
  placed null was = null
  placed (boolean b) was = boolean b
  placed (number n) was = number n
  placed (string s) was = string s
  placed (array ds) was = array ds
  placed (object ms) was = object (over ms (members_in was))

-- ## Looking up

-- what stands under these keys, one inside the other
abbrev pub under : List (List ℕ) → Data → Option Data
under [] value = Some value
under (key ∷ keys) value = option_and_then (under keys) (get key value)

-- a whole number of 64 bits as it is spelled
abbrev pub number_word : Num → Option (List ℕ)
number_word n = option_map signed_decimal (as_integer n)

abbrev pub truth_word : Bool → List ℕ
truth_word true = codes "True"
truth_word false = codes "False"

-- the text of a value that is a text, a whole number of 64 bits or a truth value
abbrev pub word : Data → Option (List ℕ)
word null = None
word (boolean b) = Some (truth_word b)
word (number n) = number_word n
word (string s) = Some s
word (array ds) = None
word (object ms) = None

-- the texts of such values
abbrev pub words : Items → Option (List (List ℕ))
words no_items = Some []
words (item value rest) = option_and_then (λ w. option_map (λ ws. w ∷ ws) (words rest)) (word value)

-- what a value gives: a text, or the texts of a list
abbrev pub given : Data → Option Value
given null = None
given (boolean b) = option_map Word (word (boolean b))
given (number n) = option_map Word (word (number n))
given (string s) = option_map Word (word (string s))
given (array values) = option_map Many (words values)
given (object ms) = None
